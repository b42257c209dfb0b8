-- The laws of exact arithmetic, and how signed code is proved not to overflow. Assumes nothing.
pub mod Choice
pub mod Integer
pub mod IntegerOrder
pub mod Ring
pub mod FractionRing
pub mod Fraction
pub mod FractionSize
pub mod Size
pub mod Signed
-- worked by computation
mod Examples
