-- Exact arithmetic: the definitions that contracts and theorems cite. Assumes nothing.
pub mod Fraction
pub mod Within
