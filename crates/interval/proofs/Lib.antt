-- The laws of the interval layer. The layers above cite what is `pub` here; the rest serves its proofs. Assumes nothing.
-- what an interval holds, and what each operation's result holds
pub mod Membership
pub mod Encloses
pub mod Quotient
pub mod Bounds
-- what lies in what: the sums of either arithmetic, and what is made of them
pub mod Narrower
pub mod NarrowerProducts
pub mod NarrowerBounds
-- how far out an end can be, in units of a grid
pub mod Grid
-- doubles as fractions: their sizes, their tests, where no rounding takes place, the floor, the series
pub mod Small
pub mod DoubleSizes
pub mod Compare
pub mod Exact
pub mod FloorLaws
pub mod SeriesLaws
-- the doubles in order, one rounding, one step
pub mod Rank
pub mod Order
pub mod Ordered
pub mod Alike
pub mod InOrder
mod Signs
mod Pattern
mod Rounding
mod NextBits
mod SmallRounding
mod StepLaws
mod Operations
mod Candidates
-- whether a sum is exact
mod Multiples
mod QuantaSums
mod ExactTest
-- what the proofs of the code cite
mod SignTests
mod StepCode
mod FourCode
mod NearestCode
mod FloorCode
mod QuarterCode
-- worked by computation
mod Examples
