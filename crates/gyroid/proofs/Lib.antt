-- The laws of the gyroid layer. The layers above cite what is `pub` here; the rest serves its proofs. Assumes nothing.
-- a description that no number refuses, its leaf, and that one's Lipschitz bound
pub mod NetworkLaws
pub mod AcceptedLaws
pub mod LeafLaws
pub mod LipschitzLaws
-- THE ENCLOSURE: every admitted residual lies in what `residual` answers; and there are such residuals
pub mod SecondOrder
pub mod EnclosureLaws
pub mod ChosenLaws
-- what it rests on: a box of ticks in doubles, the turn, the jet, the expansion, the level's pieces
mod CentreLaws
mod TurnLaws
mod JetLaws
mod BracketLaws
mod ExpansionLaws
mod ResidualLaws
-- one axis at a time: the three parts of a box joined are its residual
pub mod PartLaws
-- boxes with an infinite end, and boxes with a zero of either sign
pub mod InfiniteLaws
pub mod AlikeLaws
-- a side's radius, and the second-order term, by spans
pub mod SpanLaws
-- exact sums stay narrow: what the residual is made of, and the residual, lie in the wide ones
pub mod NarrowerLaws
mod NarrowerJet
mod NarrowerBound
-- what the proofs of the code cite
mod TurnSizes
-- worked by computation
mod AdmittedExamples
mod MarkExamples
mod EitherExamples
