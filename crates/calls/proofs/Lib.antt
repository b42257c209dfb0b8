-- The laws of the public calls. The layers above cite what is `pub` here; the rest serves its proofs. Assumes nothing.
-- the axis that `planes` answers
pub mod PlanesLaws
-- document 01's marked values
pub mod MarkedValues
-- the kinds of a description: refusals and saturation
pub mod KindExamples
-- a box of whole ticks is not refused by 9 or 10, and what the calls answer over it
pub mod TickLaws
-- what the proofs of the code cite
pub mod CallLaws
