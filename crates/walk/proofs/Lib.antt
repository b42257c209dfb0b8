-- The laws of the walk. Assumes nothing.
mod StepLaws
mod HalvedLaws
mod RecordLaws
mod SoundLaws
-- the axis by either tie rule: for this walk and for others
pub mod TieLaws
-- what is counted, what the writer answers, and what a walk returns and leaves: for this one and for others
pub mod CountedLaws
pub mod FilledLaws
pub mod CallLaws
pub mod RootLaws
pub mod SameLaws
pub mod EndLaws
pub mod DemandLaws
pub mod LayerLaws
-- what demand 3 supposes is what no refusal leaves, both ways
pub mod SupposedLaws
pub mod TableLaws
-- demand 3 of the whole call, under either arithmetic
pub mod EitherLaws
