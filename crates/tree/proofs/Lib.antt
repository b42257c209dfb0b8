-- The laws of boxes and of the tree. The layers above cite what is `pub` here. Assumes nothing.
-- boxes of ticks: spans, halves, the longest span, ties, the number of tick cubes
pub mod Spans
pub mod HalfLaws
pub mod LongestLaws
pub mod CutLaws
pub mod VolumeLaws
-- the box that the code holds
pub mod TickLaws
pub mod ShiftedLaws
pub mod Coordinates
mod ShiftedHalves
-- the tree: one step of it, its numbers, induction over it
pub mod StepLaws
pub mod CountLaws
pub mod TreeInduction
pub mod SolidLaws
pub mod SumLaws
-- the tick cubes of its cells and their tick squares in a layer, why each is a cell, and what more depth makes of them
pub mod CoverLaws
pub mod AreaLaws
pub mod StoppedLaws
pub mod DepthLaws
