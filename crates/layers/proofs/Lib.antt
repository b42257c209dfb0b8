-- The laws of the layer report. Assumes nothing.
-- the areas of a layer
pub mod SumLaws
-- three numbers a layer, as numbers and as bytes, and a cell added to them
mod ThreesLaws
mod ColumnLaws
mod AddedLaws
mod CellLaws
mod TurnLaws
-- the call
mod CallLaws
-- worked by computation
mod Examples
