pub mod Box
pub mod Tree
pub mod InTicks
pub mod Cells
