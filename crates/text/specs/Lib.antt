-- The texts of program `cells`. Assumes nothing.
pub mod Ascii
-- what it reads
pub mod Line
-- what it prints
pub mod Decimal
pub mod Listing
-- how that is put into a buffer, and what keeps it short
pub mod Appended
pub mod Bounds
-- from what it reads to what it prints
pub mod Cells
