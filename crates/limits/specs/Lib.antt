-- Refusals by number, and the limits of coordinates. Assumes nothing.
pub mod Refusals
pub mod Ticks
