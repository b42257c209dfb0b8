-- What a sound table is. Assumes nothing.
pub mod Slots
pub mod Sound
