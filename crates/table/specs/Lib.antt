-- The table: its bytes, cells put in their slots, their reading, numbers as bytes, what a slot has room for, what a table tells. Assumes nothing.
pub mod Table
pub mod Placed
pub mod Read
pub mod Words
pub mod Bounds
pub mod Told
