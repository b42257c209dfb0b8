-- The archive's definitions. Assumes nothing.
-- what is lent: the entries of a description, boxes, and the numbers that a call leaves
pub mod Lent
-- what each exported call says
pub mod Exports
