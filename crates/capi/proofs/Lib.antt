-- What the proofs of the exports cite, and what the exports say of each other. Assumes nothing.
-- lengths that refuse nothing, and the numbers of faults
pub mod LengthLaws
pub mod FaultLaws
mod NumberLaws
-- the ends of intervals in a slice
mod RowLaws
-- where the walk and the public `box_state` meet
pub mod CellLaws
-- the walk: what demand 3 supposes of the slices lent to it
pub mod WalkLaws
