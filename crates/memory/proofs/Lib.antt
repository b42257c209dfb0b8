-- the slots, and a box by them
pub mod SlotLaws
pub mod BoxLaws
-- the second-order terms
pub mod TermLaws
