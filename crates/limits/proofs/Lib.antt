-- The laws of tests, of refusals and of coordinates. Assumes nothing.
pub mod TestLaws
pub mod RefusalLaws
pub mod TickLaws
