pub mod Memory
-- where the sides are looked up
pub mod Places
