pub mod Walk
pub mod Demand
pub mod Rules
pub mod Step
pub mod Counted
pub mod Entered
-- both at the arithmetic in use
pub mod InUse
pub mod FunctionsInUse
