-- The layer report. Assumes nothing.
pub mod Layers
-- what the layer's own functions ask and leave
pub mod Added
pub mod Admitted
