-- What the contracts cite. Definitions only; assumes nothing.
pub mod Cases
