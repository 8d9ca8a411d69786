pub mod Composed
pub mod Fit
