pub mod Fitting
pub mod Public
