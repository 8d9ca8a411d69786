pub mod Gated
pub mod MainSteps
pub mod Extract
pub mod EquivalentOn
pub mod Refusals
pub mod Done
pub mod Laws
pub mod Inner
