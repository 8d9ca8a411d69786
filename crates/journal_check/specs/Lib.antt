pub mod Verdicts
pub mod Accepts
pub mod Replaying
pub mod Standing
pub mod Laws
pub mod Inner
