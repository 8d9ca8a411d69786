pub mod Drawing
pub mod Steps
pub mod Signals
pub mod Ready
