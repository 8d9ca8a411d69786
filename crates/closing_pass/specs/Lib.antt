pub mod Verdicts
pub mod Blocks
pub mod Reports
pub mod Recording
pub mod Inner
