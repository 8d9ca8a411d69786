pub mod Problems
pub mod Differences
pub mod Judging
pub mod Verdicts
pub mod Audited
pub mod Lines
pub mod Inner
