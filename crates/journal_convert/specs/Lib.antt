pub mod Problems
pub mod Converting
pub mod Inner
