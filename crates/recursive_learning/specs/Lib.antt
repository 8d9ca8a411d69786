pub mod Least
pub mod Gates
pub mod Answers
pub mod Resting
pub mod Watching
pub mod Detected
pub mod Serving
pub mod Inner
