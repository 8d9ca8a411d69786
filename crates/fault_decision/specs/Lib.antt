pub mod Serving
pub mod Inner
