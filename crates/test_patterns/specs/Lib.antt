pub mod TestSets
pub mod Classes
pub mod Inner
