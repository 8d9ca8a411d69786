pub mod Worklists
pub mod Pins
pub mod Reaching
pub mod Chains
pub mod Walks
pub mod Sites
pub mod Laws
pub mod Inner
