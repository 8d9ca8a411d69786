pub mod Joined
pub mod Growing
pub mod Ready
