pub mod Magic
pub mod Turns
pub mod Cutting
pub mod Places
pub mod Ones
pub mod Reading
pub mod Chains
pub mod Wholes
