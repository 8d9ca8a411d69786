pub mod Terminal
pub mod Escaping
pub mod Excerpts
pub mod Messages
