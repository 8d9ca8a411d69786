pub mod Names
pub mod Sound
pub mod Origins
pub mod Steps
pub mod Shared
pub mod Encodings
pub mod ByteKeys
pub mod Turns
