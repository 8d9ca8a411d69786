pub mod Gates
pub mod GoingOn
pub mod Public
