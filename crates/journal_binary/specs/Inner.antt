-- What only private contracts, invariants and laws speak of.
pub mod Answers
pub mod Items
pub mod Openings
pub mod Parts
