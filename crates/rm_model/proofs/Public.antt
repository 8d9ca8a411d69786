-- What this crate proves of its definitions, for the proofs of the crates above. They import nothing of its proofs but through this file.
-- A ranked model has one consistent valuation for each assignment of its sources.
pub use Rattle.rm_model.proofs.ValuationLaws.{assigned-values, below-high}
-- Names in lists: where they stand, and that each stands once.
pub use Rattle.rm_model.proofs.NameLemmas.{among-append, distinct-apart, distinct-left, list_all-inputs}
-- Where the search for a place ends.
pub use Rattle.rm_model.proofs.RankedLaws.{position-none}
-- Which cover drives a name.
pub use Rattle.rm_model.proofs.CoverLemmas.{among-at, at-among, distinct-right, drives-of, drives-own, is-driven, output-at, some-drives, is_word-same, same_word}
