-- What this crate proves of its definitions, for the proofs of the crates above. They import nothing of its proofs but through this file.

-- Facts that were added one after another.
pub use Rattle.implications.proofs.Trails.{held_past, trail_tells}
-- Coming to rest.
pub use Rattle.implications.proofs.Bases.{none_seen_in, rest_comes}
