-- What this crate proves of its definitions, for the proofs of the crates above. They import nothing of its proofs but through this file.

-- The greatest live number.
pub use Rattle.gate_graph.proofs.Bounded.{live-below}
-- A node whose kind is known.
pub use Rattle.gate_graph.proofs.KnownKinds.{kind-known}
-- What is listed as a reader reads the node, and the other way round.
pub use Rattle.gate_graph.proofs.ListedReaders.{reader_reads, reads_listed}
-- Marking one driver more.
pub use Rattle.gate_graph.proofs.Marking.{is_at, seen_cases, seen_kept, seen_new, seen_or_not, unseen-set}
-- A search back along the pins.
pub use Rattle.gate_graph.proofs.Searches.{none_seen, unseen-replicate}
