-- What this crate proves of its definitions, for the proofs of the crates above. They import nothing of its proofs but through this file.

-- Putting numbers on a worklist and taking them off.
pub use Rattle.local_evaluation.proofs.Worklists.{clear_less, count-clear, count-set, count_within, none_marked, not_seen}
pub use Rattle.local_evaluation.proofs.Worklists.{read_is, seen_left, seen_stays}
-- One look at a gate's pins tells all that follows there.
pub use Rattle.local_evaluation.proofs.Looks.{scan_all, scan_many, scan_not_all, scan_one}
pub use Rattle.local_evaluation.proofs.Looks.{many_fail, never_other, one_fails, passes_at, pin_at, pins_length, stuck_reads}
-- Searching on from a gate along its readers.
pub use Rattle.local_evaluation.proofs.Reaches.{marks_all, marks_new, reached_live, search_ends, search_first}
pub use Rattle.local_evaluation.proofs.Reaches.{search_less, search_more}
-- Going over the gates that read a node, and the only one that does.
pub use Rattle.local_evaluation.proofs.Readers.{all_came, next_below, next_reads}
-- What the calls of a graph tell.
pub use Rattle.local_evaluation.proofs.Told.{beq_same, drivers_below, gate_live}
pub use Rattle.local_evaluation.proofs.Told.{kind_is, kind_live, kind_told, live_below, live_from, reader_live, source_is}
-- A node whose readers are none reaches nothing.
pub use Rattle.local_evaluation.proofs.Sites.{unreached}
-- A walk along the chain of a gate.
pub use Rattle.local_evaluation.proofs.Walks.{chain_live, walk_ends, walk_goes_on, walk_live, walk_short}
pub use Rattle.local_evaluation.proofs.Walks.{walk_starts}
-- An iterator in a loop: what it has yielded, and the rest.
pub use Rattle.local_evaluation.proofs.Yielding.{yielded_all, yielded_at, yielded_below, yielded_more}
