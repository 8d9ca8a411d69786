-- What this crate proves of its definitions, for the proofs of the crates above. They import nothing of its proofs but through this file.

-- Putting numbers on a worklist and taking them off.
pub use Rattle.local_evaluation.proofs.Public.{clear_less, count-clear, count_within, none_marked}
pub use Rattle.local_evaluation.proofs.Public.{read_is, seen_left, seen_stays}
-- The node of a fact that a line gives is live.
pub use Rattle.refutation.proofs.Live.{concludes_live, driver_live}
pub use Rattle.refutation.proofs.Below.{concludes_below}
-- A closed set has all to which lines lead.
pub use Rattle.refutation.proofs.Closings.{closed_has_all, leads_within, none_within, opposed_within, same_fact_refl, with_cases}
pub use Rattle.refutation.proofs.Closings.{with_more, with_there, with_within}
-- Sets that are closed at a depth of learning.
pub use Rattle.refutation.proofs.Depths.{all_of, both_good, closed_below, find, junction_kind, known_held, learned_in}
pub use Rattle.refutation.proofs.Depths.{lines_of, one_may_in}
-- Lines under more facts.
pub use Rattle.gate_net.proofs.Public.{all_not_any, is_known_some}
pub use Rattle.refutation.proofs.Grows.{good_stays}
-- What is known of a node is true where the facts are.
pub use Rattle.refutation.proofs.Known.{all_known, one_of_true, same_fact_true}
-- One look at a gate's pins tells all that follows there.
pub use Rattle.local_evaluation.proofs.Public.{scan_all, scan_many, scan_not_all, scan_one}
pub use Rattle.local_evaluation.proofs.Public.{never_other, pin_at, pins_length}
-- Searching on from a gate along its readers.
pub use Rattle.local_evaluation.proofs.Public.{marks_all, marks_new, reached_live, search_ends, search_first}
pub use Rattle.local_evaluation.proofs.Public.{search_less, search_more}
-- Going over the gates that read a node, and the only one that does.
pub use Rattle.local_evaluation.proofs.Public.{all_came, next_below, next_reads}
-- Reading items one after another.
pub use Rattle.refutation.proofs.Readings.{reads_first, reads_join}
-- Reading a closed tree.
pub use Rattle.refutation.proofs.Stacks.{closed_reads}
-- What the calls of a graph and of the facts tell.
pub use Rattle.local_evaluation.proofs.Public.{beq_same, drivers_below, gate_live}
-- What the calls of a graph and of the facts tell.
pub use Rattle.refutation.proofs.Told.{faulty_pins}
pub use Rattle.local_evaluation.proofs.Public.{kind_is, kind_live, live_below, live_from, reader_live, source_is}
-- A walk along the chain of a gate.
pub use Rattle.local_evaluation.proofs.Public.{walk_ends, walk_goes_on, walk_live, walk_short}
pub use Rattle.local_evaluation.proofs.Public.{walk_starts}
-- An iterator in a loop: what it has yielded, and the rest.
pub use Rattle.local_evaluation.proofs.Public.{yielded_all, yielded_at, yielded_below, yielded_more}
