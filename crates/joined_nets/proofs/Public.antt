-- What this crate proves of its definitions, for the proofs of the crates above. They import nothing of its proofs but through this file.

-- A gate on the next number reads live nodes.
pub use Rattle.joined_nets.proofs.Appended.{live_driver}
-- A vector gives the sources of a model its values.
pub use Rattle.joined_nets.proofs.Assigned.{gives_names}
-- How large both nets are, and what doesn't move.
pub use Rattle.joined_nets.proofs.Both.{begins_so, both_fits, both_length, both_wires, first_length, first_whole, gates_later, is_gate, list_stays, one_longer}
-- The nodes and the values of both nets inside one that begins with them.
pub use Rattle.joined_nets.proofs.Copied.{moved_high, moved_low, ours_same, ours_there, theirs_same, theirs_there}
-- The sources of both.
pub use Rattle.joined_nets.proofs.Counting.{from_drop, joined_sources, kind_uncounted, none_counted}
-- Lists without a difference are the same.
pub use Rattle.joined_nets.proofs.Differing.{no_difference}
-- Nets that grow at their end.
pub use Rattle.joined_nets.proofs.Growing.{by_nodes, fits_first, fits_front, length_with, wires_one, wires_with, with_both, with_none}
-- Numbers that are moved, one after another.
pub use Rattle.joined_nets.proofs.Moving.{moved_step}
-- Nodes in lists.
pub use Rattle.joined_nets.proofs.Listed.{back_at, drop_at, live_below}
