-- What this crate proves of its definitions, for the proofs of the crates above. They import nothing of its proofs but through this file.

-- What a change takes of wires, nodes and numbers.
pub use Rattle.wire_edit.proofs.Budgets.{length_budget}
-- Lists of nodes without dead numbers at the end.
pub use Rattle.wire_edit.proofs.Canonical.{below_is_live, least-there, least_is_free}
-- A step that may be made makes a change that may be made.
pub use Rattle.wire_edit.proofs.Conditions.{applies_changes}
-- Tidying ends.
pub use Rattle.wire_edit.proofs.Ending.{wires_grow}
-- A change keeps the net well formed.
pub use Rattle.wire_edit.proofs.Formed.{free_unread, new_differs}
-- What the next step tells.
pub use Rattle.wire_edit.proofs.Ordering.{live_below, next_applies}
-- Sources and constants stay as they are.
pub use Rattle.wire_edit.proofs.Plain.{some_none}
-- What the calls that read a graph tell of its net.
pub use Rattle.wire_edit.proofs.Reading.{gate_live}
-- What the tests of nodes tell.
pub use Rattle.wire_edit.proofs.Tested.{among_at, gate_is, is_live_there, junction_at, junction_gate, not_at_family, not_gate, several_gate, several_junction, xor_at_family, xor_is}
-- The changes that constants and repeated drivers make, by cases, and the pins of an Xor.
pub use Rattle.wire_edit.proofs.ConstantCases.{constant_cases, same_cases}
-- Sums over the numbers of a net.
pub use Rattle.wire_edit.proofs.Totalling.{live_within}
-- Sums over the nodes of a net.
pub use Rattle.wire_edit.proofs.Totals.{total_gone, total_least, total_map, total_node, total_trimmed, total_with}
-- Walks along lists.
pub use Rattle.wire_edit.proofs.Walks.{march, next_place}
-- A tidy net has no pin that a constant drives, and no removal makes another pin free.
pub use Rattle.wire_edit.proofs.FreePins.{all_free, constant_makes, fix_frees, reader_gate, removal_frees, tidy_reads_none, removal_makes}
-- The tidying order to its end, and a fix before it.
pub use Rattle.wire_edit.proofs.Falling.{fix_applies, fix_falls, removal_pins, step_formed, tidies_to_one, tidying_removes}
-- A step that applies and has room isn't refused.
pub use Rattle.wire_edit.proofs.Unrefused.{not_closing}
-- A well-formed net has no live nodes but the two constants, the sources and the gates.
pub use Rattle.wire_edit.proofs.LiveCounts.{live_bound}
-- The room that a step leaves, and that tidying never lacks any.
pub use Rattle.wire_edit.proofs.RoomLeft.{never_full, room_on, room_steps}
