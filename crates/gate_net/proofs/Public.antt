-- What this crate proves of its definitions, for the proofs of the crates above. They import nothing of its proofs but through this file.

-- A pin that is added keeps the values.
pub use Rattle.gate_net.proofs.Added.{adds_keep}
-- Induction along the pins of an acyclic net, and what nodes read.
pub use Rattle.gate_net.proofs.AlongPins.{along_pins, reads_agree, reads_elsewhere, reads_faulty, reads_there}
pub use Rattle.gate_net.proofs.AlongPins.{value_at}
-- When two Booleans are the same.
pub use Rattle.gate_net.proofs.Bools.{same_bool_false, same_bool_not, same_bool_refl, same_bool_true}
-- The kinds of the constants.
pub use Rattle.gate_net.proofs.Constants.{constant_is}
-- Nodes after an edit.
pub use Rattle.gate_net.proofs.Edited.{flatten_some, live_reader, node_at-other, node_at-there, redriven_node, with_node-other, with_node-there}
-- A pin that reads a constant instead keeps the values and the order.
pub use Rattle.gate_net.proofs.Fixed.{fixes_keep, fixes_keep_acyclic}
-- What follows forward and backward at a gate is right.
pub use Rattle.gate_net.proofs.Follows.{approximates_map, approximates_set, is_known_true}
pub use Rattle.gate_net.proofs.Follows.{family_back_right, family_forward_right, parity_turned, turned_apart, turned_swapped, turned_twice, value_back_right, value_forward_right}
-- The values of gates.
pub use Rattle.gate_net.proofs.Junctions.{controlled, gate_more, junction_member, not_is}
-- Which nodes are live.
pub use Rattle.gate_net.proofs.LiveNodes.{node_live}
-- Readers that move keep the values and the order.
pub use Rattle.gate_net.proofs.Moved.{drivers_redirected, moves_keep, moves_keep_acyclic, node_at-moved, opposite_of, redirect_cases}
-- New ranks after an edit.
pub use Rattle.gate_net.proofs.Ordered.{after_right, after_there, after_upward, pins_keep_acyclic}
-- The parities: a Not of one pin, and an Xor of two.
pub use Rattle.gate_net.proofs.Parities.{parity_is, parity_two, turned_self, xor_of}
-- Forward reading is right, and there is only one.
pub use Rattle.gate_net.proofs.Readings.{both_known, list_all_agree, readings_agree, readings_hold}
-- How far a fault changes values.
pub use Rattle.gate_net.proofs.Spread.{chain_reader, chain_start, same_elsewhere, same_idle, same_observed}
pub use Rattle.gate_net.proofs.Spread.{same_outside}
-- What follows at a gate still follows where more is known.
pub use Rattle.gate_net.proofs.Stays.{all_but_stays, all_not_any, all_stay, back_stays}
pub use Rattle.gate_net.proofs.Stays.{forward_stays, is_known_some, is_known_stays, kind_stays, reads_stay, stay_map}
-- There is one valuation, and only one.
pub use Rattle.gate_net.proofs.Valuations.{values_unique}
