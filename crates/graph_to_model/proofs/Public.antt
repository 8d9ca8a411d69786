-- What this crate proves of its definitions, for the proofs of the crates above. They import nothing of its proofs but through this file.

-- The covers of the model of a net: one a gate, and then copies and constants.
pub use Rattle.graph_to_model.proofs.Covers.{not_had}
pub use Rattle.graph_to_model.proofs.Covers.{all_from_start, copies_in, copy_out, cover_made, distinct_head}
pub use Rattle.graph_to_model.proofs.Covers.{distinct_tail, first_from, in_copies, in_gates}
pub use Rattle.graph_to_model.proofs.Covers.{live_within, place_of, rest_from}
-- The model of a net is well formed.
pub use Rattle.graph_to_model.proofs.Formed.{all_in_list, cover_at, driver_named, live_named}
pub use Rattle.graph_to_model.proofs.Formed.{has_pins, name_driven}
-- The cover of a gate has the gate's value.
pub use Rattle.graph_to_model.proofs.GateValues.{cover_of}
-- Nodes have different names.
pub use Rattle.graph_to_model.proofs.Named.{gate_not_source, gates_told, source_name, stands_on_gate}
-- The covers of the model drive each name once, and every name that is used.
pub use Rattle.graph_to_model.proofs.Outputs.{cover_number, driven_are, gate_number}
pub use Rattle.graph_to_model.proofs.Outputs.{observed_driven, one_gate}
-- What a tidy net is free of.
pub use Rattle.graph_to_model.proofs.TidyFacts.{kind_is, lean}
-- How many pins the gates have.
pub use Rattle.graph_to_model.proofs.Pins.{two_or_more}
-- The net stands for its model.
pub use Rattle.graph_to_model.proofs.Standing.{all_at, assigned}
