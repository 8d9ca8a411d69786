-- A change adds and removes no source.
use Rattle.std.proofs.Common.{◌≡◌, ℕ, ◌+◌, Option, Some, None, [], ◌∷◌, ◌++◌, refl, arith}
use Rattle.std.specs.Prelude.{List, slice_set, sum_by}
use Rattle.gate_net.specs.declared.Kind.TheVariants.{Not}
use Rattle.gate_net.specs.Net.{Node, Net, drivers_of, IsGate, source_in, source_count}
use Rattle.gate_net.specs.Edits.{turned_to_not, with_drivers, constant_node, without, node_redirected}
use Rattle.wire_edit.specs.Changes.{Change, append, remove, fix, readers, new_not, retire, to_not, changed, with_new_not, without_node}
use Rattle.wire_edit.specs.Inner.Changes.{CanChange}
use Rattle.wire_edit.proofs.Tested.{junction_kind}
use Rattle.wire_edit.proofs.Totals.{total_node, total_with, total_map, total_least, total_gone}
use Rattle.wire_edit.proofs.Plain.{source_weight, gate_weight}

with_count : (net : Net) (gate : ℕ) (ds : List ℕ) → IsGate net gate → source_count (with_drivers net gate ds) ≡ source_count net
with_count net gate ds g =
    let node : Node = record { kind = g.0; drivers = g.1.0.0 } in
    let total : sum_by source_weight (with_drivers net gate ds).nodes + source_weight (Some node) ≡ sum_by source_weight net.nodes + source_weight (Some (record node { drivers = ds })) = total_with source_weight net gate ds node g.1.0.1 in
    let none : source_in g.0 ≡ 0 = gate_weight g.0 g.1.1 in
    omega arith

moved_weight : (from to : ℕ) (o : Option Node) → source_weight (node_redirected from to o) ≡ source_weight o
moved_weight from to None = refl
moved_weight from to (Some n) = refl

pub changes_keep_sources : (net : Net) (change : Change) → CanChange net change → source_count (changed net change) ≡ source_count net
changes_keep_sources net (append gate driver) (j, rest) = with_count net gate (drivers_of net gate ++ driver ∷ []) (junction_kind net gate j.0 j.1)
changes_keep_sources net (remove gate position) (j, lt) = with_count net gate (without (drivers_of net gate) position) (junction_kind net gate j.0 j.1)
changes_keep_sources net (fix gate position value) (g, lt) = with_count net gate (slice_set (drivers_of net gate) position (constant_node value)) g
changes_keep_sources net (readers from to) h = total_map source_weight (node_redirected from to) (moved_weight from to) net.nodes
changes_keep_sources net (new_not driver) h =
    let e : source_count (with_new_not net driver) ≡ source_count net + 0 = total_least source_weight refl net.nodes (record { kind = Not; drivers = driver ∷ [] }) in omega arith
changes_keep_sources net (retire gate) (g, unread) =
    let e : source_count (without_node net gate) + source_weight (Some (record { kind = g.0; drivers = g.1.0.0 })) ≡ source_count net = total_gone source_weight refl net gate (record { kind = g.0; drivers = g.1.0.0 }) g.1.0.1 in
    let z : source_in g.0 ≡ 0 = gate_weight g.0 g.1.1 in
    omega arith
changes_keep_sources net (to_not gate position) (is, lt) =
    let e : source_count (turned_to_not net gate position) + 0 ≡ source_count net + 0 = total_node source_weight net gate _ _ is.1 in omega arith
