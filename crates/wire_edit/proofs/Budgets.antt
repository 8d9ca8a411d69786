-- What a change takes of wires, nodes and numbers.
use Rattle.std.proofs.Common.{◌≡◌, ℕ, zero, suc, ◌+◌, ◌≤◌, Option, Some, None, List, [], ◌∷◌, length, map, refl, ap, arith}
use Rattle.std.specs.Prelude.{slice_set}
use Rattle.gate_net.specs.Net.{Node, Net, drivers_in, drivers_of, IsGate, IsWellFormed, wire_count}
use Rattle.gate_net.specs.Edits.{node_redirected}
use Rattle.wire_edit.specs.Changes.{Change, append, remove, fix, readers, new_not, retire, to_not, changed, with_least_free, without_node}
use Rattle.wire_edit.specs.Inner.Changes.{CanChange, pins_added, nodes_added}
use Rattle.wire_edit.proofs.Totals.{total_gone}
use Rattle.wire_edit.proofs.Working.{remove_wires, turn_wires, fix_wires, append_raises, moved_wires, new_raises}
use Rattle.wire_edit.proofs.Editing.{length_trimmed}

-- pins that go with a gate
abbrev pub pins_gone : Net → Change → ℕ
pins_gone net (retire gate) = length (drivers_of net gate)
pins_gone net _ = 0

retire_wires : (net : Net) (gate : ℕ) → IsGate net gate → wire_count (without_node net gate) + length (drivers_of net gate) ≡ wire_count net
retire_wires net gate g =
    let a : wire_count (without_node net gate) + length g.1.0.0 ≡ wire_count net = total_gone (λ (o : Option Node). length (drivers_in o)) refl net gate (record { kind = g.0; drivers = g.1.0.0 }) g.1.0.1 in
    let b : length (drivers_of net gate) ≡ length g.1.0.0 = ap (λ o. length (drivers_in o)) g.1.0.1 in
    omega (arith, a, b)

pub wires_budget : (net : Net) (change : Change) → IsWellFormed net → CanChange net change → wire_count (changed net change) + pins_gone net change ≤ wire_count net + pins_added change
wires_budget net (append gate driver) well can = let e : _ ≡ _ = (append_raises net gate driver can).1 in omega (arith, e)
wires_budget net (remove gate position) well can = let e : _ ≤ _ = remove_wires net gate position can in omega (arith, e)
wires_budget net (fix gate position value) well can = let e : _ ≤ _ = fix_wires net gate position value can in omega (arith, e)
wires_budget net (readers from to) well can = let e : _ ≡ _ = moved_wires net from to well can in omega (arith, e)
wires_budget net (new_not driver) well can = let e : _ ≡ _ = (new_raises net well driver can).1 in omega (arith, e)
wires_budget net (to_not gate position) well can = let e : _ ≤ _ = turn_wires net gate position can in omega (arith, e)
wires_budget net (retire gate) well (g, unread) = let e : _ ≡ _ = retire_wires net gate g in omega (arith, e)

length_set : (os : List (Option Node)) (x : ℕ) (o : Option Node) → length (slice_set os x o) ≡ length os
length_set [] x o = refl
length_set (p ∷ os) zero o = refl
length_set (p ∷ os) (suc x) o = ap suc (length_set os x o)

set_within : (os : List (Option Node)) (x : ℕ) (o : Option Node) → length (slice_set os x o) ≤ length os + 0
set_within os x o = omega (arith, length_set os x o)

length_map : (f : Option Node → Option Node) (os : List (Option Node)) → length (map f os) ≡ length os
length_map f [] = refl
length_map f (o ∷ os) = ap suc (length_map f os)

length_least : (os : List (Option Node)) (n : Node) → length (with_least_free os n) ≤ length os + 1
length_least [] n = omega arith
length_least (None ∷ os) n = omega arith
length_least (Some m ∷ os) n = let rest : length (with_least_free os n) ≤ length os + 1 = length_least os n in omega (arith, rest)

pub length_budget : (net : Net) (change : Change) → length (changed net change).nodes ≤ length net.nodes + nodes_added change
length_budget net (append gate driver) = set_within net.nodes gate _
length_budget net (remove gate position) = set_within net.nodes gate _
length_budget net (fix gate position value) = set_within net.nodes gate _
length_budget net (readers from to) = omega (arith, length_map (node_redirected from to) net.nodes)
length_budget net (new_not driver) = length_least net.nodes _
length_budget net (to_not gate position) = set_within net.nodes gate _
length_budget net (retire gate) =
    let a : length (changed net (retire gate)).nodes ≤ length (slice_set net.nodes gate None) = length_trimmed (slice_set net.nodes gate None) in
    omega (arith, a, length_set net.nodes gate None)
