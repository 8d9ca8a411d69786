-- What a change leaves of the number of gates and of the observed places.
use Rattle.std.proofs.Common.{◌≡◌, ℕ, zero, suc, ◌+◌, ◌≤◌, Bool, Option, Some, None, List, [], ◌∷◌, length, map, refl, sym, ◌∙◌, ap, arith}
use Rattle.std.specs.Prelude.{slice_get, slice_set}
use Rattle.std.specs.List.{sum_by}
use Rattle.std.proofs.lemmas.List.Sums.{sum_by-cons}
use Rattle.std.proofs.lemmas.List.{length-map}
use Rattle.rm_base.specs.declared.numbers.NodeId.{NodeId}
use Rattle.gate_net.specs.Net.{IsKind, Node, Net, drivers_of, node_at, flatten_option, gate_count, trimmed}
use Rattle.gate_net.specs.declared.Kind.TheVariants.{Not, Xor}
use Rattle.gate_net.specs.Edits.{redriven, redirected, node_redirected, with_node, without}
use Rattle.wire_edit.proofs.Public.{total_least, total_map, total_node, total_trimmed}
use Rattle.wire_edit.specs.declared.steps.Step.{Step}
use Rattle.wire_edit.specs.declared.steps.Step.TheVariants.{Add, Fix, NewNot}
use Rattle.wire_edit.specs.Changes.{Change, append, remove, fix, readers, new_not, retire, to_not, changed, with_least_free}
use Rattle.wire_edit.specs.Inner.Changes.{CanChange, nodes_added}
use Rattle.wire_edit.specs.Inner.Tests.{gate_weight}
use Rattle.wire_edit.specs.Steps.{stepped, change_of}

set_keeps : (f : Option Node → ℕ) (ds : List ℕ) → ((o : Option Node) → f (redriven ds o) ≡ f o) → (os : List (Option Node)) (x : ℕ) → sum_by f (slice_set os x (redriven ds (flatten_option (slice_get os x)))) ≡ sum_by f os
set_keeps f ds same [] x = refl
set_keeps f ds same (o ∷ os) zero = sum_by-cons f (redriven ds o) os ∙ ap (λ (n : ℕ). n + sum_by f os) (same o) ∙ sym (sum_by-cons f o os)
set_keeps f ds same (o ∷ os) (suc x) =
    sum_by-cons f o (slice_set os x (redriven ds (flatten_option (slice_get os x)))) ∙ ap (λ (n : ℕ). f o + n) (set_keeps f ds same os x) ∙ sym (sum_by-cons f o os)

gone_less : (f : Option Node → ℕ) → f None ≡ 0 → (os : List (Option Node)) (x : ℕ) → sum_by f (slice_set os x None) ≤ sum_by f os
gone_less f none [] x = omega arith
gone_less f none (o ∷ os) zero =
    let a : sum_by f (None ∷ os) ≡ f None + sum_by f os = sum_by-cons f None os in
    let b : sum_by f (o ∷ os) ≡ f o + sum_by f os = sum_by-cons f o os in
    omega (arith, a, b, none)
gone_less f none (o ∷ os) (suc x) =
    let rest : sum_by f (slice_set os x None) ≤ sum_by f os = gone_less f none os x in
    let a : sum_by f (o ∷ slice_set os x None) ≡ f o + sum_by f (slice_set os x None) = sum_by-cons f o (slice_set os x None) in
    let b : sum_by f (o ∷ os) ≡ f o + sum_by f os = sum_by-cons f o os in
    omega (arith, rest, a, b)

redriven_weight : (ds : List ℕ) (o : Option Node) → gate_weight (redriven ds o) ≡ gate_weight o
redriven_weight ds None = refl
redriven_weight ds (Some n) = refl

redirected_weight : (from to : ℕ) (o : Option Node) → gate_weight (node_redirected from to o) ≡ gate_weight o
redirected_weight from to None = refl
redirected_weight from to (Some n) = refl

-- GATES
driven_gates : (net : Net) (gate : ℕ) (ds : List ℕ) → sum_by gate_weight (slice_set net.nodes gate (redriven ds (node_at net gate))) ≤ gate_count net + 0
driven_gates net gate ds = let e : sum_by gate_weight (slice_set net.nodes gate (redriven ds (node_at net gate))) ≡ sum_by gate_weight net.nodes = set_keeps gate_weight ds (redriven_weight ds) net.nodes gate in omega (arith, e)

-- a gate that becomes a Not is an Xor
abbrev TurnsXor : Net → Change → Type 0
TurnsXor net (to_not gate position) = IsKind net gate Xor
TurnsXor net _ = Unit {0}

pub turns_xor : (net : Net) (change : Change) → CanChange net change → TurnsXor net change
turns_xor net (append gate driver) can = tt
turns_xor net (remove gate position) can = tt
turns_xor net (fix gate position value) can = tt
turns_xor net (readers from to) can = tt
turns_xor net (new_not driver) can = tt
turns_xor net (retire gate) can = tt
turns_xor net (to_not gate position) can = can.0

gate_budget : (net : Net) (change : Change) → TurnsXor net change → gate_count (changed net change) ≤ gate_count net + nodes_added change
gate_budget net (append gate driver) turns = driven_gates net gate _
gate_budget net (remove gate position) turns = driven_gates net gate _
gate_budget net (fix gate position value) turns = driven_gates net gate _
gate_budget net (readers from to) turns = let e : sum_by gate_weight (map (node_redirected from to) net.nodes) ≡ sum_by gate_weight net.nodes = total_map gate_weight (node_redirected from to) (redirected_weight from to) net.nodes in omega (arith, e)
gate_budget net (new_not driver) turns =
    let n : Node = record { kind = Not; drivers = driver ∷ [] } in
    let e : sum_by gate_weight (with_least_free net.nodes n) ≡ sum_by gate_weight net.nodes + 1 = total_least gate_weight refl net.nodes n in omega (arith, e)
gate_budget net (to_not gate position) turns =
    let n : Node = record { kind = Xor; drivers = turns.0 } in
    let m : Node = record { kind = Not; drivers = without (drivers_of net gate) position } in
    let e : sum_by gate_weight (with_node net gate m).nodes + gate_weight (Some n) ≡ sum_by gate_weight net.nodes + gate_weight (Some m) = total_node gate_weight net gate m n turns.1 in
    let a : gate_weight (Some n) ≡ 1 = refl in
    let b : gate_weight (Some m) ≡ 1 = refl in
    omega (arith, e, a, b)
gate_budget net (retire gate) turns =
    let e : sum_by gate_weight (trimmed (slice_set net.nodes gate None)) ≡ sum_by gate_weight (slice_set net.nodes gate None) = total_trimmed gate_weight refl (slice_set net.nodes gate None) in
    let l : sum_by gate_weight (slice_set net.nodes gate None) ≤ sum_by gate_weight net.nodes = gone_less gate_weight refl net.nodes gate in
    omega (arith, e, l)

pub fix_gates : (net : Net) (gate : NodeId) (p : ℕ) (value : Bool) → gate_count (stepped net (Fix gate p value)) ≤ gate_count net
fix_gates net gate p value = let b : gate_count (stepped net (Fix gate p value)) ≤ gate_count net + 0 = gate_budget net (change_of net (Fix gate p value)) tt in omega (arith, b)

pub add_gates : (net : Net) (gate y : NodeId) → gate_count (stepped net (Add gate y)) ≤ gate_count net
add_gates net gate y = let b : gate_count (stepped net (Add gate y)) ≤ gate_count net + 0 = gate_budget net (change_of net (Add gate y)) tt in omega (arith, b)

pub new_not_gates : (net : Net) (x : NodeId) → gate_count (stepped net (NewNot x)) ≤ gate_count net + 1
new_not_gates net x = gate_budget net (change_of net (NewNot x)) tt

-- where a step makes no node there are no more gates
pub no_gates : (net : Net) (step : Step) → TurnsXor net (change_of net step) → nodes_added (change_of net step) ≡ 0 → gate_count (stepped net step) ≤ gate_count net
no_gates net step turns none = let b : gate_count (stepped net step) ≤ gate_count net + nodes_added (change_of net step) = gate_budget net (change_of net step) turns in omega (arith, b, none)

-- OBSERVED PLACES
pub places_stay : (net : Net) (change : Change) → length (changed net change).observed ≡ length net.observed
places_stay net (append gate driver) = refl
places_stay net (remove gate position) = refl
places_stay net (fix gate position value) = refl
places_stay net (readers from to) = length-map net.observed (redirected from to)
places_stay net (new_not driver) = refl
places_stay net (retire gate) = refl
places_stay net (to_not gate position) = refl
