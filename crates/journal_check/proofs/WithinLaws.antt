-- Accepted steps keep a net small enough.
use Rattle.std.proofs.Common.{◌≡◌, ℕ, zero, suc, ◌+◌, ◌-◌, ◌<◌, ◌≤◌, Bool, true, false, Option, Some, None, List, [], ◌∷◌, ◌++◌, length, map, if◌then◌else◌, refl, ap, arith}
use Rattle.std.specs.Prelude.{slice_set}
use Rattle.std.specs.List.{sum_by}
use Rattle.std.proofs.lemmas.List.Sums.{sum_by-cons}
use Rattle.std.proofs.lemmas.List.{length_push}
use Rattle.gate_net.specs.declared.Kind.{Kind}
use Rattle.gate_net.specs.declared.Kind.TheVariants.{And, Not, One, Or, Source, Xor, Zero}
use Rattle.gate_net.specs.Net.{Node, Net, IsGate, IsWellFormed, count_in, drivers_in, drivers_of, gate_count, gate_in, node_at, source_count, source_in, wire_count}
use Rattle.gate_net.specs.Edits.{constant_node, node_redirected, redirected, with_drivers, with_node, without}
use Rattle.gate_net.specs.Values.{IsJunction}
use Rattle.wire_edit.specs.Changes.{Change, append, remove, fix, readers, new_not, retire, to_not, changed}
use Rattle.wire_edit.specs.Inner.Changes.{CanChange}
use Rattle.wire_edit.proofs.Public.{applies_changes, constant_cases, live_within, total_gone, total_least, total_map, total_node, total_with}
use Rattle.wire_edit.specs.Refusals.{ceiling, live_count}
use Rattle.wire_edit.specs.Steps.{Applies, change_of, other_driver, same_change, stepped}
use Rattle.wire_edit.specs.Tests.{constant_at, family_of, is_xor, live_in}
use Rattle.wire_edit.specs.declared.steps.Step.{Step}
use Rattle.wire_edit.specs.declared.steps.Step.TheVariants as step
use Rattle.journal_text.specs.Accepted.{MayGrow}
use Rattle.journal_check.specs.Inner.Within.{IsWithin, more_pins}
use Rattle.rm_base.proofs.Public.{length_set}

-- the pins beyond the first are some of the wires, and there is one more at most for each live node
below_wires : (os : List (Option Node)) → sum_by more_pins os ≤ sum_by (λ (o : Option Node). length (drivers_in o)) os
below_wires [] = omega arith
below_wires (o ∷ os) =
    let rest : _ ≤ _ = below_wires os in
    let a : _ ≡ _ = sum_by-cons more_pins o os in
    let b : _ ≡ _ = sum_by-cons (λ (q : Option Node). length (drivers_in q)) o os in
    omega (arith, rest, a, b)

one_more : (o : Option Node) → length (drivers_in o) ≤ more_pins o + live_in o
one_more None = omega arith
one_more (Some n) = omega arith

wires_below : (os : List (Option Node)) → sum_by (λ (o : Option Node). length (drivers_in o)) os ≤ sum_by more_pins os + sum_by live_in os
wires_below [] = omega arith
wires_below (o ∷ os) =
    let rest : _ ≤ _ = wires_below os in
    let here : length (drivers_in o) ≤ more_pins o + live_in o = one_more o in
    let a : _ ≡ _ = sum_by-cons more_pins o os in
    let b : _ ≡ _ = sum_by-cons (λ (q : Option Node). length (drivers_in q)) o os in
    let c : _ ≡ _ = sum_by-cons live_in o os in
    omega (arith, rest, here, a, b, c)

pub wires_bounded : (net : Net) → IsWithin net → wire_count net ≤ 2147483648
wires_bounded net w =
    let a : wire_count net ≤ sum_by more_pins net.nodes + live_count net = wires_below net.nodes in
    omega (arith, a, w.pins, w.nodes)

live_kind : (k : Kind) → source_in k + gate_in k ≤ 1
live_kind Source = omega arith
live_kind Zero = omega arith
live_kind One = omega arith
live_kind And = omega arith
live_kind Or = omega arith
live_kind Not = omega arith
live_kind Xor = omega arith

live_one : (o : Option Node) → count_in o source_in + count_in o gate_in ≤ live_in o
live_one None = omega arith
live_one (Some n) = live_kind n.kind

live_more : (os : List (Option Node)) → sum_by (λ (o : Option Node). count_in o source_in) os + sum_by (λ (o : Option Node). count_in o gate_in) os ≤ sum_by live_in os
live_more [] = omega arith
live_more (o ∷ os) =
    let rest : _ ≤ _ = live_more os in
    let here : _ ≤ _ = live_one o in
    let a : _ ≡ _ = sum_by-cons (λ (q : Option Node). count_in q source_in) o os in
    let b : _ ≡ _ = sum_by-cons (λ (q : Option Node). count_in q gate_in) o os in
    let c : _ ≡ _ = sum_by-cons live_in o os in
    omega (arith, rest, here, a, b, c)

pub nodes_bounded : (net : Net) → IsWithin net → source_count net + gate_count net ≤ 1073741824
nodes_bounded net w =
    let a : source_count net + gate_count net ≤ live_count net = live_more net.nodes in
    omega (arith, a, w.nodes)

-- a net of so few wires, numbers and places
pub within_few : (net : Net) → wire_count net ≤ 1000000 → length net.nodes ≤ 1000000 → length net.observed ≤ 131072 → IsWithin net
within_few net w n o =
    let a : sum_by more_pins net.nodes ≤ wire_count net = below_wires net.nodes in
    let b : live_count net ≤ length net.nodes = live_within net.nodes in
    record { pins = omega (arith, a, w); nodes = omega (arith, b, n); observed = o }

-- ONE GATE HAS OTHER DRIVERS
with_pins : (net : Net) (gate : ℕ) (drivers : List ℕ) (n : Node) → node_at net gate ≡ Some n → sum_by more_pins (with_drivers net gate drivers).nodes + (length n.drivers - 1) ≡ sum_by more_pins net.nodes + (length drivers - 1)
with_pins net gate drivers n e = total_with more_pins net gate drivers n e

with_live : (net : Net) (gate : ℕ) (drivers : List ℕ) (n : Node) → node_at net gate ≡ Some n → live_count (with_drivers net gate drivers) ≡ live_count net
with_live net gate drivers n e = let a : live_count (with_drivers net gate drivers) + 1 ≡ live_count net + 1 = total_with live_in net gate drivers n e in omega (arith, a)

fewer : (net : Net) (gate : ℕ) (drivers : List ℕ) (n : Node) → node_at net gate ≡ Some n → length drivers ≤ length n.drivers → IsWithin net → IsWithin (with_drivers net gate drivers)
fewer net gate drivers n e l w =
    let a : _ ≡ _ = with_pins net gate drivers n e in
    let b : _ ≡ _ = with_live net gate drivers n e in
    record { pins = omega (arith, a, l, w.pins); nodes = omega (arith, b, w.nodes); observed = w.observed }

length_without : (xs : List ℕ) (p : ℕ) → length (without xs p) ≤ length xs
length_without [] p = omega arith
length_without (x ∷ xs) zero = omega arith
length_without (x ∷ xs) (suc p) = let rest : length (without xs p) ≤ length xs = length_without xs p in omega (arith, rest)

length_map : {A : Type 0} (f : A → A) (xs : List A) → length (map f xs) ≡ length xs
length_map f [] = refl
length_map f (x ∷ xs) = ap suc (length_map f xs)

drivers_at : (net : Net) (gate : ℕ) (n : Node) → node_at net gate ≡ Some n → length (drivers_of net gate) ≡ length n.drivers
drivers_at net gate n e = ap (λ (o : Option Node). length (drivers_in o)) e

appended : (net : Net) (gate driver : ℕ) (n : Node) → node_at net gate ≡ Some n → wire_count net < ceiling → IsWithin net → IsWithin (changed net (append gate driver))
appended net gate driver n e l w =
    let ds : List ℕ = drivers_of net gate ++ driver ∷ [] in
    let a : sum_by more_pins (with_drivers net gate ds).nodes + (length n.drivers - 1) ≡ sum_by more_pins net.nodes + (length ds - 1) = with_pins net gate ds n e in
    let b : live_count (with_drivers net gate ds) ≡ live_count net = with_live net gate ds n e in
    let c : length ds ≡ length (drivers_of net gate) + 1 = length_push (drivers_of net gate) driver in
    let d : length (drivers_of net gate) ≡ length n.drivers = drivers_at net gate n e in
    let f : sum_by more_pins net.nodes ≤ wire_count net = below_wires net.nodes in
    record { pins = omega (arith, a, c, d, f, l); nodes = omega (arith, b, w.nodes); observed = w.observed }

turned : (net : Net) (gate position : ℕ) (n : Node) → node_at net gate ≡ Some n → IsWithin net → IsWithin (changed net (to_not gate position))
turned net gate position n e w =
    let m : Node = record { kind = Not; drivers = without (drivers_of net gate) position } in
    let a : sum_by more_pins (with_node net gate m).nodes + (length n.drivers - 1) ≡ sum_by more_pins net.nodes + (length m.drivers - 1) = total_node more_pins net gate m n e in
    let b : live_count (with_node net gate m) + 1 ≡ live_count net + 1 = total_node live_in net gate m n e in
    let c : length (without (drivers_of net gate) position) ≤ length (drivers_of net gate) = length_without (drivers_of net gate) position in
    let d : length (drivers_of net gate) ≡ length n.drivers = drivers_at net gate n e in
    record { pins = omega (arith, a, c, d, w.pins); nodes = omega (arith, b, w.nodes); observed = w.observed }

removed : (net : Net) (gate position : ℕ) (n : Node) → node_at net gate ≡ Some n → IsWithin net → IsWithin (changed net (remove gate position))
removed net gate position n e w =
    let a : length (without (drivers_of net gate) position) ≤ length (drivers_of net gate) = length_without (drivers_of net gate) position in
    let d : length (drivers_of net gate) ≡ length n.drivers = drivers_at net gate n e in
    fewer net gate (without (drivers_of net gate) position) n e (omega (arith, a, d)) w

fixed_pin : (net : Net) (gate position : ℕ) (value : Bool) (n : Node) → node_at net gate ≡ Some n → IsWithin net → IsWithin (changed net (fix gate position value))
fixed_pin net gate position value n e w =
    let ds : List ℕ = slice_set (drivers_of net gate) position (constant_node value) in
    let a : length ds ≡ length (drivers_of net gate) = length_set (drivers_of net gate) position (constant_node value) in
    let d : length (drivers_of net gate) ≡ length n.drivers = drivers_at net gate n e in
    fewer net gate ds n e (omega (arith, a, d)) w

-- READERS MOVE, A NOT IS MADE, A GATE GOES
same_pins : (from to : ℕ) (o : Option Node) → more_pins (node_redirected from to o) ≡ more_pins o
same_pins from to None = refl
same_pins from to (Some n) = ap (λ (k : ℕ). k - 1) (length_map _ n.drivers)

same_live : (from to : ℕ) (o : Option Node) → live_in (node_redirected from to o) ≡ live_in o
same_live from to None = refl
same_live from to (Some n) = refl

moved : (net : Net) (from to : ℕ) → IsWithin net → IsWithin (changed net (readers from to))
moved net from to w =
    let after : Net = changed net (readers from to) in
    let a : sum_by more_pins after.nodes ≡ sum_by more_pins net.nodes = total_map more_pins (node_redirected from to) (same_pins from to) net.nodes in
    let b : live_count after ≡ live_count net = total_map live_in (node_redirected from to) (same_live from to) net.nodes in
    let c : length after.observed ≡ length net.observed = length_map (redirected from to) net.observed in
    record { pins = omega (arith, a, w.pins); nodes = omega (arith, b, w.nodes); observed = omega (arith, c, w.observed) }

made_not : (net : Net) (driver : ℕ) → live_count net < ceiling → IsWithin net → IsWithin (changed net (new_not driver))
made_not net driver l w =
    let n : Node = record { kind = Not; drivers = driver ∷ [] } in
    let a : sum_by more_pins (changed net (new_not driver)).nodes ≡ sum_by more_pins net.nodes + 0 = total_least more_pins refl net.nodes n in
    let b : live_count (changed net (new_not driver)) ≡ live_count net + 1 = total_least live_in refl net.nodes n in
    record { pins = omega (arith, a, w.pins); nodes = omega (arith, b, l); observed = w.observed }

gone : (net : Net) (gate : ℕ) (n : Node) → node_at net gate ≡ Some n → IsWithin net → IsWithin (changed net (retire gate))
gone net gate n e w =
    let a : sum_by more_pins (changed net (retire gate)).nodes + (length n.drivers - 1) ≡ sum_by more_pins net.nodes = total_gone more_pins refl net gate n e in
    let b : live_count (changed net (retire gate)) + 1 ≡ live_count net = total_gone live_in refl net gate n e in
    record { pins = omega (arith, a, w.pins); nodes = omega (arith, b, w.nodes); observed = w.observed }

-- EACH CHANGE, AND EACH STEP
abbrev Grows : Net → Change → Type 0
Grows net (append gate driver) = wire_count net < ceiling
Grows net (new_not driver) = live_count net < ceiling
Grows net _ = Unit {0}

gate_there : (net : Net) (gate : ℕ) → IsGate net gate → (n : Node) × (node_at net gate ≡ Some n)
gate_there net gate g = (record { kind = g.0; drivers = g.1.0.0 }, g.1.0.1)

junction_there : (net : Net) (gate : ℕ) → ((c : Bool) × IsJunction net gate c) → (n : Node) × (node_at net gate ≡ Some n)
junction_there net gate j = (record { kind = j.1.0; drivers = j.1.1.0.0 }, j.1.1.0.1)

within_change : (net : Net) (change : Change) → CanChange net change → Grows net change → IsWithin net → IsWithin (changed net change)
within_change net (append gate driver) can g w = let n = junction_there net gate can.0 in appended net gate driver n.0 n.1 g w
within_change net (remove gate position) can g w = let n = junction_there net gate can.0 in removed net gate position n.0 n.1 w
within_change net (fix gate position value) can g w = let n = gate_there net gate can.0 in fixed_pin net gate position value n.0 n.1 w
within_change net (readers from to) can g w = moved net from to w
within_change net (new_not driver) can g w = made_not net driver g w
within_change net (to_not gate position) can g w = turned net gate position (record { kind = Xor; drivers = can.0.0 }) can.0.1 w
within_change net (retire gate) can g w = let n = gate_there net gate can.0 in gone net gate n.0 n.1 w

same_grows : (net : Net) (gate p : ℕ) (at_xor : Bool) → Grows net (same_change gate p at_xor)
same_grows net gate p true = tt
same_grows net gate p false = tt

grows : (net : Net) (s : Step) → MayGrow net s → Grows net (change_of net s)
grows net (step.Add gate node) m = m
grows net (step.Fix gate position value) m = tt
grows net (step.NewNot node) m = m
grows net (step.Const gate position) m = constant_cases (Grows net) gate.0 position (other_driver net gate.0 position) (family_of net gate.0) (constant_at net gate.0 position) tt tt (λ to. tt)
grows net (step.Same gate position) m = same_grows net gate.0 position (is_xor net gate.0)
grows net (step.NoPins gate) m = tt
grows net (step.OnePin gate) m = tt
grows net (step.Twice gate) m = tt
grows net (step.Twin gate other) m = tt
grows net (step.Dead gate) m = tt

-- a step that may be made keeps the net small enough
pub stays_within : (net : Net) (s : Step) → IsWellFormed net → Applies net s → MayGrow net s → IsWithin net → IsWithin (stepped net s)
stays_within net s well applies may w = within_change net (change_of net s) (applies_changes net s well applies) (grows net s may) w
