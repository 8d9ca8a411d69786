-- A step that may be made makes a change that may be made.
use Rattle.std.proofs.Common.{◌≡◌, ◌≢◌, ℕ, zero, suc, ◌<◌, Bool, true, false, not, Option, Some, None, List, [], ◌∷◌, length, refl, sym, ◌∙◌, ap, arith}
use Rattle.std.specs.Prelude.{slice_get, nat_eq, nat_lt, if◌then◌else◌, option_and_then}
use Rattle.std.proofs.lemmas.Bool.{and_parts, both_ways, ltb-true}
use Rattle.std.proofs.lemmas.Option.{slice_get_within}
use Rattle.gate_net.specs.declared.Kind.{Kind}
use Rattle.gate_net.specs.declared.Kind.TheVariants.{Zero, One, Not}
use Rattle.gate_net.specs.declared.Family.{Family}
use Rattle.gate_net.specs.declared.Family.TheVariants.{Constant, Input, Junction, Parity}
use Rattle.gate_net.specs.Meaning.{is_gate_family}
use Rattle.gate_net.specs.Net.{Node, Net, node_at, kind_in, drivers_of, Reads, IsKind, IsLive, IsGate, IsGateKind, IsAcyclic, IsRanked, HasConstants, IsWellFormed}
use Rattle.gate_net.specs.Values.{same_bool, IsJunction}
use Rattle.gate_net.specs.Paths.{Reaches, pin, on}
use Rattle.gate_net.specs.Edits.{constant_node}
use Rattle.gate_net.specs.Inner.Edits.{constant_kind}
use Rattle.wire_edit.specs.declared.steps.Step.{Step}
use Rattle.wire_edit.specs.declared.steps.Step.TheVariants.{Add, Fix, NewNot, Const, Same, NoPins, OnePin, Twice, Twin, Dead}
use Rattle.wire_edit.specs.Tests.{is_junction, is_not, is_xor, is_gate, reads_several, control_of, family_of, other_position, driver_at, constant_at, second_driver, is_in_use, is_repeated}
use Rattle.wire_edit.specs.Changes.{remove, readers}
use Rattle.wire_edit.specs.Inner.Changes.{CanChange}
use Rattle.wire_edit.specs.Steps.{is_not_at, Applies, constant_change, same_change, other_driver, empty_node, or_zero, change_of}
use Rattle.wire_edit.proofs.Tested.{present, live_is, junction_is_one, junction_at, xor_at_family, not_is, constant_read, gate_is, junction_gate, not_gate, several_gate, several_junction, unused, repeated_at, one_in, not_at, same_at}
use Rattle.wire_edit.proofs.XorPins.{xor_pin}

pub reaches_rank : (net : Net) (rank : ℕ → ℕ) → IsRanked net rank → {x y : ℕ} → Reaches net x y → rank x < rank y
reaches_rank net rank ranked {x} {y} (pin p reads) = ranked y p x reads
reaches_rank net rank ranked {x} {y} (on {z = z} p path reads) =
    let below : rank z < rank y = ranked y p z reads in omega (arith, reaches_rank net rank ranked path)

pub no_pins : (net : Net) (x : ℕ) (kind : Kind) (p y : ℕ) → node_at net x ≡ Some (record { kind = kind; drivers = [] }) → Reads net x p y → ⊥
no_pins net x kind p y is reads = let none : slice_get {X = ℕ} [] p ≡ Some y = rw is at reads in cc

constant_unreached : (net : Net) → HasConstants net → (b : Bool) (gate : ℕ) {x : ℕ} → Reaches net gate x → x ≡ constant_node b → ⊥
constant_unreached net constants true gate (pin p reads) e = no_pins net 1 One p gate constants.one_is (rw e at reads)
constant_unreached net constants true gate (on {z = z} p path reads) e = no_pins net 1 One p z constants.one_is (rw e at reads)
constant_unreached net constants false gate (pin p reads) e = no_pins net 0 Zero p gate constants.zero_is (rw e at reads)
constant_unreached net constants false gate (on {z = z} p path reads) e = no_pins net 0 Zero p z constants.zero_is (rw e at reads)

pub constant_is : (net : Net) → HasConstants net → (b : Bool) → IsKind net (constant_node b) (constant_kind b)
constant_is net constants true = ([], constants.one_is)
constant_is net constants false = ([], constants.zero_is)

pub same_kind : (net : Net) (x : ℕ) (k l : Kind) → IsKind net x k → IsKind net x l → k ≡ l
same_kind net x k l a b =
    let e : ◌≡◌ {A = Option Kind} (Some k) (Some l) = sym (ap kind_in a.1) ∙ ap kind_in b.1 in cc

pub constant_apart : (net : Net) → HasConstants net → (gate : ℕ) → IsGate net gate → (b : Bool) → constant_node b ≢ gate
constant_apart net constants gate g true e = let is : g.0 ≡ One = same_kind net 1 g.0 One (rw (sym e) at g.1.0) ([], constants.one_is) in let P : Kind → Type 0 = IsGateKind in rw is at g.1.1
constant_apart net constants gate g false e = let is : g.0 ≡ Zero = same_kind net 0 g.0 Zero (rw (sym e) at g.1.0) ([], constants.zero_is) in rw is at g.1.1

-- readers may move to a constant, and down
pub to_constant : (net : Net) → IsWellFormed net → (gate : ℕ) → IsGate net gate → (b : Bool) → CanChange net (readers gate (constant_node b))
to_constant net well gate g b =
    (g, ((constant_kind b, constant_is net well.constants b), (constant_apart net well.constants gate g b, λ path. constant_unreached net well.constants b gate path refl)))

live_of : (o : Option Node) → o ≢ None → (kind : Kind) × ((ds : List ℕ) × (o ≡ Some (record { kind = kind; drivers = ds })))
live_of None ne = absurd (ne refl)
live_of (Some n) ne = (n.kind, (n.drivers, refl))

pub driver_live : (net : Net) → IsWellFormed net → (y p x : ℕ) → Reads net y p x → IsLive net x
driver_live net well y p x reads = live_of (node_at net x) (well.drivers_live y p x reads)

pub down : (net : Net) → IsWellFormed net → (acyclic : IsAcyclic net) (from to : ℕ) → IsGate net from → IsLive net to → acyclic.0 to < acyclic.0 from → CanChange net (readers from to)
down net well acyclic from to g live below = (
  g,
  (
    live,
    (
      λ e. let lt : acyclic.0 from < acyclic.0 from = rw e at below in omega arith,
      λ path. omega (arith, below, reaches_rank net acyclic.0 acyclic.1 path),
    ),
  ),
)

pub readers_to : (net : Net) (from to to' : ℕ) → to' ≡ to → CanChange net (readers from to) → CanChange net (readers from to')
readers_to net from to to' e h = rw e h

pub one_driver : (ds : List ℕ) (d e p z : ℕ) → ds ≡ d ∷ [] → slice_get ds 0 ≡ Some e → slice_get ds p ≡ Some z → z ≡ e
one_driver [] d e p z is first there = cc
one_driver (x ∷ ds) d e zero z is first there = cc
one_driver (x ∷ []) d e (suc p) z is first there = cc
one_driver (x ∷ y ∷ ds) d e (suc p) z is first there = cc

-- no path leads on from the other of two readers of one driver
pub twin_apart : (net : Net) (acyclic : IsAcyclic net) (gate other driver : ℕ) → ((p z : ℕ) → Reads net other p z → z ≡ driver) → acyclic.0 driver < acyclic.0 gate → {x : ℕ} → Reaches net gate x → x ≡ other → ⊥
twin_apart net acyclic gate other driver only below (pin p reads) e =
    let is : gate ≡ driver = only p gate (rw e at reads) in let lt : acyclic.0 driver < acyclic.0 driver = rw is at below in omega arith
twin_apart net acyclic gate other driver only below (on {z = z} p path reads) e =
    let is : z ≡ driver = only p z (rw e at reads) in
    let up : acyclic.0 gate < acyclic.0 z = reaches_rank net acyclic.0 acyclic.1 path in
    let lt : acyclic.0 gate < acyclic.0 driver = rw is at up in
    omega arith

-- WHAT EACH RULE'S TEST TELLS
pub second_is : (net : Net) (gate : ℕ) → IsWellFormed net → is_not_at net (driver_at net gate 0) ≡ true → (inner : ℕ) × ((driver : ℕ) × (Reads net gate 0 inner × (IsKind net inner Not × (Reads net inner 0 driver × (second_driver net gate ≡ Some driver)))))
second_is net gate well e =
    let i : (inner : ℕ) × ((driver_at net gate 0 ≡ Some inner) × (is_not net inner ≡ true)) = not_at net (driver_at net gate 0) e in
    let kind : IsKind net i.0 Not = not_is net i.0 i.1.1 in
    let only : (d : ℕ) × (drivers_of net i.0 ≡ d ∷ []) = well.nots_have_one i.0 kind in
    let first : Reads net i.0 0 only.0 = ap (λ ds. slice_get ds 0) only.1 in
    (i.0, (only.0, (i.1.0, (kind, (first, ap (option_and_then (λ (inner : ℕ). driver_at net inner 0)) i.1.0 ∙ first)))))

-- a gate is neither a source nor a constant
pub no_gate_family : (net : Net) (x : ℕ) (f : Family) → is_gate net x ≡ true → family_of net x ≡ f → is_gate_family f ≡ false → ⊥
no_gate_family net x f g e none = both_ways (is_gate_family f) none (sym (ap is_gate_family e) ∙ g)

const_can : (net : Net) → IsWellFormed net → (gate p : ℕ) → is_gate net gate ≡ true → (b : Bool) → constant_at net gate p ≡ Some b → (f : Family) → family_of net gate ≡ f → CanChange net (constant_change gate p (other_driver net gate p) f (Some b))
const_can net well gate p g b e f is = by f b is e
  where
    within : (b : Bool) → constant_at net gate p ≡ Some b → p < length (drivers_of net gate)
    within b e = let d : (d : ℕ) × (Reads net gate p d × _) = constant_read net gate p b e in slice_get_within (drivers_of net gate) p d.0 d.1.0

    at : (c b : Bool) → IsJunction net gate c → constant_at net gate p ≡ Some b → (t : Bool) → CanChange net (if t then readers gate (constant_node c) else remove gate p)
    at c b j e true = to_constant net well gate (gate_is net gate g) c
    at c b j e false = ((c, j), within b e)

    by : (f : Family) (b : Bool) → family_of net gate ≡ f → constant_at net gate p ≡ Some b → CanChange net (constant_change gate p (other_driver net gate p) f (Some b))
    by Input b is e = absurd (no_gate_family net gate Input g is refl)
    by (Constant c) b is e = absurd (no_gate_family net gate (Constant c) g is refl)
    by (Junction c) b is e = at c b (junction_at net gate c is) e (same_bool b c)
    by (Parity true) b is e = to_constant net well gate (gate_is net gate g) (not b)
    by (Parity false) true is e = (xor_at_family net gate is, within true e)
    by (Parity false) false is e =
        let d : (d : ℕ) × (Reads net gate p d × _) = constant_read net gate p false e in
        let o = xor_pin net well gate p d.0 (xor_at_family net gate is) d.1.0 in
        readers_to net gate o.0 _ (ap or_zero o.1.reads)
        (down net well well.acyclic gate o.0 (gate_is net gate g) (driver_live net well gate (other_position p) o.0 o.1.reads) (well.acyclic.1 gate (other_position p) o.0 o.1.reads))

same_can : (net : Net) → IsWellFormed net → (gate p : ℕ) → reads_several net gate ≡ true → p < length (drivers_of net gate) → (t : Bool) → is_xor net gate ≡ t → CanChange net (same_change gate p t)
same_can net well gate p s lt true is = to_constant net well gate (gate_is net gate (several_gate net gate s)) false
same_can net well gate p s lt false is = let c = junction_is_one net gate (several_junction net gate s is) in ((c.0, c.1.1), lt)

pub applies_changes : (net : Net) (step : Step) → IsWellFormed net → Applies net step → CanChange net (change_of net step)
applies_changes net (Add gate node) well (j, (live, (ne, (apart, fresh)))) =
    let c : (c : Bool) × ((control_of net gate.0 ≡ Some c) × IsJunction net gate.0 c) = junction_is_one net gate.0 j in
    ((c.0, c.1.1), (live_is net node.0 live, (ne, apart)))
applies_changes net (Fix gate position value) well (g, lt) = (gate_is net gate.0 g, lt)
applies_changes net (NewNot node) well e = live_is net node.0 e
applies_changes net (Const gate position) well e =
    let a : (is_gate net gate.0 ≡ true) × _ = and_parts (is_gate net gate.0) _ e in
    let b : (is_in_use net gate.0 ≡ true) × _ = and_parts (is_in_use net gate.0) _ a.1 in
    let k : (k : Bool) × (constant_at net gate.0 position ≡ Some k) = present (constant_at net gate.0 position) b.1 in
    rw k.1 (const_can net well gate.0 position a.0 k.0 k.1 (family_of net gate.0) refl)
applies_changes net (Same gate position) well e =
    let a : (reads_several net gate.0 ≡ true) × _ = and_parts (reads_several net gate.0) _ e in
    let b : (is_in_use net gate.0 ≡ true) × (is_repeated (drivers_of net gate.0) position ≡ true) = and_parts (is_in_use net gate.0) _ a.1 in
    let r : (d : ℕ) × ((q : ℕ) × ((q < position) × ((slice_get (drivers_of net gate.0) q ≡ Some d) × (slice_get (drivers_of net gate.0) position ≡ Some d)))) = repeated_at (drivers_of net gate.0) position b.1 in
    same_can net well gate.0 position a.0 (slice_get_within (drivers_of net gate.0) position r.0 r.1.1.1.1) (is_xor net gate.0) refl
applies_changes net (NoPins gate) well e =
    let a : (is_junction net gate.0 ≡ true) × _ = and_parts (is_junction net gate.0) _ e in
    let c : (c : Bool) × ((control_of net gate.0 ≡ Some c) × IsJunction net gate.0 c) = junction_is_one net gate.0 a.0 in
    readers_to net gate.0 (constant_node (not c.0)) _ (ap empty_node c.1.0) (to_constant net well gate.0 (gate_is net gate.0 (junction_gate net gate.0 a.0)) (not c.0))
applies_changes net (OnePin gate) well e =
    let a : (is_junction net gate.0 ≡ true) × _ = and_parts (is_junction net gate.0) _ e in
    let b : (is_in_use net gate.0 ≡ true) × (nat_eq (length (drivers_of net gate.0)) 1 ≡ true) = and_parts (is_in_use net gate.0) _ a.1 in
    let d : (d : ℕ) × (drivers_of net gate.0 ≡ d ∷ []) = one_in (drivers_of net gate.0) b.1 in
    let reads : Reads net gate.0 0 d.0 = ap (λ ds. slice_get ds 0) d.1 in
    readers_to net gate.0 d.0 _ (ap or_zero reads)
    (down net well well.acyclic gate.0 d.0 (gate_is net gate.0 (junction_gate net gate.0 a.0)) (driver_live net well gate.0 0 d.0 reads) (well.acyclic.1 gate.0 0 d.0 reads))
applies_changes net (Twice gate) well e =
    let a : (is_not net gate.0 ≡ true) × _ = and_parts (is_not net gate.0) _ e in
    let b : (is_in_use net gate.0 ≡ true) × (is_not_at net (driver_at net gate.0 0) ≡ true) = and_parts (is_in_use net gate.0) _ a.1 in
    let s : (inner : ℕ) × ((driver : ℕ) × (Reads net gate.0 0 inner × (IsKind net inner Not × (Reads net inner 0 driver × (second_driver net gate.0 ≡ Some driver))))) = second_is net gate.0 well b.1 in
    let first : well.acyclic.0 s.0 < well.acyclic.0 gate.0 = well.acyclic.1 gate.0 0 s.0 s.1.1.0 in
    let second : well.acyclic.0 s.1.0 < well.acyclic.0 s.0 = well.acyclic.1 s.0 0 s.1.0 s.1.1.1.1.0 in
    readers_to net gate.0 s.1.0 _ (ap or_zero s.1.1.1.1.1)
    (down net well well.acyclic gate.0 s.1.0 (gate_is net gate.0 (not_gate net gate.0 a.0)) (driver_live net well s.0 0 s.1.0 s.1.1.1.1.0) (omega arith))
applies_changes net (Twin gate other) well e =
    let a : (is_not net gate.0 ≡ true) × _ = and_parts (is_not net gate.0) _ e in
    let b : (is_in_use net gate.0 ≡ true) × _ = and_parts (is_in_use net gate.0) _ a.1 in
    let o : (is_not net other.0 ≡ true) × _ = and_parts (is_not net other.0) _ b.1 in
    let l : (nat_lt other.0 gate.0 ≡ true) × _ = and_parts (nat_lt other.0 gate.0) _ o.1 in
    let d : (d : ℕ) × ((driver_at net gate.0 0 ≡ Some d) × (driver_at net other.0 0 ≡ Some d)) = same_at (driver_at net gate.0 0) (driver_at net other.0 0) l.1 in
    let kind : IsKind net other.0 Not = not_is net other.0 o.0 in
    let only : (k : ℕ) × (drivers_of net other.0 ≡ k ∷ []) = well.nots_have_one other.0 kind in
    let below : other.0 < gate.0 = ltb-true other.0 gate.0 l.0 in (
      gate_is net gate.0 (not_gate net gate.0 a.0),
      (
        (Not, kind),
        (
          λ e. let lt : gate.0 < gate.0 = rw e at below in omega arith,
          λ path. twin_apart net well.acyclic gate.0 other.0 d.0 (λ p z there. one_driver (drivers_of net other.0) only.0 d.0 p z only.1 d.1.1 there) (well.acyclic.1 gate.0 0 d.0 d.1.0) path refl,
        ),
      ),
    )
applies_changes net (Dead gate) well e =
    let a : (is_gate net gate.0 ≡ true) × (not (is_in_use net gate.0) ≡ true) = and_parts (is_gate net gate.0) _ e in
    (gate_is net gate.0 a.0, unused net gate.0 (of_not (is_in_use net gate.0) a.1))
  where
    of_not : (b : Bool) → not b ≡ true → b ≡ false
    of_not true e = sym e
    of_not false e = refl
