-- Looking at pins one after another, and passes over gates.
use Rattle.std.proofs.Common.{◌≡◌, ℕ, ◌+◌, ◌-◌, ◌*◌, ◌<◌, ◌≤◌, ◌⊎◌, inl, inr, Bool, true, false, ◌||◌, Option, Some, None, List, length, refl, sym, ◌∙◌, ap, subst, arith}
use Rattle.std.specs.Prelude.{slice_get, if◌then◌else◌}
use Rattle.std.proofs.lemmas.Bool.{cases_eq}
use Rattle.std.proofs.Math.Bool.{or-false, or-true}
use Rattle.std.proofs.lemmas.Option.{slice_get_within}
use Rattle.rm_base.specs.declared.numbers.Fault.{Fault}
use Rattle.gate_net.specs.Net.{Net, Node, node_at, drivers_in, drivers_of, Reads, wire_count}
use Rattle.refutation.specs.declared.items.Item.{Item}
use Rattle.wire_edit.proofs.Public.{live_below}
use Rattle.recursive_learning.specs.Serving.{IsRefuted}
use Rattle.refutation.specs.Detected.{HasOpenSet}
use Rattle.refutation.specs.FactSets.{held_by}
use Rattle.refutation.specs.declared.held.NodeFacts.{NodeFacts}
use Rattle.rar_loop.specs.Swept.{IsSwept}
use Rattle.rar_loop.specs.Inner.Swept.{IsLooked, IsRefutedAt, IsLookedAtPin, IsOpenAtGate, HasLookedAt, HasPassed, HasSwept}
use Rattle.rm_base.proofs.Public.{stands_below}
use Rattle.wire_edit.specs.Removals.{HasFreePin, ReadsNoConstants}

pub none_of : {A : Type 0} (o : Option A) → ((x : A) → o ≡ Some x → ⊥) → o ≡ None
none_of None h = refl
none_of (Some x) h = absurd (h x refl)

pub both_values : (P : Bool → Type 0) → P false → P true → (b : Bool) → P b
both_values P f t true = t
both_values P f t false = f

pub looked_none : (net : Net) (fault : Fault) (depth : ℕ) (o : Option (List Item)) → ((x : List Item) → o ≡ Some x → ⊥) → IsLooked net fault depth o → HasOpenSet net fault depth
looked_none net fault depth o h looked = subst (λ (q : Option (List Item)). IsLooked net fault depth q) (none_of o h) looked

-- what refuting answers, without the facts that it leaves
pub looked_of : (net : Net) (fault : Fault) (depth : ℕ) (facts : List NodeFacts) (o : Option (List Item)) → IsRefuted net fault depth facts o → IsLooked net fault depth o
looked_of net fault depth facts None (least, long) = (held_by facts, (least.free, least.closed))
looked_of net fault depth facts (Some tree) (clash, accepted) = accepted

-- PINS OF A GATE
-- the pins before a position
abbrev pub IsOpenBefore : Net → ℕ → ℕ → ℕ → Type 0
IsOpenBefore net gate depth end =
    (position : ℕ) (value : Bool) → position < end → HasOpenSet net (record { gate = record { 0 = gate }; position = position; value = value }) depth

pub open_none : (net : Net) (gate depth : ℕ) → IsOpenBefore net gate depth 0
open_none net gate depth position value lt = absurd (omega (arith, lt))

pub open_more : (net : Net) (gate depth k : ℕ) (o : Option (Fault × List Item)) → IsOpenBefore net gate depth k → ((x : Fault × List Item) → o ≡ Some x → ⊥) → IsLookedAtPin net gate k depth o → IsOpenBefore net gate depth (k + 1)
open_more net gate depth k o before h looked position value lt = elim (cases_eq position k) [
  | inl is ↦ subst (λ (p : ℕ). HasOpenSet net (record { gate = record { 0 = gate }; position = p; value = value }) depth) (sym is) (here value)
  | inr ne ↦ before position value (omega (arith, lt, ne))
]
  where
    here : IsLookedAtPin net gate k depth None
    here = subst (λ (q : Option (Fault × List Item)). IsLookedAtPin net gate k depth q) (none_of o h) looked

-- A REFUTED PIN OF A TIDY NET
pub refuted_free : (net : Net) (gate : ℕ) (fault : Fault) (tree : List Item) → ReadsNoConstants net → IsRefutedAt net gate fault tree → HasFreePin net fault
refuted_free net gate fault tree none r =
    let lt : fault.position < length (drivers_of net fault.gate.0) = subst (λ (g : ℕ). fault.position < length (drivers_of net g)) (sym r.gate_is) r.pin in
    let d : (d : ℕ) × Reads net fault.gate.0 fault.position d = stands_below (drivers_of net fault.gate.0) fault.position lt in
    (d.0, (d.1, none fault.gate.0 fault.position d.0 d.1))

-- PASSES
pub passed_none : (net : Net) (depth : ℕ) → HasPassed net net depth 0 false
passed_none net depth = (refl, λ gate lt. absurd (omega (arith, lt)))

passed_fixed : (net mid after : Net) (depth gates more : ℕ) (f : Bool) → HasPassed net mid depth gates f → wire_count after < wire_count mid → HasPassed net after depth more true
passed_fixed net mid after depth gates more true p lt = omega (arith, p, lt)
passed_fixed net mid after depth gates more false p lt = let w : wire_count mid ≡ wire_count net = ap wire_count p.0 in omega (arith, w, lt)

passed_on : (net mid after : Net) (depth gate : ℕ) (f : Bool) → HasPassed net mid depth gate f → (after ≡ mid) × IsOpenAtGate mid gate depth → HasPassed net after depth (gate + 1) f
passed_on net mid after depth gate true p looked = let w : wire_count after ≡ wire_count mid = ap wire_count looked.0 in omega (arith, w, p)
passed_on net mid after depth gate false p looked = (
  looked.0 ∙ p.0,
  λ g lt. elim (cases_eq g gate) [
    | inl is ↦ subst (λ (k : ℕ). IsOpenAtGate net k depth) (sym is) (subst (λ (n : Net). IsOpenAtGate n gate depth) p.0 looked.1)
    | inr ne ↦ p.1 g (omega (arith, lt, ne))
  ],
)

-- one more gate was looked at, or the same again
pub passed_next : (net mid after : Net) (depth gate next : ℕ) (f found fixed : Bool) → HasPassed net mid depth gate f → HasLookedAt mid after gate depth found
    → next ≡ (if found then gate else gate + 1) → fixed ≡ (f || found) → HasPassed net after depth next fixed
passed_next net mid after depth gate next f true fixed p looked is either =
    subst (λ (b : Bool). HasPassed net after depth next b) (sym (either ∙ or-true f)) (passed_fixed net mid after depth gate next f p looked)
passed_next net mid after depth gate next f false fixed p looked is either =
    subst (λ (b : Bool). HasPassed net after depth next b) (sym (either ∙ or-false f)) (subst (λ (k : ℕ). HasPassed net after depth k f) (sym is) (passed_on net mid after depth gate f p looked))

pub measure_falls : (mid after : Net) (depth gate next : ℕ) (found : Bool) → HasLookedAt mid after gate depth found → next ≡ (if found then gate else gate + 1) → gate < 4294967296
    → wire_count after * 4294967296 + (4294967296 - next) < wire_count mid * 4294967296 + (4294967296 - gate)
measure_falls mid after depth gate next true looked is lt = omega (arith, looked, is, lt)
measure_falls mid after depth gate next false looked is lt = let w : wire_count after ≡ wire_count mid = ap wire_count looked.0 in omega (arith, w, is, lt)

pub passed_all : (net after : Net) (depth gates end : ℕ) (f : Bool) → end ≤ gates → HasPassed net after depth gates f → HasPassed net after depth end f
passed_all net after depth gates end true le p = p
passed_all net after depth gates end false le p = (p.0, λ gate lt. p.1 gate (omega (arith, lt, le)))

-- after a pass that fixed nothing the net is swept
pub pass_sweeps : (net after : Net) (depth : ℕ) → HasPassed net after depth (length after.nodes) false → IsSwept after depth
pass_sweeps net after depth p fault pin =
    subst (λ (n : Net). HasOpenSet n fault depth) (sym p.0) (p.1 fault.gate.0 below fault.position fault.value at)
  where
    reads : Reads net fault.gate.0 fault.position pin.0
    reads = subst (λ (n : Net). Reads n fault.gate.0 fault.position pin.0) p.0 pin.1

    at : fault.position < length (drivers_of net fault.gate.0)
    at = slice_get_within (drivers_of net fault.gate.0) fault.position pin.0 reads

    there : (o : Option Node) → node_at after fault.gate.0 ≡ o → fault.gate.0 < length after.nodes
    there None is = let none : ◌≡◌ {A = Option ℕ} None (Some pin.0) = sym (ap (λ o. slice_get (drivers_in o) fault.position) is) ∙ pin.1 in cc
    there (Some n) is = live_below after.nodes fault.gate.0 n is

    below : fault.gate.0 < length after.nodes
    below = there (node_at after fault.gate.0) refl

-- SWEEPS
abbrev pub Pays : Net → Net → Type 0
Pays net after = (after ≡ net) ⊎ (wire_count after < wire_count net)

pub pays_more : (net mid after : Net) (depth gates : ℕ) → Pays net mid → HasPassed mid after depth gates true → Pays net after
pays_more net mid after depth gates (inl same) p = let w : wire_count mid ≡ wire_count net = ap wire_count same in inr (omega (arith, w, p))
pays_more net mid after depth gates (inr lt) p = inr (omega (arith, lt, p))

pub swept_last : (net mid after : Net) (depth : ℕ) → Pays net mid → HasPassed mid after depth (length after.nodes) false → HasSwept net after depth
swept_last net mid after depth pays p = record { swept = pass_sweeps mid after depth p; pays = subst (λ (n : Net). Pays net n) (sym p.0) pays }
