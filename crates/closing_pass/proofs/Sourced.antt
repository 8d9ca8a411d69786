-- A tidy net with a pin has a source, so what closes its faults can be recorded.
use Rattle.std.proofs.Common.{◌≡◌, ◌≢◌, ℕ, zero, suc, ◌+◌, ◌<◌, ◌≤◌, Bool, true, false, not, Option, Some, None, List, [], ◌∷◌, length, map, refl, sym, ◌∙◌, ap, arith}
use Rattle.std.specs.Prelude.{nat_eq, slice_get}
use Rattle.std.proofs.lemmas.Bool.{and_from}
use Rattle.rm_base.specs.declared.numbers.Fault.{Fault}
use Rattle.gate_net.specs.declared.Kind.{Kind}
use Rattle.gate_net.specs.declared.Kind.TheVariants.{Source, Zero, One, And, Or, Not, Xor}
use Rattle.gate_net.specs.Faults.{faults_of}
use Rattle.gate_net.specs.Net.{Net, Node, drivers_in, drivers_of, kind_in, node_at, Reads, IsGate, IsGateKind, IsRanked, IsWellFormed, source_count}
use Rattle.std.proofs.lemmas.Option.{slice_get-map}
use Rattle.std.specs.Option.{option_map}
use Rattle.gate_net.specs.Values.{HasPin}
use Rattle.podem.specs.declared.verdict.Verdict.{Verdict}
use Rattle.podem.specs.declared.verdict.Verdict.TheVariants.{Detected, Refuted, Spent}
use Rattle.refutation.specs.Branches.{Branch, line, split, clash, quiet, here, untried, items_of}
use Rattle.wire_edit.specs.declared.steps.Step.TheVariants.{NoPins, Dead}
use Rattle.wire_edit.specs.Order.{IsTidy, node}
use Rattle.wire_edit.specs.Tests.{gate_control, is_gate, is_in_use, is_junction, is_present, family_in}
use Rattle.gate_net.specs.Meaning.{is_gate_family}
use Rattle.wire_edit.specs.Laws.{TidyMeans}
use Rattle.wire_edit.specs.Removals.{TidyReadsNone}
use Rattle.closing_pass.specs.Recording.{AreRecordable, IsRecordable}
use Rattle.closing_pass.specs.Reports.{AreClosed, IsClosing, fault_in}
use Rattle.closing_pass.proofs.PinFaults.{pins_all}
use Rattle.closing_pass.proofs.Standing.{by_recursion, from_recursion}
use Rattle.wire_edit.proofs.Public.{reader_gate}

-- a node that is no constant is a gate, where there is no source
gate_of : (net : Net) → IsWellFormed net → source_count net ≡ 0 → (x : ℕ) → 1 < x → node_at net x ≢ None → IsGate net x
gate_of net well none x lt there = at (node_at net x) refl
  where
    kinds : (kind : Kind) (ds : List ℕ) → node_at net x ≡ Some (record { kind = kind; drivers = ds }) → IsGate net x
    kinds Source ds is = let s : (2 ≤ x) × (x < 2 + source_count net) = well.sources.only x (ds, is) in absurd (omega (arith, s.0, s.1, none))
    kinds Zero ds is = let e : x ≡ 0 = well.only_zero x (ds, is) in absurd (omega (arith, e, lt))
    kinds One ds is = let e : x ≡ 1 = well.only_one x (ds, is) in absurd (omega (arith, e, lt))
    kinds And ds is = (And, ((ds, is), tt))
    kinds Or ds is = (Or, ((ds, is), tt))
    kinds Not ds is = (Not, ((ds, is), tt))
    kinds Xor ds is = (Xor, ((ds, is), tt))

    at : (o : Option Node) → node_at net x ≡ o → IsGate net x
    at None is = absurd (there is)
    at (Some n) is = kinds n.kind n.drivers is

-- a gate of a tidy net has a pin
has_pin : TidyMeans → (net : Net) → IsWellFormed net → IsTidy net → (y : ℕ) → IsGate net y → (x : ℕ) × Reads net y 0 x
has_pin means net well tidy y (kind, ((ds, is), gk)) = at kind ds is gk
  where
    drivers : (k : Kind) (ds : List ℕ) → node_at net y ≡ Some (record { kind = k; drivers = ds }) → drivers_of net y ≡ ds
    drivers k ds is = ap drivers_in is

    none : (junction : is_junction net y ≡ true) → is_gate net y ≡ true → drivers_of net y ≡ [] → (u : Bool) → is_in_use net y ≡ u → ⊥
    none junction gate empty true used = (means net).0 tidy (NoPins (node y)) tt (and_from (is_junction net y) _ junction (and_from (is_in_use net y) _ used (ap (λ (xs : List ℕ). nat_eq (length xs) 0) empty)))
    none junction gate empty false used = (means net).0 tidy (Dead (node y)) tt (and_from (is_gate net y) _ gate (ap not used))

    first : (k : Kind) (ds : List ℕ) → node_at net y ≡ Some (record { kind = k; drivers = ds }) → is_junction net y ≡ true → is_gate net y ≡ true → (x : ℕ) × Reads net y 0 x
    first k [] is junction gate = absurd (none junction gate (drivers k [] is) (is_in_use net y) refl)
    first k (d ∷ ds) is junction gate = (d, ap (λ (xs : List ℕ). slice_get xs 0) (drivers k (d ∷ ds) is))

    junction_is : (o : Option Node) → node_at net y ≡ o → is_junction net y ≡ is_present (gate_control (kind_in o))
    junction_is o is = ap (λ (o : Option Node). is_present (gate_control (kind_in o))) is

    gate_is : (o : Option Node) → node_at net y ≡ o → is_gate net y ≡ is_gate_family (family_in (kind_in o))
    gate_is o is = ap (λ (o : Option Node). is_gate_family (family_in (kind_in o))) is

    at : (k : Kind) (ds : List ℕ) → node_at net y ≡ Some (record { kind = k; drivers = ds }) → IsGateKind k → (x : ℕ) × Reads net y 0 x
    at Source ds is gk = absurd gk
    at Zero ds is gk = absurd gk
    at One ds is gk = absurd gk
    at And ds is gk = first And ds is (junction_is _ is) (gate_is _ is)
    at Or ds is gk = first Or ds is (junction_is _ is) (gate_is _ is)
    at Not ds is gk = let d : (d : ℕ) × (drivers_of net y ≡ d ∷ []) = well.nots_have_one y (ds, is) in (d.0, ap (λ (xs : List ℕ). slice_get xs 0) d.1)
    at Xor ds is gk = let d : (d e : ℕ) × (drivers_of net y ≡ d ∷ e ∷ []) = well.xors_have_two y (ds, is) in (d.0, ap (λ (xs : List ℕ). slice_get xs 0) d.2)

-- so without sources there would be gates of ever lower ranks
no_gates : TidyMeans → TidyReadsNone → (net : Net) → IsWellFormed net → IsTidy net → source_count net ≡ 0 → (rank : ℕ → ℕ) → IsRanked net rank → (n y : ℕ) → rank y < n → IsGate net y → ⊥
no_gates means reads net well tidy none rank ranked zero y lt g = absurd (omega (arith, lt))
no_gates means reads net well tidy none rank ranked (suc n) y lt g =
    let x : (x : ℕ) × Reads net y 0 x = has_pin means net well tidy y g in
    let lower : rank x.0 < rank y = ranked y 0 x.0 x.1 in
    no_gates means reads net well tidy none rank ranked n x.0 (omega (arith, lt, lower)) (gate_of net well none x.0 (reads net well tidy y 0 x.0 x.1) (well.drivers_live y 0 x.0 x.1))

has_source : TidyMeans → TidyReadsNone → (net : Net) (fault : Fault) → IsWellFormed net → IsTidy net → HasPin net fault → source_count net ≢ 0
has_source means reads net fault well tidy pin none =
    no_gates means reads net well tidy none well.acyclic.0 well.acyclic.1 (suc (well.acyclic.0 fault.gate.0)) fault.gate.0 (omega arith) (reader_gate net well fault.gate.0 fault.position pin.0 pin.1)

pub sourced : TidyMeans → TidyReadsNone → (net : Net) (j : ℕ) (fault : Fault) → IsWellFormed net → IsTidy net → slice_get (faults_of net) j ≡ Some fault → source_count net ≢ 0
sourced means reads net j fault well tidy is = has_source means reads net fault well tidy (from_recursion (HasPin net) (faults_of net) (pins_all net) j fault is)

has_item : (t : Branch) → items_of t ≢ []
has_item (line l t) e = absurd (cc)
has_item (split x first t u) e = absurd (cc)
has_item (clash x) e = absurd (cc)
has_item quiet e = absurd (cc)
has_item here e = absurd (cc)
has_item untried e = absurd (cc)

recordable : TidyMeans → TidyReadsNone → (net : Net) (budget : ℕ) (fault : Fault) (v : Verdict) → IsWellFormed net → IsTidy net → HasPin net fault → IsClosing net budget fault v → IsRecordable (fault, v)
recordable means reads net budget fault (Detected vector) well tidy pin test = λ e. has_source means reads net fault well tidy pin (sym test.size ∙ ap length e)
recordable means reads net budget fault (Refuted tree) well tidy pin closing = closing
recordable means reads net budget fault (Spent tree) well tidy pin closing = λ e. has_item closing.0.tree (sym closing.0.same ∙ e)

pub closed_recordable : TidyMeans → TidyReadsNone → (net : Net) (budget : ℕ) (verdicts : List (Fault × Verdict)) → IsWellFormed net → IsTidy net → AreClosed net budget verdicts → AreRecordable verdicts
closed_recordable means reads net budget verdicts well tidy closed =
    by_recursion IsRecordable verdicts (λ k entry is. recordable means reads net budget entry.0 entry.1 well tidy (pin k entry is) (from_recursion (λ e. IsClosing net budget e.0 e.1) verdicts closed.closing k entry is))
  where
    pin : (k : ℕ) (entry : Fault × Verdict) → slice_get verdicts k ≡ Some entry → HasPin net entry.0
    pin k entry is =
        let there : slice_get (map fault_in verdicts) k ≡ Some entry.0 = slice_get-map fault_in verdicts k ∙ ap (option_map fault_in) is in
        from_recursion (HasPin net) (faults_of net) (pins_all net) k entry.0 (rw closed.faults at there)
