-- Main steps keep a gated net a gated net of the same two nets.
use Rattle.std.proofs.Common.{Bool, List, None, Option, Some, [], ap, arith, false, inl, inr, length, map, not, refl, subst, suc, sym, true, zero, ℕ, ◌+◌, ◌<◌, ◌∙◌, ◌∷◌, ◌≡◌, ◌≢◌, ◌≤◌}
use Rattle.std.specs.Prelude.{if◌then◌else◌, nat_lt, option_and_then, slice_get, slice_set}
use Rattle.std.proofs.lemmas.Bool.{cases_eq, cases_lt, ltb-true}
use Rattle.std.proofs.lemmas.Bool.Decides.{eqb_tells}
use Rattle.gate_net.specs.Edits.{constant_node, node_redirected, redirected, with_drivers, with_node, with_readers_moved, without}
use Rattle.gate_net.specs.Net.{IsGate, IsGateKind, IsWellFormed, Net, Node, Reads, before_dead, drivers_in, drivers_of, flatten_option, kind_in, node_at, plain_node, source_count, trimmed}
use Rattle.gate_net.specs.Values.{same_bool}
use Rattle.gate_net.specs.declared.Kind.{Kind}
use Rattle.gate_net.specs.declared.Kind.TheVariants.{Not, One, Source, Zero}
use Rattle.gate_net.specs.declared.Family.{Family}
use Rattle.gate_net.specs.declared.Family.TheVariants.{Constant, Input, Junction, Parity}
use Rattle.gate_net.proofs.Public.{drivers_redirected, node_at-moved, redirect_cases, redriven_node, with_node-other, with_node-there}
use Rattle.wire_edit.specs.Steps.{gate_of_step}
use Rattle.joined_nets.specs.Growing.{and_gate}
use Rattle.joined_nets.specs.Joined.{both, first_gate}
use Rattle.journal_text.specs.Runs.{AcceptedTo, steps_of}
use Rattle.journal_text.specs.declared.record.Record.{Record}
use Rattle.journal_text.specs.declared.record.Record.TheVariants as kept
use Rattle.rm_base.proofs.Public.{and_first, and_second, set_cases, set_other, some_is}
use Rattle.rm_base.specs.declared.numbers.NodeId.{NodeId}
use Rattle.wire_edit.specs.Changes.{changed, fix, readers, remove, to_not, without_node}
use Rattle.wire_edit.specs.Laws.{StepsKeepForm, StepsKeepSources}
use Rattle.wire_edit.specs.Removals.{IsRemoval}
use Rattle.wire_edit.specs.Steps.{Applies, constant_change, empty_node, or_zero, other_driver, same_change, stepped}
use Rattle.wire_edit.specs.Tests.{control_of, constant_at, driver_at, family_of, is_gate, is_in_use, is_junction, is_not, is_xor, other_position, reads_several, second_driver}
use Rattle.wire_edit.specs.declared.steps.Step.{Step}
use Rattle.wire_edit.specs.declared.steps.Step.TheVariants.{Add, Const, Dead, Fix, NewNot, NoPins, OnePin, Same, Twice, Twin}
use Rattle.wire_edit.proofs.Public.{gate_is, junction_gate, not_gate, several_gate}
use Rattle.care_opt.specs.Gated.{care_node, gated_net, numbers_from}
use Rattle.care_opt.specs.Inner.Standing.{CanGate, IsGatedOver, IsNoMain}
use Rattle.care_opt.specs.MainSteps.{AreMainSteps, IsMainStep}

-- what was taken out of a list was in it
without_cases : (ds : List ℕ) (p q x : ℕ) → slice_get (without ds p) q ≡ Some x → (r : ℕ) × (slice_get ds r ≡ Some x)
without_cases [] p q x e = (q, e)
without_cases (d ∷ ds) zero q x e = (suc q, e)
without_cases (d ∷ ds) (suc p) zero x e = (0, e)
without_cases (d ∷ ds) (suc p) (suc q) x e = let rest = without_cases ds p q x e in (suc rest.0, rest.1)

flatten-trimmed : (os : List (Option Node)) (x : ℕ) → flatten_option (slice_get (trimmed os) x) ≡ flatten_option (slice_get os x)
flatten-trimmed [] x = refl
flatten-trimmed (o ∷ os) x = by_head o (trimmed os) x (λ y. flatten-trimmed os y)
  where
    by_head : (o : Option Node) (ts : List (Option Node)) (x : ℕ) → ((y : ℕ) → flatten_option (slice_get ts y) ≡ flatten_option (slice_get os y)) → flatten_option (slice_get (before_dead o ts) x) ≡ flatten_option (slice_get (o ∷ os) x)
    by_head None [] zero h = refl
    by_head None [] (suc x) h = h x
    by_head None (t ∷ ts) zero h = refl
    by_head None (t ∷ ts) (suc x) h = h x
    by_head (Some n) ts zero h = refl
    by_head (Some n) ts (suc x) h = h x

gone_other : (net : Net) (g y : ℕ) → y ≢ g → node_at (without_node net g) y ≡ node_at net y
gone_other net g y ne = flatten-trimmed (slice_set net.nodes g None) y ∙ ap (λ (o : Option (Option Node)). flatten_option o) (set_other net.nodes g y None ne)

gone_there : (net : Net) (g : ℕ) → node_at (without_node net g) g ≡ None
gone_there net g = flatten-trimmed (slice_set net.nodes g None) g ∙ set_none net.nodes g
  where
    set_none : (os : List (Option Node)) (x : ℕ) → flatten_option (slice_get (slice_set os x None) x) ≡ None
    set_none [] x = refl
    set_none (o ∷ os) zero = refl
    set_none (o ∷ os) (suc x) = set_none os x

not_moved : (g to x : ℕ) → x ≢ g → redirected g to x ≡ x
not_moved g to x ne = elim (eqb_tells x g) [ inl t ↦ absurd (ne t.1) | inr t ↦ rw t.0 refl ]

moved_low : (g to x b : ℕ) → x < b → to < g → g < b → redirected g to x < b
moved_low g to x b lt less more = elim (eqb_tells x g) [ inl t ↦ rw t.0 (omega (arith, less, more)) | inr t ↦ rw t.0 lt ]

none_moved : (g to : ℕ) (ds : List ℕ) → ((p x : ℕ) → slice_get ds p ≡ Some x → x ≢ g) → map (redirected g to) ds ≡ ds
none_moved g to [] h = refl
none_moved g to (d ∷ ds) h = rw (not_moved g to d (h 0 d refl), none_moved g to ds (λ p x e. h (suc p) x e)) refl

node_stays : (g to : ℕ) (o : Option Node) → ((p x : ℕ) → slice_get (drivers_in o) p ≡ Some x → x ≢ g) → node_redirected g to o ≡ o
node_stays g to None h = refl
node_stays g to (Some n) h = ap (λ (ds : List ℕ). let m : Node = record n { drivers = ds } in Some m) (none_moved g to n.drivers h)

-- numbers from a later one on don't move
numbers_stay : (g to next : ℕ) (xs : List ℕ) → g < next → map (redirected g to) (numbers_from next xs) ≡ numbers_from next xs
numbers_stay g to next [] lt = refl
numbers_stay g to next (x ∷ xs) lt = rw (not_moved g to next (λ e. omega (arith, e, lt)), numbers_stay g to (suc next) xs (omega (arith, lt))) refl

none_reads : (p x : ℕ) → slice_get {X = ℕ} [] p ≡ Some x → ⊥
none_reads p x e = cc

dead_reads : (net : Net) (y p x : ℕ) → node_at net y ≡ None → Reads net y p x → ⊥
dead_reads net y p x dead reads = none_reads p x (ap (λ (o : Option Node). slice_get (drivers_in o) p) (sym dead) ∙ reads)

constant_low : (v : Bool) → constant_node v < 2
constant_low true = omega arith
constant_low false = omega arith

-- a gate has a number behind the sources
pub gate_high : (net : Net) (x : ℕ) → IsWellFormed net → IsGate net x → first_gate net ≤ x
gate_high net x formed (kind, ((ds, is), gate)) = elim (cases_lt x (first_gate net)) [ inl lt ↦ absurd (low x is lt) | inr le ↦ le ]
  where
    no_plain : (k : Kind) (y : ℕ) → (IsGateKind k → ⊥) → node_at net y ≡ Some (record { kind = kind; drivers = ds }) → node_at net y ≡ plain_node k → ⊥
    no_plain k y not_one is other = not_one (subst (λ (j : Kind). IsGateKind j) (some_is kind k (ap (λ (o : Option Node). kind_in o) (sym is ∙ other))) gate)

    low : (y : ℕ) → node_at net y ≡ Some (record { kind = kind; drivers = ds }) → y < first_gate net → ⊥
    low zero is lt = no_plain Zero 0 (λ g. g) is formed.constants.zero_is
    low (suc zero) is lt = no_plain One 1 (λ g. g) is formed.constants.one_is
    low (suc (suc k)) is lt =
        let same : 2 + k ≡ suc (suc k) = omega arith in
        no_plain Source (suc (suc k)) (λ g. g) is (subst (λ (i : ℕ). node_at net i ≡ plain_node Source) same (formed.sources.first k (omega (arith, lt))))

-- the gate of a removal is one
gate_of : (net : Net) (step : Step) → IsRemoval step → Applies net step → is_gate net (gate_of_step step).0 ≡ true
gate_of net (Add gate node) r a = absurd r
gate_of net (NewNot node) r a = absurd r
gate_of net (Fix gate position value) r a = a.0
gate_of net (Const gate position) r a = and_first (is_gate net gate.0) _ a
gate_of net (Same gate position) r a = several_gate net gate.0 (and_first (reads_several net gate.0) _ a)
gate_of net (NoPins gate) r a = junction_gate net gate.0 (and_first (is_junction net gate.0) _ a)
gate_of net (OnePin gate) r a = junction_gate net gate.0 (and_first (is_junction net gate.0) _ a)
gate_of net (Twice gate) r a = not_gate net gate.0 (and_first (is_not net gate.0) _ a)
gate_of net (Twin gate other) r a = not_gate net gate.0 (and_first (is_not net gate.0) _ a)
gate_of net (Dead gate) r a = and_first (is_gate net gate.0) _ a

twin_low : (net : Net) (gate other : NodeId) → Applies net (Twin gate other) → other.0 < gate.0
twin_low net gate other a =
    let b = and_second (is_not net gate.0) _ a in
    let c = and_second (is_in_use net gate.0) _ b in
    let d = and_second (is_not net other.0) _ c in
    ltb-true other.0 gate.0 (and_first (nat_lt other.0 gate.0) _ d)

module _ (one two : Net) (can : CanGate one two) where
  abbrev b : ℕ
  b = length one.nodes

  abbrev e : ℕ
  e = length (both one two)

  module _ (net : Net) (over : IsGatedOver one two net) (g : ℕ) (lt : g < b) (high : first_gate one ≤ g) where
    main_apart : (x : ℕ) → IsNoMain one x → x ≢ g
    main_apart x (inl low) is = omega (arith, low, is, high)
    main_apart x (inr up) is = omega (arith, up, is, lt)

    node_over : (n m : Node) → node_at net g ≡ Some n → ((p x : ℕ) → slice_get m.drivers p ≡ Some x → x < g) → IsWellFormed (with_node net g m) → source_count (with_node net g m) ≡ source_count net → IsGatedOver one two (with_node net g m)
    node_over n m is lower formed sources = record {
      formed = formed;
      sources = sources ∙ over.sources;
      order = ordered;
      moved = over.moved;
      plain = over.plain;
      low = over.low;
      theirs = λ y le more. with_node-other net g m y (λ i. omega (arith, i, le, lt)) ∙ over.theirs y le more;
      gates = λ k x at. let late = can.later in with_node-other net g m (e + k) (λ i. omega (arith, i, late, lt)) ∙ over.gates k x at;
      last = λ y le. let late = can.later in with_node-other net g m y (λ i. omega (arith, i, le, late, lt)) ∙ over.last y le;
      observed = over.observed;
    }
      where
        ordered : (y p x : ℕ) → y < b → Reads (with_node net g m) y p x → x < y
        ordered y p x less reads = elim (cases_eq y g) [
          | inl same ↦
              let here : slice_get m.drivers p ≡ Some x = ap (λ (o : Option Node). slice_get (drivers_in o) p) (sym (ap (λ (i : ℕ). node_at (with_node net g m) i) same ∙ with_node-there net g m n is)) ∙ reads in
              let under = lower p x here in omega (arith, under, same)
          | inr other ↦ over.order y p x less (ap (λ (o : Option Node). slice_get (drivers_in o) p) (sym (with_node-other net g m y other)) ∙ reads)
        ]

    redriven_over : (n : Node) (ds : List ℕ) → node_at net g ≡ Some n → ((p x : ℕ) → slice_get ds p ≡ Some x → x < g) → IsWellFormed (with_drivers net g ds) → source_count (with_drivers net g ds) ≡ source_count net → IsGatedOver one two (with_drivers net g ds)
    redriven_over n ds is lower formed sources =
        let same : with_drivers net g ds ≡ with_node net g (record n { drivers = ds }) = redriven_node net g ds n is in
        subst (λ (w : Net). IsGatedOver one two w) (sym same)
        (node_over n (record n { drivers = ds }) is lower (subst (λ (w : Net). IsWellFormed w) same formed) (subst (λ (w : Net). source_count w ≡ source_count net) same sources))

    moved_over : (to : ℕ) → to < g → IsWellFormed (with_readers_moved net g to) → source_count (with_readers_moved net g to) ≡ source_count net → IsGatedOver one two (with_readers_moved net g to)
    moved_over to under formed sources = record {
      formed = formed;
      sources = sources ∙ over.sources;
      order = ordered;
      moved = λ (x : ℕ). redirected g to (over.moved x);
      plain = λ x no. ap (λ (i : ℕ). redirected g to i) (over.plain x no) ∙ not_moved g to x (main_apart x no);
      low = λ k x at. moved_low g to (over.moved x) b (over.low k x at) under lt;
      theirs = λ y le more. node_at-moved net g to y ∙ (ap (λ (o : Option Node). node_redirected g to o) (over.theirs y le more) ∙ node_stays g to (node_at (gated_net one two) y) (λ p x reads. main_apart x (can.apart y p x le more reads).0));
      gates = λ k x at. node_at-moved net g to (e + k) ∙ (ap (λ (o : Option Node). node_redirected g to o) (over.gates k x at) ∙ ap (λ (i : ℕ). Some (and_gate (redirected g to (over.moved x)) i)) (not_moved g to (care_node one two) (main_apart (care_node one two) can.care)));
      last = λ y le. node_at-moved net g to y ∙ ap (λ (o : Option Node). node_redirected g to o) (over.last y le);
      observed = ap (λ (xs : List ℕ). map (redirected g to) xs) over.observed ∙ numbers_stay g to e one.observed (let late = can.later in omega (arith, late, lt));
    }
      where
        ordered : (y p x : ℕ) → y < b → Reads (with_readers_moved net g to) y p x → x < y
        ordered y p x less reads =
            let now : slice_get (map (redirected g to) (drivers_of net y)) p ≡ Some x = ap (λ (ds : List ℕ). slice_get ds p) (sym (ap (λ (o : Option Node). drivers_in o) (node_at-moved net g to y) ∙ drivers_redirected g to (node_at net y))) ∙ reads in
            elim (redirect_cases g to (drivers_of net y) p x now) [
              | inl old ↦ over.order y p x less old
              | inr new ↦ let is = new.0 in let above = over.order y p g less new.1 in omega (arith, is, above, under)
            ]

    retired_over : IsWellFormed (without_node net g) → source_count (without_node net g) ≡ source_count net → IsGatedOver one two (without_node net g)
    retired_over formed sources = record {
      formed = formed;
      sources = sources ∙ over.sources;
      order = λ y p x less reads. elim (cases_eq y g) [
        | inl same ↦ absurd (dead_reads (without_node net g) y p x (ap (λ (i : ℕ). node_at (without_node net g) i) same ∙ gone_there net g) reads)
        | inr other ↦ over.order y p x less (ap (λ (o : Option Node). slice_get (drivers_in o) p) (sym (gone_other net g y other)) ∙ reads)
      ];
      moved = over.moved;
      plain = over.plain;
      low = over.low;
      theirs = λ y le more. gone_other net g y (λ i. omega (arith, i, le, lt)) ∙ over.theirs y le more;
      gates = λ k x at. let late = can.later in gone_other net g (e + k) (λ i. omega (arith, i, late, lt)) ∙ over.gates k x at;
      last = λ y le. let late = can.later in gone_other net g y (λ i. omega (arith, i, le, late, lt)) ∙ over.last y le;
      observed = over.observed;
    }

  module _ (net : Net) (over : IsGatedOver one two net) where
    driver_low : (g p : ℕ) → g < b → 0 < g → or_zero (driver_at net g p) < g
    driver_low g p lt some = by_driver (driver_at net g p) refl
      where
        by_driver : (o : Option ℕ) → driver_at net g p ≡ o → or_zero o < g
        by_driver None is = some
        by_driver (Some d) is = over.order g p d lt is

    second_low : (g : ℕ) → g < b → 0 < g → or_zero (second_driver net g) < g
    second_low g lt some = by_driver (driver_at net g 0) refl
      where
        by_second : (d : ℕ) → d < g → (o : Option ℕ) → driver_at net d 0 ≡ o → or_zero o < g
        by_second d less None is = some
        by_second d less (Some x) is = let under = over.order d 0 x (omega (arith, less, lt)) is in omega (arith, under, less)

        by_driver : (o : Option ℕ) → driver_at net g 0 ≡ o → or_zero (option_and_then (λ (inner : ℕ). driver_at net inner 0) o) < g
        by_driver None is = some
        by_driver (Some d) is = by_second d (over.order g 0 d lt is) (driver_at net d 0) refl

    module _ (form : StepsKeepForm) (keep : StepsKeepSources) where
      abbrev Kept : Net → Type 0
      Kept after = IsWellFormed after × (source_count after ≡ source_count net)

      module _ (g : ℕ) (lt : g < b) (gate : IsGate net g) where
        high : first_gate one ≤ g
        high = let up = gate_high net g over.formed gate in let same = over.sources in omega (arith, up, same)

        removed : (p : ℕ) → Kept (changed net (remove g p)) → IsGatedOver one two (changed net (remove g p))
        removed p k = redriven_over net over g lt high (record { kind = gate.0; drivers = gate.1.0.0 }) (without (drivers_of net g) p) gate.1.0.1 (λ q x at. let was = without_cases (drivers_of net g) p q x at in over.order g was.0 x lt was.1) k.0 k.1

        turned_over : (p : ℕ) → Kept (changed net (to_not g p)) → IsGatedOver one two (changed net (to_not g p))
        turned_over p k =
            node_over net over g lt high (record { kind = gate.0; drivers = gate.1.0.0 }) (record { kind = Not; drivers = without (drivers_of net g) p }) gate.1.0.1
            (λ q x at. let was = without_cases (drivers_of net g) p q x at in over.order g was.0 x lt was.1) k.0 k.1

        to_driver : (p : ℕ) → Kept (changed net (readers g (or_zero (driver_at net g p)))) → IsGatedOver one two (changed net (readers g (or_zero (driver_at net g p))))
        to_driver p k = moved_over net over g lt high (or_zero (driver_at net g p)) (driver_low g p lt (let up = high in omega (arith, up))) k.0 k.1

        fixed_over : (p : ℕ) (value : Bool) → Kept (changed net (fix g p value)) → IsGatedOver one two (changed net (fix g p value))
        fixed_over p value k =
            redriven_over net over g lt high (record { kind = gate.0; drivers = gate.1.0.0 }) (slice_set (drivers_of net g) p (constant_node value)) gate.1.0.1
            (λ q x at. elim (set_cases (drivers_of net g) p q (constant_node value) x at) [
              | inl is ↦ let small = constant_low value in let up = high in omega (arith, is, small, up)
              | inr old ↦ over.order g q x lt old
            ]) k.0 k.1

        to_constant : (value : Bool) → Kept (changed net (readers g (constant_node value))) → IsGatedOver one two (changed net (readers g (constant_node value)))
        to_constant value k = moved_over net over g lt high (constant_node value) (let small = constant_low value in let up = high in omega (arith, small, up)) k.0 k.1

        const_over : (p : ℕ) (f : Family) (value : Option Bool) → Kept (changed net (constant_change g p (other_driver net g p) f value)) → IsGatedOver one two (changed net (constant_change g p (other_driver net g p) f value))
        const_over p f None k = removed p k
        const_over p Input (Some v) k = removed p k
        const_over p (Constant c) (Some v) k = removed p k
        const_over p (Parity true) (Some v) k = to_constant (not v) k
        const_over p (Parity false) (Some true) k = turned_over p k
        const_over p (Parity false) (Some false) k = to_driver (other_position p) k
        const_over p (Junction c) (Some v) k = by_test (same_bool v c) k
          where
            by_test : (t : Bool) → Kept (changed net (if t then readers g (constant_node c) else remove g p)) → IsGatedOver one two (changed net (if t then readers g (constant_node c) else remove g p))
            by_test true k = to_constant c k
            by_test false k = removed p k

        same_over : (p : ℕ) (xor : Bool) → Kept (changed net (same_change g p xor)) → IsGatedOver one two (changed net (same_change g p xor))
        same_over p true k = to_constant false k
        same_over p false k = removed p k

        empty_over : (control : Option Bool) → Kept (changed net (readers g (empty_node control))) → IsGatedOver one two (changed net (readers g (empty_node control)))
        empty_over None k = moved_over net over g lt high 0 (let up = high in omega (arith, up)) k.0 k.1
        empty_over (Some c) k = to_constant (not c) k

      step_over : (step : Step) → Applies net step → IsMainStep b step → IsGatedOver one two (stepped net step)
      step_over step a main = by_step step main.0 main.1 a (gate_is net (gate_of_step step).0 (gate_of net step main.1 a)) (form net step over.formed a, keep net step over.formed a)
        where
          by_step : (step : Step) → (gate_of_step step).0 < b → IsRemoval step → Applies net step → IsGate net (gate_of_step step).0 → Kept (stepped net step) → IsGatedOver one two (stepped net step)
          by_step (Add gate node) lt r a g k = absurd r
          by_step (NewNot node) lt r a g k = absurd r
          by_step (Fix gate position value) lt r a g k = fixed_over gate.0 lt g position value k
          by_step (Const gate position) lt r a g k = const_over gate.0 lt g position (family_of net gate.0) (constant_at net gate.0 position) k
          by_step (Same gate position) lt r a g k = same_over gate.0 lt g position (is_xor net gate.0) k
          by_step (NoPins gate) lt r a g k = empty_over gate.0 lt g (control_of net gate.0) k
          by_step (OnePin gate) lt r a g k = to_driver gate.0 lt g 0 k
          by_step (Twice gate) lt r a g k = moved_over net over gate.0 lt (high gate.0 lt g) (or_zero (second_driver net gate.0)) (second_low gate.0 lt (let up = high gate.0 lt g in omega (arith, up))) k.0 k.1
          by_step (Twin gate other) lt r a g k = moved_over net over gate.0 lt (high gate.0 lt g) other.0 (twin_low net gate other a) k.0 k.1
          by_step (Dead gate) lt r a g k = retired_over net over gate.0 lt (high gate.0 lt g) k.0 k.1

  -- main steps one after another
  pub run_over : StepsKeepForm → StepsKeepSources → (records : List Record) (net after : Net) → IsGatedOver one two net → AcceptedTo net records after → AreMainSteps b (steps_of records) → IsGatedOver one two after
  run_over form keep [] net after over accepted main = subst (λ (n : Net). IsGatedOver one two n) (sym accepted) over
  run_over form keep (kept.Step step tree ∷ records) net after over accepted main = run_over form keep records (stepped net step) after (step_over net over form keep step accepted.0.applies main.0) accepted.1 main.1
  run_over form keep (kept.Hit fault vector ∷ records) net after over accepted main = absurd accepted
  run_over form keep (kept.Spent fault tree ∷ records) net after over accepted main = absurd accepted
