-- Going on with the main gates inside a trial.
use Rattle.std.proofs.Common.{List, Option, None, Some, [], ap, arith, false, inl, inr, not, refl, subst, suc, sym, true, ℕ, ◌++◌, ◌+◌, ◌<◌, ◌∙◌, ◌∷◌, ◌≡◌, ◌≤◌, Bool, zero}
use Rattle.std.specs.Prelude.{Ok, IfSome, IsNone, nat_lt, option_and_then}
use Rattle.std.proofs.lemmas.Bool.{cases_lt, lt-ltb}
use Rattle.gate_graph.specs.Circuit.{net_of, wiring}
use Rattle.gate_net.specs.Edits.{constant_node}
use Rattle.gate_net.specs.Net.{IsGate, IsGateKind, IsWellFormed, Net, Node, kind_in, node_at}
use Rattle.gate_net.specs.declared.Kind.{Kind}
use Rattle.gate_net.specs.declared.Kind.TheVariants.{One, Source, Zero}
use Rattle.wire_edit.specs.Steps.{gate_of_step}
use Rattle.journal_text.specs.Accepted.{IsAcceptedStep, IsJustified, MayGrow}
use Rattle.journal_text.specs.Joining.{RunsJoin}
use Rattle.journal_text.specs.Runs.{counted, made_by, steps_of}
use Rattle.journal_text.specs.declared.record.Record.{Record}
use Rattle.journal_text.specs.declared.record.Record.TheVariants as kept
use Rattle.rm_base.proofs.Public.{both_and}
use Rattle.rm_base.specs.declared.numbers.Fault.{Fault}
use Rattle.rm_base.specs.declared.settings.Made.{Made}
use Rattle.wire_edit.specs.Laws.{IsTidying, NextApplies, TidyMeans}
use Rattle.wire_edit.specs.Refusals.{IsAnswer, has_room}
use Rattle.wire_edit.specs.Removals.{FreeFixesApply, HasFreePin}
use Rattle.wire_edit.specs.Rooms.{ApplicableIsMade}
use Rattle.wire_edit.specs.Steps.{Applies, stepped}
use Rattle.wire_edit.specs.Tests.{constant_at, constant_of, is_gate, is_in_use, is_present, kind_constant}
use Rattle.wire_edit.specs.Tried.{IsAt, Tidies, Tried, start_of}
use Rattle.wire_edit.specs.Work.{FixesEnd, RoomForFixes, TidyingEnds, work}
use Rattle.wire_edit.specs.declared.refusal.EditRefusal.{EditRefusal}
use Rattle.wire_edit.specs.declared.room.Room.{Room}
use Rattle.wire_edit.specs.declared.steps.Step.{Step}
use Rattle.wire_edit.specs.declared.steps.Step.TheVariants.{Add, Const, Dead, Fix, NewNot, NoPins, OnePin, Same, Twice, Twin}
use Rattle.wire_edit.proofs.Public.{reader_gate, tidying_removes}
use Rattle.care_opt.specs.Gated.{IsMainFault}
use Rattle.care_opt.specs.Inner.Working.{HasTree, SteppedFrom, Works}
use Rattle.care_opt.specs.MainSteps.{AreMainSteps, IsMainTidy, MainStepsTo}
use Rattle.care_opt.proofs.MainOrder.{main_tidy_all, main_tidy_next}

pub none_of : {A : Type 0} (o : Option A) → ((x : A) → o ≡ Some x → ⊥) → o ≡ None
none_of None h = refl
none_of (Some x) h = absurd (h x refl)

pub is_none_of : {A : Type 0} (o : Option A) → ((x : A) → o ≡ Some x → ⊥) → IsNone o
is_none_of None h = refl
is_none_of (Some x) h = absurd (h x refl)

module _ {A : Type 0} (P : A → Type 0) where
  pub told : (o : Option A) (x : A) → o ≡ Some x → IfSome o P → P x
  told o x is h = subst (λ (z : Option A). IfSome z P) is h

-- where nothing was done
pub works_same : (bound : ℕ) (old new : Tried) (made : Made) → net_of new.graph ≡ net_of old.graph → new.first.steps ≡ old.first.steps → Works bound old new made made
works_same bound old new made same first =
    let w : work (net_of new.graph) ≡ work (net_of old.graph) = ap (λ (n : Net). work n) same in
    record { more = []; steps = record { accepted = same; main = tt }; counted = refl; spent = omega (arith, w); less = omega (arith, w); space = first }

main_then : (bound : ℕ) (first second : List Record) → AreMainSteps bound (steps_of first) → AreMainSteps bound (steps_of second) → AreMainSteps bound (steps_of (first ++ second))
main_then bound [] second a b = b
main_then bound (kept.Step step tree ∷ first) second a b = (a.0, main_then bound first second a.1 b)
main_then bound (kept.Hit fault vector ∷ first) second a b = main_then bound first second a b
main_then bound (kept.Spent fault tree ∷ first) second a b = main_then bound first second a b

-- one after another
pub works_then : RunsJoin → (bound : ℕ) (a b c : Tried) (m n k : Made) → Works bound a b m n → Works bound b c n k → Works bound a c m k
works_then join bound a b c m n k g h =
    let s1 = g.spent in
    let s2 = h.spent in
    let l1 = g.less in
    let l2 = h.less in
    record {
      more = g.more ++ h.more;
      steps = record { accepted = join.accepted (net_of a.graph) (net_of b.graph) (net_of c.graph) g.more h.more g.steps.accepted h.steps.accepted; main = main_then bound g.more h.more g.steps.main h.steps.main };
      counted = h.counted ∙ (ap (λ (x : Made). made_by x (steps_of h.more)) g.counted ∙ (sym (join.made m (steps_of g.more) (steps_of h.more)) ∙ ap (λ (l : List Step). made_by m l) (sym (join.steps g.more h.more))));
      spent = omega (arith, s1, s2);
      less = omega (arith, l1, l2);
      space = h.space ∙ g.space;
    }

-- one step
works_one : (bound : ℕ) (old new : Tried) (made after : Made) (record_of : Record) → MainStepsTo bound (net_of old.graph) (record_of ∷ []) (net_of new.graph) → after ≡ made_by made (steps_of (record_of ∷ []))
    → after.fixes + after.local ≡ suc (made.fixes + made.local) → work (net_of new.graph) < work (net_of old.graph) → new.first.steps ≡ old.first.steps → Works bound old new made after
works_one bound old new made after record_of steps is more falls first = record { more = record_of ∷ []; steps = steps; counted = is; spent = omega (arith, more, falls); less = omega (arith, falls); space = first }

justified : (net : Net) (step : Step) → IsTidying step → IsJustified net step [] × MayGrow net step
justified net (Add gate y) t = absurd t
justified net (Fix gate position value) t = absurd t
justified net (NewNot y) t = absurd t
justified net (Const gate position) t = (refl, tt)
justified net (Same gate position) t = (refl, tt)
justified net (NoPins gate) t = (refl, tt)
justified net (OnePin gate) t = (refl, tt)
justified net (Twice gate) t = (refl, tt)
justified net (Twin gate other) t = (refl, tt)
justified net (Dead gate) t = (refl, tt)

counted_local : (made : Made) (step : Step) → IsTidying step → counted made step ≡ record made { local = suc made.local }
counted_local made (Add gate y) t = absurd t
counted_local made (Fix gate position value) t = absurd t
counted_local made (NewNot y) t = absurd t
counted_local made (Const gate position) t = refl
counted_local made (Same gate position) t = refl
counted_local made (NoPins gate) t = refl
counted_local made (OnePin gate) t = refl
counted_local made (Twice gate) t = refl
counted_local made (Twin gate other) t = refl
counted_local made (Dead gate) t = refl

one_local : (made : Made) → (let r : Made = record made { local = made.local + 1 } in r) ≡ (let r : Made = record made { local = suc made.local } in r)
one_local made = let e : made.local + 1 ≡ suc made.local = omega arith in ap (λ (i : ℕ). let r : Made = record made { local = i } in r) e

one_fix : (made : Made) → (let r : Made = record made { fixes = made.fixes + 1 } in r) ≡ (let r : Made = record made { fixes = suc made.fixes } in r)
one_fix made = let e : made.fixes + 1 ≡ suc made.fixes = omega arith in ap (λ (i : ℕ). let r : Made = record made { fixes = i } in r) e

-- a step of the tidying order at a main gate
pub tidied_works : NextApplies → TidyingEnds → (bound : ℕ) (t u : Tried) (made : Made) (step : Step) → IsWellFormed (net_of t.graph) → Tidies t u (Ok (Some step)) → (gate_of_step step).0 < bound → u.first ≡ t.first
    → Works bound t u made (record made { local = made.local + 1 })
tidied_works next ends bound t u made step formed tidies lt first =
    let n : IsTidying step × Applies (net_of t.graph) step = next (net_of t.graph) step tidies.0 in
    let j = justified (net_of t.graph) step n.0 in
    let falls : work (stepped (net_of t.graph) step) < work (net_of t.graph) = ends (net_of t.graph) step formed tidies.0 in
    let accepted : IsAcceptedStep (net_of t.graph) step [] = record { applies = n.1; grows = j.1; justified = j.0 } in
    let w : work (net_of u.graph) ≡ work (stepped (net_of t.graph) step) = ap (λ (n : Net). work n) tidies.1.0 in
    works_one bound t u made (record made { local = made.local + 1 }) (kept.Step step []) (record { accepted = (accepted, tidies.1.0); main = ((lt, tidying_removes step n.0), tt) }) (one_local made ∙ sym (counted_local made step n.0)) (omega arith)
    (omega (arith, falls, w)) (ap (λ (r : Room). r.steps) first)

-- a fix of a main gate's pin that no constant drives
pub fixed_works : FreeFixesApply → FixesEnd → (bound : ℕ) (t u : Tried) (made : Made) (fault : Fault) → IsWellFormed (net_of t.graph) → HasFreePin (net_of t.graph) fault → fault.gate.0 < bound → HasTree (net_of t.graph) fault
    → net_of u.graph ≡ stepped (net_of t.graph) (Fix fault.gate fault.position fault.value) → u.first ≡ t.first → Works bound t u made (record made { fixes = made.fixes + 1 }) × (work (net_of u.graph) < work (net_of t.graph))
fixed_works free ends bound t u made fault formed pin lt tree net first =
    let step : Step = Fix fault.gate fault.position fault.value in
    let applies : Applies (net_of t.graph) step = free (net_of t.graph) fault formed pin in
    let one : nat_lt 1 pin.0 ≡ true = lt-ltb 1 pin.0 pin.1.1 in
    let falls : work (stepped (net_of t.graph) step) + 1 ≤ work (net_of t.graph) = rw one at (ends (net_of t.graph) step pin.0 formed applies pin.1.0) in
    let accepted : IsAcceptedStep (net_of t.graph) step tree.0 = record { applies = applies; grows = tt; justified = tree.1 } in
    let w : work (net_of u.graph) ≡ work (stepped (net_of t.graph) step) = ap (λ (n : Net). work n) net in
    let less : work (net_of u.graph) < work (net_of t.graph) = omega (arith, falls, w) in (
      works_one bound t u made (record made { fixes = made.fixes + 1 }) (kept.Step step tree.0) (record { accepted = (accepted, net); main = ((lt, tt), tt) }) (one_fix made) (omega arith) less (ap (λ (r : Room). r.steps) first),
      less,
    )

-- a step that is taken back leaves the net as it was kept
pub back_same : (t u v : Tried) → start_of t ≡ wiring t.graph → start_of u ≡ start_of t → IsAt v.graph (start_of u) → net_of v.graph ≡ net_of t.graph
back_same t u v start same at = (at t.graph (sym (same ∙ start))).0

gate_there : (net : Net) (x : ℕ) → IsGate net x → is_gate net x ≡ true
gate_there net x (kind, ((ds, is), k)) = by_kind kind is k
  where
    by_kind : (kind : Kind) → node_at net x ≡ Some (record { kind = kind; drivers = ds }) → IsGateKind kind → is_gate net x ≡ true
    by_kind Zero is k = absurd k
    by_kind One is k = absurd k
    by_kind Source is k = absurd k
    by_kind kind is k = rw is refl

below_two : (x : ℕ) → x ≤ 1 → (b : Bool) × (x ≡ constant_node b)
below_two zero le = (false, refl)
below_two (suc zero) le = (true, refl)
below_two (suc (suc n)) le = absurd (omega (arith, le))

constant_is : (net : Net) → IsWellFormed net → (b : Bool) → constant_of net (constant_node b) ≡ Some b
constant_is net formed true = ap (λ (o : Option Node). kind_constant (kind_in o)) formed.constants.one_is
constant_is net formed false = ap (λ (o : Option Node). kind_constant (kind_in o)) formed.constants.zero_is

-- no constant drives a pin of a main gate of a main-tidy net
pub main_free : (bound : ℕ) (net : Net) (fault : Fault) → IsWellFormed net → IsMainTidy bound net → IsMainFault bound net fault → HasFreePin net fault
main_free bound net fault formed is_tidy (lt, (d, reads)) = (d, (reads, high))
  where
    gate : is_gate net fault.gate.0 ≡ true
    gate = gate_there net fault.gate.0 (reader_gate net formed fault.gate.0 fault.position d reads)

    clash : (b : Bool) → d ≡ constant_node b → (u : Bool) → is_in_use net fault.gate.0 ≡ u → ⊥
    clash b is true used =
        let at : constant_at net fault.gate.0 fault.position ≡ Some b = ap (λ (o : Option ℕ). option_and_then (constant_of net) o) (reads ∙ ap (λ (i : ℕ). Some i) is) ∙ constant_is net formed b in
        is_tidy (Const fault.gate fault.position) tt lt (both_and (is_gate net fault.gate.0) _ gate (both_and (is_in_use net fault.gate.0) _ used (ap (λ (o : Option Bool). is_present o) at)))
    clash b is false used = is_tidy (Dead fault.gate) tt lt (both_and (is_gate net fault.gate.0) _ gate (ap not used))

    high : 1 < d
    high = elim (cases_lt 1 d) [ inl more ↦ more | inr le ↦ absurd (let c = below_two d le in clash c.0 c.1 (is_in_use net fault.gate.0) refl) ]

-- a fix isn't refused where work is left
pub fix_refused : FreeFixesApply → ApplicableIsMade → RoomForFixes → (t : Tried) (fault : Fault) (why : EditRefusal) → IsWellFormed (net_of t.graph) → HasFreePin (net_of t.graph) fault → work (net_of t.graph) ≤ t.room.steps
    → IsAnswer (net_of t.graph) t.room (Fix fault.gate fault.position fault.value) (Some why) → ⊥
fix_refused free made law t fault why formed pin le answer =
    let step : Step = Fix fault.gate fault.position fault.value in
    let applies : Applies (net_of t.graph) step = free (net_of t.graph) fault formed pin in
    let r = law (net_of t.graph) step pin.0 0 t.room.steps formed applies pin.1.0 pin.1.1 (omega (arith, le)) in
    let room : has_room (net_of t.graph) t.room step ≡ true = lt-ltb 0 t.room.steps r.0 in
    let bad : Some why ≡ None = made (net_of t.graph) t.room step (Some why) applies room answer in
    absurd cc

-- what a step that was made, or taken back, does
module _ (bound : ℕ) (old kept new : Tried) (made : Made) where
  pub once_made : RunsJoin → NextApplies → TidyingEnds → (step : Step) → IsWellFormed (net_of old.graph) → SteppedFrom old kept new (Some step) → (gate_of_step step).0 < bound
      → Works bound old new made (record made { local = made.local + 1 }) × (work (net_of new.graph) < work (net_of old.graph))
  once_made join next ends step formed s lt =
      let well : IsWellFormed (net_of kept.graph) = subst (λ (n : Net). IsWellFormed n) (sym s.is_kept.net) formed in
      let one = tidied_works next ends bound kept new made step well s.tidies lt s.first in
      let falls : work (stepped (net_of kept.graph) step) < work (net_of kept.graph) = ends (net_of kept.graph) step well s.tidies.0 in
      let w : work (net_of new.graph) ≡ work (stepped (net_of kept.graph) step) = ap (λ (n : Net). work n) s.tidies.1.0 in
      let v : work (net_of kept.graph) ≡ work (net_of old.graph) = ap (λ (n : Net). work n) s.is_kept.net in (
        works_then join bound old kept new made made (record made { local = made.local + 1 }) (works_same bound old kept made s.is_kept.net s.is_kept.space) one,
        omega (arith, falls, w, v),
      )

  pub none_made : TidyMeans → SteppedFrom old kept new None → Works bound old new made made × IsMainTidy bound (net_of new.graph)
  none_made means s =
      let same : new ≡ kept = s.tidies.1 in
      let net : net_of new.graph ≡ net_of kept.graph = ap (λ (t : Tried). net_of t.graph) same in (
        works_same bound old new made (net ∙ s.is_kept.net) (ap (λ (t : Tried). t.first.steps) same ∙ s.is_kept.space),
        subst (λ (n : Net). IsMainTidy bound n) (sym net) (main_tidy_all means (net_of kept.graph) bound s.tidies.0),
      )

  pub once_back : (step : Step) (back : Tried) → SteppedFrom old kept new (Some step) → bound ≤ (gate_of_step step).0 → IsAt back.graph (start_of new) → back.first ≡ new.first
      → Works bound old back made made × IsMainTidy bound (net_of back.graph)
  once_back step back s le at first =
      let net : net_of back.graph ≡ net_of kept.graph = back_same kept new back s.is_kept.start s.start at in (
        works_same bound old back made (net ∙ s.is_kept.net) (ap (λ (r : Room). r.steps) (first ∙ s.first) ∙ s.is_kept.space),
        subst (λ (n : Net). IsMainTidy bound n) (sym net) (main_tidy_next (net_of kept.graph) bound step s.tidies.0 le),
      )

-- a fix from where the trial was kept
pub fixed_once : RunsJoin → FreeFixesApply → FixesEnd → (bound : ℕ) (old kept new : Tried) (made : Made) (fault : Fault) → IsWellFormed (net_of old.graph) → IsMainTidy bound (net_of old.graph) → IsMainFault bound (net_of old.graph) fault → HasTree (net_of old.graph) fault
    → net_of kept.graph ≡ net_of old.graph → kept.first.steps ≡ old.first.steps → net_of new.graph ≡ stepped (net_of kept.graph) (Fix fault.gate fault.position fault.value) → new.first ≡ kept.first
    → Works bound old new made (record made { fixes = made.fixes + 1 }) × (work (net_of new.graph) < work (net_of old.graph))
fixed_once join free ends bound old kept new made fault formed is_tidy main tree net first done same =
    let well : IsWellFormed (net_of kept.graph) = subst (λ (n : Net). IsWellFormed n) (sym net) formed in
    let pin : HasFreePin (net_of kept.graph) fault = subst (λ (n : Net). HasFreePin n fault) (sym net) (main_free bound (net_of old.graph) fault formed is_tidy main) in
    let there : HasTree (net_of kept.graph) fault = subst (λ (n : Net). HasTree n fault) (sym net) tree in
    let one = fixed_works free ends bound kept new made fault well pin main.0 there done same in
    let v : work (net_of kept.graph) ≡ work (net_of old.graph) = ap (λ (n : Net). work n) net in
    let falls = one.1 in (
      works_then join bound old kept new made made (record made { fixes = made.fixes + 1 }) (works_same bound old kept made net first) one.0,
      omega (arith, falls, v),
    )

pub kept_unrefused : FreeFixesApply → ApplicableIsMade → RoomForFixes → (bound : ℕ) (old kept : Tried) (fault : Fault) (why : EditRefusal) → IsWellFormed (net_of old.graph) → IsMainTidy bound (net_of old.graph) → IsMainFault bound (net_of old.graph) fault
    → net_of kept.graph ≡ net_of old.graph → kept.room.steps ≡ old.first.steps → work (net_of old.graph) ≤ old.first.steps → IsAnswer (net_of kept.graph) kept.room (Fix fault.gate fault.position fault.value) (Some why) → ⊥
kept_unrefused free made law bound old kept fault why formed is_tidy main net room le answer =
    let well : IsWellFormed (net_of kept.graph) = subst (λ (n : Net). IsWellFormed n) (sym net) formed in
    let pin : HasFreePin (net_of kept.graph) fault = subst (λ (n : Net). HasFreePin n fault) (sym net) (main_free bound (net_of old.graph) fault formed is_tidy main) in
    let v : work (net_of kept.graph) ≡ work (net_of old.graph) = ap (λ (n : Net). work n) net in
    fix_refused free made law kept fault why well pin (omega (arith, room, v, le)) answer

-- what is left after working
pub space_left : (bound : ℕ) (a b : Tried) (m n : Made) → Works bound a b m n → work (net_of a.graph) ≤ a.first.steps → work (net_of b.graph) ≤ b.first.steps
space_left bound a b m n w le = let less = w.less in let same = w.space in omega (arith, less, same, le)

pub few_left : (bound : ℕ) (a b : Tried) (m n : Made) → Works bound a b m n → m.fixes + m.local + work (net_of a.graph) ≤ 4194304 → n.fixes + n.local + work (net_of b.graph) ≤ 4194304
few_left bound a b m n w le = let spent = w.spent in omega (arith, spent, le)

pub fell_left : (bound : ℕ) (a b c : Tried) (m n : Made) → Works bound b c m n → work (net_of b.graph) < work (net_of a.graph) → work (net_of c.graph) < work (net_of a.graph)
fell_left bound a b c m n w lt = let less = w.less in omega (arith, less, lt)
