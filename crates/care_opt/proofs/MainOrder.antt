-- Where the next step of the tidying order is at no main gate, the net is main-tidy.
use Rattle.std.proofs.Common.{Bool, List, None, Option, Some, ap, arith, false, inl, inr, length, refl, subst, suc, sym, take, true, zero, ℕ, ◌+◌, ◌<◌, ◌∙◌, ◌≡◌, ◌≤◌}
use Rattle.std.specs.Prelude.{if◌then◌else◌, nat_lt, option_and_then, slice_get}
use Rattle.std.proofs.lemmas.Bool.{cases_lt, ltb-true}
use Rattle.std.proofs.lemmas.Option.{slice_get_within}
use Rattle.gate_net.specs.Net.{Net, drivers_of}
use Rattle.wire_edit.specs.Steps.{gate_of_step}
use Rattle.rm_base.proofs.Public.{and_first, and_second}
use Rattle.wire_edit.specs.Laws.{IsTidying, TidyMeans}
use Rattle.wire_edit.specs.Order.{IsTidy, first_from, next_step, node, rule_at, where_met}
use Rattle.wire_edit.specs.Refusals.{or_else}
use Rattle.wire_edit.specs.Steps.{Applies, rule_applies}
use Rattle.wire_edit.specs.Tests.{constant_at, constant_of, is_gate, is_in_use, is_not, is_present, is_repeated, is_some_among, reads_several}
use Rattle.wire_edit.specs.declared.steps.Step.{Step}
use Rattle.wire_edit.specs.declared.steps.Step.TheVariants.{Add, Const, Dead, Fix, NewNot, NoPins, OnePin, Same, Twice, Twin}
use Rattle.care_opt.specs.MainSteps.{IsMainTidy}

or_none : (o p : Option Step) → or_else o p ≡ None → (o ≡ None) × (p ≡ None)
or_none None p e = (refl, e)
or_none (Some s) p e = absurd cc

from_none : (at : ℕ → Option Step) (from count : ℕ) → first_from at from count ≡ None → (k : ℕ) → from ≤ k → k < from + count → at k ≡ None
from_none at from zero e k le lt = absurd (omega (arith, le, lt))
from_none at from (suc count) e k le lt =
    let both = or_none (at from) (first_from at (suc from) count) e in
    elim (cases_lt from k) [
      | inl less ↦ from_none at (suc from) count both.1 k (omega (arith, less)) (omega (arith, lt))
      | inr more ↦ let same : from ≡ k = omega (arith, le, more) in ap at (sym same) ∙ both.0
    ]

-- the first step, and that there is none before it
record First (at : ℕ → Option Step) (from : ℕ) (step : Step) : Type 0 where
  place : ℕ
  there : at place ≡ Some step
  before : (j : ℕ) → from ≤ j → j < place → at j ≡ None

from_some : (at : ℕ → Option Step) (from count : ℕ) (step : Step) → first_from at from count ≡ Some step → First at from step
from_some at from zero step e = absurd cc
from_some at from (suc count) step e = by_head (at from) refl e (from_some at (suc from) count step)
  where
    by_head : (o : Option Step) → at from ≡ o → or_else o (first_from at (suc from) count) ≡ Some step → (first_from at (suc from) count ≡ Some step → First at (suc from) step) → First at from step
    by_head (Some s) is e next = record { place = from; there = is ∙ e; before = λ j le lt. absurd (omega (arith, le, lt)) }
    by_head None is e next =
        let rest = next e in
        record {
          place = rest.place;
          there = rest.there;
          before = λ j le lt. elim (cases_lt from j) [
            | inl less ↦ rest.before j (omega (arith, less)) lt
            | inr more ↦ let same : from ≡ j = omega (arith, le, more) in ap at (sym same) ∙ is
          ];
        }

met_none : (net : Net) (rule : Step) → where_met net rule ≡ None → rule_applies net rule ≡ true → ⊥
met_none net rule e applies = by_test (rule_applies net rule) applies e
  where
    by_test : (t : Bool) → t ≡ true → (if t then Some rule else None) ≡ None → ⊥
    by_test true is e = cc
    by_test false is e = cc

module _ (P : Step → Type 0) where
  either : (o p : Option Step) → ((s : Step) → o ≡ Some s → P s) → ((s : Step) → p ≡ Some s → P s) → (s : Step) → or_else o p ≡ Some s → P s
  either None p first second s e = second s e
  either (Some r) p first second s e = first s e

  every : (at : ℕ → Option Step) (from count : ℕ) → ((k : ℕ) (s : Step) → at k ≡ Some s → P s) → (s : Step) → first_from at from count ≡ Some s → P s
  every at from zero h s e = absurd cc
  every at from (suc count) h s e = either (at from) (first_from at (suc from) count) (h from) (every at (suc from) count h) s e

  where_is : (net : Net) (rule : Step) → P rule → (s : Step) → where_met net rule ≡ Some s → P s
  where_is net rule p s e = by_test (rule_applies net rule) e
    where
      by_test : (t : Bool) → (if t then Some rule else None) ≡ Some s → P s
      by_test true e = subst P (same_step e) p
        where
          same_step : Some rule ≡ Some s → rule ≡ s
          same_step e = cc
      by_test false e = absurd cc

  never : (s : Step) → None ≡ Some s → P s
  never s e = absurd cc

-- a rule at a gate is one of its own
gate_at : (net : Net) (x : ℕ) (step : Step) → rule_at net x ≡ Some step → (gate_of_step step).0 ≡ x
unfolding rule_at
gate_at net x step e =
    let P : Step → Type 0 = λ s. (gate_of_step s).0 ≡ x in
    either P _ _ (every P _ 0 (length (drivers_of net x)) (λ p s h. where_is P net (Const (node x) p) refl s h))
    (either P _ _ (every P _ 0 (length (drivers_of net x)) (λ p s h. where_is P net (Same (node x) p) refl s h))
    (either P _ _ (where_is P net (NoPins (node x)) refl)
    (either P _ _ (where_is P net (OnePin (node x)) refl)
    (either P _ _ (where_is P net (Twice (node x)) refl)
    (either P _ _ (every P _ 0 x (λ other s h. where_is P net (Twin (node x) (node other)) refl s h))
    (either P _ _ (where_is P net (Dead (node x)) refl) (never P))))))) step e

some_present : (net : Net) (x p : ℕ) → is_present (constant_at net x p) ≡ true → (d : ℕ) × (slice_get (drivers_of net x) p ≡ Some d)
some_present net x p e = by_driver (slice_get (drivers_of net x) p) refl e
  where
    by_driver : (o : Option ℕ) → slice_get (drivers_of net x) p ≡ o → is_present (option_and_then (constant_of net) o) ≡ true → (d : ℕ) × (slice_get (drivers_of net x) p ≡ Some d)
    by_driver None is e = absurd cc
    by_driver (Some d) is e = (d, is)

some_repeated : (ds : List ℕ) (p : ℕ) → is_repeated ds p ≡ true → (d : ℕ) × (slice_get ds p ≡ Some d)
some_repeated ds p e = by_driver (slice_get ds p) refl e
  where
    by_driver : (o : Option ℕ) → slice_get ds p ≡ o → is_some_among o (take p ds) ≡ true → (d : ℕ) × (slice_get ds p ≡ Some d)
    by_driver None is e = absurd cc
    by_driver (Some d) is e = (d, is)

-- where no rule comes first at a gate, none applies
record NoneAt (net : Net) (x : ℕ) : Type 0 where
  consts : first_from (λ position. where_met net (Const (node x) position)) 0 (length (drivers_of net x)) ≡ None
  sames : first_from (λ position. where_met net (Same (node x) position)) 0 (length (drivers_of net x)) ≡ None
  empty : where_met net (NoPins (node x)) ≡ None
  single : where_met net (OnePin (node x)) ≡ None
  twice : where_met net (Twice (node x)) ≡ None
  twins : first_from (λ other. where_met net (Twin (node x) (node other))) 0 x ≡ None
  dead : where_met net (Dead (node x)) ≡ None

parts_none : (net : Net) (x : ℕ) → rule_at net x ≡ None → NoneAt net x
unfolding rule_at
parts_none net x e =
    let a = or_none _ _ e in
    let b = or_none _ _ a.1 in
    let c = or_none _ _ b.1 in
    let d = or_none _ _ c.1 in
    let f = or_none _ _ d.1 in
    let g = or_none _ _ f.1 in
    let h = or_none _ _ g.1 in
    record { consts = a.0; sames = b.0; empty = c.0; single = d.0; twice = f.0; twins = g.0; dead = h.0 }

none_at : (net : Net) (x : ℕ) → rule_at net x ≡ None → (step : Step) → IsTidying step → (gate_of_step step).0 ≡ x → Applies net step → ⊥
none_at net x e step t is a = by_step step t (parts_none net (gate_of_step step).0 (ap (λ (i : ℕ). rule_at net i) is ∙ e)) a
  where
    by_step : (step : Step) → IsTidying step → NoneAt net (gate_of_step step).0 → Applies net step → ⊥
    by_step (Add gate other) t n a = t
    by_step (Fix gate position value) t n a = t
    by_step (NewNot other) t n a = t
    by_step (Const gate p) t n a =
        let d = some_present net gate.0 p (and_second (is_in_use net gate.0) _ (and_second (is_gate net gate.0) _ a)) in
        let lt = slice_get_within (drivers_of net gate.0) p d.0 d.1 in
        met_none net (Const (node gate.0) p) (from_none (λ position. where_met net (Const (node gate.0) position)) 0 (length (drivers_of net gate.0)) n.consts p (omega arith) (omega (arith, lt))) a
    by_step (Same gate p) t n a =
        let d = some_repeated (drivers_of net gate.0) p (and_second (is_in_use net gate.0) _ (and_second (reads_several net gate.0) _ a)) in
        let lt = slice_get_within (drivers_of net gate.0) p d.0 d.1 in
        met_none net (Same (node gate.0) p) (from_none (λ position. where_met net (Same (node gate.0) position)) 0 (length (drivers_of net gate.0)) n.sames p (omega arith) (omega (arith, lt))) a
    by_step (NoPins gate) t n a = met_none net (NoPins (node gate.0)) n.empty a
    by_step (OnePin gate) t n a = met_none net (OnePin (node gate.0)) n.single a
    by_step (Twice gate) t n a = met_none net (Twice (node gate.0)) n.twice a
    by_step (Twin gate other) t n a =
        let lt : other.0 < gate.0 = ltb-true other.0 gate.0 (and_first (nat_lt other.0 gate.0) _ (and_second (is_not net other.0) _ (and_second (is_in_use net gate.0) _ (and_second (is_not net gate.0) _ a)))) in
        met_none net (Twin (node gate.0) (node other.0)) (from_none (λ other. where_met net (Twin (node gate.0) (node other))) 0 gate.0 n.twins other.0 (omega arith) (omega (arith, lt))) a
    by_step (Dead gate) t n a = met_none net (Dead (node gate.0)) n.dead a

pub main_tidy_next : (net : Net) (bound : ℕ) (next : Step) → next_step net ≡ Some next → bound ≤ (gate_of_step next).0 → IsMainTidy bound net
main_tidy_next net bound next e le step t lt a =
    let first = from_some (rule_at net) 0 (length net.nodes) next e in
    let own : (gate_of_step next).0 ≡ first.place = gate_at net first.place next first.there in
    none_at net (gate_of_step step).0 (first.before (gate_of_step step).0 (omega arith) (omega (arith, own, le, lt))) step t refl a

pub main_tidy_all : TidyMeans → (net : Net) (bound : ℕ) → IsTidy net → IsMainTidy bound net
main_tidy_all means net bound tidy step t lt a = (means net).0 tidy step t a
