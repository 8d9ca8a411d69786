-- What the next step tells.
use Rattle.std.proofs.Common.{◌≡◌, ℕ, zero, suc, ◌+◌, ◌<◌, ◌≤◌, Bool, true, false, ◌⊎◌, inl, inr, Option, Some, None, List, [], ◌∷◌, length, refl, sym, ◌∙◌, ap, arith}
use Rattle.std.specs.Prelude.{slice_get, if◌then◌else◌, nat_lt}
use Rattle.std.proofs.lemmas.Bool.{ltb-true, both_ways, cases_eq, and_parts, false_from_ne_true}
use Rattle.std.proofs.lemmas.Option.{slice_get_within}
use Rattle.rm_base.specs.declared.numbers.NodeId.{NodeId}
use Rattle.gate_net.specs.Net.{Node, Net, flatten_option, drivers_of, IsGate}
use Rattle.wire_edit.specs.declared.steps.Step.{Step}
use Rattle.wire_edit.specs.declared.steps.Step.TheVariants.{Add, Fix, NewNot, Const, Same, NoPins, OnePin, Twice, Twin, Dead}
use Rattle.wire_edit.specs.Tests.{is_gate, is_junction, reads_several, is_not, is_in_use, constant_at, is_repeated}
use Rattle.wire_edit.specs.Steps.{rule_applies, Applies}
use Rattle.wire_edit.specs.Refusals.{or_else}
use Rattle.wire_edit.specs.Order.{node, where_met, first_from, rule_at, next_step, IsTidy}
use Rattle.wire_edit.specs.Laws.{IsTidying}
use Rattle.wire_edit.proofs.Tested.{present, several_gate, gate_is, junction_gate, not_gate, repeated_at, constant_read}

-- THE FIRST OF MANY
pub or_none : {A : Type 0} (o p : Option A) → or_else o p ≡ None → (o ≡ None) × (p ≡ None)
or_none None p e = (refl, e)
or_none (Some x) p e = cc

pub or_some : {A : Type 0} (o p : Option A) (x : A) → or_else o p ≡ Some x → (o ≡ Some x) ⊎ ((o ≡ None) × (p ≡ Some x))
or_some None p x e = inr (refl, e)
or_some (Some y) p x e = inl e

pub none_from : (at : ℕ → Option Step) (from count : ℕ) → ((k : ℕ) → from ≤ k → k < from + count → at k ≡ None) → first_from at from count ≡ None
none_from at from zero h = refl
none_from at from (suc count) h =
    ap (λ o. or_else o (first_from at (suc from) count)) (h from (omega arith) (omega arith))
    ∙ none_from at (suc from) count (λ k le lt. h k (omega (arith, le)) (omega (arith, lt)))

pub from_none : (at : ℕ → Option Step) (from count : ℕ) → first_from at from count ≡ None → (k : ℕ) → from ≤ k → k < from + count → at k ≡ None
from_none at from zero e k le lt = absurd (omega (arith, le, lt))
from_none at from (suc count) e k le lt =
    let both : (at from ≡ None) × (first_from at (suc from) count ≡ None) = or_none (at from) (first_from at (suc from) count) e in
    elim (order from k le) [
      | inl is ↦ rw (sym is) both.0
      | inr above ↦ from_none at (suc from) count both.1 k above (omega (arith, lt))
    ]
  where
    order : (m k : ℕ) → m ≤ k → (m ≡ k) ⊎ (suc m ≤ k)
    order m k le = elim (cases_eq m k) [ inl is ↦ inl is | inr ne ↦ inr (omega (arith, le, ne)) ]

pub from_some : (at : ℕ → Option Step) (from count : ℕ) (step : Step) → first_from at from count ≡ Some step → (k : ℕ) × ((from ≤ k) × ((k < from + count) × ((at k ≡ Some step) × ((j : ℕ) → from ≤ j → j < k → at j ≡ None))))
from_some at from zero step e = cc
from_some at from (suc count) step e = elim (or_some (at from) (first_from at (suc from) count) step e) [
  | inl here ↦ (from, (omega arith, (omega arith, (here, λ j le lt. absurd (omega (arith, le, lt))))))
  | inr later ↦
      let rest : (k : ℕ) × ((suc from ≤ k) × ((k < suc from + count) × ((at k ≡ Some step) × ((j : ℕ) → suc from ≤ j → j < k → at j ≡ None)))) = from_some at (suc from) count step later.1 in (
        rest.0,
        (
          omega (arith, rest.1.0),
          (
            omega (arith, rest.1.1.0),
            (
              rest.1.1.1.0,
              λ j le lt. elim (cases_eq from j) [
                | inl is ↦ rw (sym is) later.0
                | inr ne ↦ rest.1.1.1.1 j (omega (arith, le, ne)) lt
              ],
            ),
          ),
        ),
      )
]

pub met_some : (net : Net) (rule step : Step) → where_met net rule ≡ Some step → (rule_applies net rule ≡ true) × (rule ≡ step)
met_some net rule step e = at (rule_applies net rule) refl e
  where
    at : (t : Bool) → rule_applies net rule ≡ t → (if t then Some rule else None) ≡ Some step → (rule_applies net rule ≡ true) × (rule ≡ step)
    at true is e = (is, (some_step e))
      where
        some_step : {r s : Step} → Some r ≡ Some s → r ≡ s
        some_step e = cc
    at false is e = cc

pub met_none : (net : Net) (rule : Step) → where_met net rule ≡ None → rule_applies net rule ≡ false
met_none net rule e = at (rule_applies net rule) refl e
  where
    at : (t : Bool) → rule_applies net rule ≡ t → (if t then Some rule else None) ≡ None → rule_applies net rule ≡ false
    at true is e = cc
    at false is e = is

pub none_met : (net : Net) (rule : Step) → rule_applies net rule ≡ false → where_met net rule ≡ None
none_met net rule e = rw e refl

-- A RULE AT A GATE
abbrev pub consts : Net → ℕ → ℕ → Option Step
consts net gate position = where_met net (Const (node gate) position)

abbrev pub sames : Net → ℕ → ℕ → Option Step
sames net gate position = where_met net (Same (node gate) position)

abbrev pub twins : Net → ℕ → ℕ → Option Step
twins net gate other = where_met net (Twin (node gate) (node other))

-- no rule applies at the gate
pub record NoRules (net : Net) (gate : ℕ) : Type 0 where
  pub no_const : (p : ℕ) → rule_applies net (Const (node gate) p) ≡ false
  pub no_same : (p : ℕ) → rule_applies net (Same (node gate) p) ≡ false
  pub no_empty : rule_applies net (NoPins (node gate)) ≡ false
  pub no_single : rule_applies net (OnePin (node gate)) ≡ false
  pub no_twice : rule_applies net (Twice (node gate)) ≡ false
  pub no_twin : (other : ℕ) → rule_applies net (Twin (node gate) (node other)) ≡ false
  pub no_dead : rule_applies net (Dead (node gate)) ≡ false

pub const_within : (net : Net) (gate p : ℕ) → rule_applies net (Const (node gate) p) ≡ true → p < length (drivers_of net gate)
const_within net gate p e =
    let a : (is_gate net gate ≡ true) × _ = and_parts (is_gate net gate) _ e in
    let b : (is_in_use net gate ≡ true) × _ = and_parts (is_in_use net gate) _ a.1 in
    let k : (k : Bool) × (constant_at net gate p ≡ Some k) = present (constant_at net gate p) b.1 in
    let d : (d : ℕ) × ((slice_get (drivers_of net gate) p ≡ Some d) × _) = constant_read net gate p k.0 k.1 in
    slice_get_within (drivers_of net gate) p d.0 d.1.0

same_within : (net : Net) (gate p : ℕ) → rule_applies net (Same (node gate) p) ≡ true → p < length (drivers_of net gate)
same_within net gate p e =
    let a : (reads_several net gate ≡ true) × _ = and_parts (reads_several net gate) _ e in
    let b : (is_in_use net gate ≡ true) × (is_repeated (drivers_of net gate) p ≡ true) = and_parts (is_in_use net gate) _ a.1 in
    let r : (d : ℕ) × ((q : ℕ) × ((q < p) × ((slice_get (drivers_of net gate) q ≡ Some d) × (slice_get (drivers_of net gate) p ≡ Some d)))) = repeated_at (drivers_of net gate) p b.1 in
    slice_get_within (drivers_of net gate) p r.0 r.1.1.1.1

twin_below : (net : Net) (gate other : ℕ) → rule_applies net (Twin (node gate) (node other)) ≡ true → other < gate
twin_below net gate other e =
    let a : (is_not net gate ≡ true) × _ = and_parts (is_not net gate) _ e in
    let b : (is_in_use net gate ≡ true) × _ = and_parts (is_in_use net gate) _ a.1 in
    let o : (is_not net other ≡ true) × _ = and_parts (is_not net other) _ b.1 in
    let l : (nat_lt other gate ≡ true) × _ = and_parts (nat_lt other gate) _ o.1 in
    ltb-true other gate l.0

pub none_rules : (net : Net) (gate : ℕ) → rule_at net gate ≡ None → NoRules net gate
unfolding rule_at
none_rules net gate e =
    let a : _ × _ = or_none (first_from (consts net gate) 0 (length (drivers_of net gate))) _ e in
    let b : _ × _ = or_none (first_from (sames net gate) 0 (length (drivers_of net gate))) _ a.1 in
    let c : _ × _ = or_none (where_met net (NoPins (node gate))) _ b.1 in
    let d : _ × _ = or_none (where_met net (OnePin (node gate))) _ c.1 in
    let f : _ × _ = or_none (where_met net (Twice (node gate))) _ d.1 in
    let g : _ × _ = or_none (first_from (twins net gate) 0 gate) _ f.1 in
    let h : _ × _ = or_none (where_met net (Dead (node gate))) _ g.1 in
    record {
      no_const = λ p. false_from_ne_true _ (λ t. both_ways _ (met_none net (Const (node gate) p) (from_none (consts net gate) 0 (length (drivers_of net gate)) a.0 p (omega arith) (let lt : p < length (drivers_of net gate) = const_within net gate p t in omega arith))) t);
      no_same = λ p. false_from_ne_true _ (λ t. both_ways _ (met_none net (Same (node gate) p) (from_none (sames net gate) 0 (length (drivers_of net gate)) b.0 p (omega arith) (let lt : p < length (drivers_of net gate) = same_within net gate p t in omega arith))) t);
      no_empty = met_none net (NoPins (node gate)) c.0;
      no_single = met_none net (OnePin (node gate)) d.0;
      no_twice = met_none net (Twice (node gate)) f.0;
      no_twin = λ other. false_from_ne_true _ (λ t. both_ways _ (met_none net (Twin (node gate) (node other)) (from_none (twins net gate) 0 gate g.0 other (omega arith) (let lt : other < gate = twin_below net gate other t in omega arith))) t);
      no_dead = met_none net (Dead (node gate)) h.0;
    }

pub rules_none : (net : Net) (gate : ℕ) → NoRules net gate → rule_at net gate ≡ None
unfolding rule_at
rules_none net gate r =
    rest (none_from (consts net gate) 0 (length (drivers_of net gate)) (λ p le lt. none_met net (Const (node gate) p) (r.no_const p)))
    (rest (none_from (sames net gate) 0 (length (drivers_of net gate)) (λ p le lt. none_met net (Same (node gate) p) (r.no_same p)))
    (rest (none_met net (NoPins (node gate)) r.no_empty)
    (rest (none_met net (OnePin (node gate)) r.no_single)
    (rest (none_met net (Twice (node gate)) r.no_twice)
    (rest (none_from (twins net gate) 0 gate (λ other le lt. none_met net (Twin (node gate) (node other)) (r.no_twin other)))
    (rest (none_met net (Dead (node gate)) r.no_dead) refl))))))
  where
    rest : {o p : Option Step} → o ≡ None → p ≡ None → or_else o p ≡ None
    rest {o} {p} e f = ap (λ o. or_else o p) e ∙ f

-- the gate of a tidying step
abbrev pub gate_of_step : Step → Option ℕ
gate_of_step (Const gate position) = Some gate.0
gate_of_step (Same gate position) = Some gate.0
gate_of_step (NoPins gate) = Some gate.0
gate_of_step (OnePin gate) = Some gate.0
gate_of_step (Twice gate) = Some gate.0
gate_of_step (Twin gate other) = Some gate.0
gate_of_step (Dead gate) = Some gate.0
gate_of_step _ = None

-- the rule at a gate is one of its own and applies
pub record IsRuleAt (net : Net) (gate : ℕ) (step : Step) : Type 0 where
  pub tidying : IsTidying step
  pub applies : rule_applies net step ≡ true
  pub own : gate_of_step step ≡ Some gate

rule_is : (net : Net) (gate : ℕ) (rule step : Step) → IsTidying rule → gate_of_step rule ≡ Some gate → where_met net rule ≡ Some step → IsRuleAt net gate step
rule_is net gate rule step t own e =
    let m : (rule_applies net rule ≡ true) × (rule ≡ step) = met_some net rule step e in
    record { tidying = rw m.1 at t; applies = rw m.1 at m.0; own = ap gate_of_step (sym m.1) ∙ own }

pub some_rule : (net : Net) (gate : ℕ) (step : Step) → rule_at net gate ≡ Some step → IsRuleAt net gate step
unfolding rule_at
some_rule net gate step e = elim (or_some (first_from (consts net gate) 0 (length (drivers_of net gate))) _ step e) [
  | inl here ↦ let k : (k : ℕ) × ((0 ≤ k) × (_ × ((consts net gate k ≡ Some step) × _))) = from_some (consts net gate) 0 (length (drivers_of net gate)) step here in rule_is net gate (Const (node gate) k.0) step tt refl k.1.1.1.0
  | inr a ↦ elim (or_some (first_from (sames net gate) 0 (length (drivers_of net gate))) _ step a.1) [
    | inl here ↦ let k : (k : ℕ) × ((0 ≤ k) × (_ × ((sames net gate k ≡ Some step) × _))) = from_some (sames net gate) 0 (length (drivers_of net gate)) step here in rule_is net gate (Same (node gate) k.0) step tt refl k.1.1.1.0
    | inr b ↦ elim (or_some (where_met net (NoPins (node gate))) _ step b.1) [
      | inl here ↦ rule_is net gate (NoPins (node gate)) step tt refl here
      | inr c ↦ elim (or_some (where_met net (OnePin (node gate))) _ step c.1) [
        | inl here ↦ rule_is net gate (OnePin (node gate)) step tt refl here
        | inr d ↦ elim (or_some (where_met net (Twice (node gate))) _ step d.1) [
          | inl here ↦ rule_is net gate (Twice (node gate)) step tt refl here
          | inr f ↦ elim (or_some (first_from (twins net gate) 0 gate) _ step f.1) [
            | inl here ↦ let k : (k : ℕ) × ((0 ≤ k) × (_ × ((twins net gate k ≡ Some step) × _))) = from_some (twins net gate) 0 gate step here in rule_is net gate (Twin (node gate) (node k.0)) step tt refl k.1.1.1.0
            | inr g ↦ elim (or_some (where_met net (Dead (node gate))) _ step g.1) [
              | inl here ↦ rule_is net gate (Dead (node gate)) step tt refl here
              | inr h ↦ cc
            ]
          ]
        ]
      ]
    ]
  ]
]

-- a twin is one of its gate
abbrev gate_of_twin : Step → Option ℕ
gate_of_twin (Twin gate other) = Some gate.0
gate_of_twin _ = None

pub twin_gate : (net : Net) (gate : ℕ) (from other : NodeId) → rule_at net gate ≡ Some (Twin from other) → from.0 ≡ gate
unfolding rule_at
twin_gate net gate from other e = elim (or_some (first_from (consts net gate) 0 (length (drivers_of net gate))) _ _ e) [
  | inl here ↦ let k : (k : ℕ) × ((0 ≤ k) × (_ × ((consts net gate k ≡ Some (Twin from other)) × _))) = from_some (consts net gate) 0 (length (drivers_of net gate)) _ here in absurd (no_twin (Const (node gate) k.0) refl k.1.1.1.0)
  | inr a ↦ elim (or_some (first_from (sames net gate) 0 (length (drivers_of net gate))) _ _ a.1) [
    | inl here ↦ let k : (k : ℕ) × ((0 ≤ k) × (_ × ((sames net gate k ≡ Some (Twin from other)) × _))) = from_some (sames net gate) 0 (length (drivers_of net gate)) _ here in absurd (no_twin (Same (node gate) k.0) refl k.1.1.1.0)
    | inr b ↦ elim (or_some (where_met net (NoPins (node gate))) _ _ b.1) [
      | inl here ↦ absurd (no_twin (NoPins (node gate)) refl here)
      | inr c ↦ elim (or_some (where_met net (OnePin (node gate))) _ _ c.1) [
        | inl here ↦ absurd (no_twin (OnePin (node gate)) refl here)
        | inr d ↦ elim (or_some (where_met net (Twice (node gate))) _ _ d.1) [
          | inl here ↦ absurd (no_twin (Twice (node gate)) refl here)
          | inr f ↦ elim (or_some (first_from (twins net gate) 0 gate) _ _ f.1) [
            | inl here ↦
                let k : (k : ℕ) × ((0 ≤ k) × (_ × ((twins net gate k ≡ Some (Twin from other)) × _))) = from_some (twins net gate) 0 gate _ here in
                let m : _ × (Twin (node gate) (node k.0) ≡ Twin from other) = met_some net (Twin (node gate) (node k.0)) (Twin from other) k.1.1.1.0 in
                let same : Some gate ≡ Some from.0 = ap gate_of_twin m.1 in cc
            | inr g ↦ elim (or_some (where_met net (Dead (node gate))) _ _ g.1) [
              | inl here ↦ absurd (no_twin (Dead (node gate)) refl here)
              | inr h ↦ cc
            ]
          ]
        ]
      ]
    ]
  ]
]
  where
    no_twin : (rule : Step) → gate_of_twin rule ≡ None → where_met net rule ≡ Some (Twin from other) → ⊥
    no_twin rule none met =
        let m : _ × (rule ≡ Twin from other) = met_some net rule (Twin from other) met in
        let wrong : Some from.0 ≡ None = sym (ap gate_of_twin m.1) ∙ none in no_some wrong
      where
        no_some : {x : ℕ} → ◌≡◌ {A = Option ℕ} (Some x) None → ⊥
        no_some e = cc

applies_of : (net : Net) (step : Step) → IsTidying step → rule_applies net step ≡ true → Applies net step
applies_of net (Add gate node) t e = absurd t
applies_of net (Fix gate position value) t e = absurd t
applies_of net (NewNot node) t e = absurd t
applies_of net (Const gate position) t e = e
applies_of net (Same gate position) t e = e
applies_of net (NoPins gate) t e = e
applies_of net (OnePin gate) t e = e
applies_of net (Twice gate) t e = e
applies_of net (Twin gate other) t e = e
applies_of net (Dead gate) t e = e

-- THE NEXT STEP
pub next_at : (net : Net) (step : Step) → next_step net ≡ Some step → (gate : ℕ) × ((gate < length net.nodes) × ((rule_at net gate ≡ Some step) × ((j : ℕ) → j < gate → rule_at net j ≡ None)))
next_at net step e =
    let k : (k : ℕ) × ((0 ≤ k) × ((k < 0 + length net.nodes) × ((rule_at net k ≡ Some step) × ((j : ℕ) → 0 ≤ j → j < k → rule_at net j ≡ None)))) = from_some (rule_at net) 0 (length net.nodes) step e in
    (k.0, (omega (arith, k.1.1.0), (k.1.1.1.0, λ j lt. k.1.1.1.1 j (omega arith) lt)))

pub next_applies : (net : Net) (step : Step) → next_step net ≡ Some step → IsTidying step × Applies net step
next_applies net step e =
    let k : (gate : ℕ) × ((gate < length net.nodes) × ((rule_at net gate ≡ Some step) × _)) = next_at net step e in
    let r : IsRuleAt net k.0 step = some_rule net k.0 step k.1.1.0 in
    (r.tidying, applies_of net step r.tidying r.applies)

pub live_below : (os : List (Option Node)) (x : ℕ) (n : Node) → flatten_option (slice_get os x) ≡ Some n → x < length os
live_below [] x n e = cc
live_below (o ∷ os) zero n e = omega arith
live_below (o ∷ os) (suc x) n e = let rest : x < length os = live_below os x n e in omega arith

pub gate_below : (net : Net) (x : ℕ) → is_gate net x ≡ true → x < length net.nodes
gate_below net x e = let g : IsGate net x = gate_is net x e in live_below net.nodes x _ g.1.0.1

tidy_no_rules : (net : Net) → IsTidy net → (x : ℕ) → is_gate net x ≡ true → NoRules net x
tidy_no_rules net e x g = none_rules net x (from_none (rule_at net) 0 (length net.nodes) e x (omega arith) (let lt : x < length net.nodes = gate_below net x g in omega arith))

pub tidy_refuses : (net : Net) → IsTidy net → (step : Step) → IsTidying step → Applies net step → ⊥
tidy_refuses net tidy (Add gate node) t e = t
tidy_refuses net tidy (Fix gate position value) t e = t
tidy_refuses net tidy (NewNot node) t e = t
tidy_refuses net tidy (Const gate position) t e =
    let g : (is_gate net gate.0 ≡ true) × _ = and_parts (is_gate net gate.0) _ e in both_ways _ ((tidy_no_rules net tidy gate.0 g.0).no_const position) e
tidy_refuses net tidy (Same gate position) t e =
    let g : (reads_several net gate.0 ≡ true) × _ = and_parts (reads_several net gate.0) _ e in both_ways _ ((tidy_no_rules net tidy gate.0 (several_gate net gate.0 g.0)).no_same position) e
tidy_refuses net tidy (NoPins gate) t e =
    let g : (is_junction net gate.0 ≡ true) × _ = and_parts (is_junction net gate.0) _ e in both_ways _ (tidy_no_rules net tidy gate.0 (junction_gate net gate.0 g.0)).no_empty e
tidy_refuses net tidy (OnePin gate) t e =
    let g : (is_junction net gate.0 ≡ true) × _ = and_parts (is_junction net gate.0) _ e in both_ways _ (tidy_no_rules net tidy gate.0 (junction_gate net gate.0 g.0)).no_single e
tidy_refuses net tidy (Twice gate) t e =
    let g : (is_not net gate.0 ≡ true) × _ = and_parts (is_not net gate.0) _ e in both_ways _ (tidy_no_rules net tidy gate.0 (not_gate net gate.0 g.0)).no_twice e
tidy_refuses net tidy (Twin gate other) t e =
    let g : (is_not net gate.0 ≡ true) × _ = and_parts (is_not net gate.0) _ e in both_ways _ ((tidy_no_rules net tidy gate.0 (not_gate net gate.0 g.0)).no_twin other.0) e
tidy_refuses net tidy (Dead gate) t e =
    let g : (is_gate net gate.0 ≡ true) × _ = and_parts (is_gate net gate.0) _ e in both_ways _ (tidy_no_rules net tidy gate.0 g.0).no_dead e

pub refuses_tidy : (net : Net) → ((step : Step) → IsTidying step → Applies net step → ⊥) → IsTidy net
refuses_tidy net h = none_from (rule_at net) 0 (length net.nodes) (λ gate le lt. rules_none net gate (record {
  no_const = λ p. false_from_ne_true _ (h (Const (node gate) p) tt);
  no_same = λ p. false_from_ne_true _ (h (Same (node gate) p) tt);
  no_empty = false_from_ne_true _ (h (NoPins (node gate)) tt);
  no_single = false_from_ne_true _ (h (OnePin (node gate)) tt);
  no_twice = false_from_ne_true _ (h (Twice (node gate)) tt);
  no_twin = λ other. false_from_ne_true _ (h (Twin (node gate) (node other)) tt);
  no_dead = false_from_ne_true _ (h (Dead (node gate)) tt);
}))
