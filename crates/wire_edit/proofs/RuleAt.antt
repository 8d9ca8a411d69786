-- Which rule comes first at a gate.
use Rattle.std.proofs.Common.{◌≡◌, ℕ, zero, suc, ◌+◌, ◌<◌, ◌≤◌, Bool, true, false, not, ◌&&◌, inl, inr, Option, Some, None, length, refl, sym, ◌∙◌, ap, arith}
use Rattle.std.proofs.lemmas.Bool.{lt-ltb, cases_eq, and_from, eq-eqb, ne_eqb, and_parts, false_from_ne_true}
use Rattle.gate_net.specs.Net.{Net, drivers_of}
use Rattle.wire_edit.specs.declared.steps.Step.{Step}
use Rattle.wire_edit.specs.declared.steps.Step.TheVariants.{Const, Same, NoPins, OnePin, Twice, Twin, Dead}
use Rattle.wire_edit.specs.Tests.{is_gate, is_junction, reads_several, is_not, is_in_use, driver_at, is_repeated}
use Rattle.wire_edit.specs.Steps.{rule_applies, is_not_at, same_some}
use Rattle.wire_edit.specs.Refusals.{or_else}
use Rattle.wire_edit.specs.Inner.Firsts.{IsFirst, reads_constant, is_twin}
use Rattle.wire_edit.specs.Order.{node, where_met, first_from, rule_at}
use Rattle.wire_edit.proofs.Tested.{junction_is_one, not_several, several_no_not}
use Rattle.wire_edit.proofs.Staying.{no_gate_rules, junction_no_not}
use Rattle.wire_edit.proofs.Ordering.{none_from, none_met, consts, sames, twins, rules_none}
use Rattle.wire_edit.proofs.Reading.{met_by}

pub first_found : (at : ℕ → Option Step) (from count k : ℕ) (step : Step) → from ≤ k → k < from + count → at k ≡ Some step → ((j : ℕ) → from ≤ j → j < k → at j ≡ None) → first_from at from count ≡ Some step
first_found at from zero k step le lt e h = absurd (omega (arith, le, lt))
first_found at from (suc count) k step le lt e h = elim (cases_eq from k) [
  | inl is ↦ ap (λ o. or_else o (first_from at (suc from) count)) (ap at is ∙ e)
  | inr ne ↦
      ap (λ o. or_else o (first_from at (suc from) count)) (h from (omega arith) (omega (arith, le, ne)))
      ∙ first_found at (suc from) count k step (omega (arith, le, ne)) (omega (arith, lt)) e (λ j le' lt'. h j (omega (arith, le')) lt')
]

met : (net : Net) (rule : Step) → rule_applies net rule ≡ true → where_met net rule ≡ Some rule
met net rule e = rw e refl

skip : {o p q : Option Step} → o ≡ None → p ≡ q → or_else o p ≡ q
skip {o} {p} {q} e f = ap (λ o. or_else o p) e ∙ f

stop : (o p : Option Step) (s : Step) → o ≡ Some s → or_else o p ≡ Some s
stop o p s e = ap (λ o. or_else o p) e

first_false : (a b : Bool) → a ≡ false → (a && b) ≡ false
first_false a b e = rw e refl

third_false : (a b c : Bool) → c ≡ false → (a && (b && c)) ≡ false
third_false true true c e = e
third_false true false c e = refl
third_false false b c e = refl

second_false : (a b c : Bool) → b ≡ false → (a && (b && c)) ≡ false
second_false true b c e = rw e refl
second_false false b c e = refl

module _ (net : Net) (x : ℕ) where
  abbrev pins : ℕ
  pins = length (drivers_of net x)

  pub unused_rule : is_gate net x ≡ true → is_in_use net x ≡ false → rule_at net x ≡ Some (Dead (node x))
  unfolding rule_at
  unused_rule g u =
      skip (none_from (consts net x) 0 pins (λ p le lt. none_met net (Const (node x) p) (second_false (is_gate net x) (is_in_use net x) _ u)))
      (skip (none_from (sames net x) 0 pins (λ p le lt. none_met net (Same (node x) p) (second_false (reads_several net x) (is_in_use net x) _ u)))
      (skip (none_met net (NoPins (node x)) (second_false (is_junction net x) (is_in_use net x) _ u))
      (skip (none_met net (OnePin (node x)) (second_false (is_junction net x) (is_in_use net x) _ u))
      (skip (none_met net (Twice (node x)) (second_false (is_not net x) (is_in_use net x) _ u))
      (skip (none_from (twins net x) 0 x (λ other le lt. none_met net (Twin (node x) (node other)) (second_false (is_not net x) (is_in_use net x) _ u)))
      (stop _ _ (Dead (node x)) (met net (Dead (node x)) (and_from (is_gate net x) _ g (ap not u)))))))))

  pub no_rule : is_gate net x ≡ false → rule_at net x ≡ None
  no_rule e = rules_none net x (no_gate_rules net x e)

  module _ (u : is_in_use net x ≡ true) where
    pub constant_rule : is_gate net x ≡ true → (p : ℕ) → IsFirst (reads_constant net x) pins (Some p) → rule_at net x ≡ Some (Const (node x) p)
    unfolding rule_at
    constant_rule g p first =
        stop _ _ (Const (node x) p) (first_found (consts net x) 0 pins p (Const (node x) p) (omega arith) (omega (arith, first.0))
        (met net (Const (node x) p) (met_by _ _ _ g u ∙ first.1.0)) (λ j le lt. none_met net (Const (node x) j) (met_by _ _ _ g u ∙ first.1.1 j lt)))

    module _ (g : is_gate net x ≡ true) (none : IsFirst (reads_constant net x) pins None) where
      no_consts : first_from (consts net x) 0 pins ≡ None
      no_consts = none_from (consts net x) 0 pins (λ p le lt. none_met net (Const (node x) p) (met_by _ _ _ g u ∙ none p (omega (arith, lt))))

      no_dead : where_met net (Dead (node x)) ≡ None
      no_dead = none_met net (Dead (node x)) (false_from_ne_true _ (λ e. let a : _ × (not (is_in_use net x) ≡ true) = and_parts (is_gate net x) _ e in let wrong : not true ≡ true = ap not (sym u) ∙ a.1 in cc))

      pub repeated_rule : reads_several net x ≡ true → (p : ℕ) → IsFirst (is_repeated (drivers_of net x)) pins (Some p) → rule_at net x ≡ Some (Same (node x) p)
      unfolding rule_at
      repeated_rule j p first =
          skip no_consts (stop _ _ (Same (node x) p) (first_found (sames net x) 0 pins p (Same (node x) p) (omega arith) (omega (arith, first.0))
          (met net (Same (node x) p) (met_by _ _ _ j u ∙ first.1.0)) (λ k le lt. none_met net (Same (node x) k) (met_by _ _ _ j u ∙ first.1.1 k lt))))

      module _ (j : reads_several net x ≡ true) (apart : IsFirst (is_repeated (drivers_of net x)) pins None) where
        no_sames : first_from (sames net x) 0 pins ≡ None
        no_sames = none_from (sames net x) 0 pins (λ p le lt. none_met net (Same (node x) p) (met_by _ _ _ j u ∙ apart p (omega (arith, lt))))

        no_not : is_not net x ≡ false
        no_not = several_no_not net x j

        pub empty_rule : is_junction net x ≡ true → pins ≡ 0 → rule_at net x ≡ Some (NoPins (node x))
        unfolding rule_at
        empty_rule i e = skip no_consts (skip no_sames (stop _ _ (NoPins (node x)) (met net (NoPins (node x)) (met_by _ _ _ i u ∙ eq-eqb pins 0 e))))

        pub single_rule : is_junction net x ≡ true → pins ≡ 1 → rule_at net x ≡ Some (OnePin (node x))
        unfolding rule_at
        single_rule i e =
            skip no_consts (skip no_sames (skip (none_met net (NoPins (node x)) (met_by _ _ _ i u ∙ ne_eqb pins 0 (λ z. omega (arith, e, z))))
            (stop _ _ (OnePin (node x)) (met net (OnePin (node x)) (met_by _ _ _ i u ∙ eq-eqb pins 1 e)))))

        pub wide_rule : 1 < pins → rule_at net x ≡ None
        unfolding rule_at
        wide_rule lt =
            skip no_consts (skip no_sames (skip (none_met net (NoPins (node x)) (third_false _ _ _ (ne_eqb pins 0 (λ z. omega (arith, lt, z)))))
            (skip (none_met net (OnePin (node x)) (third_false _ _ _ (ne_eqb pins 1 (λ z. omega (arith, lt, z)))))
            (skip (none_met net (Twice (node x)) (first_false _ _ no_not))
            (skip (none_from (twins net x) 0 x (λ other le lt. none_met net (Twin (node x) (node other)) (first_false _ _ no_not)))
            (skip no_dead refl))))))

      module _ (n : is_not net x ≡ true) where
        no_junction : is_junction net x ≡ false
        no_junction = false_from_ne_true (is_junction net x) (λ j. let c : (c : Bool) × _ = junction_is_one net x j in junction_no_not net x c.0 c.1.1 n)

        to_twice : {q : Option Step} → or_else (where_met net (Twice (node x))) (or_else (first_from (twins net x) 0 x) (or_else (where_met net (Dead (node x))) None)) ≡ q → rule_at net x ≡ q
        unfolding rule_at
        to_twice e =
            skip no_consts (skip (none_from (sames net x) 0 pins (λ p le lt. none_met net (Same (node x) p) (first_false _ _ (not_several net x n))))
            (skip (none_met net (NoPins (node x)) (first_false _ _ no_junction)) (skip (none_met net (OnePin (node x)) (first_false _ _ no_junction)) e)))

        pub twice_rule : (d : ℕ) → driver_at net x 0 ≡ Some d → is_not net d ≡ true → rule_at net x ≡ Some (Twice (node x))
        twice_rule d is e = to_twice (stop _ _ (Twice (node x)) (met net (Twice (node x)) (met_by _ _ _ n u ∙ ap (is_not_at net) is ∙ e)))

        module _ (d : ℕ) (is : driver_at net x 0 ≡ Some d) (other_kind : is_not net d ≡ false) where
          no_twice : where_met net (Twice (node x)) ≡ None
          no_twice = none_met net (Twice (node x)) (met_by _ _ _ n u ∙ ap (is_not_at net) is ∙ other_kind)

          twin_is : (other : ℕ) → other < x → rule_applies net (Twin (node x) (node other)) ≡ is_twin net x other
          twin_is other lt = met_by _ _ _ n u ∙ ap (λ b. is_not net other && (b && same_some (driver_at net x 0) (driver_at net other 0))) (lt-ltb other x lt)

          pub twin_rule : (other : ℕ) → IsFirst (is_twin net x) x (Some other) → rule_at net x ≡ Some (Twin (node x) (node other))
          twin_rule other first =
              to_twice (skip no_twice (stop _ _ (Twin (node x) (node other)) (first_found (twins net x) 0 x other (Twin (node x) (node other)) (omega arith) (omega (arith, first.0))
              (met net (Twin (node x) (node other)) (twin_is other first.0 ∙ first.1.0))
              (λ k le lt. none_met net (Twin (node x) (node k)) (twin_is k (omega (arith, lt, first.0)) ∙ first.1.1 k lt)))))

          pub lone_rule : IsFirst (is_twin net x) x None → rule_at net x ≡ None
          lone_rule none =
              to_twice (skip no_twice (skip (none_from (twins net x) 0 x (λ k le lt. none_met net (Twin (node x) (node k)) (twin_is k (omega (arith, lt)) ∙ none k (omega (arith, lt))))) (skip no_dead refl)))
