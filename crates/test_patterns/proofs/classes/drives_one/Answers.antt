use Rattle.std.proofs.Common.{ℕ, List, ◌∷◌, ◌≡◌, ◌∙◌, true, false, sym, ap, refl}
use Rattle.test_patterns.proofs.Leading.{none_driven, one_driven, two_driven}
use Rattle.test_patterns.proofs.classes.drives_one.Goals as goal

pub returns-in_default : goal.returns-in_default
returns-in_default c = (
  λ t. absurd (let bad : false ≡ true = t in cc),
  λ d. absurd (none_driven c.args.graph.now c.args.node.0 c.readers_listed.ensures (sym c.fanouts_of-pins.ensures ∙ c.in_default.ensures.steps.0) d.0 d.1.0 d.1.1),
)

pub returns-in_default-next : goal.returns-in_default-next
returns-in_default-next c =
    let place : ℕ × ℕ = (c.in-Some._pin.0.0, c.in-Some._pin.1) in (
      λ t. (
        place.0,
        (
          place.1,
          one_driven c.args.graph.now c.args.node.0 place c.readers_listed.ensures
              (sym c.fanouts_of-pins.ensures ∙ (c.in-Some.ensures.steps ∙ ap (λ (ps : List (ℕ × ℕ)). place ∷ ps) c.in_default-next.ensures.steps.0))
              (λ o. (let bad : true ≡ false = sym (c.is_observed.ensures.1 o) ∙ c.if-is_observed.false in cc)),
        ),
      ),
      λ d. refl,
    )

pub returns : goal.returns
returns c =
    let place : ℕ × ℕ = (c.in-Some._pin.0.0, c.in-Some._pin.1) in
    let other : ℕ × ℕ = (c.in-Some-next._other.0.0, c.in-Some-next._other.1) in (
      λ t. absurd (let bad : false ≡ true = t in cc),
      λ d. absurd (two_driven c.args.graph.now c.args.node.0 place other c.next-2.new.self c.readers_listed.ensures
          (sym c.fanouts_of-pins.ensures ∙ (c.in-Some.ensures.steps ∙ ap (λ (ps : List (ℕ × ℕ)). place ∷ ps) c.in-Some-next.ensures.steps)) d.0 d.1.0 d.1.1),
    )
