use Rattle.std.proofs.Common.{ℕ, List, ◌∷◌, ◌≡◌, ◌∙◌, true, false, sym, ap}
use Rattle.journal_check.proofs.TracingLaws.{one_pin}
use Rattle.journal_check.proofs.tracing.only_pin.Goals as goal

pub returns : goal.returns
returns c =
    let place : ℕ × ℕ = (c.in-Some.pin.0.0, c.in-Some.pin.1) in
    one_pin c.args.graph.now c.args.node.0 place c.readers_listed.ensures
    (sym c.fanouts_of-pins.ensures ∙ (c.in-Some.ensures.steps ∙ ap (λ (ps : List (ℕ × ℕ)). place ∷ ps) c.in_default-next.ensures.steps.0))
    (λ o. (let bad : true ≡ false = sym (c.is_observed.ensures.1 o) ∙ c.if-is_observed.false in cc))
