use Rattle.std.proofs.Common.{ℕ, ◌∷◌, map, ap, sym, ◌∙◌, refl}
use Rattle.std.proofs.lemmas.Bool.{eq-eqb, or_left, or_right}
use Rattle.pin_pool.specs.Ring.{has}
use Rattle.gate_graph.specs.Circuit.{home}
use Rattle.gate_graph.proofs.NetOf.{home-here}
use Rattle.gate_graph.proofs.input_iter.InputsIterator.next.Goals as goal

pub driver_of-requires : goal.driver_of-requires
driver_of-requires c = c.self.invariant.1 c.in-Some.pin.0 (ap (has c.in-Some.pin.0) c.in-Some.ensures.steps ∙ or_left _ _ (eq-eqb c.in-Some.pin.0 c.in-Some.pin.0 refl))

pub invariant_of-self-2 : goal.invariant_of-self-2
invariant_of-self-2 c = (c.self.invariant.0, λ p h. c.self.invariant.1 p (ap (has p) c.in-Some.ensures.steps ∙ or_right _ _ h))

pub returns-clause-steps : goal.returns-clause-steps
returns-clause-steps c =
    let i = c.self.inside in
    sym c.self.view_is ∙ ap (map (home i.pool.now.fanouts)) c.in-Some.ensures.steps
    ∙ ap (λ (n : ℕ). n ∷ map (home i.pool.now.fanouts) c.next.new.self) (home-here i.pool.now.fanouts _ c.in-Some.pin.0 c.driver_of.result c.self.invariant.0.fanouts c.driver_of.ensures.driver)
