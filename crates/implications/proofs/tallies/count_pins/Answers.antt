use Rattle.std.proofs.Common.{[], append-nil, arith, length, map, subst, sym, ℕ, List, ◌++◌, ◌+◌, ◌∙◌, ◌∷◌, ◌≡◌, ◌≤◌, ap}
use Rattle.std.proofs.lemmas.List.{length-map, map-append}
use Rattle.implications.proofs.tallies.count_pins.Goals as goal
use Rattle.implications.specs.Inner.Tallies.{IsTally}
use Rattle.refutation.specs.FactSets.{held_by}
use Rattle.refutation.proofs.Public.{yielded_at, yielded_below, yielded_more}
use Rattle.rm_base.specs.declared.numbers.NodeId.{NodeId}

pub loop-driver-init : goal.loop-driver-init
loop-driver-init c = record {
  all = sym c.into_iter-driver-iterator.ensures.into_iter_gives;
  counted = c.no_pins-tally.ensures (held_by c.args.facts.now) c.args.position;
}

pub with_driver-tally-requires-clause-driver : goal.with_driver-tally-requires-clause-driver
with_driver-tally-requires-clause-driver c = c.requires.within _ _ (yielded_at (λ (d : NodeId). d.0) c.args.drivers c.loop-driver.yielded c.in-Some.driver _ _ c.loop-driver.invariant.all c.in-Some.ensures.steps)

pub with_driver-tally-requires-clause-room : goal.with_driver-tally-requires-clause-room
with_driver-tally-requires-clause-room c =
    let few : length c.loop-driver.yielded + 1 ≤ length c.args.drivers = yielded_below (λ (d : NodeId). d.0) c.args.drivers c.loop-driver.yielded c.in-Some.driver _ _ c.loop-driver.invariant.all c.in-Some.ensures.steps in
    omega (arith, few, c.requires.few, c.loop-driver.invariant.counted.pins, length-map c.loop-driver.yielded (λ (d : NodeId). d.0))

pub with_driver-tally-requires-clause-counted : goal.with_driver-tally-requires-clause-counted
with_driver-tally-requires-clause-counted c = (_, c.loop-driver.invariant.counted)

pub loop-driver-preserved : goal.loop-driver-preserved
loop-driver-preserved c = record {
  all = yielded_more (λ (d : NodeId). d.0) c.args.drivers c.loop-driver.yielded c.in-Some.driver _ _ c.loop-driver.invariant.all c.in-Some.ensures.steps;
  counted = rw (map-append (λ (d : NodeId). d.0) c.loop-driver.yielded (c.in-Some.driver ∷ [])) (c.with_driver-tally.ensures (map (λ (d : NodeId). d.0) c.loop-driver.yielded) c.loop-driver.invariant.counted);
}

pub returns : goal.returns
returns c =
    let whole : c.args.drivers ≡ map (λ (d : NodeId). d.0) c.loop-driver.yielded = c.loop-driver.invariant.all ∙ ap (λ (xs : List ℕ). map (λ (d : NodeId). d.0) c.loop-driver.yielded ++ xs) c.in-None.ensures.steps.0 ∙ append-nil (map (λ (d : NodeId). d.0) c.loop-driver.yielded) in
    subst (λ (ds : List ℕ). IsTally (held_by c.args.facts.now) c.args.position ds c.loop-driver.tally) (sym whole) c.loop-driver.invariant.counted
