use Rattle.std.proofs.Common.{◌≡◌, ◌≤◌, ◌+◌, length, map, Some, true, false, ◌||◌, arith, sym, ◌∙◌, refl, length-append}
use Rattle.std.specs.Prelude.{slice_get}
use Rattle.gate_net.specs.Forward.{is_known}
use Rattle.local_evaluation.specs.Pins.{with_stuck}
use Rattle.local_evaluation.proofs.Looks.{looks_more, pin_at, or_then, or_else}
use Rattle.local_evaluation.proofs.Yielding.{yielded_at, yielded_more, yielded_below}
use Rattle.local_evaluation.proofs.pin_scans.look.Given.{Over}
use Rattle.local_evaluation.proofs.pin_scans.look.Goals as goal
use Rattle.local_evaluation.proofs.pin_scans.look.Goals.{then-is_value, else-is_value, then-not-is_value, else-not-is_value}

pub known_of-requires : goal.known_of-requires
known_of-requires g c = c.requires.within _ _ (yielded_at (λ d. d.0) c.args.drivers c.loop-driver.yielded c.in-Some.driver _ _ c.loop-driver.invariant.all c.in-Some.ensures.steps)

pub overflow_add-rest : goal.overflow_add-rest
overflow_add-rest g c =
    let few : length c.loop-driver.yielded + 1 ≤ length c.args.drivers = yielded_below (λ d. d.0) c.args.drivers c.loop-driver.yielded c.in-Some.driver _ _ c.loop-driver.invariant.all c.in-Some.ensures.steps in
    omega (arith, few, c.requires.few, c.loop-driver.invariant.count, c.loop-driver.invariant.looks.few)

pub overflow_add-q : goal.overflow_add-q
overflow_add-q g c =
    let few : length c.loop-driver.yielded + 1 ≤ length c.args.drivers = yielded_below (λ d. d.0) c.args.drivers c.loop-driver.yielded c.in-Some.driver _ _ c.loop-driver.invariant.all c.in-Some.ensures.steps in
    omega (arith, few, c.requires.few, c.loop-driver.invariant.count)

any_is : (g : Over) (c : goal.Joined-not-is_value g) → c.if-is_value.any ≡ (c.loop-driver.any || is_known c.args.value c.at_pin-here.result)
any_is g c = elim c.if-is_value.branch [
  | then-is_value u ↦ or_then c.loop-driver.any c.if-is_value.any (is_known c.args.value c.at_pin-here.result) (sym c.is_value.ensures ∙ u.if-is_value.true) u.any-is
  | else-is_value u ↦ or_else c.loop-driver.any c.if-is_value.any (is_known c.args.value c.at_pin-here.result) (sym c.is_value.ensures ∙ u.if-is_value.false) u.any-is
]

read_is : (g : Over) (c : goal.Joined-not-is_value g) → slice_get (with_stuck c.args.stuck (map (g.K.Known.knows c.args.known.now) c.args.drivers)) c.loop-driver.q ≡ Some c.at_pin-here.result
read_is g c =
    let at : slice_get c.args.drivers (length c.loop-driver.yielded) ≡ Some c.in-Some.driver.0 = yielded_at (λ d. d.0) c.args.drivers c.loop-driver.yielded c.in-Some.driver _ _ c.loop-driver.invariant.all c.in-Some.ensures.steps in
    let there : slice_get c.args.drivers c.loop-driver.q ≡ Some c.in-Some.driver.0 = rw c.loop-driver.invariant.count at in
    rw (c.at_pin-here.ensures, c.known_of.ensures)
    (pin_at c.args.stuck (g.K.Known.knows c.args.known.now) c.args.drivers c.loop-driver.q c.in-Some.driver.0 there)

pub loop-driver-preserved : goal.loop-driver-preserved
loop-driver-preserved g c = record {
  all = yielded_more (λ d. d.0) c.args.drivers c.loop-driver.yielded c.in-Some.driver _ _ c.loop-driver.invariant.all c.in-Some.ensures.steps;
  count = rw (length-append, c.loop-driver.invariant.count) refl;
  looks = elim c.if-not-is_value.branch [
    | then-not-is_value w ↦ looks_more c.loop-driver.any c.loop-driver.rest c.loop-driver.at c.loop-driver.q c.args.value (with_stuck c.args.stuck (map (g.K.Known.knows c.args.known.now) c.args.drivers)) c.at_pin-here.result c.loop-driver.invariant.looks (read_is g c)
        c.if-is_value.any (any_is g c) c.if-not-is_value.rest c.if-not-is_value.at false (sym c.is_value-in-loop-driver.ensures ∙ w.if-not-is_value.true) w.rest-is w.at-is
    | else-not-is_value w ↦ looks_more c.loop-driver.any c.loop-driver.rest c.loop-driver.at c.loop-driver.q c.args.value (with_stuck c.args.stuck (map (g.K.Known.knows c.args.known.now) c.args.drivers)) c.at_pin-here.result c.loop-driver.invariant.looks (read_is g c)
        c.if-is_value.any (any_is g c) c.if-not-is_value.rest c.if-not-is_value.at true (sym c.is_value-in-loop-driver.ensures ∙ w.if-not-is_value.false) w.rest-is w.at-is
  ];
}
