use Rattle.std.proofs.Common.{Some, arith, length, length-append, map, refl, sym, ◌+◌, ◌≡◌, ◌≤◌}
use Rattle.std.specs.Prelude.{slice_get}
use Rattle.local_evaluation.specs.Pins.{with_stuck}
use Rattle.local_evaluation.proofs.Looks.{pin_at, pins_length}
use Rattle.local_evaluation.proofs.Parities.{back_at, back_first, back_last, back_other}
use Rattle.local_evaluation.proofs.Yielding.{yielded_all, yielded_at, yielded_below, yielded_more}
use Rattle.local_evaluation.proofs.pin_scans.parity_back.Goals as goal
use Rattle.local_evaluation.proofs.pin_scans.parity_back.Goals.{else-q-at, then-q-at}

pub known_of-requires : goal.known_of-requires
known_of-requires g c = c.requires.within _ _ (yielded_at (λ d. d.0) c.args.drivers c.loop-driver.yielded c.in-Some.driver _ _ c.loop-driver.invariant.all c.in-Some.ensures.steps)

pub overflow_add-q : goal.overflow_add-q
overflow_add-q g c =
    let few : length c.loop-driver.yielded + 1 ≤ length c.args.drivers = yielded_below (λ d. d.0) c.args.drivers c.loop-driver.yielded c.in-Some.driver _ _ c.loop-driver.invariant.all c.in-Some.ensures.steps in
    omega (arith, few, c.requires.few, c.loop-driver.invariant.count)

pub loop-driver-preserved : goal.loop-driver-preserved
loop-driver-preserved g c =
    let at : slice_get c.args.drivers (length c.loop-driver.yielded) ≡ Some c.in-Some.driver.0 = yielded_at (λ d. d.0) c.args.drivers c.loop-driver.yielded c.in-Some.driver _ _ c.loop-driver.invariant.all c.in-Some.ensures.steps in
    let there : slice_get c.args.drivers c.loop-driver.q ≡ Some c.in-Some.driver.0 = rw c.loop-driver.invariant.count at in
    record {
      all = yielded_more (λ d. d.0) c.args.drivers c.loop-driver.yielded c.in-Some.driver _ _ c.loop-driver.invariant.all c.in-Some.ensures.steps;
      count = rw (length-append, c.loop-driver.invariant.count) refl;
      back = elim c.if-q-at.branch [
        | then-q-at w ↦ rw (w.there-is, w.parity-is) (back_at c.loop-driver.there c.loop-driver.parity _ c.loop-driver.q c.args.at (with_stuck c.args.stuck (map (g.K.Known.knows c.args.known.now) c.args.drivers)) _ (pin_at c.args.stuck (g.K.Known.knows c.args.known.now) c.args.drivers c.loop-driver.q c.in-Some.driver.0 there) w.if-q-at.true c.loop-driver.invariant.back)
        | else-q-at w ↦ rw (w.there-is, w.parity-is, w.turn-parity.ensures, w.at_pin.ensures, w.known_of.ensures) (back_other c.loop-driver.there c.loop-driver.parity _ c.loop-driver.q c.args.at (with_stuck c.args.stuck (map (g.K.Known.knows c.args.known.now) c.args.drivers)) _ (pin_at c.args.stuck (g.K.Known.knows c.args.known.now) c.args.drivers c.loop-driver.q c.in-Some.driver.0 there) w.if-q-at.false c.loop-driver.invariant.back)
      ];
    }

pub returns-then-there : goal.returns-then-there
returns-then-there g c =
    let all : length c.args.drivers ≡ length c.loop-driver.yielded = yielded_all (λ d. d.0) c.args.drivers c.loop-driver.yielded _ c.loop-driver.invariant.all c.in-None.ensures.steps.0 in
    let long : length (with_stuck c.args.stuck (map (g.K.Known.knows c.args.known.now) c.args.drivers)) ≡ length c.args.drivers = pins_length c.args.stuck (g.K.Known.knows c.args.known.now) c.args.drivers in
    rw c.if-there.true at (back_last c.loop-driver.there c.loop-driver.parity c.loop-driver.q c.args.at (with_stuck c.args.stuck (map (g.K.Known.knows c.args.known.now) c.args.drivers)) _ (omega (arith, all, long, c.loop-driver.invariant.count)) c.loop-driver.invariant.back)

pub returns-else-there : goal.returns-else-there
returns-else-there g c =
    let all : length c.args.drivers ≡ length c.loop-driver.yielded = yielded_all (λ d. d.0) c.args.drivers c.loop-driver.yielded _ c.loop-driver.invariant.all c.in-None.ensures.steps.0 in
    let long : length (with_stuck c.args.stuck (map (g.K.Known.knows c.args.known.now) c.args.drivers)) ≡ length c.args.drivers = pins_length c.args.stuck (g.K.Known.knows c.args.known.now) c.args.drivers in
    rw c.if-there.false at (back_last c.loop-driver.there c.loop-driver.parity c.loop-driver.q c.args.at (with_stuck c.args.stuck (map (g.K.Known.knows c.args.known.now) c.args.drivers)) _ (omega (arith, all, long, c.loop-driver.invariant.count)) c.loop-driver.invariant.back)

pub loop-driver-init : goal.loop-driver-init
loop-driver-init g c = record { all = sym c.into_iter-driver-iterator.ensures.into_iter_gives; count = refl; back = back_first c.args.inverts c.args.at (with_stuck c.args.stuck (map (g.K.Known.knows c.args.known.now) c.args.drivers)) }
