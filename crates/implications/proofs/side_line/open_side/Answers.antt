use Rattle.std.proofs.Common.{Some, arith, false, inl, inr, length, length-append, refl, subst, true, ◌+◌, ◌<◌, ◌≡◌, ◌≤◌}
use Rattle.std.proofs.lemmas.Bool.{cases_lt}
use Rattle.std.proofs.lemmas.Option.{slice_get_within}
use Rattle.std.specs.Prelude.{slice_get}
use Rattle.implications.proofs.side_line.open_side.Goals as goal
use Rattle.implications.specs.Inner.Sides.{IsOpenPin}
use Rattle.refutation.specs.FactSets.{held_by}
use Rattle.refutation.proofs.Public.{yielded_all, yielded_at, yielded_below, yielded_more}

pub is_open-requires : goal.is_open-requires
is_open-requires c = c.requires.within _ _ (yielded_at (λ d. d.0) c.args.drivers c.loop-driver.yielded c.in-Some.driver _ _ c.loop-driver.invariant.all c.in-Some.ensures.steps)

pub returns-then-is_open : goal.returns-then-is_open
returns-then-is_open c =
    let at : slice_get c.args.drivers (length c.loop-driver.yielded) ≡ Some c.in-Some.driver.0 = yielded_at (λ d. d.0) c.args.drivers c.loop-driver.yielded c.in-Some.driver _ _ c.loop-driver.invariant.all c.in-Some.ensures.steps in
    let there : slice_get c.args.drivers c.loop-driver.position ≡ Some c.in-Some.driver.0 = rw c.loop-driver.invariant.count at in
    (there, c.if-is_open.ensures.0 refl)

pub overflow_add-position : goal.overflow_add-position
overflow_add-position c =
    let few : length c.loop-driver.yielded + 1 ≤ length c.args.drivers = yielded_below (λ d. d.0) c.args.drivers c.loop-driver.yielded c.in-Some.driver _ _ c.loop-driver.invariant.all c.in-Some.ensures.steps in
    omega (arith, few, c.requires.few, c.loop-driver.invariant.count)

pub loop-driver-preserved : goal.loop-driver-preserved
loop-driver-preserved c =
    let at : slice_get c.args.drivers (length c.loop-driver.yielded) ≡ Some c.in-Some.driver.0 = yielded_at (λ d. d.0) c.args.drivers c.loop-driver.yielded c.in-Some.driver _ _ c.loop-driver.invariant.all c.in-Some.ensures.steps in
    let there : slice_get c.args.drivers c.loop-driver.position ≡ Some c.in-Some.driver.0 = rw c.loop-driver.invariant.count at in
    record {
      all = yielded_more (λ d. d.0) c.args.drivers c.loop-driver.yielded c.in-Some.driver _ _ c.loop-driver.invariant.all c.in-Some.ensures.steps;
      count = rw (length-append, c.loop-driver.invariant.count) refl;
      none = λ q d below e o. elim (cases_lt q c.loop-driver.position) [
        | inl before ↦ c.loop-driver.invariant.none q d before e o
        | inr last ↦
            let is : q ≡ c.loop-driver.position = omega arith in
            let here : slice_get c.args.drivers c.loop-driver.position ≡ Some d = subst (λ n. slice_get c.args.drivers n ≡ Some d) is e in
            let same : d ≡ c.in-Some.driver.0 = cc in
            let yes' : false ≡ true = c.if-is_open.ensures.1 (subst (λ n. IsOpenPin c.args.fault.now (held_by c.args.facts.now) c.args.node.0 n c.in-Some.driver.0 c.args.value) is (subst (λ n. IsOpenPin c.args.fault.now (held_by c.args.facts.now) c.args.node.0 q n c.args.value) same o)) in
            cc
      ];
    }

pub returns : goal.returns
returns c q d e o =
    let whole : length c.args.drivers ≡ length c.loop-driver.yielded = yielded_all (λ d. d.0) c.args.drivers c.loop-driver.yielded _ c.loop-driver.invariant.all c.in-None.ensures.steps.0 in
    let within : q < length c.args.drivers = slice_get_within c.args.drivers q d e in
    c.loop-driver.invariant.none q d (omega (arith, c.loop-driver.invariant.count)) e o
