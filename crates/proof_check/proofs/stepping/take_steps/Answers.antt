use Rattle.std.proofs.Common.{arith, ℕ, ◌<◌, ◌^◌, ◌≡◌, ◌+◌, ◌≢◌}
use Rattle.std.specs.Prelude.{Some, slice_get}
use Rattle.gate_net.specs.Net.{Net}
use Rattle.proof_check.specs.Flaws.{IsRunFlaw}
use Rattle.proof_check.specs.Inner.Stepping.{HasGone}
use Rattle.proof_check.specs.declared.refusal.JudgeRefusal.{JudgeRefusal}
use Rattle.proof_check.specs.declared.refusal.JudgeRefusal.TheVariants as refusal
use Rattle.proof_check.proofs.Looping.{going_first, going_more, going_whole, handed_on, no_ok, stops, writable_here}
use Rattle.proof_check.proofs.stepping.take_steps.Goals as goal
use Rattle.rm_base.proofs.Public.{read_stands}

pub loop-given-init : goal.loop-given-init
loop-given-init c = record { counts = omega arith; left = c.requires; going = λ net budget is. going_first net budget c.args.records.now c.args.replay.now is }

pub take_step-requires : goal.take_step-requires
take_step-requires c =
    (writable_here c.args.records.now c.loop-given.given-index c.given-item.result (read_stands c.args.records.now c.loop-given.given-index c.given-item.result c.loop-given-test.true c.given-item.is) c.loop-given.invariant.left).0

pub returns-in_err-take_step-clause-made : goal.returns-in_err-take_step-clause-made
returns-in_err-take_step-clause-made c = λ net budget is. no_ok c.from_residual.result _ (HasGone net c.args.records.now c.take_step.new.replay) c.from_residual.ensures.1

pub returns-in_err-take_step-clause-refused : goal.returns-in_err-take_step-clause-refused
returns-in_err-take_step-clause-refused c = λ net budget is.
    handed_on c.from_residual.result c.in_err-take_step.field-0.0 (λ (j : JudgeRefusal). j ≢ refusal.NoMemory → IsRunFlaw net budget c.args.records.now j) c.from_residual.ensures.1
    (λ ne.
    stops net budget c.args.records.now c.loop-given.given-index c.loop-given.number c.given-item.result c.loop-given.replay c.in_err-take_step.field-0.0 (c.loop-given.invariant.going net budget is)
    (read_stands c.args.records.now c.loop-given.given-index c.given-item.result c.loop-given-test.true c.given-item.is) c.loop-given.invariant.counts (λ at b same. c.in_err-take_step.ensures.refused at b same ne))

pub loop-given-preserved : goal.loop-given-preserved
loop-given-preserved c =
    let here : slice_get c.args.records.now c.loop-given.given-index ≡ Some c.given-item.result = read_stands c.args.records.now c.loop-given.given-index c.given-item.result c.loop-given-test.true c.given-item.is in
    let small : c.loop-given.given-index < 2 ^ 63 = omega arith in
    record {
      counts = omega arith;
      left = (writable_here c.args.records.now c.loop-given.given-index c.given-item.result here c.loop-given.invariant.left).1;
      going = λ net budget is.
          going_more net budget c.args.records.now c.loop-given.given-index c.loop-given.number c.given-item.result c.loop-given.replay c.take_step.new.replay (c.loop-given.invariant.going net budget is) here small c.loop-given.invariant.counts
          c.in_ok-take_step.ensures.made;
    }

pub returns-clause-made : goal.returns-clause-made
returns-clause-made c = λ net budget is. going_whole net budget c.args.records.now c.loop-given.given-index c.loop-given.replay c.loop-given-test.false (c.loop-given.invariant.going net budget is)

pub returns-clause-refused : goal.returns-clause-refused
returns-clause-refused c = λ net budget is. tt
