use Rattle.std.proofs.Common.{refl}
use Rattle.proof_check.proofs.Steps.{advances, fails}
use Rattle.proof_check.proofs.stepping.take_step.Goals as goal

pub step-requires : goal.step-requires
step-requires c = c.records_replay.ensures.local c.args.given.now c.requires

pub returns-then-not-is_step-clause-made : goal.returns-then-not-is_step-clause-made
returns-then-not-is_step-clause-made c = λ net budget is. tt

pub returns-then-not-is_step-clause-refused : goal.returns-then-not-is_step-clause-refused
returns-then-not-is_step-clause-refused c = λ net budget is ne. (refl, c.is_step.ensures.none c.if-not-is_step.true)

pub returns-in-Ok-clause-made : goal.returns-in-Ok-clause-made
returns-in-Ok-clause-made c = λ net budget is. advances net budget c.args.number c.args.given.now c.args.replay.now c.step.new.self tt (c.is_step.ensures.step c.if-not-is_step.false) c.in-Ok.ensures is

pub returns-in-Ok-clause-refused : goal.returns-in-Ok-clause-refused
returns-in-Ok-clause-refused c = λ net budget is. tt

pub returns-in-Err-clause-made : goal.returns-in-Err-clause-made
returns-in-Err-clause-made c = λ net budget is. tt

pub returns-in-Err-clause-refused : goal.returns-in-Err-clause-refused
returns-in-Err-clause-refused c = λ net budget is ne.
    fails net budget c.args.number c.args.given.now c.args.replay.now c.step.new.self c.in-Err.found c.refusal_of_record.result c.refusal_of_record.ensures.memory c.refusal_of_record.ensures.record c.in-Err.ensures is ne
