use Rattle.std.proofs.Common.{arith, ◌≢◌}
use Rattle.std.proofs.lemmas.Result.{IfOk-weaker}
use Rattle.gate_graph.specs.Circuit.{Circuit, net_of}
use Rattle.cover_decompose.specs.Decomposition.{net_of_model}
use Rattle.cover_decompose.specs.StandsFor.{HasPoints, StandsFor}
use Rattle.journal_check.specs.Accepts.{IsAccepted}
use Rattle.journal_check.specs.Replaying.{IsRefusedAt, editing}
use Rattle.journal_check.specs.declared.refusal.JournalRefusal.{JournalRefusal}
use Rattle.journal_check.specs.declared.refusal.Why.TheVariants as why
use Rattle.journal_check.proofs.LoopLaws.{ends, goes_next, handed_on, item_at, stops}
use Rattle.journal_check.proofs.whole.replay.Goals as goal

pub loop-given-preserved : goal.loop-given-preserved
loop-given-preserved c =
    goes_next c.args.budget (editing (net_of_model c.args.model.now)) c.args.records.now c.loop-given.replay c.step.new.self c.loop-given.given-index c.given-item.result c.in_ok-step.field-0 (item_at c.args.records.now c.loop-given.given-index c.given-item.result c.loop-given-test.true c.given-item.is) (omega arith) c.loop-given.invariant c.in_ok-step.ensures

pub returns-in_err-step-clause-refused : goal.returns-in_err-step-clause-refused
returns-in_err-step-clause-refused c =
    handed_on c.from_residual.result c.in_err-step.field-0.0 (λ (e : JournalRefusal). e.why ≢ why.NoMemory → IsRefusedAt c.args.budget (editing (net_of_model c.args.model.now)) c.args.records.now 1 e.number e.why) c.from_residual.ensures.1
    (stops c.args.budget (editing (net_of_model c.args.model.now)) c.args.records.now c.loop-given.replay c.step.new.self c.loop-given.given-index c.given-item.result c.in_err-step.field-0.0 (item_at c.args.records.now c.loop-given.given-index c.given-item.result c.loop-given-test.true c.given-item.is) c.loop-given.invariant c.in_err-step.ensures)

pub returns-clause-accepted : goal.returns-clause-accepted
returns-clause-accepted c =
    ends c.replays_accept.ensures c.args.model.now c.args.budget c.args.records.now c.loop-given.replay c.loop-given.given-index c.finish.result (omega arith) c.loop-given.invariant c.finish.ensures

pub returns-clause-stands : goal.returns-clause-stands
returns-clause-stands c =
    let accepted = ends c.replays_accept.ensures c.args.model.now c.args.budget c.args.records.now c.loop-given.replay c.loop-given.given-index c.finish.result (omega arith) c.loop-given.invariant c.finish.ensures in
    IfOk-weaker c.finish.result (λ (g : Circuit). IsAccepted c.args.model.now c.args.budget c.args.records.now (net_of g)) (λ (g : Circuit). StandsFor (net_of g) c.args.model.now × HasPoints (net_of g) c.args.model.now)
    (λ g a. (c.accepted_stand.ensures.stands c.args.model.now c.args.budget c.args.records.now (net_of g) c.requires.formed c.requires.ranked a, c.accepted_stand.ensures.points c.args.model.now c.args.budget c.args.records.now (net_of g) c.requires.formed c.requires.ranked a)) accepted
