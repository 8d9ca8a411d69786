use Rattle.std.proofs.Common.{List, subst, sym, ℕ, ◌≢◌}
use Rattle.gate_graph.specs.Circuit.{net_of}
use Rattle.journal_text.specs.Runs.{AreWritable}
use Rattle.journal_text.specs.declared.record.Record.{Record}
use Rattle.equal_evidence.specs.Shown.{IsSwept}
use Rattle.proof_check.specs.Flaws.{EndsElsewhere, IsRunFlaw}
use Rattle.proof_check.specs.Inner.Stepping.{HasGone}
use Rattle.proof_check.specs.declared.refusal.JudgeRefusal.{JudgeRefusal}
use Rattle.proof_check.specs.declared.refusal.JudgeRefusal.TheVariants as refusal
use Rattle.proof_check.proofs.Looping.{elsewhere, handed_on, swept_there}
use Rattle.proof_check.proofs.stepping.weigh_run.Goals as goal

pub take_steps-requires : goal.take_steps-requires
take_steps-requires c = subst (λ (rs : List Record). AreWritable rs) (sym c.records.ensures) c.requires.written

pub returns-in_err-take_steps-clause-refused : goal.returns-in_err-take_steps-clause-refused
returns-in_err-take_steps-clause-refused c =
    handed_on c.from_residual-in_err-take_steps.result c.in_err-take_steps.field-0.0 (λ (j : JudgeRefusal). j ≢ refusal.NoMemory → IsRunFlaw (net_of c.args.graph) c.args.budget c.args.run.now j) c.from_residual-in_err-take_steps.ensures.1
    (λ ne. subst (λ (rs : List Record). IsRunFlaw (net_of c.args.graph) c.args.budget rs c.in_err-take_steps.field-0.0) c.records.ensures (c.in_err-take_steps.ensures.refused (net_of c.args.graph) c.args.budget c.in_ok-replay.ensures.begins ne))

pub returns-then-observes_one-clause-shown : goal.returns-then-observes_one-clause-shown
returns-then-observes_one-clause-shown c =
    swept_there (net_of c.args.graph) c.args.run.now c.take_steps.new.replay c.into_graph-last.result
    (subst (λ (rs : List Record). HasGone (net_of c.args.graph) rs c.take_steps.new.replay) c.records.ensures (c.in_ok-take_steps.ensures.made (net_of c.args.graph) c.args.budget c.in_ok-replay.ensures.begins))
    c.into_graph-last.ensures (c.observes_one.ensures.one c.if-observes_one.true)

pub returns-clause-refused : goal.returns-clause-refused
returns-clause-refused c = λ ne.
    elsewhere (net_of c.args.graph) c.args.run.now c.take_steps.new.replay c.into_graph-last.result
    (subst (λ (rs : List Record). HasGone (net_of c.args.graph) rs c.take_steps.new.replay) c.records.ensures (c.in_ok-take_steps.ensures.made (net_of c.args.graph) c.args.budget c.in_ok-replay.ensures.begins))
    c.into_graph-last.ensures (c.observes_one.ensures.other c.if-observes_one.false)
