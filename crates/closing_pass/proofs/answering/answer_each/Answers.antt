use Rattle.gate_graph.specs.Circuit.{net_of}
use Rattle.std.proofs.lemmas.Option.{slice_get-get_or}
use Rattle.closing_pass.specs.Verdicts.{IsAnswer}
use Rattle.closing_pass.proofs.InOrder.{zip_more}
use Rattle.closing_pass.proofs.answering.answer_each.Goals as goal

pub loop-fault-preserved : goal.loop-fault-preserved
loop-fault-preserved c = record {
  verdicts =
      rw c.in_ok-push.ensures.items (zip_more (IsAnswer (net_of c.args.graph.now) c.args.settings.now.budget) c.args.faults.now c.loop-fault.verdicts.items c.loop-fault.fault-index _ c.in_ok-verdict.verdict c.loop-fault-test.true c.loop-fault.invariant.verdicts c.in_ok-verdict.ensures.answer);
  refutes = c.in_ok-verdict.ensures.refutes;
  searches = c.in_ok-verdict.ensures.searches (net_of c.args.graph.now) c.loop-fault.invariant.searches;
  fits = c.in_ok-verdict.ensures.fits (net_of c.args.graph.now) c.loop-fault.invariant.fits;
  decides = c.in_ok-verdict.ensures.decides;
}

pub invariant_of-question : goal.invariant_of-question
invariant_of-question c = record { pin = c.requires.pins c.loop-fault.fault-index _ (slice_get-get_or c.args.faults.now c.loop-fault.fault-index _ c.loop-fault-test.true) }
