use Rattle.journal_check.proofs.tracing.trace.Goals as goal

pub loop-preserved : goal.loop-preserved
loop-preserved c = record {
  pin = c.in-Passed.ensures.0;
  same = (λ d. c.in-Passed.ensures.1.0 (c.loop.invariant.same.0 d), λ d. c.loop.invariant.same.1 (c.in-Passed.ensures.1.1 d));
}
