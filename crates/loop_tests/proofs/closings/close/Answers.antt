use Rattle.std.proofs.Common.{◌≡◌, ℕ, Some, None, List, ap, sym, ◌∙◌}
use Rattle.std.specs.Option.{option_copied}
use Rattle.gate_graph.specs.Circuit.{net_of}
use Rattle.loop_tests.proofs.closings.close.Goals as goal

some_none : (x : List ℕ) → Some x ≡ None → ⊥
some_none x e = absurd (cc)

pub close_faults-requires-clause-there : goal.close_faults-requires-clause-there
close_faults-requires-clause-there g c κs within = λ e. some_none _ (ap option_copied (sym c.in-Some.is) ∙ c.file.ensures ∙ e)

pub write_verdicts-requires-clause-recordable : goal.write_verdicts-requires-clause-recordable
write_verdicts-requires-clause-recordable g c =
    c.closed_are_recordable.ensures (net_of c.in_ok-last.last) c.args.settings.now.budget c.in_ok-last.report.verdicts.items c.well_formed-2.ensures.net c.in_ok-last.ensures.tidy c.in_ok-last.ensures.verdicts
