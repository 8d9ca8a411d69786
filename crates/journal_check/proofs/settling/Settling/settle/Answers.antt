use Rattle.std.proofs.Common.{subst, sym}
use Rattle.gate_graph.specs.Circuit.{net_of}
use Rattle.journal_text.specs.declared.record.Record.{Record}
use Rattle.journal_check.specs.Inner.ReplayStates.{VerdictSays, left_of}
use Rattle.journal_check.proofs.settling.Settling.settle.Goals as goal

pub returns-in-Hit-clause-says : goal.returns-in-Hit-clause-says
returns-in-Hit-clause-says c =
    subst (λ (r : Record). VerdictSays (net_of c.args.graph.now) c.args.budget (left_of c.args.self.now) r (left_of c.settle_by_vector.new.self) c.settle_by_vector.result) (sym c.in-Hit.is) (c.settle_by_vector.ensures.says c.args.budget)
