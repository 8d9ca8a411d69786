use Rattle.std.proofs.Common.{◌≡◌, ap}
use Rattle.gate_graph.specs.Circuit.{net_of}
use Rattle.journal_check.specs.Inner.ReplayStates.{position_of}
use Rattle.journal_check.specs.Replaying.{editing}
use Rattle.journal_check.proofs.TrialLaws.{makes_says}
use Rattle.journal_check.proofs.trying.edit.Goals as goal

pub returns-then-left-eq0-clause-says : goal.returns-then-left-eq0-clause-says
returns-then-left-eq0-clause-says c = λ budget.
    let from : position_of c.args.state ≡ editing (net_of c.in-Trying.trial.graph) = ap position_of c.in-Trying.is in
    makes_says budget (position_of c.args.state) (net_of c.in-Trying.trial.graph) c.args.step c.args.tree.now c.renew_and_make.result.0 c.renew_and_make.result.1 from c.renew_and_make.ensures.makes c.renew_and_make.ensures.editing
