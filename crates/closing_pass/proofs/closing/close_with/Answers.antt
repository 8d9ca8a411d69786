use Rattle.std.proofs.Common.{◌≤◌, sym, subst}
use Rattle.gate_graph.specs.Circuit.{net_of}
use Rattle.gate_net.specs.Net.{IsWellFormed, Net}
use Rattle.journal_text.specs.Accepted.{Keeps}
use Rattle.wire_edit.specs.Work.{work}
use Rattle.closing_pass.proofs.Sizes.{IsSized, few_steps}
use Rattle.closing_pass.proofs.closing.close_with.Goals as goal

pub close_all-requires-clause-few : goal.close_all-requires-clause-few
close_all-requires-clause-few g c κs within =
    let sized : IsSized c.args.graph = record { live = c.well_formed-2.ensures.live; pins = c.well_formed-2.ensures.held } in
    let few : work (net_of c.args.graph) ≤ 4194304 = few_steps c.tidying_ends.ensures.bounded c.args.graph c.well_formed-2.ensures.net sized c.requires.few in
    subst (λ (n : Net). work n ≤ 4194304) (sym c.in-Ok.ensures.net) few

pub returns-clause-keeps : goal.returns-clause-keeps
returns-clause-keeps g c =
    let formed : IsWellFormed (net_of c.in-Ok.trial.graph) = subst IsWellFormed (sym c.in-Ok.ensures.net) c.well_formed-2.ensures.net in
    subst (λ (n : Net). Keeps n (net_of c.commit-last.result)) c.in-Ok.ensures.net
    (subst (λ (n : Net). Keeps (net_of c.in-Ok.trial.graph) n) (sym c.commit-last.ensures.net)
    (c.accepted_runs_keep.ensures _ _ _ formed c.in_ok-report.ensures.closed.steps.accepted))
