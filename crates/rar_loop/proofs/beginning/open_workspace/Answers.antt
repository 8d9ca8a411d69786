use Rattle.std.proofs.Common.{sym, subst, arith}
use Rattle.gate_graph.specs.Circuit.{net_of}
use Rattle.wire_edit.specs.Order.{IsTidy}
use Rattle.wire_edit.specs.Tried.{Tried}
use Rattle.rar_loop.specs.Inner.Improving.{HasBegun}
use Rattle.rar_loop.specs.Inner.Spaces.{HasToolsFor}
use Rattle.rar_loop.proofs.Sizing.{HasSize}
use Rattle.rar_loop.specs.Sizes.{IsSame}
use Rattle.rar_loop.specs.Trying.{IsLent}
use Rattle.rar_loop.proofs.Looping.{begun_again, err_ok, lent_anew, same_size}
use Rattle.rar_loop.proofs.beginning.open_workspace.Goals as goal

pub begin-requires : goal.begin-requires
begin-requires c = omega (arith, c.in_ok-swept.ensures.begun.within.size, c.requires.few)

pub returns-clause-begun : goal.returns-clause-begun
returns-clause-begun c =
    let before : HasSize c.in_ok-swept.swept = record { live = c.well_formed-2.ensures.live; pins = c.well_formed-2.ensures.held } in
    let size : HasSize c.in_ok-lent.lent.graph = subst HasSize c.graph.ensures (record { live = c.well_formed-3.ensures.live; pins = c.well_formed-3.ensures.held }) in
    let same : IsSame c.in_ok-swept.swept c.in_ok-lent.lent.graph = same_size c.in_ok-swept.swept c.in_ok-lent.lent.graph before size c.in_ok-lent.ensures.net c.in_ok-lent.ensures.held in
    subst (λ (t : Tried). HasBegun c.args.graph c.args.depth t.graph c.in_ok-swept.log.items) (sym c.in_ok-ready.ensures.trial)
    (begun_again c.args.graph c.args.depth c.in_ok-swept.swept c.in_ok-lent.lent.graph c.in_ok-swept.log.items c.in_ok-swept.ensures.begun same)

pub returns-clause-ready : goal.returns-clause-ready
returns-clause-ready c =
    let size : HasSize c.in_ok-lent.lent.graph = subst HasSize c.graph.ensures (record { live = c.well_formed-3.ensures.live; pins = c.well_formed-3.ensures.held }) in
    let before : HasSize c.in_ok-swept.swept = record { live = c.well_formed-2.ensures.live; pins = c.well_formed-2.ensures.held } in
    let same : IsSame c.in_ok-swept.swept c.in_ok-lent.lent.graph = same_size c.in_ok-swept.swept c.in_ok-lent.lent.graph before size c.in_ok-lent.ensures.net c.in_ok-lent.ensures.held in
    let lent : IsLent c.in_ok-lent.lent = lent_anew c.in_ok-swept.swept c.in_ok-lent.lent size c.in_ok-lent.ensures.net c.in_ok-lent.ensures.pins c.in_ok-lent.ensures.nodes c.in_ok-lent.ensures.steps c.in_ok-lent.ensures.first c.in_ok-lent.ensures.entries
    (omega (arith, c.in_ok-swept.ensures.begun.within.size, c.requires.few, same.pins, same.nodes)) in
    record {
      tidy = subst (λ (t : Tried). IsTidy (net_of t.graph)) (sym c.in_ok-ready.ensures.trial) (subst IsTidy (sym c.in_ok-lent.ensures.net) c.in_ok-swept.ensures.begun.tidy);
      lent = subst IsLent (sym c.in_ok-ready.ensures.trial) lent;
      tools = subst (λ (t : Tried). HasToolsFor (net_of t.graph) c.in_ok-ready.ready) (sym c.in_ok-ready.ensures.trial) c.in_ok-ready.ensures.tools;
    }

pub returns-in_err-lent-clause-begun : goal.returns-in_err-lent-clause-begun
returns-in_err-lent-clause-begun c = err_ok c.from_residual-in_err-lent.result _ _ c.from_residual-in_err-lent.ensures.1

pub returns-in_err-lent-clause-ready : goal.returns-in_err-lent-clause-ready
returns-in_err-lent-clause-ready c = err_ok c.from_residual-in_err-lent.result _ _ c.from_residual-in_err-lent.ensures.1

pub returns-in_err-ready-clause-begun : goal.returns-in_err-ready-clause-begun
returns-in_err-ready-clause-begun c = err_ok c.from_residual-in_err-ready.result _ _ c.from_residual-in_err-ready.ensures.1

pub returns-in_err-ready-clause-ready : goal.returns-in_err-ready-clause-ready
returns-in_err-ready-clause-ready c = err_ok c.from_residual-in_err-ready.result _ _ c.from_residual-in_err-ready.ensures.1
