use Rattle.std.proofs.Common.{arith, ap, sym, List, ℕ}
use Rattle.std.specs.Prelude.{slice_get}
use Rattle.gate_graph.specs.Circuit.{Circuit}
use Rattle.gate_graph.proofs.Pinned.{past-pins}
use Rattle.gate_graph.proofs.state.Graph.pin_at.Goals as goal

pub returns-then-gate-len-clause-pin : goal.returns-then-gate-len-clause-pin
returns-then-gate-len-clause-pin c =
    let i = c.self.inside in
    let v : Circuit = record { kinds = i.kinds.items; pool = i.pool; epoch = i.epoch } in
    rw (← c.self.view_is) (ap (λ (l : List ℕ). slice_get l c.args.position) (sym (past-pins v c.self.invariant.0.wired.shape c.args.gate.0 (omega (arith, c.len.ensures, i.kinds.ok.0)))))
