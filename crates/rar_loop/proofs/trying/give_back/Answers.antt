use Rattle.std.proofs.Common.{◌≡◌, ◌+◌, sym, ◌∙◌, subst}
use Rattle.gate_net.specs.Net.{source_count, gate_count}
use Rattle.gate_graph.specs.Circuit.{Circuit, net_of, live_nodes}
use Rattle.wire_edit.specs.Tried.{start_of}
use Rattle.rar_loop.proofs.Replacing.{rolled_back, back_again, at_start}
use Rattle.rar_loop.proofs.trying.give_back.Goals as goal

pub returns : goal.returns
returns c = λ lent is start first live.
    let e = c.take_back.ensures in
    back_again lent c.take_back.new.self is
    (rolled_back lent.graph c.take_back.new.self.graph (start_of c.args.trial.now) (at_start lent is.entries ∙ sym start) e.graph e.wiring live
    (subst (λ (v : Circuit). live_nodes v ≡ 2 + source_count (net_of v) + gate_count (net_of v)) c.graph.ensures c.well_formed-2.ensures.live))
    e.entries (e.room ∙ first) (e.first ∙ first)
