use Rattle.std.proofs.Common.{◌≡◌, ◌∙◌, sym, ap}
use Rattle.gate_net.specs.Net.{Net}
use Rattle.journal_check.specs.Inner.ReplayStates.{net_in, position_of}
use Rattle.journal_check.specs.Inner.Standing.{position_in}
use Rattle.journal_check.specs.Replaying.{editing}
use Rattle.journal_check.specs.Standing.{Standing}
use Rattle.journal_check.specs.declared.state.ReplayState.{ReplayState}
use Rattle.journal_check.specs.declared.state.ReplayState.TheVariants.{Idle, Trying, Frozen}
use Rattle.journal_check.proofs.replaying.Replay.into_graph.Goals as goal

-- a state that stands at a net has it
net_at : (b : ReplayState) (net : Net) → position_of b ≡ editing net → net_in b ≡ net
net_at (Idle g) net e = cc
net_at (Trying t left) net e = cc
net_at (Frozen g s) net e = cc

pub returns : goal.returns
returns c = λ net e.
    c.into_graph.ensures ∙ net_at c.in-Some.state net (ap position_in (sym c.in-Some.is) ∙ (ap (λ (s : Standing). s.position) c.self.view_is ∙ e))
