-- Workspaces after a try.
use Rattle.std.proofs.Common.{ℕ, List, sym, subst}
use Rattle.gate_graph.specs.Circuit.{net_of}
use Rattle.wire_edit.specs.Order.{IsTidy}
use Rattle.rar_loop.specs.Inner.Trying.{IsAhead, IsBack}
use Rattle.candidate_wires.specs.declared.candidate.Pair.{Pair}
use Rattle.journal_text.specs.declared.record.Record.{Record}
use Rattle.rar_loop.specs.declared.workspace.Workspace.{Workspace}
use Rattle.rar_loop.specs.Inner.Spaces.{HasToolsFor, IsReady}

-- after a try in vain, and after one that gained
pub ready_still : (s t : Workspace) → IsReady s → IsBack s.trial t.trial → HasToolsFor (net_of t.trial.graph) t → IsReady t
ready_still s t ready back tools = record { tidy = subst IsTidy (sym back.same.net) ready.tidy; lent = back.lent; tools = tools }

pub ready_ahead : (s t : Workspace) (pair : Pair) (depth : ℕ) (records : List Record) → IsAhead s.trial pair depth records t.trial → HasToolsFor (net_of t.trial.graph) t → IsReady t
ready_ahead s t pair depth records ahead tools = record { tidy = ahead.better.gained.tidy; lent = ahead.lent; tools = tools }
