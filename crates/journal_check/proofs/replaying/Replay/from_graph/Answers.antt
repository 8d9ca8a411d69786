use Rattle.gate_graph.specs.Circuit.{net_of}
use Rattle.journal_check.proofs.WithinLaws.{within_few}
use Rattle.journal_check.proofs.replaying.Replay.from_graph.Goals as goal

pub over-requires : goal.over-requires
over-requires c = record { held = c.requires.held; within = within_few (net_of c.args.graph) c.requires.wires c.requires.nodes c.requires.observed }
