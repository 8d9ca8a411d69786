use Rattle.std.proofs.Common.{rules, arith}
use Rattle.gate_graph.specs.Circuit.{net_of}
use Rattle.journal_check.proofs.settling.Settling.new.Goals as goal

pub returns-clause-settling : goal.returns-clause-settling
returns-clause-settling c = record {
  batches = c.new-2.ensures (net_of c.args.graph.now);
  fits = c.in_ok-lanes.ensures;
  words = search rules;
  within = omega arith;
  pins = search rules;
}
