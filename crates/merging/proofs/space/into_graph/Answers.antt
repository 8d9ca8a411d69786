use Rattle.std.proofs.Common.{◌≡◌, ap, arith, length}
use Rattle.gate_graph.specs.Holds.{held}
use Rattle.merging.proofs.space.into_graph.Goals as goal

pub returns-clause-same : goal.returns-clause-same
returns-clause-same c = record {
  net = c.commit.ensures.net;
  held = let none : length (held c.args.space.trial.trail.entries) ≡ 0 = ap (λ es. length (held es)) c.requires in omega (arith, c.commit.ensures.held, none);
}
