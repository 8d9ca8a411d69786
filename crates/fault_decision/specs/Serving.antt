-- A decider that serves a net.
use Rattle.std.specs.Prelude.{length, ◌≤◌}
use Rattle.gate_net.specs.Net.{Net}
use Rattle.implications.specs.Bases.{IsFor}
use Rattle.ternary_sim.specs.Sims.{Fits}
use Rattle.fault_decision.specs.declared.decider.Decider.{Decider}

-- each of its parts serves the net, or has room for its node numbers
pub record IsServing (net : Net) (d : Decider) : Type 0 where
  pub serves : IsFor net d.engine d.basis
  pub shortener : length net.nodes ≤ d.shortener
  pub reads : Fits d.work.sim net
