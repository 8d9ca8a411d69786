use Rattle.std.proofs.Common.{ℕ, ◌+◌, ◌<◌, ◌≡◌}
use Rattle.std.specs.Prelude.{slice_index_or}
use Rattle.gate_graph.specs.Circuit.{net_of}
use Rattle.refutation.specs.FactSets.{held_by}
use Rattle.refutation.specs.Facts.{known_good}
use Rattle.rm_base.specs.declared.vectors.Value3.TheVariants.{Unknown}
use Rattle.ternary_sim.specs.Marks.{seen}
use Rattle.ternary_sim.specs.Sims.{Fits}
use Rattle.refutation_check.proofs.forward.set_sources.Given as goal

abbrev pub invariant-loop-k : goal.invariant-loop-k
invariant-loop-k l = record {
  fits : Fits l.sim (net_of l.graph);
  known : (j : ℕ) → j < l.k → seen (slice_index_or l.sim.sources j Unknown) ≡ known_good (held_by l.facts) (2 + j);
}
