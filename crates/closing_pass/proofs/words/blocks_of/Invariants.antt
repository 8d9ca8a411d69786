use Rattle.std.proofs.Common.{List, map, length, ℕ, ◌++◌}
use Rattle.closing_pass.specs.Inner.Blocks.{AreBlocksOf}
use Rattle.closing_pass.specs.Inner.Findings.{AreLong}
use Rattle.closing_pass.proofs.words.blocks_of.Given as goal

abbrev pub invariant-loop-rest : goal.invariant-loop-rest
invariant-loop-rest l = record {
  long : AreLong l.rest l.sources;
  blocks : (more : List (List ℕ)) → AreBlocksOf l.rest more → AreBlocksOf l.vectors (map (λ w. w.items) l.blocks.items ++ more);
}

abbrev pub decreases-loop-rest : goal.decreases-loop-rest
decreases-loop-rest l = length l.rest
