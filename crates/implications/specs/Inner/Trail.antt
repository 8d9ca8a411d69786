-- Beside Trail.antt: what only private contracts, invariants and laws speak of.
use Rattle.std.specs.Prelude.{List, ◌≡◌, ◌++◌}
use Rattle.refutation.specs.declared.reasoning.Fact.{Fact}
use Rattle.rm_base.specs.declared.numbers.NodeId.{NodeId}

-- the trail grew at its end
abbrev pub IsLonger : List (NodeId × Fact) → List (NodeId × Fact) → Type 0
IsLonger old new = (rest : List (NodeId × Fact)) × (new ≡ old ++ rest)
