-- Beside FactSets.antt: what only private contracts, invariants and laws speak of.
use Rattle.std.specs.Prelude.{Bool, false, true}
use Rattle.refutation.specs.declared.held.NodeFacts.{NodeFacts}
use Rattle.refutation.specs.declared.reasoning.Fact.{Fact}
use Rattle.refutation.specs.declared.reasoning.Fact.TheVariants.{Differs, Equal, Faulty, Good}

-- with that fact marked so
abbrev pub marked : NodeFacts → Fact → Bool → NodeFacts
marked m (Good false) b = record m { good_is_0 = b }
marked m (Good true) b = record m { good_is_1 = b }
marked m (Faulty false) b = record m { faulty_is_0 = b }
marked m (Faulty true) b = record m { faulty_is_1 = b }
marked m Equal b = record m { equal = b }
marked m Differs b = record m { differs = b }
