-- Beside Marks.antt: what only private contracts, invariants and laws speak of.
use Rattle.std.specs.Prelude.{Bool, List, Option, ℕ}
use Rattle.ternary_sim.specs.declared.marks.NodeMarks.{NodeMarks}
use Rattle.ternary_sim.specs.declared.marks.Reading.{Reading}
use Rattle.ternary_sim.specs.declared.marks.Reading.TheVariants.{OfFaulty, OfGood}
use Rattle.ternary_sim.specs.Marks.{good_at, faulty_at}

abbrev pub known_in : Reading → List NodeMarks → ℕ → Option Bool
known_in OfGood marks x = good_at marks x
known_in OfFaulty marks x = faulty_at marks x
