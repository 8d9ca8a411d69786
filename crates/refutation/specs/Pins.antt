-- What is known of a gate's pins.
use Rattle.std.specs.Prelude.{Bool, List, Option, map, ℕ}
pub use Rattle.local_evaluation.specs.Pins.{AreBelow, FailsAt, IsScan, failing, pin_value, stuck_of, with_stuck}
use Rattle.local_evaluation.specs.declared.pins.Stuck.{Stuck}
use Rattle.refutation.specs.Facts.{Held, known_equal, known_faulty, known_good}
use Rattle.refutation.specs.declared.pins.Aspect.{Aspect}
use Rattle.refutation.specs.declared.pins.Aspect.TheVariants.{OfEqual, OfFaulty, OfGood}

abbrev pub known_on : Aspect → Held → ℕ → Option Bool
known_on OfGood held x = known_good held x
known_on OfFaulty held x = known_faulty held x
known_on OfEqual held x = known_equal held x

-- what is known of the pins with these drivers
abbrev pub pins_of : Option Stuck → Aspect → Held → List ℕ → List (Option Bool)
pins_of stuck aspect held ds = with_stuck stuck (map (known_on aspect held) ds)
