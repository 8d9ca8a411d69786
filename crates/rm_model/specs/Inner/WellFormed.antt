-- Beside WellFormed.antt: what only private contracts, invariants and laws speak of.
use Rattle.std.specs.Prelude.{◌≡◌, ◌≢◌, ◌≤◌, true, All, codes, IfSome}
use Rattle.rm_model.specs.Value.{control_of}
use Rattle.rm_model.specs.declared.parts.Latch.{Latch}
use Rattle.rm_model.specs.declared.parts.Model.{Model}
use Rattle.rm_model.specs.WellFormed.{is_distinct, driven_names, IsWellFormedCover}

-- the parts of it
abbrev pub AreOnce : Model → Type 0
AreOnce m = (is_distinct m.inputs ≡ true) × (is_distinct m.clocks ≡ true) × (is_distinct m.outputs ≡ true) × (is_distinct (driven_names m) ≡ true)

abbrev pub AreFormed : Model → Type 0
AreFormed m = All IsWellFormedCover m.covers × All (λ (l : Latch). IfSome l.init (λ n. n ≤ 3)) m.latches × All (λ (l : Latch). IfSome (control_of l) (λ x. x ≢ codes "NIL")) m.latches
