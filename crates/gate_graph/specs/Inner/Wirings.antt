-- Beside Wirings.antt: what only private contracts, invariants and laws speak of.
use Rattle.std.specs.Prelude.{ℕ, Option, Some, None}
use Rattle.gate_net.specs.declared.Kind.{Kind}

abbrev pub free_bit : Option Kind → ℕ
free_bit None = 1
free_bit (Some kind) = 0
