-- Beside Edits.antt: what only private contracts, invariants and laws speak of.
use Rattle.std.specs.Prelude.{Bool, if◌then◌else◌}
use Rattle.gate_net.specs.declared.Kind.{Kind}
use Rattle.gate_net.specs.declared.Kind.TheVariants.{Zero, One}

abbrev pub constant_kind : Bool → Kind
constant_kind b = if b then One else Zero
