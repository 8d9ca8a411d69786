use Rattle.std.proofs.Common.{◌≡◌, take}
use Rattle.rm_base.specs.Words.{Word}
use Rattle.rm_model.specs.Value.{is_among}
use Rattle.blif_format.specs.Uses.{is_driver, names_in}
use Rattle.blif_flatten.specs.Inner.Uses.{uses_at}
use Rattle.blif_flatten.proofs.drivers.driven_names.Given as goal

abbrev pub invariant-loop-this : goal.invariant-loop-this
invariant-loop-this l = (x : Word) → is_among l.driven x ≡ is_among (names_in is_driver (uses_at (take l.this-index l.uses))) x
