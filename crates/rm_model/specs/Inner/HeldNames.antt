-- Names, in whichever way they are looked up.
use Rattle.std.specs.Prelude.{List}
use Rattle.rm_model.specs.declared.name_table.Held.{Held}
use Rattle.rm_model.specs.declared.name_table.Held.TheVariants.{Hashed, InOrder}
use Rattle.rm_base.specs.Words.{Word}

abbrev pub held_names : Held → List Word
held_names (Hashed names) = names
held_names (InOrder names) = names
