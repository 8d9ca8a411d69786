-- Trees without the lines that lead to what the faulty gate doesn't reach.
use Rattle.std.specs.Prelude.{List, []}
use Rattle.gate_net.specs.Net.{Net}
use Rattle.implications.specs.Outside.{AreOutside}
use Rattle.recursive_learning.specs.Inner.Telling.{Ends}
use Rattle.refutation.specs.Facts.{Held}
use Rattle.refutation.specs.declared.items.Item.{Item}
use Rattle.rm_base.specs.declared.numbers.Fault.{Fault}

-- the items end a branch with the facts that the faulty gate doesn't reach
abbrev pub IsBody : Net → Fault → List Item → Type 0
IsBody net fault items = (start : Held) × (AreOutside net fault start × Ends net fault start [] items)
