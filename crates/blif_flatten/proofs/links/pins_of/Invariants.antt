use Rattle.std.proofs.Common.{◌≡◌, ◌++◌, map, drop}
use Rattle.rm_model.specs.declared.parts.Model.{Model}
use Rattle.blif_flatten.specs.Instances.{pin_in}
use Rattle.blif_flatten.specs.Inner.Interfaces.{IsInterface, pins_at}
use Rattle.blif_flatten.proofs.links.pins_of.Given as goal

abbrev pub invariant-loop-word : goal.invariant-loop-word
invariant-loop-word l = (m : Model) → IsInterface l.interface m → l.pins ++ map (pin_in m) (pins_at l.text (drop l.word-index l.words)) ≡ map (pin_in m) (pins_at l.text l.words)
