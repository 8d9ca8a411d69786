use Rattle.std.proofs.Common.{◌≡◌, Some, map, take}
use Rattle.rm_model.specs.Numbers.{place_of}
use Rattle.rm_model.proofs.numbering.signals.Given as goal

abbrev pub invariant-loop-name : goal.invariant-loop-name
invariant-loop-name l = map (λ k. Some k) l.places.items ≡ map (place_of l.table) (take l.name-index l.names)
