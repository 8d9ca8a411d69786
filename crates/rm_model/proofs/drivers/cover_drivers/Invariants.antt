use Rattle.std.proofs.Common.{◌≡◌, take}
use Rattle.std.specs.List.{filter_map}
use Rattle.rm_model.specs.Numbers.{place_of}
use Rattle.rm_model.proofs.drivers.cover_drivers.Given as goal

abbrev pub invariant-loop-name : goal.invariant-loop-name
invariant-loop-name l = l.drivers.items ≡ filter_map (place_of l.table) (take l.name-index l.name-items)
