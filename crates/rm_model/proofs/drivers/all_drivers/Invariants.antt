use Rattle.std.proofs.Common.{◌≡◌, map, take}
use Rattle.std.specs.List.{filter_map}
use Rattle.rm_model.specs.Numbers.{place_of}
use Rattle.rm_model.proofs.drivers.all_drivers.Given as goal

abbrev pub invariant-loop-cover : goal.invariant-loop-cover
invariant-loop-cover l = map (λ d. d.items) l.all.items ≡ map (λ c. filter_map (place_of l.table) c.inputs) (take l.cover-index l.covers)
