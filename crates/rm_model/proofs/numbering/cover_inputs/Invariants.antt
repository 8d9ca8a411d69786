use Rattle.std.proofs.Common.{◌≡◌, Some, map, take}
use Rattle.rm_model.specs.Numbers.{place_of}
use Rattle.rm_model.proofs.numbering.cover_inputs.Given as goal

abbrev pub invariant-loop-cover : goal.invariant-loop-cover
invariant-loop-cover l = map (λ ks. map (λ k. Some k) ks.items) l.all.items ≡ map (λ c. map (place_of l.table) c.inputs) (take l.cover-index l.covers)
