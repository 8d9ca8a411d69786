use Rattle.std.proofs.Common.{◌≡◌, map, take}
use Rattle.std.specs.List.{filter_map}
use Rattle.rm_model.specs.Inner.Signals.{cover_at}
use Rattle.rm_model.proofs.numbering.covers_read.Given as goal

abbrev pub invariant-loop-signals : goal.invariant-loop-signals
invariant-loop-signals l = map (λ d. d.items) l.all.items ≡ map (λ ks. filter_map (cover_at l.sources) ks.items) (take l.signals-index l.inputs)
