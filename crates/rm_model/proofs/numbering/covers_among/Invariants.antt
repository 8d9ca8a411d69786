use Rattle.std.proofs.Common.{◌≡◌, take}
use Rattle.std.specs.List.{filter_map}
use Rattle.rm_model.specs.Inner.Signals.{cover_at}
use Rattle.rm_model.proofs.numbering.covers_among.Given as goal

abbrev pub invariant-loop-signal : goal.invariant-loop-signal
invariant-loop-signal l = l.places.items ≡ filter_map (cover_at l.sources) (take l.signal-index l.signals)
