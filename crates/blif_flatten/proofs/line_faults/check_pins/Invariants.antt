use Rattle.std.proofs.Common.{◌≡◌, drop}
use Rattle.blif_reader.specs.Lines.{spots_at}
use Rattle.blif_flatten.specs.LineFaults.{pins_fault}
use Rattle.blif_flatten.proofs.line_faults.check_pins.Given as goal

abbrev pub invariant-loop-pin : goal.invariant-loop-pin
invariant-loop-pin l = pins_fault (spots_at l.text l.pins) ≡ pins_fault (spots_at l.text (drop l.pin-index l.pins))
