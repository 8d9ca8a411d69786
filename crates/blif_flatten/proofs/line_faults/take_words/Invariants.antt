use Rattle.std.proofs.Common.{◌≡◌, take, drop}
use Rattle.std.specs.Prelude.{fold}
use Rattle.blif_format.specs.Uses.{parts_of}
use Rattle.blif_reader.specs.Lines.{spots_at}
use Rattle.blif_flatten.specs.LineFaults.{outputs_with, parts_fault}
use Rattle.blif_flatten.proofs.line_faults.take_words.Given as goal

abbrev pub invariant-loop-i : goal.invariant-loop-i
invariant-loop-i l = (l.outputs ≡ fold outputs_with l.initial.outputs (take l.i (parts_of l.command (spots_at l.text l.words))))
    × (parts_fault l.initial.outputs 0 (parts_of l.command (spots_at l.text l.words)) ≡ parts_fault l.outputs l.i (drop l.i (parts_of l.command (spots_at l.text l.words))))
