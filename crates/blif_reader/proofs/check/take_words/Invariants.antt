use Rattle.std.proofs.Common.{◌≡◌, ◌++◌, List, map, take, drop}
use Rattle.std.specs.List.{filter_map}
use Rattle.blif_lines.specs.Reading.{spot_of}
use Rattle.blif_format.specs.Uses.{Use, use_of, parts_of}
use Rattle.blif_format.specs.FirstFault.{parts_fault}
use Rattle.blif_reader.specs.Inner.Tally.{IsTally}
use Rattle.blif_reader.proofs.check.take_words.Given as goal

abbrev pub invariant-loop-i : goal.invariant-loop-i
invariant-loop-i l =
    (had : List Use) → IsTally had l.initial.names
    → IsTally (had ++ filter_map use_of (take l.i (parts_of l.command (map (spot_of l.text) l.words)))) l.names
    × (parts_fault had 0 (parts_of l.command (map (spot_of l.text) l.words)) ≡ parts_fault (had ++ filter_map use_of (take l.i (parts_of l.command (map (spot_of l.text) l.words)))) l.i (drop l.i (parts_of l.command (map (spot_of l.text) l.words))))
