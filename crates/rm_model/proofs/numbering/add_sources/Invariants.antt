use Rattle.std.proofs.Common.{◌≡◌, ◌++◌, take}
use Rattle.rm_model.proofs.numbering.add_sources.Given as goal

abbrev pub invariant-loop-name : goal.invariant-loop-name
invariant-loop-name l = l.table ≡ l.initial.table ++ take l.name-index l.sources
