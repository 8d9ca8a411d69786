use Rattle.std.proofs.Common.{◌≡◌, map}
use Rattle.std.specs.FinMap.{empty}
use Rattle.rm_base.specs.Kept.{entry_of, put_all}
use Rattle.rm_base.specs.Inner.Kept.{files_of}
use Rattle.rm_base.proofs.kept.from_entries.Given as goal

abbrev pub invariant-loop-name : goal.invariant-loop-name
invariant-loop-name l = files_of l.kept ≡ put_all empty (map entry_of l.yielded)
