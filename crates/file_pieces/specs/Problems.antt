-- Problems of pieces, by where they come from.
use Rattle.rm_base.specs.declared.outside.OutsideFault.{OutsideFault}
use Rattle.rm_base.specs.declared.outside.OutsideFault.TheVariants as outside
use Rattle.file_pieces.specs.declared.PieceProblem.{PieceProblem}
use Rattle.file_pieces.specs.declared.PieceProblem.TheVariants.{Failed, NoMemory}

abbrev pub of_outside : OutsideFault → PieceProblem
of_outside outside.Failed = Failed
of_outside outside.NoMemory = NoMemory
