-- Problems of a conversion, by where they come from.
use Rattle.file_pieces.specs.declared.PieceProblem.{PieceProblem}
use Rattle.file_pieces.specs.declared.PieceProblem.TheVariants as piece
use Rattle.journal_text.specs.declared.faults.JournalFault.{JournalFault}
use Rattle.journal_text.specs.declared.faults.JournalFault.TheVariants as fault
use Rattle.journal_convert.specs.declared.problem.ConvertProblem.{ConvertProblem}
use Rattle.journal_convert.specs.declared.problem.ConvertProblem.TheVariants.{Failed, Missing, NoMemory, Text, TooLong}

abbrev pub of_piece : PieceProblem → ConvertProblem
of_piece piece.Failed = Failed
of_piece piece.Missing = Missing
of_piece piece.TooLong = TooLong
of_piece piece.NoMemory = NoMemory

abbrev pub of_fault : JournalFault → ConvertProblem
of_fault (fault.BadHeader n) = Text (fault.BadHeader n)
of_fault (fault.BadRecord n) = Text (fault.BadRecord n)
of_fault (fault.Truncated n) = Text (fault.Truncated n)
of_fault (fault.AfterEnd n) = Text (fault.AfterEnd n)
of_fault fault.NoMemory = NoMemory
