-- A fault of one version as one of either.
use Rattle.journal_text.specs.declared.faults.JournalFault.{JournalFault as LineFault}
use Rattle.journal_text.specs.declared.faults.JournalFault.TheVariants as line
use Rattle.journal_binary.specs.declared.faults.BinaryFault.{BinaryFault}
use Rattle.journal_binary.specs.declared.faults.BinaryFault.TheVariants as binary
use Rattle.journal_reading.specs.declared.faults.JournalFault.{JournalFault}
use Rattle.journal_reading.specs.declared.faults.JournalFault.TheVariants as fault
use Rattle.journal_reading.specs.declared.faults.Version.TheVariants.{One, Two}

abbrev pub of_lines : LineFault → JournalFault
of_lines (line.BadHeader n) = fault.BadHeader One n
of_lines (line.BadRecord n) = fault.BadRecord One n
of_lines (line.Truncated n) = fault.Truncated One n
of_lines (line.AfterEnd n) = fault.AfterEnd One n
of_lines line.NoMemory = fault.NoMemory

abbrev pub of_bytes : BinaryFault → JournalFault
of_bytes binary.BadHeader = fault.BadHeader Two 0
of_bytes (binary.BadRecord n) = fault.BadRecord Two n
of_bytes (binary.Truncated n) = fault.Truncated Two n
of_bytes (binary.AfterEnd n) = fault.AfterEnd Two n
of_bytes binary.NoMemory = fault.NoMemory
