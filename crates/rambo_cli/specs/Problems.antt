-- What keeps a run from ending with 0: its line and its status; and what a run that has done its work prints.
use Rattle.std.specs.Prelude.{◌≡◌, ℕ, List}
use Rattle.blif_format.specs.declared.refusal.Quantity.TheVariants.{Journal as JournalLimit}
use Rattle.file_pieces.specs.declared.PieceProblem.{PieceProblem}
use Rattle.file_pieces.specs.declared.PieceProblem.TheVariants as piece
use Rattle.journal_audit.specs.declared.problem.AuditProblem.{AuditProblem}
use Rattle.journal_audit.specs.declared.problem.AuditProblem.TheVariants as audit
use Rattle.journal_audit.specs.Lines.{fault_line as journal_fault_line, netlist_line, refusal_line}
use Rattle.pattern_text.specs.Text.{tests_line}
use Rattle.rambo_cli.specs.Summary.{summary_text, care_text}
use Rattle.rambo_cli.specs.Lines.{accepted_line, care_shape_line, converted_line, cut_line, fault_line, flat_line, limit_line, memory_line, proof_line, replayed_lines, second_line, shelf_line, sewn_line, unlike_line, window_line, words_line}
use Rattle.rambo_cli.specs.Verdicts.{judged_lines, verdict_line, verdict_status}
use Rattle.rambo_cli.specs.declared.work.Done.{Done}
use Rattle.rambo_cli.specs.declared.work.Done.TheVariants.{Optimised, Accepted, Flattened, Tested, Replayed, Converted, Compared, Judged, Cared, Cut, Sewn}
use Rattle.rambo_cli.specs.declared.problem.TextProblem.{TextProblem}
use Rattle.rambo_cli.specs.declared.problem.TextProblem.TheVariants as text
use Rattle.rambo_cli.specs.declared.problem.Problem.{Problem}
use Rattle.rambo_cli.specs.declared.problem.Problem.TheVariants.{Words, Text, Limit, Missing, Fault, Journal, Record, Netlist, Second, Unlike, CareShape, Window, Proof, Memory}

-- the line of what is found of a text
abbrev pub text_line : TextProblem → List ℕ
text_line (text.Fault kind place) = fault_line kind place
text_line (text.Limit quantity count) = limit_line quantity count

abbrev pub line_of : Problem → List ℕ
line_of Words = words_line
line_of (Text kind place) = fault_line kind place
line_of (Limit quantity count) = limit_line quantity count
line_of Missing = shelf_line
line_of Fault = shelf_line
line_of (Journal f) = journal_fault_line f
line_of (Record r) = refusal_line r
line_of (Netlist byte) = netlist_line byte
line_of (Second found) = second_line (text_line found)
line_of (Unlike list place) = unlike_line list place
line_of CareShape = care_shape_line
line_of (Window number stop) = window_line number stop
line_of (Proof found) = proof_line found
line_of Memory = memory_line

abbrev pub status_of : Problem → ℕ
status_of Words = 2
status_of (Text kind place) = 1
status_of (Limit quantity count) = 5
status_of Missing = 3
status_of Fault = 3
status_of (Journal f) = 6
status_of (Record r) = 6
status_of (Netlist byte) = 6
status_of (Second (text.Fault kind place)) = 1
status_of (Second (text.Limit quantity count)) = 5
status_of (Unlike list place) = 9
status_of CareShape = 9
status_of (Window number stop) = 6
status_of (Proof found) = 6
status_of Memory = 4

-- the text that is printed of what a command has done
abbrev pub done_text : Done → List ℕ
done_text (Optimised figures) = summary_text figures
done_text (Accepted count) = accepted_line count
done_text (Flattened instances covers) = flat_line instances covers
done_text (Tested counts) = tests_line counts
done_text (Replayed count stop) = replayed_lines count stop
done_text (Converted count) = converted_line count
done_text (Compared verdict) = verdict_line verdict
done_text (Judged count verdict) = judged_lines count verdict
done_text (Cared figures) = care_text figures
done_text (Cut windows signals) = cut_line windows signals
done_text (Sewn windows replayed wires before) = sewn_line windows replayed wires before

-- the status of a command that has decided whether two models compute the same tells which it is
abbrev pub done_status : Done → ℕ
done_status (Optimised figures) = 0
done_status (Accepted count) = 0
done_status (Flattened instances covers) = 0
done_status (Tested counts) = 0
done_status (Replayed count stop) = 0
done_status (Converted count) = 0
done_status (Compared verdict) = verdict_status verdict
done_status (Judged count verdict) = 0
done_status (Cared figures) = 0
done_status (Cut windows signals) = 0
done_status (Sewn windows replayed wires before) = 0

-- a problem of the words or of the files changes no file
abbrev pub KeepsFiles : {A : Type 0} → Problem → A → A → Type 0
KeepsFiles Fault old new = Unit {0}
KeepsFiles Memory old new = Unit {0}
KeepsFiles problem old new = new ≡ old

-- the problem that the audit of `check` ends with
abbrev pub audit_problem : AuditProblem → Problem
audit_problem audit.Fault = Fault
audit_problem audit.NoJournal = Missing
audit_problem audit.NoOutput = Missing
audit_problem audit.TooLong = Limit JournalLimit 4611686018427387905
audit_problem (audit.Text f) = Journal f
audit_problem (audit.Refused r) = Record r
audit_problem (audit.Netlist byte) = Netlist byte
audit_problem audit.NoMemory = Memory

-- the problem that reading the steps of `replay` ends with
abbrev pub piece_problem : PieceProblem → Problem
piece_problem piece.Failed = Fault
piece_problem piece.Missing = Missing
piece_problem piece.TooLong = Limit JournalLimit 4611686018427387905
piece_problem piece.NoMemory = Memory
