-- From the journal and the output to the audit.
use Rattle.std.proofs.Common.{◌≡◌, ◌∙◌, ℕ, List, Option, Some, None, Ok, Err, IfSome, ap, refl, subst}
use Rattle.rm_base.specs.Files.{Files, file_of}
use Rattle.rm_model.specs.Ranks.{first_without_rank}
use Rattle.rm_model.specs.WellFormed.{IsWellFormed}
use Rattle.rm_model.specs.declared.parts.Model.{Model}
use Rattle.gate_net.specs.Net.{Net}
use Rattle.blif_format.specs.Text.{text_of}
use Rattle.graph_to_model.specs.Fits.{Fits}
use Rattle.graph_to_model.specs.NetModel.{model_of_net}
use Rattle.journal_check.specs.Laws.{AcceptedStand}
use Rattle.gate_graph.specs.Circuit.{net_of}
use Rattle.graph_to_model.specs.Laws.{AreFew}
use Rattle.journal_audit.specs.declared.auditing.Audited.{Audited}
use Rattle.journal_audit.specs.Audited.{HasSaid, IsLast, IsProblem, PassedWith}
use Rattle.journal_audit.specs.Verdicts.{VerdictList}
use Rattle.journal_audit.specs.declared.tally.Tally.{Tally}
use Rattle.journal_audit.specs.Inner.Audited.{ComparedSays}
use Rattle.journal_audit.specs.Differences.{DifferAt}
use Rattle.journal_audit.specs.Inner.Turns.{EndsAccepted}
use Rattle.journal_audit.specs.declared.problem.AuditProblem.{AuditProblem}
use Rattle.journal_audit.specs.declared.problem.AuditProblem.TheVariants.{Fault, Netlist, NoJournal, NoMemory, NoOutput, Refused, Text, TooLong}
use Rattle.rm_base.specs.Words.{Word}

-- the last net of an accepted journal may be written as a model
pub last_fits : AcceptedStand → (m : Model) (last : Net) (verdicts : VerdictList) → IsWellFormed m → first_without_rank m ≡ None → IsLast m last verdicts → Fits last m
last_fits law m last verdicts formed ranked l =
    let s = law.stands m l.budget l.records last formed ranked l.accepted in
    record { sources = s.sources; observed = s.observed; points = law.points m l.budget l.records last formed ranked l.accepted }

told_case : (told : Files) (m : Model) (journal output : Word) (last : Net) (t : Tally) (text : List ℕ) (problem : AuditProblem) → EndsAccepted (Some told) m journal last t → text ≡ text_of (model_of_net m last) → ComparedSays told output text (Err problem) → IsProblem m told journal output problem
told_case told m journal output last t text Fault a e says = tt
told_case told m journal output last t text NoMemory a e says = tt
told_case told m journal output last t text NoOutput a e says = (last, (t.count, (a.told.is, says)))
told_case told m journal output last t text (Netlist byte) a e says =
    (last, (t.count, (a.told.is, (says.0, (says.1.0, subst (λ (t : List ℕ). DifferAt t says.0 byte) e says.1.1)))))
told_case told m journal output last t text NoJournal a e says = absurd says
told_case told m journal output last t text TooLong a e says = absurd says
told_case told m journal output last t text (Text f) a e says = absurd says
told_case told m journal output last t text (Refused r) a e says = absurd says

files_case : (files : Option Files) (m : Model) (journal output : Word) (last : Net) (t : Tally) (text : List ℕ) (problem : AuditProblem) → EndsAccepted files m journal last t → text ≡ text_of (model_of_net m last) → IfSome files (λ told. ComparedSays told output text (Err problem)) → IfSome files (λ told. IsProblem m told journal output problem)
files_case None m journal output last t text problem a e says = tt
files_case (Some told) m journal output last t text problem a e says = told_case told m journal output last t text problem a e says

pub compared_problem : (files mid : Option Files) (m : Model) (journal output : Word) (last : Net) (t : Tally) (text : List ℕ) (problem : AuditProblem) → mid ≡ files → EndsAccepted files m journal last t → text ≡ text_of (model_of_net m last) → IfSome mid (λ told. ComparedSays told output text (Err problem)) → IfSome files (λ told. IsProblem m told journal output problem)
compared_problem files mid m journal output last t text problem same a e says =
    files_case files m journal output last t text problem a e (subst (λ (o : Option Files). IfSome o (λ told. ComparedSays told output text (Err problem))) same says)

-- the journal is accepted, and the output is the text
pub passed_with : (files mid : Option Files) (m : Model) (journal output : Word) (a : Audited) (text : List ℕ) (u : Unit {0}) → mid ≡ files → IfSome files (λ told. HasSaid m told journal (net_of a.graph) a.count a.verdicts) → AreFew (net_of a.graph) m
    → text ≡ text_of (model_of_net m (net_of a.graph)) → IfSome mid (λ told. ComparedSays told output text (Ok u)) → IfSome files (λ told. PassedWith m told journal output a)
passed_with None mid m journal output a text u same said few is says = tt
passed_with (Some told) mid m journal output a text u same said few is says =
    let written : file_of told output ≡ Some text = subst (λ (o : Option Files). IfSome o (λ files. ComparedSays files output text (Ok u))) same says in
    record {
      is = record { last = net_of a.graph; accepted = said.is; few = few; written = written ∙ ap (λ (t : List ℕ). Some t) is };
      last_is = refl;
      said = said.said;
    }
