-- Files with a problem don't pass.
use Rattle.std.proofs.Common.{◌≡◌, ◌<◌, ◌^◌, ℕ, List, [], ◌∷◌, ◌++◌, map, length, Option, Some, None, refl, ap, sym, subst, ◌∙◌, inl, inr, arith, append_assoc}
use Rattle.std.proofs.lemmas.List.{append-nil}
use Rattle.std.specs.Prelude.{slice_get}
use Rattle.rm_base.specs.Files.{Files, file_of}
use Rattle.rm_model.specs.declared.parts.Model.{Model}
use Rattle.gate_net.specs.Net.{Net}
use Rattle.blif_format.specs.Text.{text_of}
use Rattle.cover_decompose.specs.Decomposition.{net_of_model}
use Rattle.graph_to_model.specs.NetModel.{model_of_net}
use Rattle.journal_text.specs.declared.record.Record.{Record}
use Rattle.journal_reading.specs.Laws.{JournalsAreOne}
use Rattle.journal_check.specs.Laws.{RecordsReplay, ReplaysAccept}
use Rattle.journal_check.specs.Replaying.{Replays, editing}
use Rattle.journal_check.specs.declared.refusal.JournalRefusal.{JournalRefusal}
use Rattle.journal_audit.specs.Audited.{HasAccepted, IsOfFiles, IsProblem, LongJournalsTell, ProblemsExclude}
use Rattle.journal_audit.specs.Judging.{IsAcceptedText, IsRefusedText}
use Rattle.journal_audit.specs.declared.problem.AuditProblem.{AuditProblem}
use Rattle.journal_audit.specs.declared.problem.AuditProblem.TheVariants.{Fault, Netlist, NoJournal, NoMemory, NoOutput, Refused, Text, TooLong}
use Rattle.rm_base.specs.Words.{Word}

-- WHAT IS REFUSED ISN'T ACCEPTED
refused_never : JournalsAreOne → RecordsReplay → ReplaysAccept → (m : Model) (text : List ℕ) (r : JournalRefusal) (last : Net) (count : ℕ) → IsRefusedText m text r → IsAcceptedText m text last count → ⊥
refused_never ones law accept m text r last count (inl x) a =
    let begins = ones.opens text a.budget x.budget a.records (x.records ++ x.given ∷ []) a.journal x.begins in
    let whole : a.records ≡ x.records ++ x.given ∷ begins.1.0 = begins.1.1 ∙ append_assoc x.records (x.given ∷ []) begins.1.0 in
    let replays : Replays a.budget (editing (net_of_model m)) a.records last = (accept (net_of_model m) last a.budget a.records).1 a.accepted in
    law.never x.budget (editing (net_of_model m)) x.records begins.1.0 last x.given x.position r.why x.leads x.refuses
    (subst (λ (rs : List Record). Replays x.budget (editing (net_of_model m)) rs last) whole (subst (λ (k : ℕ). Replays k (editing (net_of_model m)) a.records last) begins.0 replays))
refused_never ones law accept m text r last count (inr x) a =
    let begins = ones.whole text a.budget x.budget a.records x.records a.journal x.begins in
    let replays : Replays a.budget (editing (net_of_model m)) a.records last = (accept (net_of_model m) last a.budget a.records).1 a.accepted in
    law.never_end x.budget (editing (net_of_model m)) x.records last x.position r.why x.leads x.refuses
    (subst (λ (rs : List Record). Replays x.budget (editing (net_of_model m)) rs last) begins.1 (subst (λ (k : ℕ). Replays k (editing (net_of_model m)) a.records last) begins.0 replays))

-- an accepted text has one last net
last_one : JournalsAreOne → RecordsReplay → ReplaysAccept → (m : Model) (text : List ℕ) (last other : Net) (k l : ℕ) → IsAcceptedText m text last k → IsAcceptedText m text other l → last ≡ other
last_one ones law accept m text last other k l a c =
    let same = ones.one text a.budget c.budget a.records c.records a.journal c.journal in
    let first : Replays a.budget (editing (net_of_model m)) a.records last = (accept (net_of_model m) last a.budget a.records).1 a.accepted in
    let second : Replays c.budget (editing (net_of_model m)) c.records other = (accept (net_of_model m) other c.budget c.records).1 c.accepted in
    law.one c.budget (editing (net_of_model m)) c.records last other
    (subst (λ (rs : List Record). Replays c.budget (editing (net_of_model m)) rs last) same.1 (subst (λ (n : ℕ). Replays n (editing (net_of_model m)) a.records last) same.0 first)) second

text_is : (o : Option (List ℕ)) (text other : List ℕ) → o ≡ Some text → o ≡ Some other → other ≡ text
text_is o text other e f = cc

none_some : (o : Option (List ℕ)) (text : List ℕ) → o ≡ None → o ≡ Some text → ⊥
none_some o text e f = cc

accepted_at : (m : Model) (files : Files) (journal : Word) (text : List ℕ) (last : Net) (count : ℕ) → file_of files journal ≡ Some text → HasAccepted m files journal last count → IsAcceptedText m text last count
accepted_at m files journal text last count e h = subst (λ (t : List ℕ). IsAcceptedText m t last count) (text_is (file_of files journal) text h.text e h.there) h.accepted

pub problems_exclude : JournalsAreOne → RecordsReplay → ReplaysAccept → ProblemsExclude
problems_exclude ones law accept m files journal output Fault count o p h = absurd o
problems_exclude ones law accept m files journal output NoMemory count o p h = absurd o
problems_exclude ones law accept m files journal output NoJournal count o p h = none_some (file_of files journal) h.accepted.text p h.accepted.there
problems_exclude ones law accept m files journal output NoOutput count o p h = none_some (file_of files output) (text_of (model_of_net m h.last)) p.1.1.1 h.written
problems_exclude ones law accept m files journal output TooLong count o p h =
    let same : length h.accepted.text ≡ length p.0 = ap (λ (t : List ℕ). length t) (text_is (file_of files journal) p.0 h.accepted.text p.1.0 h.accepted.there) in
    omega (arith, same, p.1.1.0, h.accepted.short)
problems_exclude ones law accept m files journal output (Text f) count o p h =
    let a = accepted_at m files journal p.0 h.last count p.1.0 h.accepted in
    ones.faultless p.0 a.budget a.records f a.journal p.1.1.fault_is
problems_exclude ones law accept m files journal output (Refused r) count o p h =
    refused_never ones law accept m p.0 r h.last count p.1.1 (accepted_at m files journal p.0 h.last count p.1.0 h.accepted)
problems_exclude ones law accept m files journal output (Netlist byte) count o p h =
    let first = p.1.1.0 in
    let same : p.0 ≡ h.last = last_one ones law accept m first.text p.0 h.last p.1.0 count first.accepted (accepted_at m files journal first.text h.last count first.there h.accepted) in
    let found : p.1.1.1.0 ≡ text_of (model_of_net m h.last) = text_is (file_of files output) (text_of (model_of_net m h.last)) p.1.1.1.0 h.written p.1.1.1.1.0 in
    let text : text_of (model_of_net m p.0) ≡ p.1.1.1.0 = ap (λ (n : Net). text_of (model_of_net m n)) same ∙ sym found in
    p.1.1.1.1.1.after.differ (ap (λ (t : List ℕ). slice_get t p.1.1.1.1.1.place) text)

-- OF A LONG JOURNAL ITS LENGTH IS FOUND
module _ (ones : JournalsAreOne) (law : RecordsReplay) (accept : ReplaysAccept) (m : Model) (files : Files) (journal output : Word) (text : List ℕ) (last : Net) (count : ℕ) (there : file_of files journal ≡ Some text) (a : IsAcceptedText m text last count) (long : 2 ^ 62 < length text) where
  short_never : (other : Net) (k : ℕ) → HasAccepted m files journal other k → ⊥
  short_never other k h =
      let same : length h.text ≡ length text = ap (λ (t : List ℕ). length t) (text_is (file_of files journal) text h.text there h.there) in
      omega (arith, same, long, h.short)

  at_text : (other : List ℕ) → file_of files journal ≡ Some other → IsAcceptedText m other last count
  at_text other e = subst (λ (t : List ℕ). IsAcceptedText m t last count) (text_is (file_of files journal) other text e there) a

  length_alone : (problem : AuditProblem) → IsOfFiles problem → IsProblem m files journal output problem → problem ≡ TooLong
  length_alone Fault o p = absurd o
  length_alone NoMemory o p = absurd o
  length_alone NoJournal o p = absurd (none_some (file_of files journal) text p there)
  length_alone NoOutput o p = absurd (short_never p.0 p.1.0 p.1.1.0)
  length_alone TooLong o p = refl
  length_alone (Text f) o p = absurd (ones.faultless p.0 (at_text p.0 p.1.0).budget (at_text p.0 p.1.0).records f (at_text p.0 p.1.0).journal p.1.1.fault_is)
  length_alone (Refused r) o p = absurd (refused_never ones law accept m p.0 r last count p.1.1 (at_text p.0 p.1.0))
  length_alone (Netlist byte) o p = absurd (short_never p.0 p.1.0 p.1.1.0)

pub long_journals_tell : JournalsAreOne → RecordsReplay → ReplaysAccept → LongJournalsTell
long_journals_tell ones law accept m files journal output text last count there a long = length_alone ones law accept m files journal output text last count there a long
