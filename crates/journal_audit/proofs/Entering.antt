-- More entries of a text that is judged so far.
use Rattle.std.proofs.Common.{◌≡◌, ◌≢◌, ℕ, ◌+◌, ◌^◌, ◌<◌, ◌≤◌, true, List, [], ◌∷◌, ◌++◌, length, drop, get_or, Option, Some, None, Result, Ok, Err, ap, ◌∙◌, sym, subst, inl, inr, arith}
use Rattle.std.proofs.lemmas.List.{drop_all}
use Rattle.rm_model.specs.declared.parts.Model.{Model}
use Rattle.journal_text.specs.declared.record.Record.{Record}
use Rattle.journal_text.specs.declared.record.Entry.{Entry}
use Rattle.journal_text.specs.declared.record.Entry.TheVariants as entry
use Rattle.journal_text.specs.declared.reader.Awaited.{Awaited}
use Rattle.journal_text.specs.Streams.{comes}
use Rattle.journal_text.specs.Text.{IsWritable}
use Rattle.journal_reading.specs.declared.faults.JournalFault.{JournalFault}
use Rattle.journal_reading.specs.declared.faults.JournalFault.TheVariants as fault
use Rattle.journal_reading.specs.Laws.{CutsAgree, PlacesTell}
use Rattle.journal_reading.specs.Streams.{Gathers, GivesAll, GivesNone, NextGives, Pending, awaited_of}
use Rattle.journal_check.specs.declared.refusal.JournalRefusal.{JournalRefusal}
use Rattle.journal_check.specs.declared.refusal.Why.TheVariants as why
use Rattle.journal_audit.specs.Inner.Judging.{IsTextProblem}
use Rattle.journal_audit.specs.Inner.Stages.{EntryRefused, GatheredOn, IsJudged, JudgedOn, JudgedSome, StageIs, TakenSays, unless_fault}
use Rattle.journal_audit.specs.declared.problem.AuditProblem.{AuditProblem}
use Rattle.journal_audit.specs.declared.problem.AuditProblem.TheVariants.{Text}
use Rattle.journal_audit.specs.declared.stage.Stage.{Stage}
use Rattle.journal_audit.proofs.Judged.{entered, faulty, refused_entry}
use Rattle.journal_audit.proofs.Lists.{left_from}

-- what an entry leads to, whatever entries came before
abbrev pub Says : Model → Stage → Entry → Result Stage AuditProblem → Type 0
Says m stage e answer = (b : ℕ) (rs : List Record) (a : Awaited) → StageIs m b rs a stage → comes a e ≡ true → TakenSays m b rs e answer

pub may_take : CutsAgree → PlacesTell → (m : Model) (text : List ℕ) (old new : Pending) (stage : Stage) (e : Entry) → IsJudged m text old stage → NextGives old new (Ok (Some e))
    → (b : ℕ) × ((rs : List Record) × ((a : Awaited) × (StageIs m b rs a stage × ((comes a e ≡ true) × (length rs ≤ 2 ^ 62)))))
may_take cuts places m text old new stage e j next =
    let l : length j.records ≤ length text = places.few text j.budget j.records old j.read in
    (j.budget, (j.records, (awaited_of old, (j.is, ((cuts.next old new e next).comes_there, omega (arith, l, j.short))))))

pub entry_goes : CutsAgree → (m : Model) (text : List ℕ) (old new : Pending) (stage after : Stage) (e : Entry) → IsJudged m text old stage → NextGives old new (Ok (Some e)) → Says m stage e (Ok after) → IsJudged m text new after
entry_goes cuts m text old new stage after e j next says = entered cuts m text old new stage after e j next (says j.budget j.records (awaited_of old) j.is (cuts.next old new e next).comes_there)

entry_plain : (m : Model) (b : ℕ) (rs : List Record) (e : Entry) (r : JournalRefusal) → EntryRefused m b rs e r → r.why ≢ why.NoMemory
entry_plain m b rs (entry.Header n) r h = absurd h
entry_plain m b rs (entry.Record given) r h = h.plain
entry_plain m b rs entry.End r h = h.plain

problem_case : CutsAgree → PlacesTell → (m : Model) (text more : List ℕ) (old new : Pending) (stage : Stage) (e : Entry) (problem : AuditProblem) → (j : IsJudged m text old stage) → NextGives old new (Ok (Some e)) → TakenSays m j.budget j.records e (Err problem) → IsTextProblem m (text ++ more) problem
problem_case cuts places m text more old new stage e problem j next (inl is) = subst (λ (p : AuditProblem). IsTextProblem m (text ++ more) p) (sym is) tt
problem_case cuts places m text more old new stage e problem j next (inr (r, (is, h))) =
    subst (λ (p : AuditProblem). IsTextProblem m (text ++ more) p) (sym is) (entry_plain m j.budget j.records e r h, refused_entry cuts places m text more old new stage e r j next h)

pub entry_problem : CutsAgree → PlacesTell → (m : Model) (text more : List ℕ) (old new : Pending) (stage : Stage) (e : Entry) (problem : AuditProblem) → IsJudged m text old stage → NextGives old new (Ok (Some e)) → Says m stage e (Err problem) → IsTextProblem m (text ++ more) problem
entry_problem cuts places m text more old new stage e problem j next says = problem_case cuts places m text more old new stage e problem j next (says j.budget j.records (awaited_of old) j.is (cuts.next old new e next).comes_there)

-- of whatever text the entries come, so far it is judged, and these are still to come
abbrev pub Onward : Model → Stage → List Entry → Stage → List Entry → Type 0
Onward m first all stage left =
    (text : List ℕ) (old new : Pending) → IsJudged m text old first → GivesAll old all new → (mid : Pending) × (IsJudged m text mid stage × GivesAll mid left new)

pub onward_more : CutsAgree → (m : Model) (first stage after : Stage) (all left : List Entry) (e : Entry) → Onward m first all stage (e ∷ left) → Says m stage e (Ok after) → Onward m first all after left
onward_more cuts m first stage after all left e on says text old new j g =
    let at = on text old new j g in
    (at.1.1.0, (entry_goes cuts m text at.0 at.1.1.0 stage after e at.1.0 at.1.1.1.0 says, at.1.1.1.1))

pub onward_problem : CutsAgree → PlacesTell → (m : Model) (first stage : Stage) (all left : List Entry) (e : Entry) (problem : AuditProblem) → Onward m first all stage (e ∷ left) → Says m stage e (Err problem) → (text : List ℕ) (old new : Pending) → IsJudged m text old first → GivesAll old all new
    → (more : List ℕ) → IsTextProblem m (text ++ more) problem
onward_problem cuts places m first stage all left e problem on says text old new j g more =
    let at = on text old new j g in
    entry_problem cuts places m text more at.0 at.1.1.0 stage e problem at.1.0 at.1.1.1.0 says

-- the next entry of some text
pub next_valid : CutsAgree → (m : Model) (stage : Stage) (left : List Entry) (e : Entry) → JudgedSome m stage (e ∷ left) → IsWritable e
next_valid cuts m stage left e j = (cuts.next j.1.0 j.1.1.1.1.0 e j.1.1.1.1.1.0).writable

pub next_may : CutsAgree → PlacesTell → (m : Model) (stage : Stage) (left : List Entry) (e : Entry) → JudgedSome m stage (e ∷ left) → (b : ℕ) × ((rs : List Record) × ((a : Awaited) × (StageIs m b rs a stage × ((comes a e ≡ true) × (length rs ≤ 2 ^ 62)))))
next_may cuts places m stage left e j = may_take cuts places m j.0 j.1.0 j.1.1.1.1.0 stage e j.1.1.1.0 j.1.1.1.1.1.0

pub some_more : CutsAgree → (m : Model) (stage after : Stage) (left : List Entry) (e : Entry) → JudgedSome m stage (e ∷ left) → Says m stage e (Ok after) → JudgedSome m after left
some_more cuts m stage after left e j says =
    (j.0, (j.1.1.1.1.0, (j.1.1.0, (entry_goes cuts m j.0 j.1.0 j.1.1.1.1.0 stage after e j.1.1.1.0 j.1.1.1.1.1.0 says, j.1.1.1.1.1.1))))

-- all entries are judged
pub judged_all : (m : Model) (first stage : Stage) (i : ℕ) (xs : List Entry) → length xs ≤ i → Onward m first xs stage (drop i xs) → JudgedOn m first xs (Ok stage)
judged_all m first stage i xs l on text old new j g =
    let at = on text old new j g in
    let same : new ≡ at.0 = subst (λ (es : List Entry). GivesAll at.0 es new) (drop_all i xs l) at.1.1 in
    (subst (λ (p : Pending). IsJudged m text p stage) (sym same) at.1.0, λ more. tt)

pub judged_problem : CutsAgree → PlacesTell → (m : Model) (first stage : Stage) (all left : List Entry) (e : Entry) (problem : AuditProblem) → Onward m first all stage (e ∷ left) → Says m stage e (Err problem) → JudgedOn m first all (Err problem)
judged_problem cuts places m first stage all left e problem on says text old new j g = (tt, onward_problem cuts places m first stage all left e problem on says text old new j g)

-- THE ENTRIES OF A READER
-- with the fault behind them
pub gathered_none : (m : Model) (first stage : Stage) (es : List Entry) (old new : Pending) → JudgedOn m first es (Ok stage) → Gathers old es None new → (text : List ℕ) → IsJudged m text old first → IsJudged m text new stage × GivesNone new
gathered_none m first stage es old new on g text j = ((on text old new j g.0).0, g.1)

pub gathered_fault : CutsAgree → PlacesTell → (m : Model) (first stage : Stage) (es : List Entry) (old new : Pending) (f : JournalFault) → JudgedOn m first es (Ok stage) → Gathers old es (Some f) new → (text more : List ℕ) → IsJudged m text old first → IsTextProblem m (text ++ more) (Text f)
gathered_fault cuts places m first stage es old new f on g text more j =
    faulty cuts places m text more new new stage f (on text old new j g.0).0 g.1.1 g.1.0

gives_of : (old new : Pending) (es : List Entry) (o : Option JournalFault) → Gathers old es o new → GivesAll old es new
gives_of old new es None g = g.0
gives_of old new es (Some f) g = g.0

pub gathered_some : (m : Model) (first : Stage) (es : List Entry) (old new : Pending) (o : Option JournalFault) (text : List ℕ) → Gathers old es o new → IsJudged m text old first → JudgedSome m first es
gathered_some m first es old new o text g j = (text, (old, (new, (j, gives_of old new es o g))))

pub gathered_problem : (m : Model) (first : Stage) (es : List Entry) (old new : Pending) (o : Option JournalFault) (problem : AuditProblem) → JudgedOn m first es (Err problem) → Gathers old es o new → (text more : List ℕ) → IsJudged m text old first → IsTextProblem m (text ++ more) problem
gathered_problem m first es old new o problem on g text more j = (on text old new j (gives_of old new es o g)).1 more

-- by the entry itself
left_item : (i : ℕ) (xs : List Entry) (e : Entry) → i < length xs → e ≡ get_or xs i e → drop i xs ≡ e ∷ drop (i + 1) xs
left_item i xs e l is = left_from i xs e l ∙ ap (λ (d : Entry). d ∷ drop (i + 1) xs) (sym is)

pub some_item : (m : Model) (stage : Stage) (i : ℕ) (xs : List Entry) (e : Entry) → i < length xs → e ≡ get_or xs i e → JudgedSome m stage (drop i xs) → JudgedSome m stage (e ∷ drop (i + 1) xs)
some_item m stage i xs e l is j = subst (JudgedSome m stage) (left_item i xs e l is) j

pub on_item : (m : Model) (first stage : Stage) (i : ℕ) (xs : List Entry) (e : Entry) → i < length xs → e ≡ get_or xs i e → Onward m first xs stage (drop i xs) → Onward m first xs stage (e ∷ drop (i + 1) xs)
on_item m first stage i xs e l is o = subst (Onward m first xs stage) (left_item i xs e l is) o

-- the entries of a reader, and then the fault behind them if there is one
pub gathered_on : CutsAgree → PlacesTell → (m : Model) (first stage : Stage) (es : List Entry) (found : Option JournalFault) (answer : Result Stage AuditProblem) → JudgedOn m first es (Ok stage) → answer ≡ unless_fault stage found → GatheredOn m first es found answer
gathered_on cuts places m first stage es None answer on is =
    subst (GatheredOn m first es None) (sym is) (λ text old new j g. (gathered_none m first stage es old new on g text j, λ more. tt))
gathered_on cuts places m first stage es (Some f) answer on is =
    subst (GatheredOn m first es (Some f)) (sym is) (λ text old new j g. (tt, λ more. gathered_fault cuts places m first stage es old new f on g text more j))

pub gathered_err : (m : Model) (first : Stage) (es : List Entry) (found : Option JournalFault) (problem : AuditProblem) → JudgedOn m first es (Err problem) → GatheredOn m first es found (Err problem)
gathered_err m first es found problem on = λ text old new j g. (tt, λ more. gathered_problem m first es old new found problem on g text more j)
