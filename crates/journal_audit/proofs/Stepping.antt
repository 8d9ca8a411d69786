-- A replay in an audit: one more record, and the end.
use Rattle.std.proofs.Common.{◌≡◌, ◌≢◌, ℕ, ◌+◌, ◌^◌, ◌<◌, true, List, [], ◌∷◌, ◌++◌, length, Option, Ok, Err, refl, ap, sym, subst, ◌∙◌, inl, inr, arith}
use Rattle.std.proofs.lemmas.List.{append-nil, length-append}
use Rattle.rm_model.specs.declared.parts.Model.{Model}
use Rattle.gate_graph.specs.Circuit.{Circuit, net_of}
use Rattle.cover_decompose.specs.Decomposition.{net_of_model}
use Rattle.journal_text.specs.declared.record.Record.{Record}
use Rattle.journal_text.specs.declared.record.Entry.{Entry}
use Rattle.journal_text.specs.declared.record.Entry.TheVariants as entry
use Rattle.journal_text.specs.declared.reader.Awaited.{Awaited}
use Rattle.journal_text.specs.declared.reader.Awaited.TheVariants as awaited
use Rattle.journal_text.specs.Streams.{comes}
use Rattle.journal_check.specs.Accepts.{IsAccepted}
use Rattle.journal_check.specs.Laws.{RecordsReplay, ReplaysAccept}
use Rattle.journal_check.specs.Replaying.{Leads, editing, goes_on, next_number, refused}
use Rattle.journal_check.specs.Standing.{Finishes, Standing, Steps}
use Rattle.journal_check.specs.declared.refusal.JournalRefusal.{JournalRefusal}
use Rattle.journal_check.specs.declared.refusal.Why.{Why}
use Rattle.journal_check.specs.declared.refusal.Why.TheVariants as why
use Rattle.journal_audit.specs.Inner.Problems.{refusal_problem, refused_for}
use Rattle.journal_audit.specs.Inner.Stages.{EndRefused, IsRefusal, IsReplayed, StageIs, StepRefused, TakenSays}
use Rattle.journal_audit.specs.declared.problem.AuditProblem.{AuditProblem}
use Rattle.journal_audit.specs.declared.stage.Stage.TheVariants.{Ended, Header, Records}
use Rattle.journal_audit.specs.declared.tally.Tally.{Tally}
use Rattle.journal_audit.specs.Inner.Tallies.{IsTally}

-- A REFUSAL, OR WANT OF MEMORY
refusal_case : (r : JournalRefusal) (P : JournalRefusal → Type 0) (w : Why) → r.why ≡ w → (r.why ≢ why.NoMemory → P r) → IsRefusal (refused_for r w) P
refusal_case r P (why.Tree e) is h = inr (r, (refl, h (λ n. let f : why.Tree e ≡ why.NoMemory = sym is ∙ n in cc)))
refusal_case r P (why.Edit e) is h = inr (r, (refl, h (λ n. let f : why.Edit e ≡ why.NoMemory = sym is ∙ n in cc)))
refusal_case r P why.VectorMisses is h = inr (r, (refl, h (λ n. let f : why.VectorMisses ≡ why.NoMemory = sym is ∙ n in cc)))
refusal_case r P (why.SpentShort e b) is h = inr (r, (refl, h (λ n. let f : why.SpentShort e b ≡ why.NoMemory = sym is ∙ n in cc)))
refusal_case r P (why.FaultMissing f) is h = inr (r, (refl, h (λ n. let g : why.FaultMissing f ≡ why.NoMemory = sym is ∙ n in cc)))
refusal_case r P why.RecordExtra is h = inr (r, (refl, h (λ n. let f : why.RecordExtra ≡ why.NoMemory = sym is ∙ n in cc)))
refusal_case r P (why.NotTidy x) is h = inr (r, (refl, h (λ n. let f : why.NotTidy x ≡ why.NoMemory = sym is ∙ n in cc)))
refusal_case r P why.NoMemory is h = inl refl

pub refusal_is : (problem : AuditProblem) (r : JournalRefusal) (P : JournalRefusal → Type 0) → problem ≡ refusal_problem r → (r.why ≢ why.NoMemory → P r) → IsRefusal problem P
refusal_is problem r P e h = subst (λ (q : AuditProblem). IsRefusal q P) (sym e) (refusal_case r P r.why refl h)

-- ONE MORE RECORD
pub step_goes : RecordsReplay → (m : Model) (b : ℕ) (rs : List Record) (old new : Standing) (r : Record) (u : Unit {0}) → IsReplayed m b rs old → length rs < 2 ^ 63 → Steps old.refusal old r new (Ok u) → IsReplayed m b (rs ++ r ∷ []) new
step_goes law m b rs old new r u j l s =
    let on = subst (λ (o : Option JournalRefusal). Steps o old r new (Ok u)) j.unrefused s in
    let long : length (rs ++ r ∷ []) ≡ length rs + 1 = length-append rs (r ∷ []) in
    let number : next_number old.number ≡ 1 + length (rs ++ r ∷ []) = omega (arith, j.number, l, long) in
    record {
      budget_is = ap (λ (x : Standing). x.budget) on.1 ∙ j.budget_is;
      number = ap (λ (x : Standing). x.number) on.1 ∙ number;
      unrefused = ap (λ (x : Standing). x.refusal) on.1 ∙ j.unrefused;
      leads = law.more b (editing (net_of_model m)) old.position new.position rs r j.leads (subst (λ (k : ℕ). Leads k old.position r (goes_on new.position)) j.budget_is on.0);
    }

pub step_stage : RecordsReplay → (m : Model) (b : ℕ) (rs : List Record) (old new : Standing) (r : Record) (u : Unit {0}) (t : Tally) → IsReplayed m b rs old → length rs < 2 ^ 63 → Steps old.refusal old r new (Ok u) → IsTally (rs ++ r ∷ []) t → TakenSays m b rs (entry.Record r) (Ok (Records new t))
step_stage law m b rs old new r u t j l s c = (step_goes law m b rs old new r u j l s, c)

pub step_refused : (m : Model) (b : ℕ) (rs : List Record) (old new : Standing) (r : Record) (e : JournalRefusal) → IsReplayed m b rs old → Steps old.refusal old r new (Err e) → e.why ≢ why.NoMemory → StepRefused m b rs r e
step_refused m b rs old new r e j s plain =
    let on = subst (λ (o : Option JournalRefusal). Steps o old r new (Err e)) j.unrefused s in
    record {
      plain = plain;
      position = old.position;
      leads = j.leads;
      refuses = subst (λ (k : ℕ). Leads k old.position r (refused e.why)) j.budget_is (on.1.1 plain).0;
      number = on.0 ∙ j.number;
    }

-- THE END
pub end_stage : RecordsReplay → ReplaysAccept → (m : Model) (b : ℕ) (rs : List Record) (s : Standing) (g : Circuit) (t : Tally) → IsReplayed m b rs s → Finishes s.refusal s (Ok g) → IsTally rs t → TakenSays m b rs entry.End (Ok (Ended g t))
end_stage law accept m b rs s g t j f c =
    let end = subst (λ (o : Option JournalRefusal). Finishes o s (Ok g)) j.unrefused f in
    let accepted : IsAccepted m b rs (net_of g) = (accept (net_of_model m) (net_of g) b rs).0 (law.ends b (editing (net_of_model m)) s.position rs (net_of g) j.leads end) in
    subst (λ (xs : List Record). IsAccepted m b xs (net_of g) × IsTally xs t) (sym (append-nil rs)) (accepted, c)

pub end_refused : (m : Model) (b : ℕ) (rs : List Record) (s : Standing) (e : JournalRefusal) → IsReplayed m b rs s → Finishes s.refusal s (Err e) → e.why ≢ why.NoMemory → EndRefused m b rs e
end_refused m b rs s e j f plain =
    let end = subst (λ (o : Option JournalRefusal). Finishes o s (Err e)) j.unrefused f in
    record { plain = plain; position = s.position; leads = j.leads; refuses = end.1 plain; number = end.0 ∙ j.number }

-- WHAT CAN'T COME
pub header_first : (m : Model) (b : ℕ) (rs : List Record) (a : Awaited) → StageIs m b rs a Header → (a ≡ awaited.Header) × (rs ≡ [])
header_first m b rs awaited.Header is = (refl, is)
header_first m b rs awaited.Record is = absurd is
header_first m b rs awaited.Nothing is = absurd is

pub records_next : (m : Model) (b : ℕ) (rs : List Record) (a : Awaited) (s : Standing) (k : Tally) → StageIs m b rs a (Records s k) → (a ≡ awaited.Record) × (IsReplayed m b rs s × IsTally rs k)
records_next m b rs awaited.Header s k is = absurd is
records_next m b rs awaited.Record s k is = (refl, is)
records_next m b rs awaited.Nothing s k is = absurd is

pub ended_next : (m : Model) (b : ℕ) (rs : List Record) (a : Awaited) (g : Circuit) (k : Tally) → StageIs m b rs a (Ended g k) → a ≡ awaited.Nothing
ended_next m b rs awaited.Header g k is = absurd is
ended_next m b rs awaited.Record g k is = absurd is
ended_next m b rs awaited.Nothing g k is = refl

pub no_header : (a : Awaited) (n : ℕ) → a ≡ awaited.Record → comes a (entry.Header n) ≡ true → ⊥
no_header awaited.Header n e h = cc
no_header awaited.Record n e h = cc
no_header awaited.Nothing n e h = cc

pub no_record : (a : Awaited) (r : Record) → a ≡ awaited.Header → comes a (entry.Record r) ≡ true → ⊥
no_record awaited.Header r e h = cc
no_record awaited.Record r e h = cc
no_record awaited.Nothing r e h = cc

pub no_end : (a : Awaited) → a ≡ awaited.Header → comes a entry.End ≡ true → ⊥
no_end awaited.Header e h = cc
no_end awaited.Record e h = cc
no_end awaited.Nothing e h = cc

pub nothing_comes : (a : Awaited) (e : Entry) → a ≡ awaited.Nothing → comes a e ≡ true → ⊥
nothing_comes awaited.Header e f h = cc
nothing_comes awaited.Record e f h = cc
nothing_comes awaited.Nothing e f h = cc
