-- The records of the first verdicts.
use Rattle.std.proofs.Common.{◌≡◌, ℕ, zero, suc, ◌+◌, Option, Some, List, [], ◌∷◌, ◌++◌, take, drop, refl, sym, ◌∙◌, ap, subst, append_assoc, arith}
use Rattle.std.specs.Prelude.{slice_get}
use Rattle.std.proofs.lemmas.List.{append-nil}
use Rattle.journal_text.specs.Joining.{RunsJoin, TextsAppend}
use Rattle.journal_text.specs.Runs.{HasAppended, HasAppendedPart, records_text}
use Rattle.journal_ranges.proofs.Public.{fits_then}
use Rattle.journal_ranges.specs.Ranges.{AreFit}
use Rattle.journal_text.specs.declared.record.Record.{Record}
use Rattle.podem.specs.declared.verdict.Verdict.{Verdict}
use Rattle.rm_base.specs.Files.{Files}
use Rattle.rm_base.specs.declared.numbers.Fault.{Fault}
use Rattle.closing_pass.specs.Recording.{verdict_record, verdict_records}
use Rattle.rm_base.proofs.Public.{some_is}

records_more : (verdicts : List (Fault × Verdict)) (i : ℕ) (e : Fault × Verdict) → slice_get verdicts i ≡ Some e → verdict_records (take (i + 1) verdicts) ≡ verdict_records (take i verdicts) ++ verdict_record e
records_more [] i e is = absurd (cc)
records_more (v ∷ verdicts) zero e is = let same : v ≡ e = some_is v e is in rw same (append-nil (verdict_record e))
records_more (v ∷ verdicts) (suc i) e is =
    let next : suc i + 1 ≡ suc (i + 1) = omega arith in
    rw next (ap (λ (rs : List Record). verdict_record v ++ rs) (records_more verdicts i e is) ∙ sym (append_assoc (verdict_record v) (verdict_records (take i verdicts)) (verdict_record e)))

records_all : (verdicts : List (Fault × Verdict)) (n : ℕ) → verdict_records (take n verdicts) ++ verdict_records (drop n verdicts) ≡ verdict_records verdicts
records_all verdicts zero = refl
records_all [] (suc n) = refl
records_all (v ∷ verdicts) (suc n) = append_assoc (verdict_record v) (verdict_records (take n verdicts)) (verdict_records (drop n verdicts)) ∙ ap (λ (rs : List Record). verdict_record v ++ rs) (records_all verdicts n)

-- one more verdict was recorded
pub recorded_more :
    TextsAppend → RunsJoin → (verdicts : List (Fault × Verdict)) (i : ℕ) (e : Fault × Verdict) (old mid new : Option Files) (journal : List ℕ) → slice_get verdicts i ≡ Some e
    → HasAppended old mid journal (records_text (verdict_records (take i verdicts))) → HasAppended mid new journal (records_text (verdict_record e)) → HasAppended old new journal (records_text (verdict_records (take (i + 1) verdicts)))
recorded_more texts runs verdicts i e old mid new journal is first more =
    let text : records_text (verdict_records (take (i + 1) verdicts)) ≡ records_text (verdict_records (take i verdicts)) ++ records_text (verdict_record e) =
    ap records_text (records_more verdicts i e is) ∙ runs.text (verdict_records (take i verdicts)) (verdict_record e) in
    subst (HasAppended old new journal) (sym text) (texts.follows old mid new journal (records_text (verdict_records (take i verdicts))) (records_text (verdict_record e)) first more)

pub fit_more :
    (verdicts : List (Fault × Verdict)) (i : ℕ) (e : Fault × Verdict) → slice_get verdicts i ≡ Some e → AreFit (verdict_records (take i verdicts)) → AreFit (verdict_record e) → AreFit (verdict_records (take (i + 1) verdicts))
fit_more verdicts i e is first more = subst AreFit (sym (records_more verdicts i e is)) (fits_then (verdict_records (take i verdicts)) (verdict_record e) first more)

-- a part of it was
pub recorded_part :
    TextsAppend → RunsJoin → (verdicts : List (Fault × Verdict)) (i : ℕ) (e : Fault × Verdict) (old mid new : Option Files) (journal : List ℕ) → slice_get verdicts i ≡ Some e
    → HasAppended old mid journal (records_text (verdict_records (take i verdicts))) → HasAppendedPart mid new journal (records_text (verdict_record e)) → HasAppendedPart old new journal (records_text (verdict_records verdicts))
recorded_part texts runs verdicts i e old mid new journal is first part =
    let text : records_text (verdict_records (take (i + 1) verdicts)) ≡ records_text (verdict_records (take i verdicts)) ++ records_text (verdict_record e) =
    ap records_text (records_more verdicts i e is) ∙ runs.text (verdict_records (take i verdicts)) (verdict_record e) in
    let all : records_text (verdict_records verdicts) ≡ records_text (verdict_records (take (i + 1) verdicts)) ++ records_text (verdict_records (drop (i + 1) verdicts)) =
    ap records_text (sym (records_all verdicts (i + 1))) ∙ runs.text (verdict_records (take (i + 1) verdicts)) (verdict_records (drop (i + 1) verdicts)) in
    let here : HasAppendedPart old new journal (records_text (verdict_records (take (i + 1) verdicts))) =
    subst (HasAppendedPart old new journal) (sym text) (texts.part old mid new journal (records_text (verdict_records (take i verdicts))) (records_text (verdict_record e)) first part) in
    subst (HasAppendedPart old new journal) (sym all) (texts.longer old new journal (records_text (verdict_records (take (i + 1) verdicts))) (records_text (verdict_records (drop (i + 1) verdicts))) here)
