-- `check` over the files that `opt` wrote.
use Rattle.std.proofs.Common.{Bool, true, false, nat_cmp, ◌≡◌, ◌≢◌, ◌<◌, ◌≤◌, ◌^◌, ◌∙◌, ◌++◌, ℕ, List, ap, cond, inl, inr, length, refl, rules, subst, sym}
use Rattle.std.proofs.lemmas.Bool.{cases_lt}
use Rattle.std.specs.Prelude.{Option, None, Some, IsSomeAnd}
use Rattle.std.specs.Cmp.{Equal-is}
use Rattle.std.specs.FinMap.{get, get-insert, gets, slice_cmp-IsAntisymmetric, nat_cmp-IsAntisymmetric}
use Rattle.std.specs.Ordering.{is_eq}
use Rattle.std.specs.Cmp.Lexicographic.{nat_list_cmp_total, slice_cmp}
use Rattle.rm_base.specs.Files.{Files, file_of, put_file}
use Rattle.rm_base.specs.Words.{Word}
use Rattle.rm_base.specs.declared.settings.Settings.{Settings}
use Rattle.rm_model.specs.declared.parts.Model.{Model}
use Rattle.blif_format.specs.Laws.{ReadsOnce}
use Rattle.journal_audit.specs.Audited.{IsPassed, LongJournalsTell}
use Rattle.journal_audit.specs.Judging.{IsAcceptedText}
use Rattle.optimisation.specs.declared.optimised.Figures.{Figures}
use Rattle.word_reading.specs.Commands.{HasNamesApart}
use Rattle.word_reading.specs.Words.{opt}
use Rattle.rambo_cli.proofs.Overlong.{overlong}
use Rattle.rambo_cli.specs.Check.{HasPassed}
use Rattle.rambo_cli.specs.Files.{Holds, IfTold}
use Rattle.rambo_cli.specs.Opt.{HasOptimised, HasWritten, IsChecked, IsOverlong}
use Rattle.rambo_cli.specs.Written.{IsSaid}

pub here : (name bytes : List ℕ) (files : Files) → file_of (put_file name bytes files) name ≡ Some bytes
here name bytes files = grind (gets, rules)

pub elsewhere : (name other bytes : List ℕ) (files : Files) → other ≢ name → file_of (put_file name bytes files) other ≡ file_of files other
elsewhere name other bytes files differ = get-insert nat_list_cmp_total files name bytes other ∙ at (is_eq (slice_cmp nat_cmp other name)) refl
  where
    at : (b : Bool) → is_eq (slice_cmp nat_cmp other name) ≡ b → cond b (Some bytes) (get files other) ≡ get files other
    at true same = absurd (differ (slice_cmp-IsAntisymmetric nat_cmp-IsAntisymmetric other name ((Equal-is (slice_cmp nat_cmp other name)).0 same)))
    at false e = refl

module _ (input output journal : Word) (apart : (input ≢ output) × ((input ≢ journal) × (output ≢ journal))) (model : Model) (settings : Settings) (figures : Figures) (old new : Files) (said : Holds old input (λ text. IsSaid text model)) (w : HasWritten model output (Some journal) settings figures old new) where
  input_stays : file_of new input ≡ file_of old input
  input_stays =
      ap (λ (files : Files). file_of files input) w.files
      ∙ elsewhere output input w.written (put_file journal w.recorded old) apart.0
      ∙ elsewhere journal input w.recorded old apart.1.0

  output_there : file_of new output ≡ Some w.written
  output_there = ap (λ (files : Files). file_of files output) w.files ∙ here output w.written (put_file journal w.recorded old)

  journal_there : file_of new journal ≡ Some w.recorded
  journal_there =
      ap (λ (files : Files). file_of files journal) w.files
      ∙ elsewhere output journal w.written (put_file journal w.recorded old) (λ same. apart.1.1 (sym same))
      ∙ here journal w.recorded old

  still_said : Holds new input (λ text. IsSaid text model)
  still_said = subst (λ (o : Option (List ℕ)). IsSomeAnd o (λ text. IsSaid text model)) (sym input_stays) said

  accepted : IsAcceptedText model w.recorded w.result.net (length (w.result.steps ++ w.result.verdicts))
  accepted = record {
    budget = settings.budget;
    records = w.result.steps ++ w.result.verdicts;
    journal = inl (record { valid = w.result.valid; is = w.result.recorded });
    accepted = w.result.accepted;
    counts = refl;
  }

  passes : length w.recorded ≤ 2 ^ 62 → IsPassed model new journal output (length (w.result.steps ++ w.result.verdicts))
  passes short = record {
    last = w.result.net;
    accepted = record {
      text = w.recorded;
      there = journal_there;
      short = short;
      accepted = accepted;
    };
    few = w.result.small;
    written = output_there ∙ ap Some w.result.spelled;
  }

  passed : length w.recorded ≤ 2 ^ 62 → HasPassed input journal output (length (w.result.steps ++ w.result.verdicts)) new
  unfolding passes
  passed short = (model, (still_said, (w.few, (passes short, w.result.same_function))))

  too_long : ReadsOnce → LongJournalsTell → 2 ^ 62 < length w.recorded → IsOverlong input journal output new
  too_long once tell long = (
    subst (λ (o : Option (List ℕ)). IsSomeAnd o (λ text. 2 ^ 62 < length text)) (sym journal_there) long,
    overlong once tell input journal output new model w.few still_said w.recorded w.result.net (length (w.result.steps ++ w.result.verdicts)) journal_there accepted long,
  )

pub checked : ReadsOnce → LongJournalsTell → (input output : Word) (journal : Option Word) (model : Model) (settings : Settings) (figures : Figures) (old new : Files) → HasNamesApart (opt input output journal settings) → Holds old input (λ text. IsSaid text model) → HasWritten model output journal settings figures old new → IsChecked input output journal new
checked once tell input output None model settings figures old new apart said w = tt
checked once tell input output (Some journal) model settings figures old new apart said w = elim (cases_lt (2 ^ 62) (length w.recorded)) [
  | inl long ↦ inr (too_long input output journal (apart.0, (apart.1, apart.2)) model settings figures old new said w once tell long)
  | inr short ↦ inl (length (w.result.steps ++ w.result.verdicts), passed input output journal (apart.0, (apart.1, apart.2)) model settings figures old new said w short)
]

-- what was written for the model that the input says
pub optimised : ReadsOnce → LongJournalsTell → (input output : Word) (journal : Option Word) (model : Model) (settings : Settings) (figures : Figures) (old new : Option Files) → HasNamesApart (opt input output journal settings) → ((files : Files) → old ≡ Some files → Holds files input (λ text. IsSaid text model)) → IfTold old new (HasWritten model output journal settings figures)
    → IfTold old new (HasOptimised input output journal settings figures)
optimised once tell input output journal model settings figures None new apart said w = tt
optimised once tell input output journal model settings figures (Some old) None apart said w = absurd w
optimised once tell input output journal model settings figures (Some old) (Some new) apart said w =
    (model, (said old refl, (w, checked once tell input output journal model settings figures old new apart (said old refl) w)))
