-- What stands in the files where `opt` is done, or ends early.
use Rattle.std.proofs.Common.{◌≡◌, ◌≤◌, ℕ, List, ◌++◌, take, length, refl, sym, ◌∙◌, ap, subst, arith, inl, inr}
use Rattle.std.specs.Prelude.{Option, None, Some}
use Rattle.std.specs.Option.{option_map}
use Rattle.std.proofs.lemmas.List.{take_all}
use Rattle.rm_base.specs.Files.{Files, put_file}
use Rattle.rm_base.specs.declared.settings.Settings.{Settings}
use Rattle.rm_model.specs.declared.parts.Model.{Model}
use Rattle.gate_net.specs.Net.{Net}
use Rattle.blif_format.specs.Text.{text_of}
use Rattle.cover_decompose.specs.Count.{decomposed}
use Rattle.graph_to_model.specs.NetModel.{model_of_net}
use Rattle.graph_to_model.specs.Laws.{AreFew}
use Rattle.journal_check.specs.Accepts.{IsAccepted}
use Rattle.journal_text.specs.Text.{journal_text}
use Rattle.optimisation.specs.Begun.{BeginsWhole}
use Rattle.optimisation.specs.declared.optimised.Figures.{Figures}
use Rattle.rambo_cli.specs.Composition.{IsDecomposed, RunsAreWritten}
use Rattle.rambo_cli.specs.Inner.Files.{BeginsFile}
use Rattle.rambo_cli.specs.Headline.{IsOptimisedInto}
use Rattle.rambo_cli.specs.Files.{IfTold}
use Rattle.rambo_cli.specs.Opt.{BeginsToWriteFor, HasWritten, with_journal}
use Rattle.rambo_cli.specs.Inner.Written.{BeginsRecord, IsRecorded, IsUsable}
use Rattle.rm_base.specs.Words.{Word}

pub told : (P : Files → Files → Type 0) (f : Files → Files) (old new : Option Files) → new ≡ option_map f old → ((files : Files) → P files (f files)) → IfTold old new P
told P f None new e h = tt
told P f (Some files) new e h = subst (λ (o : Option Files). IfTold (Some files) o P) (sym e) (h files)

told_then : (P : Files → Files → Type 0) (f h : Files → Files) (old mid new : Option Files) → mid ≡ option_map f old → new ≡ option_map h mid → ((files : Files) → P files (h (f files))) → IfTold old new P
told_then P f h None mid new e d holds = tt
told_then P f h (Some files) mid new e d holds = subst (λ (o : Option Files). IfTold (Some files) o P) (sym (d ∙ ap (option_map h) e)) (holds files)

-- the journal of a whole run, and no output yet
pub whole_begun : (m : Model) (settings : Settings) (net : Net) (figures : Figures) (old new : Option Files) (output : Word) (journal : Option Word) → IsRecorded m settings net figures old new journal → IfTold old new (BeginsToWriteFor m output journal settings)
whole_begun m settings net figures old new output None w = told (BeginsToWriteFor m output None settings) (λ files. files) old new w.written (λ files. inl refl)
whole_begun m settings net figures old new output (Some journal) w =
    let text : List ℕ = journal_text settings.budget (w.steps ++ w.verdicts) in
    let accepted : IsAccepted m settings.budget (w.steps ++ w.verdicts) net = record { steps = w.steps; verdicts = w.verdicts; parts = refl; leads = w.over.led; tidy = w.over.tidy; settled = w.over.settled } in
    let begun : BeginsWhole m settings.budget text = record { records = w.steps ++ w.verdicts; last = net; accepted = accepted; kept = length text; are = sym (take_all (length text) text (omega arith)) } in
    told (BeginsToWriteFor m output (Some journal) settings) (put_file journal text) old new w.written (λ files. inr (inl (text, (inr begun, refl))))

-- a run that ended early
pub early_begun : (m : Model) (settings : Settings) (old new : Option Files) (output : Word) (journal : Option Word) → BeginsRecord m settings.budget journal old new → IfTold old new (BeginsToWriteFor m output journal settings)
early_begun m settings None new output journal h = tt
early_begun m settings (Some old) new output None h = subst (λ (o : Option Files). IfTold (Some old) o (BeginsToWriteFor m output None settings)) (sym h) (inl refl)
early_begun m settings (Some old) new output (Some journal) h = elim h [
  | inl same ↦ subst (λ (o : Option Files). IfTold (Some old) o (BeginsToWriteFor m output (Some journal) settings)) (sym same) (inl refl)
  | inr part ↦ subst (λ (o : Option Files). IfTold (Some old) o (BeginsToWriteFor m output (Some journal) settings)) (sym part.1.1) (inr (inl (part.0, (part.1.0, refl))))
]

-- what a whole run is written into
optimised_into : (written : RunsAreWritten) (m : Model) (settings : Settings) (net : Net) (figures : Figures) (old new : Option Files) (journal : Option Word) (text : List ℕ) → IsUsable m → IsDecomposed m → AreFew net m → decomposed m ≤ 65536
    → (w : IsRecorded m settings net figures old new journal) → text ≡ text_of (model_of_net m net) → IsOptimisedInto m settings figures (journal_text settings.budget (w.steps ++ w.verdicts)) text
optimised_into written m settings net figures old new journal text usable parts few most w e =
    subst (λ (t : List ℕ). IsOptimisedInto m settings figures (journal_text settings.budget (w.steps ++ w.verdicts)) t) (sym e)
    (written m settings net w.steps w.verdicts figures usable.formed usable.ranked parts few usable.limits most w.over)

-- the whole journal, and the output as it was or a beginning of it
pub output_begun : (written : RunsAreWritten) (m : Model) (settings : Settings) (net : Net) (figures : Figures) (old mid new : Option Files) (output : Word) (journal : Option Word) (text : List ℕ) → IsUsable m → IsDecomposed m → AreFew net m → decomposed m ≤ 65536
    → IsRecorded m settings net figures old mid journal → text ≡ text_of (model_of_net m net) → BeginsFile output text mid new → IfTold old new (BeginsToWriteFor m output journal settings)
output_begun written m settings net figures old mid new output journal text usable parts few most w e begun =
    let recorded : List ℕ = journal_text settings.budget (w.steps ++ w.verdicts) in
    let result : IsOptimisedInto m settings figures recorded text = optimised_into written m settings net figures old mid journal text usable parts few most w e in
    elim begun [
      | inl same ↦ told (BeginsToWriteFor m output journal settings) (with_journal journal recorded) old new (same ∙ w.written)
          (λ files. inr (inr (record { figures = figures; recorded = recorded; written = text; result = result; files = inl refl })))
      | inr part ↦ told_then (BeginsToWriteFor m output journal settings) (with_journal journal recorded) (put_file output (take part.0 text)) old mid new w.written part.1
          (λ files. inr (inr (record { figures = figures; recorded = recorded; written = text; result = result; files = inr (part.0, refl) })))
    ]

-- the whole journal and the whole output
pub output_written : (written : RunsAreWritten) (m : Model) (settings : Settings) (net : Net) (figures : Figures) (old mid new : Option Files) (output : Word) (journal : Option Word) (text : List ℕ) → IsUsable m → IsDecomposed m → AreFew net m → decomposed m ≤ 65536
    → IsRecorded m settings net figures old mid journal → text ≡ text_of (model_of_net m net) → new ≡ option_map (put_file output text) mid → IfTold old new (HasWritten m output journal settings figures)
output_written written m settings net figures old mid new output journal text usable parts few within w e done =
    let recorded : List ℕ = journal_text settings.budget (w.steps ++ w.verdicts) in
    told_then (HasWritten m output journal settings figures) (with_journal journal recorded) (put_file output text) old mid new w.written done
    (λ files. record { few = within; recorded = recorded; written = text; result = optimised_into written m settings net figures old mid journal text usable parts few within w e; files = refl })
