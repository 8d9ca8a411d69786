-- From what is found of a model and its care model, and what is written for them, to what `optcare` says of the files.
use Rattle.std.proofs.Common.{◌≡◌, ◌≤◌, ◌∙◌, ◌++◌, ℕ, List, [], length, take, refl, sym, ap, subst, inl, inr, arith}
use Rattle.std.specs.Prelude.{Option, None, Some, IfSome}
use Rattle.std.specs.Option.{option_map}
use Rattle.std.proofs.lemmas.List.{take_all}
use Rattle.rm_base.specs.Files.{Files, put_file}
use Rattle.rm_base.specs.Words.{Word}
use Rattle.rm_base.specs.declared.settings.Settings.{Settings}
use Rattle.rm_base.specs.Causes.{Rose}
use Rattle.rm_base.specs.declared.outside.OutsideFault.{OutsideFault}
use Rattle.rm_base.specs.declared.outside.OutsideFault.TheVariants as outside
use Rattle.rm_model.specs.declared.parts.Model.{Model}
use Rattle.journal_text.specs.Joining.{TextsAppend}
use Rattle.journal_text.specs.Runs.{HasAppended, HasAppendedPart, records_text}
use Rattle.journal_text.specs.Text.{entry_text, journal_text}
use Rattle.journal_text.specs.declared.append.Stop.{Stop}
use Rattle.journal_text.specs.declared.append.Stop.TheVariants as stop
use Rattle.journal_text.specs.declared.record.Entry.TheVariants.{End, Header}
use Rattle.journal_text.specs.declared.record.Record.{Record}
use Rattle.optimisation.proofs.Public.{put_then, whole_text}
use Rattle.cover_decompose.specs.Count.{decomposed}
use Rattle.rambo_cli.specs.Contract.{Caused}
use Rattle.rambo_cli.specs.Files.{IfTold}
use Rattle.rambo_cli.specs.Optcare.{BeginsToCare, HasCaredFor, IsCaredInto, OptcareFinds}
use Rattle.rambo_cli.specs.Pairs.{AreRead, PairFinds}
use Rattle.rambo_cli.specs.Problems.{KeepsFiles}
use Rattle.rambo_cli.specs.Inner.Files.{AreBothPut, BeginsBoth, BeginsFile}
use Rattle.rambo_cli.specs.Inner.Optcare.{IsCutShort, IsMisfit}
use Rattle.rambo_cli.specs.Inner.Problems.{outside_problem, stop_problem}
use Rattle.rambo_cli.specs.declared.problem.NameList.{NameList}
use Rattle.rambo_cli.specs.declared.summary.CareFigures.{CareFigures}
use Rattle.rambo_cli.specs.declared.problem.Problem.{Problem}
use Rattle.rambo_cli.specs.declared.problem.Problem.TheVariants.{Words, Text, Limit, Missing, Fault, Journal, Record as OfRecord, Netlist, Second, Unlike, CareShape, Window, Proof, Memory}
use Rattle.rambo_cli.proofs.Rising.{risen_after}

-- what is found of the two texts
pub pair_care : (input care : Word) (files : Option Files) (before now : ℕ) (problem : Problem) → Caused (PairFinds decomposed input care files) before now problem → Caused (OptcareFinds input care files) before now problem
pair_care input care files before now Fault h = h
pair_care input care files before now Memory h = tt
pair_care input care files before now Words h = absurd h
pair_care input care files before now (Text kind place) h = h
pair_care input care files before now (Limit quantity count) h = h
pair_care input care files before now Missing h = h
pair_care input care files before now (Journal f) h = absurd h
pair_care input care files before now (OfRecord r) h = absurd h
pair_care input care files before now (Netlist byte) h = absurd h
pair_care input care files before now (Second found) h = h
pair_care input care files before now (Unlike list at) h = absurd h
pair_care input care files before now CareShape h = absurd h
pair_care input care files before now (Window number stop) h = absurd h
pair_care input care files before now (Proof found) h = absurd h

-- or of their models
misfit_told : (m c : Model) (input care : Word) (files : Option Files) (list : NameList) (at : ℕ) → IfSome files (AreRead decomposed input care m c) → IsMisfit m c (Unlike list at) → OptcareFinds input care files (Unlike list at)
misfit_told m c input care None list at read h = tt
misfit_told m c input care (Some told) list at read h = record { model = m; cares = c; read = read; misfits = h }

shape_told : (m c : Model) (input care : Word) (files : Option Files) → IfSome files (AreRead decomposed input care m c) → IsMisfit m c CareShape → OptcareFinds input care files CareShape
shape_told m c input care None read h = tt
shape_told m c input care (Some told) read h = record { model = m; cares = c; read = read; misfits = h }

pub misfit_cause : (m c : Model) (input care : Word) (files : Option Files) (before now : ℕ) (problem : Problem) → IfSome files (AreRead decomposed input care m c) → IsMisfit m c problem → Caused (OptcareFinds input care files) before now problem
misfit_cause m c input care files before now (Unlike list at) read h = misfit_told m c input care files list at read h
misfit_cause m c input care files before now CareShape read h = shape_told m c input care files read h
misfit_cause m c input care files before now (Window number stop) read h = absurd h
misfit_cause m c input care files before now (Proof found) read h = absurd h
misfit_cause m c input care files before now Memory read h = tt
misfit_cause m c input care files before now Fault read h = absurd h
misfit_cause m c input care files before now Words read h = absurd h
misfit_cause m c input care files before now (Text kind place) read h = absurd h
misfit_cause m c input care files before now (Limit quantity count) read h = absurd h
misfit_cause m c input care files before now Missing read h = absurd h
misfit_cause m c input care files before now (Journal f) read h = absurd h
misfit_cause m c input care files before now (OfRecord r) read h = absurd h
misfit_cause m c input care files before now (Netlist byte) read h = absurd h
misfit_cause m c input care files before now (Second found) read h = absurd h

-- writing was cut short
pub cut_cause : (Finds : Problem → Type 0) (before mid now : ℕ) (problem : Problem) → before ≤ mid → IsCutShort mid now problem → Caused Finds before now problem
cut_cause Finds before mid now Fault later h = risen_after before mid now later h
cut_cause Finds before mid now Memory later h = tt
cut_cause Finds before mid now Words later h = absurd h
cut_cause Finds before mid now (Text kind place) later h = absurd h
cut_cause Finds before mid now (Limit quantity count) later h = absurd h
cut_cause Finds before mid now Missing later h = absurd h
cut_cause Finds before mid now (Journal f) later h = absurd h
cut_cause Finds before mid now (OfRecord r) later h = absurd h
cut_cause Finds before mid now (Netlist byte) later h = absurd h
cut_cause Finds before mid now (Second found) later h = absurd h
cut_cause Finds before mid now (Unlike list at) later h = absurd h
cut_cause Finds before mid now CareShape later h = absurd h
cut_cause Finds before mid now (Window number stop) later h = absurd h
cut_cause Finds before mid now (Proof found) later h = absurd h

pub cut_kept : {A : Type 0} (before now : ℕ) (problem : Problem) (old new : A) → IsCutShort before now problem → KeepsFiles problem old new
cut_kept before now Fault old new h = tt
cut_kept before now Memory old new h = tt
cut_kept before now Words old new h = absurd h
cut_kept before now (Text kind place) old new h = absurd h
cut_kept before now (Limit quantity count) old new h = absurd h
cut_kept before now Missing old new h = absurd h
cut_kept before now (Journal f) old new h = absurd h
cut_kept before now (OfRecord r) old new h = absurd h
cut_kept before now (Netlist byte) old new h = absurd h
cut_kept before now (Second found) old new h = absurd h
cut_kept before now (Unlike list at) old new h = absurd h
cut_kept before now CareShape old new h = absurd h
cut_kept before now (Window number stop) old new h = absurd h
cut_kept before now (Proof found) old new h = absurd h

-- the text of records, by its header and the rest
module _ (append : TextsAppend) (name : Word) (budget : ℕ) (records : List Record) (old mid : Option Files) (empty : mid ≡ option_map (put_file name []) old) where
  abbrev head : List ℕ
  head = entry_text (Header budget)

  abbrev rest : List ℕ
  rest = records_text records ++ entry_text End

  part_begun : (text : List ℕ) (new : Option Files) → HasAppendedPart mid new name text → BeginsFile name text old new
  part_begun text new h = inr (h.0, put_then name [] (take h.0 text) old mid new empty h.1)

  whole_begun : (new : Option Files) → HasAppendedPart mid new name (head ++ rest) → BeginsFile name (journal_text budget records) old new
  whole_begun new h = subst (λ (t : List ℕ). BeginsFile name t old new) (sym (whole_text budget records)) (part_begun (head ++ rest) new h)

  pub header_begun : (new : Option Files) → HasAppendedPart mid new name head → BeginsFile name (journal_text budget records) old new
  header_begun new h = whole_begun new (append.longer mid new name head rest h)

  pub rest_begun : (opened new : Option Files) → HasAppended mid opened name head → HasAppendedPart opened new name rest → BeginsFile name (journal_text budget records) old new
  rest_begun opened new h part = whole_begun new (append.part mid opened new name head rest h part)

  pub rest_done : (opened new : Option Files) → HasAppended mid opened name head → HasAppended opened new name rest → new ≡ option_map (put_file name (journal_text budget records)) old
  rest_done opened new h more =
      put_then name [] (head ++ rest) old mid new empty (append.follows mid opened new name head rest h more) ∙ ap (λ (t : List ℕ). option_map (put_file name t) old) (sym (whole_text budget records))

  pub rest_whole : (opened new : Option Files) → HasAppended mid opened name head → HasAppended opened new name rest → BeginsFile name (journal_text budget records) old new
  rest_whole opened new h more = whole_begun new (append.whole mid new name (head ++ rest) (append.follows mid opened new name head rest h more))

-- a call that failed
pub outside_cut : (fault : OutsideFault) (before mid now : ℕ) → before ≤ mid → (fault ≡ outside.Failed → Rose mid now) → IsCutShort before now (outside_problem fault)
outside_cut outside.Failed before mid now later rose = risen_after before mid now later (rose refl)
outside_cut outside.NoMemory before mid now later rose = tt

pub stop_cut : (why : Stop) (before mid now : ℕ) → before ≤ mid → (why ≡ stop.Failed → Rose mid now) → IsCutShort before now (stop_problem why)
stop_cut stop.Failed before mid now later rose = risen_after before mid now later (rose refl)
stop_cut stop.NoMemory before mid now later rose = tt

-- one file is put, and then the other, or a beginning
module _ (other first : Word) (bytes more : List ℕ) where
  pub first_begun : (old mid : Option Files) → BeginsFile first bytes old mid → IfTold old mid (BeginsBoth other first bytes more)
  first_begun None mid h = tt
  first_begun (Some files) mid h = elim h [
    | inl kept ↦ subst (λ (o : Option Files). IfTold (Some files) o (BeginsBoth other first bytes more)) (sym kept) (inl refl)
    | inr part ↦ subst (λ (o : Option Files). IfTold (Some files) o (BeginsBoth other first bytes more)) (sym part.1) (inr (inl (part.0, refl)))
  ]

  whole : (files : Files) → BeginsBoth other first bytes more files (put_file first bytes files)
  whole files = inr (inl (length bytes, ap (λ (t : List ℕ). put_file first t files) (sym (take_all (length bytes) bytes (omega arith)))))

  pub second_begun : (old mid new : Option Files) → mid ≡ option_map (put_file first bytes) old → BeginsFile other more mid new → IfTold old new (BeginsBoth other first bytes more)
  second_begun None mid new e h = tt
  second_begun (Some files) mid new e h = elim h [
    | inl kept ↦ subst (λ (o : Option Files). IfTold (Some files) o (BeginsBoth other first bytes more)) (sym (kept ∙ e)) (whole files)
    | inr part ↦ subst (λ (o : Option Files). IfTold (Some files) o (BeginsBoth other first bytes more)) (sym (part.1 ∙ ap (option_map (put_file other (take part.0 more))) e)) (inr (inr (part.0, refl)))
  ]

  pub both_put : (old mid new : Option Files) → mid ≡ option_map (put_file first bytes) old → new ≡ option_map (put_file other more) mid → IfTold old new (AreBothPut other first bytes more)
  both_put None mid new e d = tt
  both_put (Some files) mid new e d = subst (λ (o : Option Files). IfTold (Some files) o (AreBothPut other first bytes more)) (sym (d ∙ ap (option_map (put_file other more)) e)) refl

-- nothing is written
pub care_kept : (input care output tests : Word) (settings : Settings) (old new : Option Files) → new ≡ old → IfTold old new (BeginsToCare input care output tests settings)
care_kept input care output tests settings None new e = tt
care_kept input care output tests settings (Some files) new e = subst (λ (o : Option Files). IfTold (Some files) o (BeginsToCare input care output tests settings)) (sym e) (inl refl)

module _ (m c : Model) (input care output tests : Word) (settings : Settings) (figures : CareFigures) (recorded written : List ℕ) (result : IsCaredInto m c settings figures recorded written) where
  -- both files are written
  pub care_written : (old read new : Option Files) → read ≡ old → IfSome old (AreRead decomposed input care m c) → IfTold read new (AreBothPut output tests recorded written) → IfTold old new (HasCaredFor input care output tests settings figures)
  care_written None read new e said put = tt
  care_written (Some files) read new e said put = go new (subst (λ (o : Option Files). IfTold o new (AreBothPut output tests recorded written)) e put)
    where
      go : (now : Option Files) → IfTold (Some files) now (AreBothPut output tests recorded written) → IfTold (Some files) now (HasCaredFor input care output tests settings figures)
      go None h = h
      go (Some after) h = record { model = m; cares = c; read = said; cared = record { recorded = recorded; written = written; result = result; files = h } }

  -- or a beginning
  pub care_begun : (old read new : Option Files) → read ≡ old → IfSome old (AreRead decomposed input care m c) → IfTold read new (BeginsBoth output tests recorded written) → IfTold old new (BeginsToCare input care output tests settings)
  care_begun None read new e said begun = tt
  care_begun (Some files) read new e said begun = go new (subst (λ (o : Option Files). IfTold o new (BeginsBoth output tests recorded written)) e begun)
    where
      go : (now : Option Files) → IfTold (Some files) now (BeginsBoth output tests recorded written) → IfTold (Some files) now (BeginsToCare input care output tests settings)
      go None h = h
      go (Some after) h = elim h [
        | inl kept ↦ inl kept
        | inr parts ↦ inr (record { model = m; cares = c; read = said; figures = figures; recorded = recorded; written = written; result = result; files = parts })
      ]
