-- From a journal that is converted to what `convert` says of the files.
use Rattle.std.proofs.Common.{◌≡◌, ◌≢◌, ◌≤◌, ◌<◌, ◌^◌, ◌⊎◌, ℕ, List, take, length, refl, sym, ◌∙◌, ap, subst, inl, inr, arith}
use Rattle.std.specs.Prelude.{Option, None, Some, IfSome, IsSome, IsSomeAnd}
use Rattle.std.specs.Option.{option_map}
use Rattle.rm_base.specs.Causes.{Rose}
use Rattle.rm_base.specs.Files.{Files, file_of, put_file}
use Rattle.rm_base.specs.Words.{Word}
use Rattle.journal_text.specs.Cutting.{JournalsAreOne}
use Rattle.journal_text.specs.Faults.{IsFault}
use Rattle.journal_convert.specs.Converting.{ConvertedFrom, IsConverted, NotConverted}
use Rattle.journal_convert.specs.declared.problem.ConvertProblem.{ConvertProblem}
use Rattle.journal_convert.specs.declared.problem.ConvertProblem.TheVariants as convert
use Rattle.rambo_cli.specs.Contract.{Caused}
use Rattle.rambo_cli.specs.Convert.{BeginsConverted, CanBeConverted, ConvertFinds, HasConverted, HasLineFault, convert_problem, of_lines}
use Rattle.rambo_cli.specs.Files.{Holds, IfTold, IsAbsent, OfFile}
use Rattle.rambo_cli.specs.Inner.Files.{BeginsFile}
use Rattle.rambo_cli.specs.declared.problem.Problem.{Problem}
use Rattle.rambo_cli.specs.declared.problem.Problem.TheVariants.{Words, Text, Limit, Missing, Fault, Journal, Record, Netlist, Second, Unlike, CareShape, Window, Proof, Memory}

-- the file is there, and this holds of its bytes
holds_of : (P : List ℕ → Type 0) (o : Option (List ℕ)) → (text : List ℕ) × ((o ≡ Some text) × P text) → IsSomeAnd o P
holds_of P o h = subst (λ (p : Option (List ℕ)). IsSomeAnd p P) (sym h.1.0) h.1.1

pub converted_read : (files : Option Files) (name : Word) (written : List ℕ) (count : ℕ) → IfSome files (ConvertedFrom name written count) → IfSome files (λ told. Holds told name (λ text. IsConverted text written count))
converted_read None name written count h = tt
converted_read (Some told) name written count h = holds_of (λ text. IsConverted text written count) (file_of told name) h

too_long : (files : Option Files) (name : Word) → IfSome files (λ told. NotConverted name told convert.TooLong) → OfFile name files (λ text. 2 ^ 62 < length text)
too_long None name h = tt
too_long (Some told) name h = holds_of (λ text. 2 ^ 62 < length text) (file_of told name) h

line_fault : (f : _) (text : List ℕ) → IsFault text f → HasLineFault text (of_lines f)
line_fault f text h = record { lines = f; is = refl; first = h }

faulty : (files : Option Files) (name : Word) (f : _) → IfSome files (λ told. NotConverted name told (convert.Text f)) → OfFile name files (λ text. HasLineFault text (of_lines f))
faulty None name f h = tt
faulty (Some told) name f h = holds_of (λ text. HasLineFault text (of_lines f)) (file_of told name) (h.0, (h.1.0, line_fault f h.0 h.1.1))

absent : (files : Option Files) (name : Word) → IsSome files → IfSome files (λ told. file_of told name ≡ None) → IsAbsent name files
absent None name is h = absurd (cc)
absent (Some told) name is h = h

-- why a file isn't converted
pub convert_cause : (files : Option Files) (name : Word) (before now : ℕ) (e : ConvertProblem) → IfSome files (λ told. NotConverted name told e) → (e ≡ convert.Missing → IsSome files) → (e ≡ convert.Failed → Rose before now)
    → Caused (ConvertFinds name files) before now (convert_problem e)
convert_cause files name before now convert.Failed h there rose = rose refl
convert_cause files name before now convert.Missing h there rose = absent files name (there refl) h
convert_cause files name before now convert.TooLong h there rose = record { quantity_is = refl; count_is = refl; long = too_long files name h }
convert_cause files name before now (convert.Text f) h there rose = faulty files name f h
convert_cause files name before now convert.NoMemory h there rose = tt

-- nothing has changed, or the file holds a beginning
abbrev BeginsOrKeeps : Word → Word → Files → Files → Type 0
BeginsOrKeeps from to before after = (after ≡ before) ⊎ BeginsConverted from to before after

pub convert_kept : (from to : Word) (old new : Option Files) → new ≡ old → IfTold old new (BeginsOrKeeps from to)
convert_kept from to None new e = tt
convert_kept from to (Some told) new e = subst (λ (o : Option Files). IfTold (Some told) o (BeginsOrKeeps from to)) (sym e) (inl refl)

module _ (from to : Word) (written : List ℕ) (count : ℕ) (text : List ℕ) (same : text ≡ written) (mid new : Option Files) where
  pub convert_written : (old : Option Files) → mid ≡ old → IfSome old (λ told. Holds told from (λ bytes. IsConverted bytes written count))
      → new ≡ option_map (put_file to text) mid → IfTold old new (HasConverted from to count)
  convert_written None kept result e = tt
  convert_written (Some told) kept result e =
      subst (λ (o : Option Files). IfTold (Some told) o (HasConverted from to count))
      (sym (e ∙ ap (option_map (put_file to text)) kept))
      (record { written = written; result = result; files = ap (λ (t : List ℕ). put_file to t told) same })

  pub convert_begun : (old : Option Files) → mid ≡ old → IfSome old (λ told. Holds told from (λ bytes. IsConverted bytes written count))
      → BeginsFile to text mid new → IfTold old new (BeginsOrKeeps from to)
  convert_begun None kept result begun = tt
  convert_begun (Some told) kept result begun = elim begun [
    | inl unchanged ↦ convert_kept from to (Some told) new (unchanged ∙ kept)
    | inr part ↦
        subst (λ (o : Option Files). IfTold (Some told) o (BeginsOrKeeps from to))
        (sym (part.1 ∙ ap (option_map (put_file to (take part.0 text))) kept))
        (inr (record { written = written; count = count; result = result; size = part.0; files = ap (λ (t : List ℕ). put_file to (take part.0 t) told) same }))
  ]

never_long : (text : List ℕ) → length text ≤ 2 ^ 62 → 2 ^ 62 < length text → ⊥
never_long text short long = absurd (omega (arith, short, long))

fault_none : JournalsAreOne → (text : List ℕ) (f : _) → CanBeConverted text → HasLineFault text f → ⊥
fault_none laws text f good h = laws.faultless text good.budget good.records h.lines good.journal h.first

both_none : (o : Option (List ℕ)) (P Q : List ℕ → Type 0) → ((text : List ℕ) → P text → Q text → ⊥) → IsSomeAnd o P → IsSomeAnd o Q → ⊥
both_none None P Q apart p q = absurd p
both_none (Some text) P Q apart p q = apart text p q

there_none : (o : Option (List ℕ)) (P : List ℕ → Type 0) → IsSomeAnd o P → o ≢ None
there_none None P p e = absurd p
there_none (Some text) P p e = cc

-- nothing is found of a journal of version 1
pub convert_finds_none : JournalsAreOne → (from : Word) (told : Files) (problem : Problem) → Holds told from CanBeConverted → ConvertFinds from (Some told) problem → ⊥
convert_finds_none laws from told (Limit quantity count) good h = both_none (file_of told from) CanBeConverted (λ text. 2 ^ 62 < length text) (λ text can long. never_long text can.short long) good h.long
convert_finds_none laws from told Missing good h = there_none (file_of told from) CanBeConverted good h
convert_finds_none laws from told (Journal f) good h = both_none (file_of told from) CanBeConverted (λ text. HasLineFault text f) (λ text. fault_none laws text f) good h
convert_finds_none laws from told Words good h = h
convert_finds_none laws from told (Text kind place) good h = h
convert_finds_none laws from told Fault good h = h
convert_finds_none laws from told (Record r) good h = h
convert_finds_none laws from told (Netlist byte) good h = h
convert_finds_none laws from told (Second found) good h = h
convert_finds_none laws from told (Unlike list at) good h = h
convert_finds_none laws from told CareShape good h = h
convert_finds_none laws from told (Window number stop) good h = h
convert_finds_none laws from told (Proof found) good h = h
convert_finds_none laws from told Memory good h = h
