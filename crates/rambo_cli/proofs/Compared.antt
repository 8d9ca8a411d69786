-- From what is found of two texts to what `equal` says of them, and what stands in the files where PROOF is written, or ends early.
use Rattle.std.proofs.Common.{◌≡◌, ◌≤◌, ◌+◌, ◌^◌, ◌∙◌, ℕ, List, take, length, refl, sym, ap, subst, inl, inr, arith}
use Rattle.std.specs.Prelude.{Option, None, Some, IfSome, false, true}
use Rattle.std.specs.Option.{option_map}
use Rattle.rm_base.specs.Causes.{Rose}
use Rattle.rm_base.specs.Files.{Files, put_file}
use Rattle.rm_base.specs.Words.{Word}
use Rattle.rm_base.specs.declared.outside.OutsideFault.{OutsideFault}
use Rattle.rm_base.specs.declared.outside.OutsideFault.TheVariants.{Failed, NoMemory}
use Rattle.rm_base.specs.declared.settings.Settings.{Settings}
use Rattle.rm_model.specs.declared.parts.Model.{Model}
use Rattle.rm_model.specs.Value.{source_names}
use Rattle.equal_evidence.specs.Evidence.{IsWritten, evidence_text}
use Rattle.equal_evidence.specs.Shown.{IsEvidenceFor}
use Rattle.equal_evidence.specs.declared.evidence.Evidence.{Evidence}
use Rattle.equal_miter.specs.Equal.{AreComparable}
use Rattle.equal_miter.specs.Refusals.{IsMiterRefused, IsReady}
use Rattle.equal_miter.specs.declared.refusal.MiterRefusal.{MiterRefusal}
use Rattle.equal_miter.specs.declared.refusal.MiterRefusal.TheVariants as miter
use Rattle.equal_sweep.specs.Decided.{IsDecided}
use Rattle.cover_decompose.specs.Spelled.{plain_decomposed}
use Rattle.rambo_cli.specs.Contract.{Caused}
use Rattle.rambo_cli.specs.Equal.{BeginsToCompare, EqualFinds, HasCompared}
use Rattle.rambo_cli.specs.Files.{IfTold}
use Rattle.rambo_cli.specs.Pairs.{AreRead, PairFinds}
use Rattle.rambo_cli.specs.Problems.{KeepsFiles}
use Rattle.rambo_cli.specs.Inner.Equal.{IsUnlikeFor, miter_problem}
use Rattle.rambo_cli.specs.Inner.Files.{BeginsFile}
use Rattle.rambo_cli.specs.Inner.Problems.{outside_problem}
use Rattle.rambo_cli.specs.Inner.Written.{IsUsable}
use Rattle.rambo_cli.specs.declared.problem.Problem.{Problem}
use Rattle.rambo_cli.specs.declared.problem.Problem.TheVariants.{Words, Text, Limit, Missing, Fault, Journal, Record, Netlist, Second, Unlike, CareShape, Window, Proof, Memory}
use Rattle.rambo_cli.proofs.Rising.{risen_after}
use Rattle.rambo_cli.proofs.Writing.{told}

-- a model that was read can be decomposed
pub ready : (m : Model) → IsUsable m → IsReady m
ready m usable = record { formed = usable.formed; ranked = usable.ranks; covers = usable.covers; sources = usable.sources; observed = usable.observed; fits = usable.fits }

-- files that stay as they are
pub kept_for : {A : Type 0} (problem : Problem) (old new : A) → new ≡ old → KeepsFiles problem old new
kept_for Words old new e = e
kept_for (Text kind place) old new e = e
kept_for (Limit quantity count) old new e = e
kept_for Missing old new e = e
kept_for Fault old new e = tt
kept_for (Journal f) old new e = e
kept_for (Record r) old new e = e
kept_for (Netlist byte) old new e = e
kept_for (Second found) old new e = e
kept_for (Unlike list at) old new e = e
kept_for CareShape old new e = e
kept_for (Window number stop) old new e = e
kept_for (Proof found) old new e = e
kept_for Memory old new e = tt

-- what is found of the two texts
pub pair_equal : (first second : Word) (files : Option Files) (before now : ℕ) (problem : Problem) → Caused (PairFinds plain_decomposed first second files) before now problem → Caused (EqualFinds first second files) before now problem
pair_equal first second files before now Fault h = h
pair_equal first second files before now Memory h = tt
pair_equal first second files before now Words h = absurd h
pair_equal first second files before now (Text kind place) h = h
pair_equal first second files before now (Limit quantity count) h = h
pair_equal first second files before now Missing h = h
pair_equal first second files before now (Journal f) h = absurd h
pair_equal first second files before now (Record r) h = absurd h
pair_equal first second files before now (Netlist byte) h = absurd h
pair_equal first second files before now (Second found) h = h
pair_equal first second files before now (Unlike list at) h = absurd h
pair_equal first second files before now CareShape h = absurd h
pair_equal first second files before now (Window number stop) h = absurd h
pair_equal first second files before now (Proof found) h = absurd h

-- why two models that were read aren't compared
pub unlike_for : (m n : Model) (refusal : MiterRefusal) → plain_decomposed m ≤ 65536 → plain_decomposed n ≤ 65536 → IsMiterRefused m n refusal → IsUnlikeFor m n (miter_problem refusal)
unlike_for m n (miter.UnlikeSources at) few more h = h
unlike_for m n (miter.UnlikeObserved at) few more h = h
unlike_for m n (miter.Limit false pins) few more h = absurd (omega (arith, few, h.1.0))
unlike_for m n (miter.Limit true pins) few more h = absurd (omega (arith, more, h.1.1.0))
unlike_for m n miter.NoMemory few more h = tt

unlike_told : (m n : Model) (first second : Word) (files : Option Files) (list : _) (at : ℕ) → IfSome files (AreRead plain_decomposed first second m n) → IsUnlikeFor m n (Unlike list at) → EqualFinds first second files (Unlike list at)
unlike_told m n first second None list at read h = tt
unlike_told m n first second (Some told) list at read h = record { model = m; other = n; read = read; differ = h }

pub unlike_cause : (m n : Model) (first second : Word) (files : Option Files) (before now : ℕ) (problem : Problem) → IfSome files (AreRead plain_decomposed first second m n) → IsUnlikeFor m n problem → Caused (EqualFinds first second files) before now problem
unlike_cause m n first second files before now (Unlike list at) read h = unlike_told m n first second files list at read h
unlike_cause m n first second files before now Memory read h = tt
unlike_cause m n first second files before now Fault read h = absurd h
unlike_cause m n first second files before now Words read h = absurd h
unlike_cause m n first second files before now (Text kind place) read h = absurd h
unlike_cause m n first second files before now (Limit quantity count) read h = absurd h
unlike_cause m n first second files before now Missing read h = absurd h
unlike_cause m n first second files before now (Journal f) read h = absurd h
unlike_cause m n first second files before now (Record r) read h = absurd h
unlike_cause m n first second files before now (Netlist byte) read h = absurd h
unlike_cause m n first second files before now (Second found) read h = absurd h
unlike_cause m n first second files before now CareShape read h = absurd h
unlike_cause m n first second files before now (Window number stop) read h = absurd h
unlike_cause m n first second files before now (Proof found) read h = absurd h

-- a call of the store that failed, after others
pub outside_cause : (fault : OutsideFault) (Finds : Problem → Type 0) (before mid now : ℕ) → before ≤ mid → (fault ≡ Failed → Rose mid now) → Caused Finds before now (outside_problem fault)
outside_cause Failed Finds before mid now later rose = risen_after before mid now later (rose refl)
outside_cause NoMemory Finds before mid now later rose = tt

pub outside_kept : {A : Type 0} (fault : OutsideFault) (old new : A) → KeepsFiles (outside_problem fault) old new
outside_kept Failed old new = tt
outside_kept NoMemory old new = tt

-- nothing is written
pub compare_kept : (first second proof : Word) (settings : Settings) (old new : Option Files) → new ≡ old → IfTold old new (BeginsToCompare first second proof settings)
compare_kept first second proof settings None new e = tt
compare_kept first second proof settings (Some files) new e = subst (λ (o : Option Files). IfTold (Some files) o (BeginsToCompare first second proof settings)) (sym e) (inl refl)

-- what is decided, with the whole of PROOF
pub compared_written : (m n : Model) (first second proof : Word) (settings : Settings) (e : Evidence) (items bytes : List ℕ) (old read new : Option Files) → read ≡ old → IfSome old (AreRead plain_decomposed first second m n) → AreComparable m n
    → IsEvidenceFor m n settings.budget e → IsWritten e → (2 ^ (length (source_names m) + 1) ≤ settings.budget → IsDecided e) → items ≡ evidence_text settings.budget e → bytes ≡ items → new ≡ option_map (put_file proof bytes) read
    → IfTold old new (HasCompared first second proof settings e)
compared_written m n first second proof settings e items bytes None read new same said comparable shown written decided text whole done = tt
compared_written m n first second proof settings e items bytes (Some files) read new same said comparable shown written decided text whole done =
    subst (λ (o : Option Files). IfTold (Some files) o (HasCompared first second proof settings e)) (sym (done ∙ ap (option_map (put_file proof bytes)) same))
    (record { model = m; other = n; read = said; decided = record { comparable = comparable; evidence = shown; written = written; decided = decided; files = ap (λ (t : List ℕ). put_file proof t files) (whole ∙ text) } })

-- or with a beginning of it
pub compared_begun : (m n : Model) (first second proof : Word) (settings : Settings) (e : Evidence) (items bytes : List ℕ) (old read new : Option Files) → read ≡ old → IfSome old (AreRead plain_decomposed first second m n) → AreComparable m n
    → IsEvidenceFor m n settings.budget e → IsWritten e → (2 ^ (length (source_names m) + 1) ≤ settings.budget → IsDecided e) → items ≡ evidence_text settings.budget e → bytes ≡ items → BeginsFile proof bytes read new
    → IfTold old new (BeginsToCompare first second proof settings)
compared_begun m n first second proof settings e items bytes None read new same said comparable shown written decided text whole begun = tt
compared_begun m n first second proof settings e items bytes (Some files) read new same said comparable shown written decided text whole begun = elim begun [
  | inl kept ↦ compare_kept first second proof settings (Some files) new (kept ∙ same)
  | inr part ↦
      subst (λ (o : Option Files). IfTold (Some files) o (BeginsToCompare first second proof settings)) (sym (part.1 ∙ ap (option_map (put_file proof (take part.0 bytes))) same))
      (inr (record {
        e = e;
        whole = put_file proof bytes files;
        compared = record { model = m; other = n; read = said; decided = record { comparable = comparable; evidence = shown; written = written; decided = decided; files = ap (λ (t : List ℕ). put_file proof t files) (whole ∙ text) } };
        size = part.0;
        files = ap (λ (t : List ℕ). put_file proof (take part.0 t) files) (whole ∙ text);
      }))
]
