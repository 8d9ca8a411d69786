-- `check` over files whose journal is accepted but longer than it reads.
use Rattle.std.proofs.Common.{◌≡◌, ◌<◌, ◌≤◌, ◌^◌, ℕ, List, ap, arith, inl, inr, length, subst, sym}
use Rattle.std.specs.Prelude.{Option, None, Some, IsSomeAnd}
use Rattle.rm_base.specs.Files.{Files, file_of}
use Rattle.rm_base.specs.Words.{Word}
use Rattle.rm_model.specs.declared.parts.Model.{Model}
use Rattle.gate_net.specs.Net.{Net}
use Rattle.blif_format.specs.Laws.{ReadsOnce}
use Rattle.blif_format.specs.declared.refusal.Quantity.TheVariants.{Journal as JournalLimit}
use Rattle.cover_decompose.specs.Count.{decomposed}
use Rattle.journal_audit.specs.Audited.{IsOfFiles, IsProblem, LongJournalsTell}
use Rattle.journal_audit.specs.Judging.{IsAcceptedText}
use Rattle.journal_audit.specs.declared.problem.AuditProblem.{AuditProblem}
use Rattle.journal_audit.specs.declared.problem.AuditProblem.TheVariants as audit
use Rattle.rambo_cli.proofs.TextsFound.{read_finds_none, said_good, same_model, weaker}
use Rattle.rambo_cli.specs.Check.{Audited, CheckDoes, CheckFinds, HasPassed, check_contract}
use Rattle.rambo_cli.specs.Contract.{FindsAlone}
use Rattle.rambo_cli.specs.Files.{Holds}
use Rattle.rambo_cli.specs.Input.{CanBeOptimised}
use Rattle.rambo_cli.specs.Written.{IsSaid}
use Rattle.rambo_cli.specs.declared.work.Done.{Done}
use Rattle.rambo_cli.specs.declared.work.Done.TheVariants.{Accepted, Compared, Converted, Flattened, Judged, Optimised, Replayed, Tested, Cared, Cut, Sewn}
use Rattle.rambo_cli.specs.declared.problem.Problem.{Problem}
use Rattle.rambo_cli.specs.declared.problem.Problem.TheVariants.{Words, Text, Limit, Missing, Fault, Journal, Record, Netlist, Second, Unlike, CareShape, Window, Proof, Memory}

one_text : (o : Option (List ℕ)) (text other : List ℕ) → o ≡ Some text → o ≡ Some other → other ≡ text
one_text o text other e f = cc

module _ (once : ReadsOnce) (tell : LongJournalsTell) (input journal output : Word) (told : Files) (model : Model) (few : decomposed model ≤ 65536) (said : Holds told input (λ text. IsSaid text model)) (text : List ℕ) (last : Net) (count : ℕ) (there : file_of told journal ≡ Some text) (accepted : IsAcceptedText model text last count) (long : 2 ^ 62 < length text) where
  good : Holds told input CanBeOptimised
  good = weaker (file_of told input) (λ t. IsSaid t model) CanBeOptimised said (λ t s. said_good once decomposed model t few s)

  never_passes : (k : ℕ) → HasPassed input journal output k told → ⊥
  never_passes k passed =
      let same : length passed.1.1.1.0.accepted.text ≡ length text = ap (λ (t : List ℕ). length t) (one_text (file_of told journal) text passed.1.1.1.0.accepted.text there passed.1.1.1.0.accepted.there) in
      omega (arith, same, long, passed.1.1.1.0.accepted.short)

  too_long : (found : AuditProblem) → IsOfFiles found → Audited input journal output found told → found ≡ audit.TooLong
  too_long found of_files audited = go (file_of told input) said audited.1.0
    where
      go : (o : Option (List ℕ)) → IsSomeAnd o (λ t. IsSaid t model) → IsSomeAnd o (λ t. IsSaid t audited.0) → found ≡ audit.TooLong
      go None one two = absurd one
      go (Some t) one two =
          same_model once model audited.0 (found ≡ audit.TooLong) t
          (λ same. tell model told journal output text last count there accepted long found of_files (subst (λ (m : Model). IsProblem m told journal output found) (sym same) audited.1.1.1))
          one two

  differs : (found : AuditProblem) → (found ≡ audit.TooLong → ⊥) → IsOfFiles found → Audited input journal output found told → ⊥
  differs found other of_files audited = other (too_long found of_files audited)

  finds : (p : Problem) → CheckFinds input journal output (Some told) p → p ≡ Limit JournalLimit 4611686018427387905
  finds (Text kind place) f = absurd (read_finds_none decomposed input told (Text kind place) good f)
  finds (Limit quantity bytes) f = elim f [ inl read ↦ absurd (read_finds_none decomposed input told (Limit quantity bytes) good read) | inr over ↦ over.0 ]
  finds Missing f = elim f [
    | inl read ↦ absurd (read_finds_none decomposed input told Missing good read)
    | inr other ↦ elim other [ inl one ↦ absurd (differs audit.NoJournal (λ e. cc) tt one) | inr two ↦ absurd (differs audit.NoOutput (λ e. cc) tt two) ]
  ]
  finds Fault f = absurd f
  finds Memory f = absurd f
  finds Words f = absurd f
  finds (Journal x) f = absurd (differs (audit.Text x) (λ e. cc) tt f)
  finds (Record r) f = absurd (differs (audit.Refused r) (λ e. cc) tt f)
  finds (Netlist byte) f = absurd (differs (audit.Netlist byte) (λ e. cc) tt f)
  finds (Second found) f = absurd f
  finds (Unlike list at) f = absurd f
  finds CareShape f = absurd f
  finds (Window number stop) f = absurd f
  finds (Proof found) f = absurd f

  does : (new : Option Files) (done : Done) → CheckDoes input journal output (Some told) new done → ⊥
  does new (Accepted k) h = never_passes k h
  does new (Optimised figures) h = h
  does new (Flattened instances covers) h = h
  does new (Tested counts) h = h
  does new (Replayed steps stop) h = h
  does new (Converted records) h = h
  does new (Compared verdict) h = h
  does new (Judged records verdict) h = h
  does new (Cared figures) h = h
  does new (Cut windows signals) h = h
  does new (Sewn windows replayed wires before) h = h

  pub overlong : FindsAlone (check_contract input journal output) (Some told) (Limit JournalLimit 4611686018427387905)
  overlong = record { never_done = does; alone = finds }
