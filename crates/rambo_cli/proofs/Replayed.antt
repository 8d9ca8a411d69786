-- What stands in the files where a replay is written, or ends early.
use Rattle.std.proofs.Common.{◌≡◌, ◌<◌, ◌≤◌, ◌^◌, ◌∙◌, ℕ, List, length, take, refl, sym, subst, inl, inr, arith}
use Rattle.std.specs.Prelude.{Option, None, Some, IfSome, IsSome, IsSomeAnd}
use Rattle.std.specs.Option.{option_map}
use Rattle.rm_base.specs.Causes.{Rose}
use Rattle.rm_base.specs.Files.{Files, file_of, put_file}
use Rattle.rm_base.specs.Words.{Word}
use Rattle.rm_model.specs.declared.parts.Model.{Model}
use Rattle.gate_net.specs.Net.{Net}
use Rattle.wire_edit.specs.declared.steps.Step.{Step}
use Rattle.blif_format.specs.Text.{text_of}
use Rattle.cover_decompose.specs.Count.{decomposed}
use Rattle.graph_to_model.specs.Laws.{AreFew}
use Rattle.graph_to_model.specs.NetModel.{model_of_net}
use Rattle.step_replay.specs.Rebuilding.{IsRebuilt}
use Rattle.file_pieces.specs.declared.PieceProblem.{PieceProblem}
use Rattle.file_pieces.specs.declared.PieceProblem.TheVariants as piece
use Rattle.accepted_steps.specs.Taken.{NotTaken, TakenFrom}
use Rattle.accepted_steps.specs.declared.stop.Stop.{Stop}
use Rattle.rambo_cli.specs.Composition.{IsDecomposed, ReplaysAreWritten}
use Rattle.rambo_cli.specs.Contract.{Caused}
use Rattle.rambo_cli.specs.Files.{Holds, IfTold, OfFile}
use Rattle.rambo_cli.specs.Input.{ReadCause}
use Rattle.rambo_cli.specs.Problems.{piece_problem}
use Rattle.rambo_cli.specs.Written.{IsSaid}
use Rattle.rambo_cli.specs.Inner.Files.{BeginsFile}
use Rattle.rambo_cli.specs.Inner.Problems.{ModelCause}
use Rattle.rambo_cli.specs.Inner.Written.{IsUsable}
use Rattle.rambo_cli.specs.declared.problem.Problem.{Problem}
use Rattle.rambo_cli.specs.declared.problem.Problem.TheVariants.{Words, Text, Limit, Missing, Fault, Journal, Record, Netlist, Second, Unlike, CareShape, Window, Proof, Memory}
use Rattle.rambo_cli.specs.Replay.{BeginsToReplay, BeginsToReplayFrom, HasReplayed, HasReplayedFrom, IsReplayedInto, ReplayFinds}
use Rattle.rambo_cli.proofs.Auditing.{some_and}
use Rattle.rambo_cli.proofs.Rising.{risen_after}
use Rattle.rambo_cli.proofs.Writing.{told}

-- the files stay as they are
pub replay_kept : (m : Model) (steps : List Step) (output : Word) (old new : Option Files) → new ≡ old → IfTold old new (BeginsToReplay m steps output)
replay_kept m steps output None new e = tt
replay_kept m steps output (Some files) new e = subst (λ (o : Option Files). IfTold (Some files) o (BeginsToReplay m steps output)) (sym e) (inl refl)

-- what is written for a net that was rebuilt
pub replayed_into : (written : ReplaysAreWritten) (m : Model) (steps : List Step) (count : ℕ) (net : Net) (text : List ℕ) → IsUsable m → IsDecomposed m → AreFew net m → decomposed m ≤ 65536
    → IsRebuilt m steps count net → text ≡ text_of (model_of_net m net) → IsReplayedInto m steps count text
replayed_into written m steps count net text usable parts few most rebuilt e =
    subst (IsReplayedInto m steps count) (sym e) (written m steps count net usable.formed usable.ranked parts few usable.limits most rebuilt)

-- the whole output
pub replay_written : (m : Model) (steps : List Step) (count : ℕ) (output : Word) (text : List ℕ) (old new : Option Files) → IsReplayedInto m steps count text → new ≡ option_map (put_file output text) old
    → IfTold old new (HasReplayed m steps output count)
replay_written m steps count output text old new result done =
    told (HasReplayed m steps output count) (put_file output text) old new done (λ files. record { written = text; result = result; files = refl })

-- the output as it was, or a beginning of it
pub replay_begun : (m : Model) (steps : List Step) (count : ℕ) (output : Word) (text : List ℕ) (old new : Option Files) → IsReplayedInto m steps count text → BeginsFile output text old new
    → IfTold old new (BeginsToReplay m steps output)
replay_begun m steps count output text old new result begun = elim begun [
  | inl same ↦ replay_kept m steps output old new same
  | inr part ↦ told (BeginsToReplay m steps output) (put_file output (take part.0 text)) old new part.1
      (λ files. inr (record { count = count; written = text; result = result; kept = part.0; files = refl }))
]

-- what is found of the input
pub read_in_replay : (input journal : Word) (files : Option Files) (before now : ℕ) (problem : Problem) → ReadCause input files before now problem → Caused (ReplayFinds input journal files) before now problem
read_in_replay input journal files before now Fault h = h
read_in_replay input journal files before now Memory h = tt
read_in_replay input journal files before now Words h = absurd h
read_in_replay input journal files before now (Text kind place) h = h
read_in_replay input journal files before now (Limit quantity count) h = inl h
read_in_replay input journal files before now Missing h = inl h
read_in_replay input journal files before now (Journal f) h = absurd h
read_in_replay input journal files before now (Record r) h = absurd h
read_in_replay input journal files before now (Netlist byte) h = absurd h
read_in_replay input journal files before now (Second found) h = absurd h
read_in_replay input journal files before now (Unlike list at) h = absurd h
read_in_replay input journal files before now CareShape h = absurd h
read_in_replay input journal files before now (Window number stop) h = absurd h
read_in_replay input journal files before now (Proof found) h = absurd h

held_by : (o : Option (List ℕ)) (P : List ℕ → Type 0) (text : List ℕ) → o ≡ Some text → P text → IsSomeAnd o P
held_by o P text e p = subst (λ (x : Option (List ℕ)). IsSomeAnd x P) (sym e) p

too_long : (journal : Word) (files : Option Files) → IfSome files (λ told. NotTaken journal told piece.TooLong) → OfFile journal files (λ text. 2 ^ 62 < length text)
too_long journal None h = tt
too_long journal (Some told) h = held_by (file_of told journal) (λ text. 2 ^ 62 < length text) h.0 h.1.0 h.1.1

-- and of the journal
pub steps_not_taken : (found : PieceProblem) (input journal : Word) (files : Option Files) (before now : ℕ) → IfSome files (λ told. NotTaken journal told found) → (found ≡ piece.Missing → IsSome files) → (found ≡ piece.Failed → Rose before now)
    → Caused (ReplayFinds input journal files) before now (piece_problem found)
steps_not_taken piece.Failed input journal files before now why there rose = rose refl
steps_not_taken piece.Missing input journal files before now why there rose = inr (some_and files (λ told. file_of told journal ≡ None) (there refl) why)
steps_not_taken piece.TooLong input journal files before now why there rose = inr (refl, too_long journal files why)
steps_not_taken piece.NoMemory input journal files before now why there rose = tt

-- of steps that are taken nothing more is found
pub write_cause : (m : Model) (Finds : Problem → Type 0) (before mid now : ℕ) (problem : Problem) → decomposed m ≤ 65536 → before ≤ mid → ModelCause m mid now problem → Caused Finds before now problem
write_cause m Finds before mid now (Limit quantity pins) few later cause = absurd (omega (arith, few, cause.1.1))
write_cause m Finds before mid now Memory few later cause = tt
write_cause m Finds before mid now Fault few later cause = risen_after before mid now later cause
write_cause m Finds before mid now Words few later cause = absurd cause
write_cause m Finds before mid now (Text kind place) few later cause = absurd cause
write_cause m Finds before mid now Missing few later cause = absurd cause
write_cause m Finds before mid now (Journal fault) few later cause = absurd cause
write_cause m Finds before mid now (Record refusal) few later cause = absurd cause
write_cause m Finds before mid now (Netlist byte) few later cause = absurd cause
write_cause m Finds before mid now (Second found) few later cause = absurd cause
write_cause m Finds before mid now (Unlike list at) few later cause = absurd cause
write_cause m Finds before mid now CareShape few later cause = absurd cause
write_cause m Finds before mid now (Window number stop) few later cause = absurd cause
write_cause m Finds before mid now (Proof found) few later cause = absurd cause

pub replay_from_kept : (input journal output : Word) (old new : Option Files) → new ≡ old → IfTold old new (BeginsToReplayFrom input journal output)
replay_from_kept input journal output None new e = tt
replay_from_kept input journal output (Some files) new e = subst (λ (o : Option Files). IfTold (Some files) o (BeginsToReplayFrom input journal output)) (sym e) (inl refl)

-- what was written for the model that the input says, and the journal's steps
module _ (m : Model) (steps : List Step) (stop : Option Stop) (input journal output : Word) where
  done_over : (count : ℕ) (old new : Option Files) → decomposed m ≤ 65536 → IfSome old (λ files. Holds files input (λ text. IsSaid text m)) → IfSome old (TakenFrom m journal steps stop) → IfTold old new (HasReplayed m steps output count)
      → IfTold old new (HasReplayedFrom input journal output count stop)
  done_over count None new few said taken done = tt
  done_over count (Some old) None few said taken done = absurd done
  done_over count (Some old) (Some new) few said taken done = record { model = m; input_is = said; few = few; steps = steps; taken = taken; replayed = done }

  begun_over : (old new : Option Files) → IfSome old (λ files. Holds files input (λ text. IsSaid text m)) → IfSome old (TakenFrom m journal steps stop) → IfTold old new (BeginsToReplay m steps output)
      → IfTold old new (BeginsToReplayFrom input journal output)
  begun_over None new said taken begun = tt
  begun_over (Some old) None said taken begun = absurd begun
  begun_over (Some old) (Some new) said taken begun = inr (record { model = m; input_is = said; steps = steps; stop = stop; taken = taken; begins = begun })

  pub replayed_from : (count : ℕ) (old read kept new : Option Files) → read ≡ old → kept ≡ read → decomposed m ≤ 65536 → IfSome old (λ files. Holds files input (λ text. IsSaid text m)) → IfSome read (TakenFrom m journal steps stop)
      → IfTold kept new (HasReplayed m steps output count) → IfTold old new (HasReplayedFrom input journal output count stop)
  replayed_from count old read kept new e f few said taken done =
      done_over count old new few said (subst (λ (o : Option Files). IfSome o (TakenFrom m journal steps stop)) e taken) (subst (λ (o : Option Files). IfTold o new (HasReplayed m steps output count)) (f ∙ e) done)

  pub begun_from : (old read kept new : Option Files) → read ≡ old → kept ≡ read → IfSome old (λ files. Holds files input (λ text. IsSaid text m)) → IfSome read (TakenFrom m journal steps stop)
      → IfTold kept new (BeginsToReplay m steps output) → IfTold old new (BeginsToReplayFrom input journal output)
  begun_from old read kept new e f said taken begun =
      begun_over old new said (subst (λ (o : Option Files). IfSome o (TakenFrom m journal steps stop)) e taken) (subst (λ (o : Option Files). IfTold o new (BeginsToReplay m steps output)) (f ∙ e) begun)
