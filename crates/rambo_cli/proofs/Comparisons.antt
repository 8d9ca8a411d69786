-- What is found of two texts whose models are compared, and how such a run ends.
use Rattle.std.proofs.Common.{◌≡◌, ◌∙◌, ◌⊎◌, ℕ, Bool, List, refl, ap, inl, inr}
use Rattle.std.specs.Prelude.{Option, None, Some}
use Rattle.rm_base.specs.Causes.{Rose}
use Rattle.rm_base.specs.Files.{Files}
use Rattle.rm_base.specs.Words.{Word}
use Rattle.word_reading.specs.Words.{Asked, opt, check, demo, flat, tests, replay, convert, equal, judge, optcare, cut, sew}
use Rattle.cover_decompose.specs.Count.{decomposed}
use Rattle.cover_decompose.specs.Spelled.{plain_decomposed}
use Rattle.rm_model.specs.declared.parts.Model.{Model}
use Rattle.rambo_cli.specs.Commands.{contract_of}
use Rattle.rambo_cli.specs.Contract.{IsCause, StoreFails}
use Rattle.rambo_cli.specs.Equal.{EqualFinds}
use Rattle.rambo_cli.specs.Optcare.{OptcareFinds}
use Rattle.rambo_cli.specs.Pairs.{CanBeCompared, PairFinds}
use Rattle.rambo_cli.specs.Outcome.{IsComparedBy}
use Rattle.rambo_cli.specs.Problems.{done_status, status_of}
use Rattle.rambo_cli.specs.Verdicts.{verdict_status}
use Rattle.rambo_cli.specs.Inner.Complete.{ComparedRunsAreTold, OthersEndWith0}
use Rattle.rambo_cli.specs.Inner.Problems.{HasEnded, IsReported}
use Rattle.rambo_cli.specs.declared.work.Done.{Done}
use Rattle.rambo_cli.specs.declared.work.Done.TheVariants.{Optimised, Accepted, Flattened, Tested, Replayed, Converted, Compared, Judged, Cared, Cut, Sewn}
use Rattle.rambo_cli.specs.declared.verdict.Verdict.{Verdict}
use Rattle.rambo_cli.specs.declared.verdict.Verdict.TheVariants.{Equal, Differ, Undecided}
use Rattle.rambo_cli.specs.declared.problem.TextProblem.TheVariants as found
use Rattle.rambo_cli.specs.declared.problem.Problem.{Problem}
use Rattle.rambo_cli.specs.declared.problem.Problem.TheVariants.{Words, Text, Limit, Missing, Fault, Journal, Record, Netlist, Second, Unlike, CareShape, Window, Proof, Memory}
use Rattle.rambo_cli.proofs.Complete.{or_outside}
use Rattle.rambo_cli.proofs.TextsFound.{read_finds_none}

-- nothing is found of two texts that can be read
no_pair : (wires : Model → ℕ) (first second : Word) (told : Files) (problem : Problem) → CanBeCompared wires first second told → PairFinds wires first second (Some told) problem → ⊥
no_pair wires first second told (Text kind place) good h = read_finds_none wires first told (Text kind place) good.first_is h
no_pair wires first second told (Limit quantity count) good h = read_finds_none wires first told (Limit quantity count) good.first_is h
no_pair wires first second told Missing good h = elim h [
  | inl one ↦ read_finds_none wires first told Missing good.first_is one
  | inr two ↦ read_finds_none wires second told Missing good.second_is two.1
]
no_pair wires first second told (Second (found.Fault kind place)) good h = read_finds_none wires second told (Text kind place) good.second_is h.1
no_pair wires first second told (Second (found.Limit quantity count)) good h = read_finds_none wires second told (Limit quantity count) good.second_is h.1
no_pair wires first second told (Unlike list at) good h = h
no_pair wires first second told CareShape good h = h
no_pair wires first second told (Window number stop) good h = h
no_pair wires first second told (Proof found) good h = h
no_pair wires first second told Words good h = h
no_pair wires first second told Fault good h = h
no_pair wires first second told (Journal f) good h = h
no_pair wires first second told (Record r) good h = h
no_pair wires first second told (Netlist byte) good h = h
no_pair wires first second told Memory good h = h

-- but that their names differ
unlike_alone : (first second : Word) (told : Files) (problem : Problem) → CanBeCompared plain_decomposed first second told → EqualFinds first second (Some told) problem → status_of problem ≡ 9
unlike_alone first second told (Text kind place) good h = absurd (no_pair plain_decomposed first second told (Text kind place) good h)
unlike_alone first second told (Limit quantity count) good h = absurd (no_pair plain_decomposed first second told (Limit quantity count) good h)
unlike_alone first second told Missing good h = absurd (no_pair plain_decomposed first second told Missing good h)
unlike_alone first second told (Second problem) good h = absurd (no_pair plain_decomposed first second told (Second problem) good h)
unlike_alone first second told (Unlike list at) good h = refl
unlike_alone first second told CareShape good h = absurd h
unlike_alone first second told (Window number stop) good h = absurd h
unlike_alone first second told (Proof found) good h = absurd h
unlike_alone first second told Words good h = absurd h
unlike_alone first second told Fault good h = absurd h
unlike_alone first second told (Journal f) good h = absurd h
unlike_alone first second told (Record r) good h = absurd h
unlike_alone first second told (Netlist byte) good h = absurd h
unlike_alone first second told Memory good h = absurd h

-- or that the second is no care model for the first
misfit_alone : (input care : Word) (told : Files) (problem : Problem) → CanBeCompared decomposed input care told → OptcareFinds input care (Some told) problem → status_of problem ≡ 9
misfit_alone input care told (Text kind place) good h = absurd (no_pair decomposed input care told (Text kind place) good h)
misfit_alone input care told (Limit quantity count) good h = absurd (no_pair decomposed input care told (Limit quantity count) good h)
misfit_alone input care told Missing good h = absurd (no_pair decomposed input care told Missing good h)
misfit_alone input care told (Second problem) good h = absurd (no_pair decomposed input care told (Second problem) good h)
misfit_alone input care told (Unlike list at) good h = refl
misfit_alone input care told CareShape good h = refl
misfit_alone input care told (Window number stop) good h = absurd h
misfit_alone input care told (Proof found) good h = absurd h
misfit_alone input care told Words good h = absurd h
misfit_alone input care told Fault good h = absurd h
misfit_alone input care told (Journal f) good h = absurd h
misfit_alone input care told (Record r) good h = absurd h
misfit_alone input care told (Netlist byte) good h = absurd h
misfit_alone input care told Memory good h = absurd h

pub compared_runs_are_told : ComparedRunsAreTold
compared_runs_are_told None files m n problem there h = absurd there
compared_runs_are_told (Some (opt input output journal settings)) files m n problem there h = absurd there
compared_runs_are_told (Some (check input journal output)) files m n problem there h = absurd there
compared_runs_are_told (Some (demo seed settings)) files m n problem there h = absurd there
compared_runs_are_told (Some (flat input output)) files m n problem there h = absurd there
compared_runs_are_told (Some (tests input journal output patterns)) files m n problem there h = absurd there
compared_runs_are_told (Some (replay input journal output)) files m n problem there h = absurd there
compared_runs_are_told (Some (convert from to)) files m n problem there h = absurd there
compared_runs_are_told (Some (equal first second proof settings)) None m n problem there h = absurd there
compared_runs_are_told (Some (equal first second proof settings)) (Some told) m n problem there h =
    or_outside 9 (contract_of (Some (equal first second proof settings))) (Some told) m n problem (unlike_alone first second told problem there) h
compared_runs_are_told (Some (judge first second proof)) files m n problem there h = absurd there
compared_runs_are_told (Some (optcare input care output vectors settings)) None m n problem there h = absurd there
compared_runs_are_told (Some (optcare input care output vectors settings)) (Some told) m n problem there h =
    or_outside 9 (contract_of (Some (optcare input care output vectors settings))) (Some told) m n problem (misfit_alone input care told problem there) h
compared_runs_are_told (Some (cut input width prefix shift)) files m n problem there h = absurd there
compared_runs_are_told (Some (sew input width prefix output shift)) files m n problem there h = absurd there

-- what is done of such files is no answer of a command that compares
never_compared : (verdict : Verdict) (words : Option Asked) (files new : Option Files) → ((contract_of words).IsGood files ⊎ (contract_of words).IsJudged files) → (contract_of words).Does files new (Compared verdict) → ⊥
never_compared verdict None files new good does = does
never_compared verdict (Some (opt input output journal settings)) files new good does = does
never_compared verdict (Some (check input journal output)) files new good does = does
never_compared verdict (Some (demo seed settings)) files new good does = does
never_compared verdict (Some (flat input output)) files new good does = does
never_compared verdict (Some (tests input journal output patterns)) files new good does = does
never_compared verdict (Some (replay input journal output)) files new good does = does
never_compared verdict (Some (convert from to)) files new good does = does
never_compared verdict (Some (equal first second proof settings)) files new good does = elim good [ inl h ↦ h | inr h ↦ h ]
never_compared verdict (Some (judge first second proof)) files new good does = does
never_compared verdict (Some (optcare input care output vectors settings)) files new good does = does
never_compared verdict (Some (cut input width prefix shift)) files new good does = does
never_compared verdict (Some (sew input width prefix output shift)) files new good does = does

pub others_end_with_0 : OthersEndWith0
others_end_with_0 words files new (Optimised figures) good does = refl
others_end_with_0 words files new (Accepted count) good does = refl
others_end_with_0 words files new (Flattened instances covers) good does = refl
others_end_with_0 words files new (Tested counts) good does = refl
others_end_with_0 words files new (Replayed count stop) good does = refl
others_end_with_0 words files new (Converted count) good does = refl
others_end_with_0 words files new (Compared verdict) good does = absurd (never_compared verdict words files new good does)
others_end_with_0 words files new (Judged count verdict) good does = refl
others_end_with_0 words files new (Cared figures) good does = refl
others_end_with_0 words files new (Cut windows signals) good does = refl
others_end_with_0 words files new (Sewn windows replayed wires before) good does = refl

-- a run that reports a problem of two texts that can be compared ends with 9 or 4, where nothing outside fails
pub reported_compared : (law : ComparedRunsAreTold) (may_want : Bool) (problem : Problem) (status : ℕ) (words : Option Asked) (files : Option Files) (m n : ℕ) (old new : Option (List ℕ)) (k l : ℕ) → IsReported may_want problem status old new k l → IsCause (contract_of words) files m n problem
    → (contract_of words).IsCompared files → (StoreFails (contract_of words) m n → ⊥) → (Rose k l → ⊥) → IsComparedBy status
reported_compared law may_want problem status words files m n old new k l r cause there shelf_stands sink_stands = elim r [
  | inl told ↦ elim (law words files m n problem there cause) [
    | inl nine ↦ inr (inr (inr (inl (told.0 ∙ nine))))
    | inr outside ↦ elim outside [ inl memory ↦ inr (inr (inr (inr (told.0 ∙ ap status_of memory)))) | inr fault ↦ absurd (shelf_stands fault.1) ]
  ]
  | inr other ↦ elim other [ inl failed ↦ absurd (sink_stands failed.1.0) | inr spent ↦ inr (inr (inr (inr spent.0))) ]
]

-- the statuses of what is decided
verdict_compared : (verdict : Verdict) (status : ℕ) → status ≡ verdict_status verdict → IsComparedBy status
verdict_compared Equal status e = inl e
verdict_compared (Differ bits) status e = inr (inl e)
verdict_compared (Undecided budget) status e = inr (inr (inl e))

-- and of what is done
done_compared : (done : Done) (status : ℕ) → status ≡ done_status done → IsComparedBy status
done_compared (Optimised figures) status e = inl e
done_compared (Accepted count) status e = inl e
done_compared (Flattened instances covers) status e = inl e
done_compared (Tested counts) status e = inl e
done_compared (Replayed count stop) status e = inl e
done_compared (Converted count) status e = inl e
done_compared (Compared verdict) status e = verdict_compared verdict status e
done_compared (Judged count verdict) status e = inl e
done_compared (Cared figures) status e = inl e
done_compared (Cut windows signals) status e = inl e
done_compared (Sewn windows replayed wires before) status e = inl e

-- and one that has decided ends with 0, 7, 8 or 4
pub ended_compared : (may_want : Bool) (done : Done) (text : List ℕ) (status : ℕ) (old new : Option (List ℕ)) (i l : ℕ) → HasEnded may_want (done_status done) text status old new i l → (Rose i l → ⊥) → IsComparedBy status
ended_compared may_want done text status old new i l h sink_stands = elim h [
  | inl told ↦ done_compared done status told.0
  | inr other ↦ elim other [ inl failed ↦ absurd (sink_stands failed.1.0) | inr spent ↦ inr (inr (inr (inr spent.0))) ]
]
