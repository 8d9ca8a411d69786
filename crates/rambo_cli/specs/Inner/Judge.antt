-- Why a proof isn't read, or isn't accepted.
use Rattle.std.specs.Prelude.{ℕ, List, Option}
use Rattle.rm_base.specs.Files.{Files}
use Rattle.rm_base.specs.Words.{Word}
use Rattle.rm_model.specs.declared.parts.Model.{Model}
use Rattle.rambo_cli.specs.Pairs.{DifferAt}
use Rattle.rambo_cli.specs.Files.{IsAbsent}
use Rattle.rambo_cli.specs.Judge.{IsNoEvidence}
use Rattle.rambo_cli.specs.Replay.{IsLongJournal}
use Rattle.rambo_cli.specs.declared.problem.Problem.{Problem}
use Rattle.rambo_cli.specs.declared.problem.Problem.TheVariants.{Limit, Missing, Unlike, Proof, Memory}

-- PROOF has more than 2^62 bytes, or isn't there
abbrev pub ProofFinds : Word → Option Files → Problem → Type 0
ProofFinds proof files (Limit quantity count) = IsLongJournal proof files (Limit quantity count)
ProofFinds proof files Missing = IsAbsent proof files
ProofFinds proof files _ = ⊥

-- the names of two models differ, or the text isn't that of evidence on them, or memory ran out
abbrev pub IsRefusedFor : Model → Model → List ℕ → Problem → Type 0
IsRefusedFor m n text (Unlike list at) = DifferAt m n list at
IsRefusedFor m n text (Proof found) = IsNoEvidence m n text found
IsRefusedFor m n text Memory = Unit {0}
IsRefusedFor m n text _ = ⊥
