-- What is left to keep a run from its end, where words and files are good, or are there to be judged or compared.
use Rattle.std.specs.Prelude.{◌≡◌, ◌⊎◌, ℕ, Option}
use Rattle.rm_base.specs.Files.{Files}
use Rattle.word_reading.specs.Words.{Asked}
use Rattle.rambo_cli.specs.Commands.{contract_of}
use Rattle.rambo_cli.specs.Contract.{Contract, IsCause, StoreFails}
use Rattle.rambo_cli.specs.Problems.{done_status, status_of}
use Rattle.rambo_cli.specs.declared.work.Done.{Done}
use Rattle.rambo_cli.specs.declared.problem.Problem.{Problem}
use Rattle.rambo_cli.specs.declared.problem.Problem.TheVariants.{Fault, Memory}

-- memory ran out, or a call of the file store has failed
abbrev pub IsOutsideOf : Contract → ℕ → ℕ → Problem → Type 0
IsOutsideOf c before now problem = (problem ≡ Memory) ⊎ ((problem ≡ Fault) × StoreFails c before now)

abbrev pub GoodRunsAreDone : Type 0
GoodRunsAreDone =
    (words : Option Asked) (files : Option Files) (before now : ℕ) (problem : Problem) → (contract_of words).IsGood files → IsCause (contract_of words) files before now problem
    → IsOutsideOf (contract_of words) before now problem

-- or, where a journal and an output are judged, what the audit finds of them
abbrev pub JudgedRunsAreTold : Type 0
JudgedRunsAreTold =
    (words : Option Asked) (files : Option Files) (before now : ℕ) (problem : Problem) → (contract_of words).IsJudged files → IsCause (contract_of words) files before now problem
    → (status_of problem ≡ 6) ⊎ IsOutsideOf (contract_of words) before now problem

-- or, where two models are compared, that their names differ
abbrev pub ComparedRunsAreTold : Type 0
ComparedRunsAreTold =
    (words : Option Asked) (files : Option Files) (before now : ℕ) (problem : Problem) → (contract_of words).IsCompared files → IsCause (contract_of words) files before now problem
    → (status_of problem ≡ 9) ⊎ IsOutsideOf (contract_of words) before now problem

-- what is done of good files, or of files that are there to be judged, has status 0
abbrev pub OthersEndWith0 : Type 0
OthersEndWith0 =
    (words : Option Asked) (files new : Option Files) (done : Done) → ((contract_of words).IsGood files ⊎ (contract_of words).IsJudged files) → (contract_of words).Does files new done → done_status done ≡ 0
