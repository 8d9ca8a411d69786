-- The contract of what the words ask for.
use Rattle.std.specs.Prelude.{◌≡◌, Option, None, Some, false}
use Rattle.word_reading.specs.Words.{Asked, opt, check, demo, flat, tests, replay, convert, equal, judge, optcare, cut, sew}
use Rattle.rambo_cli.specs.Contract.{Contract}
use Rattle.rambo_cli.specs.Opt.{opt_contract}
use Rattle.rambo_cli.specs.Check.{check_contract}
use Rattle.rambo_cli.specs.Demo.{demo_contract}
use Rattle.rambo_cli.specs.Flat.{flat_contract}
use Rattle.rambo_cli.specs.Cut.{cut_contract}
use Rattle.rambo_cli.specs.Sew.{sew_contract}
use Rattle.rambo_cli.specs.Tests.{tests_contract}
use Rattle.rambo_cli.specs.Replay.{replay_contract}
use Rattle.rambo_cli.specs.Convert.{convert_contract}
use Rattle.rambo_cli.specs.Equal.{equal_contract}
use Rattle.rambo_cli.specs.Judge.{judge_contract}
use Rattle.rambo_cli.specs.Optcare.{optcare_contract}
use Rattle.rambo_cli.specs.declared.problem.Problem.TheVariants.{Words}

-- of words that ask for nothing
abbrev pub refused_contract : Contract
refused_contract = record {
  Does = λ old new done. ⊥;
  Finds = λ files problem. problem ≡ Words;
  Leaves = λ old new. new ≡ old;
  needs_files = false;
  IsGood = λ files. ⊥;
  IsJudged = λ files. ⊥;
  IsCompared = λ files. ⊥;
}

abbrev pub contract_of : Option Asked → Contract
contract_of None = refused_contract
contract_of (Some (opt input output journal settings)) = opt_contract input output journal settings
contract_of (Some (check input journal output)) = check_contract input journal output
contract_of (Some (demo seed settings)) = demo_contract seed settings
contract_of (Some (flat input output)) = flat_contract input output
contract_of (Some (tests input journal output patterns)) = tests_contract input journal output patterns
contract_of (Some (replay input journal output)) = replay_contract input journal output
contract_of (Some (convert from to)) = convert_contract from to
contract_of (Some (equal first second proof settings)) = equal_contract first second proof settings
contract_of (Some (judge first second proof)) = judge_contract first second proof
contract_of (Some (optcare input care output vectors settings)) = optcare_contract input care output vectors settings
contract_of (Some (cut input width prefix shift)) = cut_contract input width prefix shift
contract_of (Some (sew input width prefix output shift)) = sew_contract input width prefix output shift
