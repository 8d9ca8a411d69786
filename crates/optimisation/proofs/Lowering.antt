-- A run that might have made fewer tries, though no fewer than it made, is the same run.
use Rattle.std.proofs.Common.{◌≤◌, ◌+◌, ◌-◌, ℕ, Bool, true, List, arith}
use Rattle.gate_net.specs.Net.{Net}
use Rattle.wire_edit.specs.declared.steps.Step.{Step}
use Rattle.rar_loop.specs.Perturbed.{IsTurn}
use Rattle.rar_loop.specs.Rounds.{IsRun}
use Rattle.optimisation.specs.Stages.{HaveStages, IsStagedRun, first, further}
use Rattle.optimisation.specs.Turns.{HaveTurns, IsTurnedRun, staged, turned, in_vain}

pub run_lowered : (net : Net) (steps : List Step) (depth limit less tries : ℕ) (settled : Bool) → IsRun net steps depth limit tries settled → tries ≤ less → less ≤ limit → IsRun net steps depth less tries settled
run_lowered net steps depth limit less tries settled r le within = record {
  last = r.last;
  in_vain = r.in_vain;
  rounds = r.rounds;
  counted = r.counted;
  are_tries = r.are_tries;
  sum = r.sum;
  within = le;
  settled_is_all = r.settled_is_all;
  all_is_settled = r.all_is_settled;
  settled_is_whole = r.settled_is_whole;
  spent_is_limit = λ spends. let all = r.spent_is_limit spends in omega (arith, all, le, within);
  paired = r.paired;
  swept = r.swept;
  clean = r.clean;
}

stages_lowered : (net : Net) (depth limit less : ℕ) (all_steps : List Step) (all_tries : ℕ) (ended : Bool) → HaveStages net depth limit all_steps all_tries ended → all_tries ≤ less → less ≤ limit → HaveStages net depth less all_steps all_tries ended
stages_lowered net depth limit less all_steps all_tries ended (first merged steps run) le within = first merged steps (run_lowered _ steps depth limit less all_tries ended run le within)
stages_lowered net depth limit less all_steps all_tries ended (further {before} {used} {was} b merged steps {tries} {settled} run) le within =
    further (stages_lowered net depth limit less before used was b (omega (arith, le)) within) merged steps
    (run_lowered _ steps depth (limit - used) (less - used) tries settled run (omega (arith, le)) (omega (arith, within)))

pub staged_lowered : (net : Net) (steps : List Step) (merge depth limit less tries : ℕ) (settled : Bool) → IsStagedRun net steps merge depth limit tries settled → tries ≤ less → less ≤ limit → IsStagedRun net steps merge depth less tries settled
staged_lowered net steps merge depth limit less tries settled r le within = record {
  stages = stages_lowered net depth limit less steps tries settled r.stages le within;
  within = le;
  settled_is_whole = r.settled_is_whole;
  spent_is_limit = λ spends. let all = r.spent_is_limit spends in omega (arith, all, le, within);
  swept = r.swept;
  unmerged = λ never. run_lowered net steps depth limit less tries settled (r.unmerged never) le within;
}

pub turn_lowered : (net : Net) (depth limit less : ℕ) (steps : List Step) (after : Net) (tries : ℕ) → IsTurn net depth limit steps after tries → tries ≤ less → IsTurn net depth less steps after tries
turn_lowered net depth limit less steps after tries t le = record {
  first = t.first;
  more = t.more;
  are = t.are;
  removals = t.removals;
  last = t.last;
  count = t.count;
  exchanges = t.exchanges;
  tried = t.tried;
  within = le;
}

turns_lowered : (net : Net) (merge depth limit less : ℕ) (all_steps : List Step) (all_tries : ℕ) (ended : Bool) (count : ℕ) → HaveTurns net merge depth limit all_steps all_tries ended count → all_tries ≤ less → less ≤ limit → HaveTurns net merge depth less all_steps all_tries ended count
turns_lowered net merge depth limit less all_steps all_tries ended count (staged run) le within = staged (staged_lowered net all_steps merge depth limit less all_tries ended run le within)
turns_lowered net merge depth limit less all_steps all_tries ended count (turned {before} {used} {turns} b turn mid {spent} t steps {tries} {settled} run) le within =
    turned (turns_lowered net merge depth limit less before used true turns b (omega (arith, le)) within) turn mid (turn_lowered _ depth (limit - used) (less - used) turn mid spent t (omega (arith, le))) steps
    (run_lowered mid steps depth (limit - (used + spent)) (less - (used + spent)) tries settled run (omega (arith, le)) (omega (arith, within)))
turns_lowered net merge depth limit less all_steps all_tries ended count (in_vain {steps} {used} {turns} b spent some) le within =
    in_vain (turns_lowered net merge depth limit less steps used true turns b (omega (arith, le)) within) spent le

pub turned_lowered : (net : Net) (steps : List Step) (merge perturb depth limit less tries : ℕ) (settled : Bool) → IsTurnedRun net steps merge perturb depth limit tries settled → tries ≤ less → less ≤ limit → IsTurnedRun net steps merge perturb depth less tries settled
turned_lowered net steps merge perturb depth limit less tries settled r le within = record {
  turns = r.turns;
  run = turns_lowered net merge depth limit less steps tries settled r.turns r.run le within;
  few = r.few;
  within = le;
  settled_is_whole = r.settled_is_whole;
  spent_is_limit = λ spends. let all = r.spent_is_limit spends in omega (arith, all, le, within);
  swept = r.swept;
  unperturbed = λ none. staged_lowered net steps merge depth limit less tries settled (r.unperturbed none) le within;
}
