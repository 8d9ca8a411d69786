-- The turns of a run: behind its stages targets may be exchanged for wires, a turn at a time, and rounds go on behind each turn.
use Rattle.std.specs.Prelude.{◌≡◌, ◌≤◌, ◌+◌, ◌-◌, ◌++◌, ℕ, suc, Bool, List, true, false}
use Rattle.gate_net.specs.Net.{Net}
use Rattle.wire_edit.specs.declared.steps.Step.{Step}
use Rattle.candidate_wires.specs.Additions.{net_after}
use Rattle.rar_loop.specs.Perturbed.{IsTurn}
use Rattle.rar_loop.specs.Rounds.{IsRun, NoPairGains}
use Rattle.rar_loop.specs.Swept.{IsSwept}
use Rattle.optimisation.specs.Stages.{IsStagedRun}

-- the steps of a run fall into those of its stages and, where what was before had settled, those of turns, each with rounds that have
-- the tries that are left; a turn may exchange nothing. How many tries there were in all, whether the last rounds settled, and how
-- many turns
pub data HaveTurns (net : Net) (merge depth limit : ℕ) : List Step → ℕ → Bool → ℕ → Type 0 where
  staged : {steps : List Step} {tries : ℕ} {settled : Bool} → IsStagedRun net steps merge depth limit tries settled → HaveTurns net merge depth limit steps tries settled 0
  turned :
      {before : List Step} {used turns : ℕ} → HaveTurns net merge depth limit before used true turns → (turn : List Step) (mid : Net) {spent : ℕ} → IsTurn (net_after net before) depth (limit - used) turn mid spent
      → (steps : List Step) {tries : ℕ} {settled : Bool} → IsRun mid steps depth (limit - (used + spent)) tries settled
      → HaveTurns net merge depth limit (before ++ (turn ++ steps)) (used + spent + tries) settled (suc turns)
  in_vain : {steps : List Step} {used turns : ℕ} → HaveTurns net merge depth limit steps used true turns → (spent : ℕ) → used + spent ≤ limit → HaveTurns net merge depth limit steps (used + spent) true (suc turns)

-- what a run says by its steps, the number of its tries, and the word `settled` or `spent`, where gates are merged in this way and
-- there are at most so many turns
pub record IsTurnedRun (net : Net) (steps : List Step) (merge perturb depth limit tries : ℕ) (settled : Bool) : Type 0 where
  pub turns : ℕ
  pub run : HaveTurns net merge depth limit steps tries settled turns
  pub few : turns ≤ perturb
  pub within : tries ≤ limit
  pub settled_is_whole : settled ≡ true → NoPairGains (net_after net steps)
  pub spent_is_limit : settled ≡ false → tries ≡ limit
  pub swept : IsSwept (net_after net steps) depth
  -- without turns there are stages alone
  pub unperturbed : perturb ≡ 0 → IsStagedRun net steps merge depth limit tries settled
