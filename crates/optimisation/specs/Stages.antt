-- The stages of a run: equal gates may be merged after a first sweep, and again between its rounds.
use Rattle.std.specs.Prelude.{◌≡◌, ◌≤◌, ◌+◌, ◌-◌, ◌++◌, ℕ, Bool, List, true, false}
use Rattle.gate_net.specs.Net.{Net}
use Rattle.wire_edit.specs.declared.steps.Step.{Step}
use Rattle.candidate_wires.specs.Additions.{net_after}
use Rattle.rar_loop.specs.Rounds.{IsRun, NoPairGains}
use Rattle.rar_loop.specs.Swept.{IsSwept}

-- the steps of a run fall into stages, each of steps that sweep and merge gates, or none, and then of rounds with the tries that the
-- stages before have left; how many tries there were in all of them, and whether the last one settled
pub data HaveStages (net : Net) (depth limit : ℕ) : List Step → ℕ → Bool → Type 0 where
  first : (merged steps : List Step) {tries : ℕ} {settled : Bool} → IsRun (net_after net merged) steps depth limit tries settled → HaveStages net depth limit (merged ++ steps) tries settled
  further :
      {before : List Step} {used : ℕ} {was : Bool} → HaveStages net depth limit before used was → (merged steps : List Step) {tries : ℕ} {settled : Bool}
      → IsRun (net_after (net_after net before) merged) steps depth (limit - used) tries settled → HaveStages net depth limit (before ++ (merged ++ steps)) (used + tries) settled

-- what a run says by its steps, the number of its tries, and the word `settled` or `spent`, where gates are merged in this way: 0 for
-- never
pub record IsStagedRun (net : Net) (steps : List Step) (merge depth limit tries : ℕ) (settled : Bool) : Type 0 where
  pub stages : HaveStages net depth limit steps tries settled
  pub within : tries ≤ limit
  pub settled_is_whole : settled ≡ true → NoPairGains (net_after net steps)
  pub spent_is_limit : settled ≡ false → tries ≡ limit
  pub swept : IsSwept (net_after net steps) depth
  -- without merging there are rounds alone
  pub unmerged : merge ≡ 0 → IsRun net steps depth limit tries settled
