-- Going through the pairs of a net.
use Rattle.std.specs.Prelude.{◌≡◌, ◌+◌, ℕ, suc, List, Option, Some, length, map, take, slice_get}
use Rattle.rm_base.specs.declared.settings.Settings.{Settings}
use Rattle.rm_base.specs.declared.numbers.Fault.{Fault}
use Rattle.gate_net.specs.Net.{Net}
use Rattle.gate_graph.specs.Circuit.{Circuit, net_of}
use Rattle.candidate_wires.specs.declared.candidate.Candidate.{Candidate}
use Rattle.candidate_wires.specs.declared.candidate.Pair.{Pair}
use Rattle.candidate_wires.specs.Candidates.{AreCandidatesOf}
use Rattle.candidate_wires.specs.Pairs.{ArePairsBefore, ArePairsInTurn, paired}
use Rattle.candidate_wires.specs.Tries.{NoneGains}
use Rattle.rar_loop.specs.declared.walking.WalkOutcome.{WalkOutcome}
use Rattle.rar_loop.specs.declared.walking.WalkOutcome.TheVariants as walk_outcome
use Rattle.rar_loop.specs.Ended.{IsUsedUp}
use Rattle.rar_loop.specs.Sizes.{IsSame}
use Rattle.rar_loop.specs.Inner.Trying.{IsBetter, IsBack, IsAhead}
use Rattle.wire_edit.specs.Tried.{Tried}

-- some candidates of a target were tried in vain: the first so many
pub record AreTried (net : Net) (target : Fault) (here : List Candidate) (count : ℕ) : Type 0 where
  pub candidates : AreCandidatesOf net target here
  pub none : NoneGains net (map (paired target) (take count here))

-- all candidates of the target were tried in vain; or those before one at which the call ends; or those before one that gained
abbrev pub IsTargetOutcome : Tried → Fault → ℕ → ℕ → ℕ → Tried → WalkOutcome → Type 0
IsTargetOutcome before target depth left after now walk_outcome.Done =
    IsBack before now × ((here : List Candidate) × (AreTried (net_of before.graph) target here (length here) × (after + length here ≡ left)))
IsTargetOutcome before target depth left after now (walk_outcome.Spent at work) =
    IsBack before now × ((here : List Candidate) × ((place : ℕ) × (AreTried (net_of before.graph) target here place × ((at.fault ≡ target) × ((slice_get here place ≡ Some at.candidate) × (after + place ≡ left))))))
IsTargetOutcome before target depth left after now (walk_outcome.Gained pair records) =
    (here : List Candidate) × ((place : ℕ) × (AreTried (net_of before.graph) target here place × ((pair.fault ≡ target) × ((slice_get here place ≡ Some pair.candidate) × ((after + suc place ≡ left) × IsAhead before pair depth records.items now)))))

-- all pairs of a turn were tried in vain; or those before one at which the call ends, or before one that gained, on the graph of the
-- trial
abbrev pub IsWalkOutcome : Tried → Option Fault → ℕ → ℕ → ℕ → Tried → WalkOutcome → Type 0
IsWalkOutcome before start depth left after now walk_outcome.Done =
    IsBack before now × ((pairs : List Pair) × (ArePairsInTurn (net_of before.graph) start pairs × (NoneGains (net_of before.graph) pairs × (after + length pairs ≡ left))))
IsWalkOutcome before start depth left after now (walk_outcome.Spent at work) =
    IsBack before now × ((pairs : List Pair) × (ArePairsBefore (net_of before.graph) start at pairs × (NoneGains (net_of before.graph) pairs × (after + length pairs ≡ left))))
IsWalkOutcome before start depth left after now (walk_outcome.Gained pair records) =
    (pairs : List Pair) × (ArePairsBefore (net_of before.graph) start pair pairs × (NoneGains (net_of before.graph) pairs × ((after + suc (length pairs) ≡ left) × IsAhead before pair depth records.items now)))

-- the same of the graph that is given
abbrev pub IsWalk : Circuit → Option Fault → ℕ → ℕ → ℕ → Circuit → WalkOutcome → Type 0
IsWalk before start depth left after graph walk_outcome.Done =
    IsSame before graph × ((pairs : List Pair) × (ArePairsInTurn (net_of before) start pairs × (NoneGains (net_of before) pairs × (after + length pairs ≡ left))))
IsWalk before start depth left after graph (walk_outcome.Spent at work) =
    IsSame before graph × ((pairs : List Pair) × (ArePairsBefore (net_of before) start at pairs × (NoneGains (net_of before) pairs × (after + length pairs ≡ left))))
IsWalk before start depth left after graph (walk_outcome.Gained pair records) =
    (pairs : List Pair) × (ArePairsBefore (net_of before) start pair pairs × (NoneGains (net_of before) pairs × ((after + suc (length pairs) ≡ left) × IsBetter before pair depth records.items graph)))

-- where the call ends at a pair, the tries are used up, or the work has reached the limit that is set
abbrev pub AreUsedUp : Settings → ℕ → WalkOutcome → Type 0
AreUsedUp settings left walk_outcome.Done = Unit {0}
AreUsedUp settings left (walk_outcome.Spent at work) = IsUsedUp settings left work
AreUsedUp settings left (walk_outcome.Gained pair records) = Unit {0}
