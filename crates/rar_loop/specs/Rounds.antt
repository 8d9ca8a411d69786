-- The rounds of a run: its steps fall into prefixes, after each of which the first pairs of a turn were tried in vain.
use Rattle.std.specs.Prelude.{◌≡◌, ◌≤◌, ◌<◌, ◌+◌, ◌-◌, ◌++◌, ◌∷◌, ◌⊎◌, [], ℕ, List, Bool, None, Option, true, false, length}
use Rattle.rm_base.specs.declared.numbers.Fault.{Fault}
use Rattle.gate_net.specs.Net.{Net, IsWellFormed}
use Rattle.wire_edit.specs.declared.steps.Step.{Step}
use Rattle.wire_edit.specs.declared.steps.Step.TheVariants.{Fix}
use Rattle.candidate_wires.specs.declared.candidate.Pair.{Pair}
use Rattle.candidate_wires.specs.Pairs.{ArePairs, ArePairsBefore, ArePairsInTurn}
use Rattle.candidate_wires.specs.Additions.{Addition, additions, net_after}
use Rattle.candidate_wires.specs.Tries.{AreTries, NoneGains, HasPlace}
use Rattle.candidate_wires.specs.declared.candidate.Outcome.{Outcome}
use Rattle.candidate_wires.specs.declared.candidate.Outcome.TheVariants.{Settled, TriesSpent}
use Rattle.journal_text.specs.declared.record.Record.{Record}
use Rattle.journal_text.specs.Runs.{AcceptedTo, AreRemovals, steps_of, none_made, made_by}
use Rattle.rar_loop.specs.Swept.{IsSwept}
use Rattle.rar_loop.specs.Trying.{IsClean}
use Rattle.rar_loop.specs.Ended.{IsImproved, turn_at}

-- the pairs come first in a turn of the net: they are all of them, or those before one of them
abbrev pub AreFirstPairs : Net → Option Fault → List Pair → Type 0
AreFirstPairs net start pairs = ArePairsInTurn net start pairs ⊎ ((at : Pair) × ArePairsBefore net start at pairs)

-- they come first and none of them gains
pub record AreInVain (net : Net) (start : Option Fault) (pairs : List Pair) : Type 0 where
  pub first : AreFirstPairs net start pairs
  pub none : NoneGains net pairs

abbrev pub HasFix : List Step → Type 0
HasFix [] = ⊥
HasFix (Fix gate position value ∷ steps) = Unit {0}
HasFix (_ ∷ steps) = HasFix steps

-- the steps have rounds, each the one before and more steps with a fix among them; the pairs that were tried in vain after the
-- last round, and how many there were after all rounds together
pub data HaveRounds (net : Net) : List Step → List Pair → ℕ → Type 0 where
  first : (steps : List Step) (pairs : List Pair) → AreInVain (net_after net steps) (turn_at None net steps) pairs → HaveRounds net steps pairs (length pairs)
  further :
      {steps : List Step} {pairs : List Pair} {sum : ℕ} → HaveRounds net steps pairs sum → (more : List Step) → HasFix more → (last : List Pair)
      → AreInVain (net_after net (steps ++ more)) (turn_at None net (steps ++ more)) last → HaveRounds net (steps ++ more) last (sum + length last)

-- a fix follows the addition, and its pair is among those of the net before it
abbrev pub IsPaired : Option Fault → Addition → Type 0
IsPaired start a = (place : ℕ) × HasPlace start a place

abbrev pub ArePaired : Option Fault → List Addition → Type 0
ArePaired start [] = Unit {0}
ArePaired start (a ∷ adds) = IsPaired start a × ArePaired a.target adds

-- no pair of a target and a wire that may be added gains
abbrev pub NoPairGains : Net → Type 0
NoPairGains net = (pairs : List Pair) → ArePairs net pairs → NoneGains net pairs

-- what a run says by its steps, of which the last makes no Not, the number of its tries, and the word `settled` or `spent`
pub record IsRun (net : Net) (steps : List Step) (depth limit tries : ℕ) (settled : Bool) : Type 0 where
  pub last : List Pair
  pub in_vain : ℕ
  pub rounds : HaveRounds net steps last in_vain
  pub counted : ℕ
  pub are_tries : AreTries net steps counted
  pub sum : tries ≡ counted + in_vain
  pub within : tries ≤ limit
  pub settled_is_all : settled ≡ true → ArePairsInTurn (net_after net steps) (turn_at None net steps) last
  pub all_is_settled : ArePairsInTurn (net_after net steps) (turn_at None net steps) last → settled ≡ true
  pub settled_is_whole : settled ≡ true → NoPairGains (net_after net steps)
  pub spent_is_limit : settled ≡ false → tries ≡ limit
  pub paired : ArePaired None (additions net steps)
  pub swept : IsSwept (net_after net steps) depth
  pub clean : IsClean false steps

-- the tries of a call, and whether it settled
abbrev pub tries_of : Outcome → ℕ
tries_of (Settled tries) = tries
tries_of (TriesSpent tries at) = tries

abbrev pub is_settled : Outcome → Bool
is_settled (Settled tries) = true
is_settled (TriesSpent tries at) = false

-- removals, and then a call from the first target on, make the first round; a further turn begins where one of the call would
abbrev pub RunBegins : Type 0
RunBegins =
    (net mid after : Net) (first records : List Record) (depth limit : ℕ) (outcome : Outcome) → IsWellFormed after → AcceptedTo net first mid → AreRemovals (steps_of first)
    → IsImproved mid None depth limit records after outcome
    → IsRun net (steps_of (first ++ records)) depth limit (tries_of outcome) (is_settled outcome) × (turn_at None net (steps_of (first ++ records)) ≡ turn_at None mid (steps_of records))

-- removals, one of them a fix, and then a call with the tries that are left, which takes up the turn, make a further round
abbrev pub RunGoesOn : Type 0
RunGoesOn =
    (net mid closed after : Net) (records fixes more : List Record) (depth limit tries : ℕ) (settled : Bool) (outcome : Outcome) → IsWellFormed after
    → IsRun net (steps_of records) depth limit tries settled → AcceptedTo net records mid → AcceptedTo mid fixes closed → AreRemovals (steps_of fixes) → 0 < (made_by none_made (steps_of fixes)).fixes
    → IsImproved closed (turn_at None net (steps_of records)) depth (limit - tries) more after outcome
    → IsRun net (steps_of (records ++ (fixes ++ more))) depth limit (tries + tries_of outcome) (is_settled outcome)
    × (turn_at None net (steps_of (records ++ (fixes ++ more))) ≡ turn_at (turn_at None net (steps_of records)) closed (steps_of more))
