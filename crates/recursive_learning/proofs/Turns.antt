-- Looking at gates, one after another.
use Rattle.std.proofs.Common.{Bool, List, Some, arith, false, length, length-set, refl, subst, suc, sym, ℕ, ◌*◌, ◌+◌, ◌-◌, ◌<◌, ◌∙◌, ◌≡◌, ◌≢◌, ◌≤◌}
use Rattle.std.specs.Prelude.{IsTrue, slice_get, slice_set}
use Rattle.gate_graph.specs.Search.{IsSeen}
use Rattle.gate_net.specs.Net.{Net}
use Rattle.refutation.specs.Worklists.{seen_count}
use Rattle.implications.specs.State.{EngineState}
use Rattle.recursive_learning.proofs.Gains.{keeps_join}
use Rattle.recursive_learning.proofs.Holdings.{IsBefore, before_next, taught_each}
use Rattle.recursive_learning.proofs.Refutes.{closed_at_smaller}
use Rattle.recursive_learning.proofs.Rounds.{Learning, forced_clash, forced_join, learning_more, learning_quiet}
use Rattle.recursive_learning.specs.Inner.Gates.{HasTaught}
use Rattle.recursive_learning.specs.Least.{AreForced}
use Rattle.recursive_learning.specs.Inner.JustifiedValues.{IsEach, IsOne, IsRound}
use Rattle.recursive_learning.specs.Inner.Watching.{looks_left}
use Rattle.recursive_learning.specs.Inner.Working.{AreSettled, IsLearned, Keeps}
use Rattle.recursive_learning.specs.declared.justified_values.Round.{Round}
use Rattle.recursive_learning.specs.declared.justified_values.Round.TheVariants.{Clash, Gained, Quiet}
use Rattle.refutation.specs.FactSets.{held_by, missing}
use Rattle.refutation.specs.Facts.{Held}
use Rattle.refutation.specs.Learning.{IsClosedAt, LeadsToClash}
use Rattle.refutation.proofs.Public.{count-clear, count_within}
use Rattle.refutation.specs.declared.held.NodeFacts.{NodeFacts}
use Rattle.refutation.specs.declared.reasoning.Fact.TheVariants.{Good}
use Rattle.rm_base.specs.declared.numbers.Fault.{Fault}
use Rattle.rm_base.specs.declared.numbers.NodeId.{NodeId}

-- MEASURES
-- fewer missing facts outweigh what is less than a whole turn
pub product_less : (m n w a b : ℕ) → m < n → a ≤ w → m * suc w + a < n * suc w + suc b
product_less m n w a b less le =
    let more : suc m * suc w ≤ n * suc w = grow in
    omega arith
  where
    grow : suc m * suc w ≤ n * suc w
    grow = grind arith

-- a gate taken off the list
pub work_taken : (facts : List NodeFacts) (listed : List Bool) (d : ℕ) → IsSeen listed d → looks_left facts (slice_set listed d false) < looks_left facts listed
work_taken facts listed d seen =
    let size : length (slice_set listed d false) ≡ length listed = length-set listed d false in
    let count : suc (seen_count (slice_set listed d false)) ≡ seen_count listed = count-clear listed d seen in
    rw size (omega arith)

-- more facts, whatever is listed then
pub work_gained : (old new : List NodeFacts) (before after : List Bool) → missing new < missing old → length after ≡ length before → looks_left new after ≤ looks_left old before
work_gained old new before after less size =
    let count : seen_count after ≤ length after = count_within after in
    let h : missing new * suc (length before) + seen_count after < missing old * suc (length before) + suc (seen_count before) = product_less (missing new) (missing old) (length before) (seen_count after) (seen_count before) less (omega arith) in
    rw size (omega arith)

-- A LOOK AT SOME GATES
pub quiet_not_clash : (round : Round) → round ≡ Quiet → round ≢ Clash
quiet_not_clash round is clash = let wrong : Quiet ≡ Clash = sym is ∙ clash in cc

pub gained_not_clash : (round : Round) → round ≡ Gained → round ≢ Clash
gained_not_clash round is clash = let wrong : Gained ≡ Clash = sym is ∙ clash in cc

pub turn_learning : (net : Net) (fault : Fault) (depth : ℕ) (gates : ℕ → Type 0) (before middle after : EngineState) (start now then : List NodeFacts) (round : Round) → Learning net fault (suc depth) before middle start now → Keeps middle after now then → round ≢ Clash → IsRound net fault depth gates now round then → Learning net fault (suc depth) before after start then
turn_learning net fault depth gates before middle after start now then Clash l keeps ne is = absurd (ne refl)
turn_learning net fault depth gates before middle after start now then Gained l keeps ne is = learning_more net fault (suc depth) before middle after start now then l keeps is.0 is.1.0
turn_learning net fault depth gates before middle after start now then Quiet l keeps ne is = record {
  keeps = keeps_join before middle after start now then l.keeps keeps;
  settled = rw is.0 l.settled;
  forced = rw is.0 l.forced;
}

-- a look that taught nothing
pub turn_quiet : (net : Net) (fault : Fault) (depth : ℕ) (before middle after : EngineState) (start now then : List NodeFacts) → Learning net fault (suc depth) before middle start now → Keeps middle after now then → IsRound net fault depth IsEach now Quiet then → IsLearned net fault (suc depth) (held_by start) false (held_by then)
turn_quiet net fault depth before middle after start now then l keeps is =
    learning_quiet net fault depth before after start then (turn_learning net fault depth IsEach before middle after start now then Quiet l keeps (quiet_not_clash Quiet refl) is)
    (λ y. subst (λ (f : List NodeFacts). HasTaught net fault depth (held_by f) y) (sym is.0) (is.1 y refl))

pub round_settled : (net : Net) (fault : Fault) (depth : ℕ) (gates : ℕ → Type 0) (start : List NodeFacts) (round : Round) (now : List NodeFacts) → round ≢ Clash → AreSettled net fault (held_by start) → IsRound net fault depth gates start round now → AreSettled net fault (held_by now)
round_settled net fault depth gates start Clash now ne settled is = absurd (ne refl)
round_settled net fault depth gates start Gained now ne settled is = is.0
round_settled net fault depth gates start Quiet now ne settled is = rw is.0 settled

pub round_clash : (net : Net) (fault : Fault) (depth : ℕ) (gates : ℕ → Type 0) (start : List NodeFacts) (round : Round) (now : List NodeFacts) → round ≢ Clash → IsRound net fault depth gates start round now → LeadsToClash net fault (suc depth) (held_by now) → LeadsToClash net fault (suc depth) (held_by start)
round_clash net fault depth gates start Clash now ne is clash = absurd (ne refl)
round_clash net fault depth gates start Gained now ne is clash = forced_clash net fault (suc depth) (held_by start) (held_by now) is.1.0 clash
round_clash net fault depth gates start Quiet now ne is clash = subst (λ (f : List NodeFacts). LeadsToClash net fault (suc depth) (held_by f)) is.0 clash

pub round_gates : (net : Net) (fault : Fault) (depth : ℕ) (gates others : ℕ → Type 0) (start : List NodeFacts) (round : Round) (now : List NodeFacts) → ((y : ℕ) → others y → gates y) → IsRound net fault depth gates start round now → IsRound net fault depth others start round now
round_gates net fault depth gates others start Clash now all is = is
round_gates net fault depth gates others start Gained now all is = is
round_gates net fault depth gates others start Quiet now all is = (is.0, λ y other. is.1 y (all y other))

-- a look at each gate whose good value is held
pub round_each : (net : Net) (fault : Fault) (depth : ℕ) (gates : ℕ → Type 0) (start : List NodeFacts) (round : Round) (now : List NodeFacts) → ((x : ℕ) (value : Bool) → IsTrue (held_by start x (Good value)) → gates x) → IsRound net fault depth gates start round now → IsRound net fault depth IsEach start round now
round_each net fault depth gates start Clash now all is = is
round_each net fault depth gates start Gained now all is = is
round_each net fault depth gates start Quiet now all is = (is.0, λ y e. taught_each net fault depth (held_by start) gates all is.1 y)

pub together_free : (before round after : Round) → before ≢ Clash → round ≢ Clash → (before ≡ Quiet → after ≡ round) → (before ≡ Gained → after ≡ Gained) → after ≢ Clash
together_free Clash round after free ne quiet gained = absurd (free refl)
together_free Quiet round after free ne quiet gained = λ clash. ne (sym (quiet refl) ∙ clash)
together_free Gained round after free ne quiet gained = gained_not_clash after (gained refl)

-- one gate more
pub round_more : (net : Net) (fault : Fault) (depth : ℕ) (gates : List NodeId) (n : ℕ) (g : NodeId) (start now then : List NodeFacts) (before round after : Round) → slice_get gates n ≡ Some g → before ≢ Clash → round ≢ Clash → (before ≡ Quiet → after ≡ round) → (before ≡ Gained → after ≡ Gained) → IsRound net fault depth (IsBefore gates n) start before now → IsRound net fault depth (IsOne g.0) now round then → IsRound net fault depth (IsBefore gates (n + 1)) start after then
round_more net fault depth gates n g start now then Clash round after there free ne quiet gained one two = absurd (free refl)
round_more net fault depth gates n g start now then Quiet Clash after there free ne quiet gained one two = absurd (ne refl)
round_more net fault depth gates n g start now then Gained Clash after there free ne quiet gained one two = absurd (ne refl)
round_more net fault depth gates n g start now then Quiet Quiet after there free ne quiet gained one two =
    subst (λ (r : Round). IsRound net fault depth (IsBefore gates (n + 1)) start r then) (sym (quiet refl)) (
      two.0 ∙ one.0,
      before_next gates n g (HasTaught net fault depth (held_by start)) there one.1 (subst (λ (f : List NodeFacts). HasTaught net fault depth (held_by f) g.0) one.0 (two.1 g.0 refl)),
    )
round_more net fault depth gates n g start now then Quiet Gained after there free ne quiet gained one two =
    subst (λ (r : Round). IsRound net fault depth (IsBefore gates (n + 1)) start r then) (sym (quiet refl))
    (subst (λ (f : List NodeFacts). IsRound net fault depth (IsBefore gates (n + 1)) f Gained then) one.0 two)
round_more net fault depth gates n g start now then Gained Quiet after there free ne quiet gained one two =
    subst (λ (r : Round). IsRound net fault depth (IsBefore gates (n + 1)) start r then) (sym (gained refl))
    (subst (λ (f : List NodeFacts). IsRound net fault depth (IsBefore gates (n + 1)) start Gained f) (sym two.0) one)
round_more net fault depth gates n g start now then Gained Gained after there free ne quiet gained one two =
    let first : missing now < missing start = one.1.1 in
    let second : missing then < missing now = two.1.1 in
    subst (λ (r : Round). IsRound net fault depth (IsBefore gates (n + 1)) start r then) (sym (gained refl))
    (two.0, (forced_join net fault (suc depth) (held_by start) (held_by now) (held_by then) one.1.0 two.1.0, omega arith))

-- DEPTHS
pub forced_at_deeper : (net : Net) (fault : Fault) (level depth : ℕ) (a b : Held) → level ≤ depth → AreForced net fault level a b → AreForced net fault depth a b
forced_at_deeper net fault level depth a b le forced s within free closed =
    let e : depth ≡ (depth - level) + level = omega arith in
    forced s within free (closed_at_smaller net fault (depth - level) level s free (subst (λ (n : ℕ). IsClosedAt net fault n s) e closed))

pub lt_of : (a b c : ℕ) → a ≤ b → b < c → a < c
lt_of a b c le lt = omega arith
