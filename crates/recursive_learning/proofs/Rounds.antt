-- Looking at the gates, one after another.
use Rattle.std.proofs.Common.{Bool, List, Some, [], arith, false, length, refl, subst, suc, true, ℕ, ◌<◌, ◌∷◌, ◌≡◌, ◌≢◌, ◌≤◌}
use Rattle.std.specs.Prelude.{slice_get}
use Rattle.gate_net.specs.Net.{Net}
use Rattle.gate_net.specs.Values.{IsJunction}
use Rattle.implications.specs.State.{EngineState}
use Rattle.implications.specs.Trail.{LeadsBack}
use Rattle.recursive_learning.proofs.Gains.{keeps_join, keeps_none}
use Rattle.recursive_learning.proofs.Learns.{clashes_are_learned, values_are_learned}
use Rattle.recursive_learning.specs.Inner.Gates.{AreJustifications, HasTaught, NoneGives}
use Rattle.recursive_learning.specs.Least.{AreForced}
use Rattle.recursive_learning.specs.Inner.JustifiedValues.{AreFound, HoldsAll, IsGained, IsJustified, IsNothingNew, IsRound}
use Rattle.recursive_learning.specs.Inner.Working.{AreSettled, IsLearned, Keeps}
use Rattle.recursive_learning.specs.declared.justified_values.GoodValue.{GoodValue}
use Rattle.recursive_learning.specs.declared.justified_values.Round.TheVariants.{Gained}
use Rattle.refutation.specs.Closing.{IsClashFree, IsWithin}
use Rattle.refutation.specs.FactSets.{held_by}
use Rattle.refutation.specs.Facts.{Held, known_good}
use Rattle.refutation.specs.Learning.{HasFew, HasLearned, IsClosedAt, IsJustification, LeadsToClash}
use Rattle.refutation.proofs.Public.{kind_live, lines_of, with_there}
use Rattle.refutation.specs.declared.held.NodeFacts.{NodeFacts}
use Rattle.refutation.specs.declared.reasoning.Fact.TheVariants.{Good}
use Rattle.rm_base.specs.declared.numbers.Fault.{Fault}

-- FORCED FACTS
pub forced_none : (net : Net) (fault : Fault) (depth : ℕ) (start : Held) → AreForced net fault depth start start
forced_none net fault depth start s within free closed = within

pub forced_join : (net : Net) (fault : Fault) (depth : ℕ) (a b c : Held) → AreForced net fault depth a b → AreForced net fault depth b c → AreForced net fault depth a c
forced_join net fault depth a b c one two s within free closed = two s (one s within free closed) free closed

-- what all closed sets hold is held by the deeper ones too
pub forced_deeper : (net : Net) (fault : Fault) (depth : ℕ) (a b : Held) → AreForced net fault 0 a b → AreForced net fault depth a b
forced_deeper net fault depth a b forced s within free closed = forced s within free (lines_of net fault depth s closed)

pub clash_deeper : (net : Net) (fault : Fault) (depth : ℕ) (a : Held) → LeadsToClash net fault 0 a → LeadsToClash net fault depth a
clash_deeper net fault depth a clash s within free closed = clash s within free (lines_of net fault depth s closed)

pub forced_clash : (net : Net) (fault : Fault) (depth : ℕ) (a b : Held) → AreForced net fault depth a b → LeadsToClash net fault depth b → LeadsToClash net fault depth a
forced_clash net fault depth a b forced clash s within free closed = clash s (forced s within free closed) free closed

-- first lines, and then learning
pub learned_join : (net : Net) (fault : Fault) (depth : ℕ) (a b : Held) (clash : Bool) (c : Held) → IsLearned net fault 0 a false b → IsLearned net fault depth b clash c → IsLearned net fault depth a clash c
learned_join net fault depth a b true c first clash = forced_clash net fault depth a b (forced_deeper net fault depth a b first.0.least) clash
learned_join net fault depth a b false c first second = (
  record {
    within = λ x fact e. second.0.within x fact (first.0.within x fact e);
    free = second.0.free;
    closed = second.0.closed;
    least = forced_join net fault depth a b c (forced_deeper net fault depth a b first.0.least) second.0.least;
  },
  second.1,
)

pub learned_none : (net : Net) (fault : Fault) (start : Held) → AreSettled net fault start → IsLearned net fault 0 start false start
learned_none net fault start settled = (record { within = λ x fact e. e; free = settled.free; closed = settled.closed; least = forced_none net fault 0 start }, settled)

-- LEARNING
pub record Learning (net : Net) (fault : Fault) (depth : ℕ) (before after : EngineState) (start now : List NodeFacts) : Type 0 where
  pub keeps : Keeps before after start now
  pub settled : AreSettled net fault (held_by now)
  pub forced : AreForced net fault depth (held_by start) (held_by now)

pub learning_none : (net : Net) (fault : Fault) (depth : ℕ) (e : EngineState) (start : List NodeFacts) → AreSettled net fault (held_by start) → Learning net fault depth e e start start
learning_none net fault depth e start settled = record { keeps = keeps_none e start; settled = settled; forced = forced_none net fault depth (held_by start) }

pub learning_more : (net : Net) (fault : Fault) (depth : ℕ) (before middle after : EngineState) (start now then : List NodeFacts) → Learning net fault depth before middle start now → Keeps middle after now then → AreSettled net fault (held_by then) → AreForced net fault depth (held_by now) (held_by then) → Learning net fault depth before after start then
learning_more net fault depth before middle after start now then l keeps settled forced = record {
  keeps = keeps_join before middle after start now then l.keeps keeps;
  settled = settled;
  forced = forced_join net fault depth (held_by start) (held_by now) (held_by then) l.forced forced;
}

-- no gate has anything to teach
pub learning_quiet : (net : Net) (fault : Fault) (depth : ℕ) (before after : EngineState) (start now : List NodeFacts) → Learning net fault (suc depth) before after start now → ((y : ℕ) → HasTaught net fault depth (held_by now) y) → IsLearned net fault (suc depth) (held_by start) false (held_by now)
learning_quiet net fault depth before after start now l taught = (
  record { within = l.keeps.more; free = l.settled.free; closed = (l.settled.closed, taught); least = l.forced },
  l.settled,
)

pub junction_below : (net : Net) (y : ℕ) (c : Bool) → IsJunction net y c → y < length net.nodes
junction_below net y c junction = kind_live net y (junction.0, junction.1.0)

-- A VISIT
pub few_of : (net : Net) (held : Held) (y : ℕ) (ds : List ℕ) → AreJustifications net held y ds → HasFew net held y
few_of net held y ds j = (ds, (j.few, j.all))

pub visit_clash : (net : Net) (fault : Fault) (depth : ℕ) (held : Held) (y : ℕ) (c : Bool) (ds : List ℕ) (found : Bool) (goods : List GoodValue) → IsJustified net fault depth held y c ds found goods → found ≡ false → LeadsToClash net fault (suc depth) held
visit_clash net fault depth held y c ds found goods l none = clashes_are_learned net fault depth held y c l.unjustified (few_of net held y ds l.drivers) (l.clash none)

all_held : (net : Net) (fault : Fault) (depth : ℕ) (held : Held) (y : ℕ) (c : Bool) (ds : List ℕ) (found : Bool) (goods : List GoodValue) → IsJustified net fault depth held y c ds found goods → found ≡ true → (s : Held) → IsWithin held s → IsClashFree s → IsClosedAt net fault (suc depth) s → HoldsAll s goods
all_held net fault depth held y c ds found goods l some s within free closed k g there =
    values_are_learned net fault depth held y c l.unjustified (few_of net held y ds l.drivers) g.node.0 g.value (l.lead some k g there) s within free closed g.node.0 (Good g.value) (with_there held g.node.0 (Good g.value))

pub visit_gain : (net : Net) (fault : Fault) (depth : ℕ) (y : ℕ) (c : Bool) (ds : List ℕ) (found : Bool) (goods : List GoodValue) (gates : ℕ → Type 0) (start now : List NodeFacts) → IsJustified net fault depth (held_by start) y c ds found goods → found ≡ true → IsGained net fault goods start false now → IsRound net fault depth gates start Gained now
visit_gain net fault depth y c ds found goods gates start now l some gained =
    (gained.0, (λ s within free closed. gained.1.0 s within free (lines_of net fault (suc depth) s closed) (all_held net fault depth (held_by start) y c ds found goods l some s within free closed), gained.1.1))

pub visit_gain_clash : (net : Net) (fault : Fault) (depth : ℕ) (y : ℕ) (c : Bool) (ds : List ℕ) (found : Bool) (goods : List GoodValue) (start now : List NodeFacts) → IsJustified net fault depth (held_by start) y c ds found goods → found ≡ true → IsGained net fault goods start true now → LeadsToClash net fault (suc depth) (held_by start)
visit_gain_clash net fault depth y c ds found goods start now l some clash s within free closed =
    clash s within free (lines_of net fault (suc depth) s closed) (all_held net fault depth (held_by start) y c ds found goods l some s within free closed)

-- A LESSON
pub taught_empty : (net : Net) (fault : Fault) (depth : ℕ) (held : Held) (y : ℕ) (ds : List ℕ) → AreJustifications net held y ds → ds ≡ [] → HasTaught net fault depth held y
taught_empty net fault depth held y ds j none c unjustified few =
    let at = j.all unjustified.one_may.0 unjustified.one_may.1 in
    let wrong : slice_get {X = ℕ} [] at.0 ≡ Some unjustified.one_may.0 = rw none at at.1 in
    absurd (no_place at.0 unjustified.one_may.0 wrong)
  where
    no_place : (k d : ℕ) → slice_get {X = ℕ} [] k ≡ Some d → ⊥
    no_place k d e = cc

pub taught_nothing : (net : Net) (fault : Fault) (depth : ℕ) (held : Held) (y : ℕ) (value : Bool) (ds : List ℕ) → known_good held y ≡ Some value → AreJustifications net held y ds → IsNothingNew net fault depth held value ds → HasTaught net fault depth held y
taught_nothing net fault depth held y value ds known j nothing c unjustified few =
    let there : known_good held y ≡ Some c = unjustified.known in
    let same : value ≡ c = cc in
    subst (HasLearned net (IsClosedAt net fault depth) held y) same (record {
      one_may = λ all. nothing.one.1.1.1 (all nothing.one.1.0 (j.each nothing.one.0 nothing.one.1.0 nothing.one.1.1.0));
      all_held = λ x b given. nothing.all x b (λ k d at some. given d (j.each k d at) some);
    })

pub justified_of : (net : Net) (fault : Fault) (depth : ℕ) (held : Held) (y : ℕ) (c : Bool) (ds : List ℕ) (found : Bool) (goods : List GoodValue) → IsJunction net y c → known_good held y ≡ Some c → NoneGives net held y c → AreJustifications net held y ds → ds ≢ [] → AreFound net fault depth held c ds found goods → (found ≡ true → goods ≢ []) → IsJustified net fault depth held y c ds found goods
justified_of net fault depth held y c ds found goods junction known none j some is more = record {
  unjustified = record { junction = junction; known = known; none_gives = none; one_may = first ds some j };
  drivers = j;
  clash = λ e d just. let at = j.all d just in is.0 e at.0 d at.1;
  new = λ e. (is.1.1 e).new;
  lead = λ e k g there d just. let at = j.all d just in (is.1.1 e).lead k g there at.0 d at.1;
  some = λ e. long goods (more e);
}
  where
    first : (ds : List ℕ) → ds ≢ [] → AreJustifications net held y ds → (d : ℕ) × IsJustification net held y d
    first [] some j = absurd (some refl)
    first (d ∷ ds) some j = (d, j.each 0 d refl)

    long : (goods : List GoodValue) → goods ≢ [] → 0 < length goods
    long [] h = absurd (h refl)
    long (g ∷ goods) h = omega arith

-- TAKING BACK
pub taken_back : (before middle after : EngineState) (mark : ℕ) (now then again : List NodeFacts) → mark ≡ length before.trail → LeadsBack before.trail mark now now → Keeps before middle now then
    → ((start : List NodeFacts) → LeadsBack middle.trail mark then start → again ≡ start) → ((earlier : ℕ) (start : List NodeFacts) → earlier ≤ mark → LeadsBack middle.trail earlier then start → LeadsBack after.trail earlier again start) → after.numbers ≡ middle.numbers
    → (again ≡ now) × Keeps before after now again
taken_back before middle after mark now then again is here keeps back earlier numbers =
    let same : again ≡ now = back now (keeps.back mark now here) in (
      same,
      record {
        numbers = let n = keeps.numbers in cc;
        size = rw same refl;
        more = λ x fact e. rw same e;
        back = λ m start h. earlier m start (let order : m ≤ length before.trail = h.order in omega arith) (keeps.back m start h);
      },
    )
