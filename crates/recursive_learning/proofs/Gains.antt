-- Adding good values one after another.
use Rattle.std.proofs.Common.{List, None, Some, arith, false, refl, subst, suc, true, zero, ℕ, ◌+◌, ◌<◌, ◌≡◌, ◌≤◌}
use Rattle.std.specs.Prelude.{slice_get}
use Rattle.gate_net.specs.Net.{Net}
use Rattle.implications.specs.State.{EngineState}
use Rattle.recursive_learning.specs.Inner.JustifiedValues.{AreNew, HoldsAll, IsGained}
use Rattle.recursive_learning.specs.Inner.Working.{AreSettled, IsLearned, Keeps}
use Rattle.recursive_learning.specs.declared.justified_values.GoodValue.{GoodValue}
use Rattle.refutation.specs.Closing.{IsClashFree, IsClosedUnderLines, IsWithin}
use Rattle.refutation.specs.FactSets.{held_by, missing}
use Rattle.refutation.specs.Facts.{Held, known_good, with_fact}
use Rattle.refutation.proofs.Public.{with_within}
use Rattle.refutation.specs.declared.held.NodeFacts.{NodeFacts}
use Rattle.refutation.specs.declared.reasoning.Fact.TheVariants.{Good}
use Rattle.rm_base.specs.declared.numbers.Fault.{Fault}

pub keeps_none : (e : EngineState) (f : List NodeFacts) → Keeps e e f f
keeps_none e f = record { numbers = refl; size = refl; more = λ x fact h. h; back = λ mark start h. h }

pub keeps_join : (a b c : EngineState) (f g h : List NodeFacts) → Keeps a b f g → Keeps b c g h → Keeps a c f h
keeps_join a b c f g h one two = record {
  numbers = let x = one.numbers in let y = two.numbers in cc;
  size = let x = one.size in let y = two.size in cc;
  more = λ x fact e. two.more x fact (one.more x fact e);
  back = λ mark start e. two.back mark start (one.back mark start e);
}

-- the first values have been added
pub record Gaining (net : Net) (fault : Fault) (goods : List GoodValue) (index : ℕ) (before after : EngineState) (start now : List NodeFacts) : Type 0 where
  pub keeps : Keeps before after start now
  pub settled : AreSettled net fault (held_by now)
  pub forced : (s : Held) → IsWithin (held_by start) s → IsClashFree s → IsClosedUnderLines net fault s → HoldsAll s goods → IsWithin (held_by now) s
  pub begin : index ≡ 0 → now ≡ start
  pub fewer : 0 < index → missing now < missing start

pub gaining_none : (net : Net) (fault : Fault) (goods : List GoodValue) (e : EngineState) (start : List NodeFacts) → AreSettled net fault (held_by start) → Gaining net fault goods 0 e e start start
gaining_none net fault goods e start settled = record {
  keeps = keeps_none e start;
  settled = settled;
  forced = λ s within free closed all. within;
  begin = λ z. refl;
  fewer = λ z. absurd (omega arith);
}

pub gaining_more : (net : Net) (fault : Fault) (goods : List GoodValue) (index : ℕ) (before middle after : EngineState) (start now then : List NodeFacts) (g : GoodValue) → Gaining net fault goods index before middle start now → AreNew net (held_by start) goods → slice_get goods index ≡ Some g
    → IsLearned net fault 0 (with_fact (held_by now) g.node.0 (Good g.value)) false (held_by then) → Keeps middle after now then
    → missing then ≤ missing now → (known_good (held_by now) g.node.0 ≡ None → missing then < missing now) → Gaining net fault goods (index + 1) before after start then
gaining_more net fault goods index before middle after start now then g gaining new there learned keeps less fewer = record {
  keeps = keeps_join before middle after start now then gaining.keeps keeps;
  settled = learned.1;
  forced = λ s within free closed all. learned.0.least s (with_within (held_by now) s g.node.0 (Good g.value) (gaining.forced s within free closed all) (all index g there)) free closed;
  begin = λ z. absurd (omega arith);
  fewer = λ z. at index refl;
}
  where
    at : (n : ℕ) → index ≡ n → missing then < missing start
    at zero is =
        let same : now ≡ start = gaining.begin is in
        let first : missing then < missing now = fewer (subst (λ (f : List NodeFacts). known_good (held_by f) g.node.0 ≡ None) (let back : start ≡ now = cc in back) (new index g there).unknown) in
        subst (λ (f : List NodeFacts). missing then < missing f) same first
    at (suc n) is = let more : missing now < missing start = gaining.fewer (omega arith) in omega arith

pub gaining_clash : (net : Net) (fault : Fault) (goods : List GoodValue) (index : ℕ) (before middle : EngineState) (start now then : List NodeFacts) (g : GoodValue) → Gaining net fault goods index before middle start now → slice_get goods index ≡ Some g
    → IsLearned net fault 0 (with_fact (held_by now) g.node.0 (Good g.value)) true (held_by then) → IsGained net fault goods start true then
gaining_clash net fault goods index before middle start now then g gaining there clash s within free closed all =
    clash s (with_within (held_by now) s g.node.0 (Good g.value) (gaining.forced s within free closed all) (all index g there)) free closed

pub gained : (net : Net) (fault : Fault) (goods : List GoodValue) (index : ℕ) (before after : EngineState) (start now : List NodeFacts) → Gaining net fault goods index before after start now → 0 < index → IsGained net fault goods start false now
gained net fault goods index before after start now g some = (g.settled, (g.forced, g.fewer some))
