-- A refuter that serves a net from call to call.
use Rattle.std.proofs.Common.{Bool, List, None, Option, Some, [], ap, arith, inl, inr, length, map, subst, sym, true, ℕ, ◌++◌, ◌∙◌, ◌∷◌, ◌≡◌, ◌≤◌}
use Rattle.std.specs.Prelude.{Err, Ok, OnOk, Result}
use Rattle.gate_net.specs.Net.{Net}
use Rattle.implications.proofs.Public.{none_seen_in, rest_comes, trail_tells}
use Rattle.implications.specs.Bases.{ComesToRest, HasRoom as BasisRoom, IsClashFound, IsFitted, IsFor, IsOpened}
use Rattle.implications.specs.Outside.{AppendsOutside, LeadFromOutside}
use Rattle.implications.specs.State.{EngineState}
use Rattle.implications.specs.declared.basis.Basis.{Basis}
use Rattle.refutation.specs.FactLists.{HasAllGoods}
use Rattle.recursive_learning.proofs.Refutes.{clash_at_deeper, clash_of_all, clashes_lead, ends_accepted, least_of_all, open_forced}
use Rattle.recursive_learning.proofs.Tells.{lines_lead, told_clash}
use Rattle.recursive_learning.proofs.Splits.{told_join}
use Rattle.recursive_learning.specs.Inner.Bodies.{IsBody}
use Rattle.recursive_learning.specs.Inner.Answers.{IsDeepened}
use Rattle.recursive_learning.specs.Inner.Serving.{IsLevel}
use Rattle.recursive_learning.specs.Inner.Telling.{Ends, Leads, line_item}
use Rattle.recursive_learning.specs.Inner.Working.{Keeps}
use Rattle.refutation.specs.Branches.{AreAccepted}
use Rattle.refutation.specs.FactSets.{held_by}
use Rattle.refutation.specs.Facts.{Held, none_held}
use Rattle.refutation.specs.Learning.{LeadsToClash}
use Rattle.refutation.specs.declared.held.NodeFacts.{NodeFacts}
use Rattle.refutation.specs.declared.items.Item.{Item}
use Rattle.refutation.specs.declared.items.Item.TheVariants.{Clash as ClashItem}
use Rattle.refutation.specs.declared.reasoning.Fact.{Fact}
use Rattle.refutation.specs.declared.reasoning.Fact.TheVariants.{Good}
use Rattle.refutation.specs.declared.reasoning.Line.{Line}
use Rattle.rm_base.specs.declared.numbers.Fault.{Fault}
use Rattle.rm_base.specs.declared.numbers.NodeId.{NodeId}

-- FROM CALL TO CALL
pub comes_keeps : (net : Net) (before after : EngineState) (taken : List Bool) (old new : List NodeFacts) → Keeps before after old new → ComesToRest net before.trail taken old → ComesToRest net after.trail taken new
comes_keeps net before after taken old new keeps c = record { start = c.start; leads = keeps.back 0 c.start c.leads; rest = c.rest }

-- the facts of a basis were added to in place
pub for_keeps : (net : Net) (before after : EngineState) (b : Basis) (new : List NodeFacts) → Keeps before after b.facts new → IsFor net before b → IsFor net after (record b { facts = new })
for_keeps net before after b new keeps f = record {
  numbers = let le : length net.nodes ≤ before.numbers = f.numbers in omega (arith, le, keeps.numbers);
  room = record { nodes = f.room.nodes; facts = keeps.size ∙ f.room.facts; taken = f.room.taken };
  rest = comes_keeps net before after b.taken b.facts new keeps f.rest;
  pinless = f.pinless;
}

-- nothing but lines changed in the engine
pub for_same : (net : Net) (before after : EngineState) (b : Basis) → after.numbers ≡ before.numbers → after.trail ≡ before.trail → IsFor net before b → IsFor net after b
for_same net before after b numbers trail f = record {
  numbers = let le : length net.nodes ≤ before.numbers = f.numbers in omega (arith, le, numbers);
  room = f.room;
  rest = rw trail f.rest;
  pinless = f.pinless;
}

pub fitted_serves : (net : Net) (e : EngineState) (b : Basis) → length net.nodes ≤ e.numbers → e.trail ≡ [] → BasisRoom net b → IsFitted net b → IsFor net e b
fitted_serves net e b numbers trail room fitted = record {
  numbers = numbers;
  room = room;
  rest = rw trail (rest_comes net b.taken b.facts fitted.rest (none_seen_in b.taken fitted.none));
  pinless = fitted.pinless;
}

-- each good value that is held was added
pub goods_added : (net : Net) (e : EngineState) (b : Basis) → IsFor net e b → HasAllGoods (held_by b.facts) e.trail
goods_added net e b f y v held = elim ((trail_tells e.trail 0 b.facts f.rest.start f.rest.leads).all y (Good v) held) [
  | inl before ↦ let wrong : Good v ≡ Fact.Equal = ((f.rest.rest y (Good v)).0 (inl before)).1 in cc
  | inr among ↦ among
]

-- OPENED WITHOUT A CLASH
pub opened_none : (net : Net) (fault : Fault) (lines : List Line) (facts : List NodeFacts) (o : Option NodeId) → o ≡ None → IsOpened net fault lines facts o → IsOpened net fault lines facts None
opened_none net fault lines facts o is opened = rw is at opened

pub opened_some : (net : Net) (fault : Fault) (lines : List Line) (facts : List NodeFacts) (o : Option NodeId) (x : NodeId) → o ≡ Some x → IsOpened net fault lines facts o → IsClashFound net fault lines facts x.0
opened_some net fault lines facts o x is opened = rw is at opened

-- LEVELS
pub level_first : (net : Net) (fault : Fault) (depth : ℕ) (lines : List Line) (facts : List NodeFacts) (x : ℕ) → IsClashFound net fault lines facts x → IsLevel net fault depth facts (Some 0)
level_first net fault depth lines facts x found = (omega arith, clashes_lead net fault 0 found.clashes)

pub level_of : (net : Net) (fault : Fault) (depth : ℕ) (lines : List Line) (first facts : List NodeFacts) (o : Option ℕ) → IsOpened net fault lines first None → length facts ≡ length first → IsDeepened net fault depth (held_by first) o (held_by facts) → IsLevel net fault depth facts o
level_of net fault depth lines first facts None opened size deepened = (least_of_all net fault depth (held_by first) (held_by facts) (open_forced net fault lines first opened) deepened, let le : length net.nodes ≤ length first = opened.size in omega (arith, size, le))
level_of net fault depth lines first facts (Some level) opened size deepened = (deepened.0, clash_of_all net fault level (held_by first) (open_forced net fault lines first opened) deepened.1)

pub for_on_ok : {A E : Type 0} (net : Net) (before after : EngineState) (b : Basis) (new : List NodeFacts) (r : Result A E) → IsFor net before b → OnOk r (Keeps before after b.facts new) → OnOk r (IsFor net after (record b { facts = new }))
for_on_ok net before after b new (Ok a) f keeps = for_keeps net before after b new keeps f
for_on_ok net before after b new (Err e) f keeps = keeps

pub level_some : (net : Net) (fault : Fault) (depth : ℕ) (facts : List NodeFacts) (o : Option ℕ) (level : ℕ) → o ≡ Some level → IsLevel net fault depth facts o → LeadsToClash net fault depth none_held
level_some net fault depth facts o level is at = let lv : IsLevel net fault depth facts (Some level) = subst (IsLevel net fault depth facts) is at in clash_at_deeper net fault level depth none_held lv.0 lv.1

-- TREES
pub keeps_from : (a b c : EngineState) (old new : List NodeFacts) → b.numbers ≡ a.numbers → b.trail ≡ a.trail → Keeps b c old new → Keeps a c old new
keeps_from a b c old new numbers trail k = record {
  numbers = k.numbers ∙ numbers;
  size = k.size;
  more = k.more;
  back = λ mark start leads. k.back mark start (rw trail leads);
}

pub learned_is : (net : Net) (fault : Fault) (lines : List Line) (facts : Held) (none middle items : List Item) → none ≡ [] → LeadFromOutside net fault lines facts → middle ≡ none ++ map line_item lines → Ends net fault facts middle items → IsBody net fault items
learned_is net fault lines facts none middle items nothing from is ends = (
  from.start,
  (from.outside, told_join net fault from.start [] (map line_item lines) items facts facts true (lines_lead net fault lines from.start facts [] from.leads) (subst (λ (m : List Item). Ends net fault facts m items) (is ∙ ap (λ (n : List Item). n ++ map line_item lines) nothing) ends)),
)

pub clash_is : (net : Net) (fault : Fault) (lines : List Line) (facts : List NodeFacts) (x : NodeId) (none middle items : List Item) → none ≡ [] → IsClashFound net fault lines facts x.0 → middle ≡ none ++ map line_item lines → items ≡ middle ++ ClashItem x ∷ [] → IsBody net fault items
clash_is net fault lines facts x none middle items nothing found is ends = (
  found.start,
  (found.outside, subst (λ (all : List Item). Ends net fault found.start [] all) (sym (ends ∙ ap (λ (m : List Item). m ++ ClashItem x ∷ []) (is ∙ ap (λ (n : List Item). n ++ map line_item lines) nothing))) (told_clash net fault found.start lines (held_by facts) x [] found.clash)),
)

pub body_accepted : (net : Net) (fault : Fault) (none first body items : List Item) → none ≡ [] → AppendsOutside net fault none first → IsBody net fault body → items ≡ first ++ body → AreAccepted net fault items
body_accepted net fault none first body items nothing (before, (appended, to)) (start, (outside, (pieces, (is, reads)))) all =
    ends_accepted net fault items
    (told_join net fault none_held [] first items start start true
    (subst (λ (m : List Item). Leads net fault none_held [] start m) (sym (appended ∙ ap (λ (n : List Item). n ++ map line_item before) nothing)) (lines_lead net fault before none_held start [] (to.leads start outside)))
    (pieces, (all ∙ ap (λ (b : List Item). first ++ b) is, reads)))
