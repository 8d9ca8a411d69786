-- What closing comes to.
use Rattle.std.proofs.Common.{Bool, List, None, Option, Some, [], ap, add-one, append_assoc, arith, drop, drop-cons, false, get_or, inl, inr, length, length-append, map, refl, subst, suc, sym, take, true, ℕ, ◌++◌, ◌+◌, ◌<◌, ◌∙◌, ◌∷◌, ◌≡◌, ◌≤◌}
use Rattle.std.specs.Prelude.{Err, IfOk, IsTrue, Ok, OnOk, Result, nat_eq, ◌↔◌}
use Rattle.std.proofs.Math.ListN.{drop_of_length-le}
use Rattle.std.proofs.Math.Seq.{take-append_seam}
use Rattle.std.proofs.lemmas.Bool.{cases_lt, eq-eqb}
use Rattle.gate_graph.specs.Search.{IsSeen}
use Rattle.gate_net.specs.Net.{Net}
use Rattle.implications.proofs.Begins.{closed_all, closed_first, closed_settled, first_more}
use Rattle.implications.proofs.BeginsOutside.{outside_led}
use Rattle.implications.proofs.Leads.{items_append, leads_append}
use Rattle.implications.proofs.Places.{place_live}
use Rattle.implications.proofs.Steps.{becomes_is, free_more, more_held, pending_more}
use Rattle.implications.specs.Outcomes.{IsClash, IsClashFrom, IsClashed, IsClosing, IsExtended, IsOpen, IsOpenFrom, clash_items}
use Rattle.implications.specs.Outside.{AppendsOutside, AreOutside, LeadToOutside, line_item}
use Rattle.implications.specs.Inner.Settled.{HasFirst}
use Rattle.implications.specs.Inner.Trail.{IsLonger}
use Rattle.implications.specs.Inner.Working.{Closes, Ending, IsPending, Touches, Works}
use Rattle.implications.specs.declared.outcome.Closed.{Closed}
use Rattle.implications.specs.declared.outcome.Closed.TheVariants.{Clash, Open}
use Rattle.refutation.specs.Branches.{Branch, IsClosed, clash, items_of, line}
use Rattle.refutation.specs.Closing.{Clashes, IsClashFree, IsClosedUnderLines, IsWithin, LinesLead}
use Rattle.refutation.specs.FactSets.{Becomes, held_by, missing}
use Rattle.refutation.specs.Facts.{AreOpposed, Held, known_good, none_held, one_of, with_fact}
use Rattle.refutation.proofs.Public.{closed_has_all, kind_live}
use Rattle.refutation.specs.declared.held.NodeFacts.{NodeFacts}
use Rattle.refutation.specs.declared.items.Item.{Item}
use Rattle.refutation.specs.declared.items.Item.TheVariants.{Clash as ClashItem, Line as LineItem}
use Rattle.refutation.specs.declared.reasoning.Fact.{Fact}
use Rattle.refutation.specs.declared.reasoning.Fact.TheVariants.{Differs, Equal, Faulty, Good}
use Rattle.refutation.specs.declared.reasoning.Line.{Line}
use Rattle.rm_base.specs.declared.numbers.Fault.{Fault}
use Rattle.rm_base.specs.declared.numbers.NodeId.{NodeId}

-- ALL LINES
-- every number is on the worklist
pub pending_first : (net : Net) (fault : Fault) (facts : List NodeFacts) (worklist : List Bool) (bound : ℕ) → bound ≡ length net.nodes → ((z : ℕ) → z < bound → IsSeen worklist z) → IsPending net fault facts worklist
pending_first net fault facts worklist bound is on' y = elim (cases_lt y bound) [
  | inl low ↦ inl (on' y low)
  | inr high ↦ inr (λ l x fact place h. let low : y < length net.nodes = kind_live net y (place_live net fault (held_by facts) l x y fact place h) in absurd (omega arith))
]

pub closes_ok : {E : Type 0} (net : Net) (fault : Fault) (first facts : List NodeFacts) (r : Result (Option NodeId) E) → HasFirst net fault (held_by first) → IsWithin (held_by first) (held_by facts) → IfOk r (Ending net fault facts) → IfOk r (Closes net fault facts)
closes_ok net fault first facts (Ok None) has within h = (closed_all net fault (held_by facts) (first_more net fault (held_by first) (held_by facts) within has) h.0, h.1)
closes_ok net fault first facts (Ok (Some x)) has within h = h
closes_ok net fault first facts (Err e) has within h = h

pub works_ok : {A E : Type 0} (P Q : Type 0) (r : Result A E) → (P → Q) → OnOk r P → OnOk r Q
works_ok P Q (Ok a) f h = f h
works_ok P Q (Err e) f h = h

-- TREES
tree_of : List Line → NodeId → Branch
tree_of [] x = clash x
tree_of (l ∷ lines) x = line l (tree_of lines x)

tree_items : (lines : List Line) (x : NodeId) → clash_items lines x ≡ items_of (tree_of lines x)
unfolding tree_of
tree_items [] x = refl
tree_items (l ∷ lines) x = ap (λ items. LineItem l ∷ items) (tree_items lines x)

tree_closed : (net : Net) (fault : Fault) (lines : List Line) (x : NodeId) (held after : Held) → LinesLead net fault held lines after → AreOpposed after x.0 → IsClosed net fault held (tree_of lines x)
unfolding tree_of
tree_closed net fault [] x held after e opposed = rw e at opposed
tree_closed net fault (l ∷ lines) x held after (y, (fact, (concludes, rest))) opposed = (y, fact, concludes, tree_closed net fault lines x (with_fact held y fact) after rest opposed)

-- one line more of those that are left
pub tree_more : (lines : List Line) (i : ℕ) (r : Line) (tree all : List Item) (x : NodeId) → i < length lines → tree ++ clash_items (drop i lines) x ≡ all → (tree ++ LineItem (get_or lines i r) ∷ []) ++ clash_items (drop (i + 1) lines) x ≡ all
tree_more lines i r tree all x low e =
    append_assoc tree (LineItem (get_or lines i r) ∷ []) (clash_items (drop (i + 1) lines) x)
    ∙ ap (λ rest. tree ++ clash_items rest x) (sym (drop-cons lines i r low ∙ ap (λ n. get_or lines i r ∷ drop n lines) (sym (add-one i)))) ∙ e

pub tree_ends : (lines : List Line) (i : ℕ) (tree all : List Item) (x : NodeId) → length lines ≤ i → tree ++ clash_items (drop i lines) x ≡ all → tree ++ ClashItem x ∷ [] ≡ all
tree_ends lines i tree all x high e = ap (λ rest. tree ++ clash_items rest x) (sym (drop_of_length-le lines high)) ∙ e

-- WHAT IS ANSWERED
clash_at : (net : Net) (fault : Fault) (start : Held) (lines : List Line) (after : Held) (x : NodeId) (items : List Item) → LinesLead net fault start lines after → AreOpposed after x.0 → items ≡ clash_items lines x → IsClashFrom net fault start lines items
clash_at net fault start lines after x items leads opposed is = record {
  node = x;
  facts = after;
  clash = record { leads = leads; opposed = opposed };
  ends = is;
  tree = tree_of lines x;
  reads = is ∙ tree_items lines x;
  closed = tree_closed net fault lines x start after leads opposed;
}

leads_first : (net : Net) (fault : Fault) (facts : List NodeFacts) (lines : List Line) → lines ≡ [] → LinesLead net fault (held_by facts) lines (held_by facts)
leads_first net fault facts lines is = rw is refl

closes_some : (net : Net) (fault : Fault) (facts : List NodeFacts) (o : Option NodeId) (x : NodeId) → o ≡ Some x → Closes net fault facts o → AreOpposed (held_by facts) x.0
closes_some net fault facts None x e closes = cc
closes_some net fault facts (Some y) x e closes = let same : y ≡ x = cc in subst (λ (n : NodeId). AreOpposed (held_by facts) n.0) same closes

pub grown_clash : (net : Net) (fault : Fault) (start facts : List NodeFacts) (before lines : List Line) (o : Option NodeId) (x : NodeId) (items : List Item) → before ≡ [] → Works net fault start before facts lines → o ≡ Some x → Closes net fault facts o → items ≡ clash_items lines x → IsClashFrom net fault (held_by start) lines items
grown_clash net fault start facts before lines o x items none works e closes is =
    clash_at net fault (held_by start) lines (held_by facts) x items (works.goes_on (held_by start) (leads_first net fault start before none)) (closes_some net fault facts o x e closes) is

pub grown_open : (net : Net) (fault : Fault) (start facts : List NodeFacts) (before lines : List Line) (o : Option NodeId) → before ≡ [] → Works net fault start before facts lines → IsWithin (held_by start) (held_by facts) → length facts ≡ length start → length net.nodes ≤ length start → o ≡ None → Closes net fault facts o → IsOpenFrom net fault (held_by start) lines facts × (length net.nodes ≤ length facts)
grown_open net fault start facts before lines None none works within same size e closes = (
  record { closed = closes.0; free = closes.1; within = within; leads = works.goes_on (held_by start) (leads_first net fault start before none) },
  omega arith,
)
grown_open net fault start facts before lines (Some y) none works within same size e closes = cc

-- CLOSING NO FACTS
-- lines that lead on from what isn't reached lead from no facts, with others before them
pub leads_all : (net : Net) (fault : Fault) (first lines : List Line) (start after : Held) → LeadToOutside net fault first → AreOutside net fault start → LinesLead net fault start lines after → LinesLead net fault none_held (first ++ lines) after
leads_all net fault first lines start after to outside leads =
    leads_append net fault first lines none_held start after (to.leads start outside) leads

pub closing_open : (net : Net) (fault : Fault) (start facts : List NodeFacts) (before lines : List Line) (o : Option NodeId) → AreOutside net fault (held_by start) → before ≡ [] → Works net fault start before facts lines → IsWithin (held_by start) (held_by facts) → length facts ≡ length start → length net.nodes ≤ length start → o ≡ None → Closes net fault facts o → IsOpen net fault lines facts
closing_open net fault start facts before lines o outside none works within same size e closes =
    let from = grown_open net fault start facts before lines o none works within same size e closes in
    let has = closed_has_all net fault (held_by facts) from.0.closed from.0.free in
    let led = outside_led net fault (held_by start) outside in
    record {
      start = held_by start;
      outside = outside;
      open_from = from.0;
      derivable = λ x fact. (λ there. (led.0 ++ lines, (held_by facts, (leads_append net fault led.0 lines none_held (held_by start) (held_by facts) led.1 from.0.leads, there))), has.0 x fact);
      no_clash = has.1;
      size = from.1;
    }

pub closing_clash : (net : Net) (fault : Fault) (start facts : List NodeFacts) (before lines : List Line) (o : Option NodeId) (x : NodeId) (none tree items : List Item) → AreOutside net fault (held_by start) → before ≡ [] → Works net fault start before facts lines → o ≡ Some x → Closes net fault facts o → none ≡ [] → AppendsOutside net fault none tree → items ≡ tree ++ clash_items lines x → IsClashed net fault lines items
closing_clash net fault start facts before lines o x none tree items outside empty works e closes nothing (first, (appended, to)) is =
    let leads = leads_all net fault first lines (held_by start) (held_by facts) to outside (works.goes_on (held_by start) (leads_first net fault start before empty)) in
    let ends : items ≡ clash_items (first ++ lines) x = is ∙ ap (λ (t : List Item). t ++ clash_items lines x) (appended ∙ ap (λ (t : List Item). t ++ map line_item first) nothing) ∙ items_append first lines x in
    let opposed : AreOpposed (held_by facts) x.0 = closes_some net fault facts o x e closes in
    let all = clash_at net fault none_held (first ++ lines) (held_by facts) x items leads opposed ends in
    record {
      clashes = (first ++ lines, (held_by facts, (leads, (x.0, opposed))));
      accepted = (all.tree, (all.reads, all.closed));
      first = first;
      outside = to;
      clash_from = all;
    }

-- a clash is answered exactly where there is one
pub closing_exact : (net : Net) (fault : Fault) (lines : List Line) (c : Closed) → IsClosing net fault lines c → IsClash c ↔ Clashes net fault
closing_exact net fault lines (Clash items) k = (λ _. k.clashes, λ _. tt)
closing_exact net fault lines (Open facts) k = (λ never. absurd never, λ clashes. absurd (k.no_clash clashes))

pub exact_ok : {E : Type 0} (net : Net) (fault : Fault) (lines : List Line) (r : Result Closed E) → IfOk r (IsClosing net fault lines) → IfOk r (λ c. IsClash c ↔ Clashes net fault)
exact_ok net fault lines (Ok c) h = closing_exact net fault lines c h
exact_ok net fault lines (Err e) h = h

-- A GOOD VALUE MORE
-- neither good fact is held
pub unknown_good : (facts : List NodeFacts) (x : ℕ) (b : Bool) → IsClashFree (held_by facts) → known_good (held_by facts) x ≡ None → held_by facts x (Good b) ≡ false
unknown_good facts x b free none = at (held_by facts x (Good false)) (held_by facts x (Good true)) refl refl b
  where
    at : (t u : Bool) → held_by facts x (Good false) ≡ t → held_by facts x (Good true) ≡ u → (b : Bool) → held_by facts x (Good b) ≡ false
    at true true e f b = absurd (free x (inl (e, f)))
    at true false e f b = let known : one_of true false ≡ None = rw (e, f) at none in cc
    at false true e f b = let known : one_of false true ≡ None = rw (e, f) at none in cc
    at false false e f true = f
    at false false e f false = e

pub good_free : (facts facts' : List NodeFacts) (x : ℕ) (b : Bool) → IsClashFree (held_by facts) → known_good (held_by facts) x ≡ None → Becomes facts facts' (with_fact (held_by facts) x (Good b)) → IsClashFree (held_by facts')
good_free facts facts' x b free none is = free_more facts facts' x (Good b) free is (λ opposed. at b is opposed)
  where
    old : (fact other : Fact) → with_fact (held_by facts) x other x fact ≡ held_by facts x fact → Becomes facts facts' (with_fact (held_by facts) x other) → IsTrue (held_by facts' x fact) → IsTrue (held_by facts x fact)
    old fact other e is there = sym e ∙ (sym (is.facts x fact) ∙ there)

    same : nat_eq x x ≡ true
    same = eq-eqb x x refl

    at : (b : Bool) → Becomes facts facts' (with_fact (held_by facts) x (Good b)) → AreOpposed (held_by facts') x → ⊥
    at true is opposed = elim opposed [
      | inl good ↦ let was : held_by facts x (Good false) ≡ true = old (Good false) (Good true) (rw same refl) is good.0 in let wrong : held_by facts x (Good false) ≡ false = unknown_good facts x false free none in cc
      | inr other ↦ free x (inr (elim other [
        | inl faulty ↦ inl (old (Faulty false) (Good true) (rw same refl) is faulty.0, old (Faulty true) (Good true) (rw same refl) is faulty.1)
        | inr equal ↦ inr (old Equal (Good true) (rw same refl) is equal.0, old Differs (Good true) (rw same refl) is equal.1)
      ]))
    ]
    at false is opposed = elim opposed [
      | inl good ↦ let was : held_by facts x (Good true) ≡ true = old (Good true) (Good false) (rw same refl) is good.1 in let wrong : held_by facts x (Good true) ≡ false = unknown_good facts x true free none in cc
      | inr other ↦ free x (inr (elim other [
        | inl faulty ↦ inl (old (Faulty false) (Good false) (rw same refl) is faulty.0, old (Faulty true) (Good false) (rw same refl) is faulty.1)
        | inr equal ↦ inr (old Equal (Good false) (rw same refl) is equal.0, old Differs (Good false) (rw same refl) is equal.1)
      ]))
    ]

pub good_pending : (net : Net) (fault : Fault) (facts facts' : List NodeFacts) (worklist worklist' : List Bool) (x : ℕ) (fact : Fact) → IsClosedUnderLines net fault (held_by facts) → Becomes facts facts' (with_fact (held_by facts) x fact) → Touches net worklist worklist' x → IsPending net fault facts' worklist'
good_pending net fault facts facts' worklist worklist' x fact closed is t z =
    elim (pending_more net fault facts facts' worklist worklist' x x fact (λ y. inr (inr (closed_settled net fault (held_by facts) closed y))) is t z) [
      | inl same ↦ inl (subst (IsSeen worklist') (sym same) t.itself)
      | inr rest ↦ rest
    ]

pub extended_ok : {E : Type 0} (net : Net) (fault : Fault) (old first facts : List NodeFacts) (before lines : List Line) (x : ℕ) (fact : Fact) (r : Result (Option NodeId) E) → before ≡ [] → IsClosedUnderLines net fault (held_by old) → Becomes old first (with_fact (held_by old) x fact) → OnOk r (Works net fault first before facts lines) → IsWithin (held_by first) (held_by facts) → IfOk r (Ending net fault facts) → IfOk r (IsExtended net fault (with_fact (held_by old) x fact) lines facts)
extended_ok net fault old first facts before lines x fact (Ok None) none closed is works within ending = record {
  closed = closed_all net fault (held_by facts) (first_more net fault (held_by old) (held_by facts) (λ y other e. within y other (more_held old first x fact is y other e)) (closed_first net fault (held_by old) closed)) ending.0;
  free = ending.1;
  within = λ y other e. within y other (is.facts y other ∙ e);
  leads = subst (λ k. LinesLead net fault k lines (held_by facts)) (becomes_is old first x fact is) (works.goes_on (held_by first) (leads_first net fault first before none));
}
extended_ok net fault old first facts before lines x fact (Ok (Some y)) none closed is works within ending = record {
  leads = subst (λ k. LinesLead net fault k lines (held_by facts)) (becomes_is old first x fact is) (works.goes_on (held_by first) (leads_first net fault first before none));
  opposed = ending;
}
extended_ok net fault old first facts before lines x fact (Err e) none closed is works within ending = ending

pub fewer_ok : {A E : Type 0} (net : Net) (fault : Fault) (old first facts : List NodeFacts) (before lines : List Line) (r : Result A E) → suc (missing first) ≡ missing old → OnOk r (Works net fault first before facts lines) → IfOk r (λ _. missing facts < missing old)
fewer_ok net fault old first facts before lines (Ok a) less works = let fewer : missing facts ≤ missing first = works.fewer in omega arith
fewer_ok net fault old first facts before lines (Err e) less works = works

-- THE TRAIL AFTERWARDS
pub trail_cut : (old new : List (NodeId × Fact)) → IsLonger old new → take (length old) new ≡ old
trail_cut old new (rest, is) = ap (λ xs. take (length old) xs) is ∙ take-append_seam old rest

pub trail_longer : (old new : List (NodeId × Fact)) → IsLonger old new → length old ≤ length new
trail_longer old new (rest, is) = let e : length new ≡ length old + length rest = ap (λ xs. length xs) is ∙ length-append old rest in omega arith
