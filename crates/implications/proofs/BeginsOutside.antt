-- Going over the node numbers for what the faulty gate doesn't reach.
use Rattle.std.proofs.Common.{Bool, List, None, Option, Some, [], ap, append-nil, append_assoc, arith, false, inl, inr, length, map, not, refl, subst, suc, sym, true, zero, ℕ, ◌++◌, ◌+◌, ◌<◌, ◌∙◌, ◌∷◌, ◌≡◌, ◌≤◌, ◌↔◌}
use Rattle.std.proofs.lemmas.Bool.{cases_lt}
use Rattle.std.proofs.lemmas.List.{length-set}
use Rattle.std.specs.Option.{is_some, option_map}
use Rattle.std.specs.Prelude.{IsTrue, slice_get, slice_set}
use Rattle.gate_graph.proofs.Public.{seen_kept, seen_new, seen_or_not}
use Rattle.gate_graph.specs.Search.{IsSeen}
use Rattle.gate_net.specs.Net.{IsGateKind, IsWellFormed, Net, drivers_of, kind_of}
use Rattle.gate_net.specs.Values.{HasPin}
use Rattle.gate_net.specs.declared.Kind.{Kind}
use Rattle.gate_net.specs.declared.Kind.TheVariants.{One, Zero}
use Rattle.implications.proofs.Leads.{leads_append}
use Rattle.implications.proofs.Outside.{outside_same, outside_settled}
use Rattle.implications.specs.Beginning.{node_of}
use Rattle.implications.specs.Outside.{AppendsOutside, AreOutside, BeginsBelow, HoldsOutside, IsPinless, WritesBelow, line_item}
use Rattle.implications.specs.Inner.Working.{IsPending}
use Rattle.refutation.specs.Answers.{IsAnswer}
use Rattle.refutation.specs.Closing.{LinesLead}
use Rattle.refutation.specs.FactSets.{Becomes, held_by}
use Rattle.refutation.specs.Facts.{Held, none_held, with_fact}
use Rattle.refutation.proofs.Public.{gate_live, kind_is, kind_live, with_cases, with_more, with_there}
use Rattle.refutation.specs.Lines.{Concludes}
use Rattle.refutation.specs.declared.held.NodeFacts.{NodeFacts}
use Rattle.refutation.specs.declared.items.Item.{Item}
use Rattle.refutation.specs.declared.items.Item.TheVariants.{Line as LineItem}
use Rattle.refutation.specs.declared.reasoning.Fact.{Fact}
use Rattle.refutation.specs.declared.reasoning.Fact.TheVariants.{Equal}
use Rattle.refutation.specs.declared.reasoning.Line.{Line}
use Rattle.refutation.specs.declared.reasoning.Line.TheVariants.{Out}
use Rattle.rm_base.specs.declared.numbers.Fault.{Fault}
use Rattle.rm_base.specs.declared.numbers.NodeId.{NodeId}

-- ONE NODE
-- whether there is none
pub none_told : (o : Option NodeId) (b : Bool) → is_some o ≡ not b → IsTrue b ↔ (o ≡ None)
none_told None true e = (λ _. refl, λ _. refl)
none_told None false e = (λ wrong. cc, λ _. cc)
none_told (Some n) true e = (λ _. cc, λ wrong. cc)
none_told (Some n) false e = (λ wrong. cc, λ wrong. cc)

-- a gate has no pins where it has no first one
pub pinless_told : (net : Net) (y : ℕ) (kind : Kind) (o : Option NodeId) → Some kind ≡ kind_of net y → IsGateKind kind → option_map (λ (n : NodeId). n.0) o ≡ slice_get (drivers_of net y) 0 → (o ≡ None) ↔ IsPinless net y
pinless_told net y kind o is gate first = (λ e. ((kind, (kind_is net y kind is, gate)), empty (drivers_of net y) (sym first ∙ ap (λ (p : Option NodeId). option_map (λ (n : NodeId). n.0) p) e)), λ pinless. none o (first ∙ ap (λ (ds : List ℕ). slice_get ds 0) pinless.1))
  where
    empty : (ds : List ℕ) → slice_get ds 0 ≡ None → ds ≡ []
    empty [] e = refl
    empty (d ∷ ds) e = cc

    none : (p : Option NodeId) → option_map (λ (n : NodeId). n.0) p ≡ None → p ≡ None
    none None e = refl
    none (Some n) e = cc

pub answer_never : (net : Net) (fault : Fault) (held : Held) (l : Line) (o : Option (NodeId × Fact)) → o ≡ None → IsAnswer net fault held l o → (x : ℕ) (fact : Fact) → Concludes net fault held l x fact → ⊥
answer_never net fault held l o e h = let at : IsAnswer net fault held l None = rw e at h in at

pub out_below : (net : Net) (fault : Fault) (y x : ℕ) (fact : Fact) (facts : List NodeFacts) → Concludes net fault none_held (Out (node_of y)) x fact → y < length facts → x < length facts
out_below net fault y x fact facts out below = rw out.3 below

-- its line gives nothing
pub holds_none : (net : Net) (fault : Fault) (y : ℕ) (facts : List NodeFacts) → ((x : ℕ) (fact : Fact) → Concludes net fault none_held (Out (node_of y)) x fact → ⊥) → HoldsOutside net fault y facts facts
holds_none net fault y facts never = record { facts = λ x fact. (λ e. inl e, λ h. elim h [ inl e ↦ e | inr out ↦ absurd (never x fact out) ]); size = refl }

-- its line gives this
pub holds_one : (net : Net) (fault : Fault) (y : ℕ) (facts facts' : List NodeFacts) (x : ℕ) (fact : Fact) → Concludes net fault none_held (Out (node_of y)) x fact → Becomes facts facts' (with_fact (held_by facts) x fact) → HoldsOutside net fault y facts facts'
holds_one net fault y facts facts' x fact out is = record {
  facts = λ z other. (
    λ e. elim (with_cases (held_by facts) x fact z other (sym (is.facts z other) ∙ e)) [ inl same ↦ inr (rw (same.0, same.1) out) | inr before ↦ inl before ],
    λ h. is.facts z other ∙ elim h [
      | inl before ↦ with_more (held_by facts) x fact z other before
      | inr again ↦ let place : z ≡ x = again.3 ∙ sym out.3 in let same : other ≡ fact = again.4 ∙ sym out.4 in rw (place, same) (with_there (held_by facts) x fact)
    ],
  );
  size = is.size;
}

-- ALL NODES
pub begins_none : (net : Net) (fault : Fault) (facts : List NodeFacts) (worklist : List Bool) → length facts ≡ length net.nodes → ((x : ℕ) (fact : Fact) → held_by facts x fact ≡ false) → BeginsBelow net fault 0 facts worklist
begins_none net fault facts worklist size none = record {
  outside = λ x fact. (λ e. let wrong : held_by facts x fact ≡ false = none x fact in cc, λ h. absurd (below_none x h.0));
  pinless = λ y below. absurd (below_none y below);
  size = size;
}
  where
    below_none : (x : ℕ) → x < 0 → ⊥
    below_none x low = omega arith

pub begins_more : (net : Net) (fault : Fault) (number : ℕ) (facts facts' : List NodeFacts) (worklist worklist' : List Bool) → BeginsBelow net fault number facts worklist → HoldsOutside net fault number facts facts' → (IsPinless net number → IsSeen worklist' number) → ((z : ℕ) → IsSeen worklist z → IsSeen worklist' z) → BeginsBelow net fault (number + 1) facts' worklist'
begins_more net fault number facts facts' worklist worklist' b h here kept = record {
  outside = λ x fact. (
    λ e. elim ((h.facts x fact).0 e) [
      | inl before ↦ let low : x < number = ((b.outside x fact).0 before).0 in (omega arith, ((b.outside x fact).0 before).1)
      | inr out ↦ let is : x ≡ number = out.3 in (omega arith, (out.0, out.1, out.2, refl, out.4))
    ],
    λ out. elim (cases_lt x number) [
      | inl low ↦ (h.facts x fact).1 (inl ((b.outside x fact).1 (low, out.1)))
      | inr high ↦ let below : x < number + 1 = out.0 in let is : x ≡ number = omega arith in (h.facts x fact).1 (inr (out.1.0, out.1.1, out.1.2, is, out.1.4))
    ],
  );
  pinless = λ y low pinless. elim (cases_lt y number) [
    | inl before ↦ kept y (b.pinless y before pinless)
    | inr high ↦ let is : number ≡ y = omega arith in subst (λ n. IsPinless net n → IsSeen worklist' n) is here pinless
  ];
  size = h.size ∙ b.size;
}

pub begins_outside : (net : Net) (fault : Fault) (facts : List NodeFacts) (worklist : List Bool) → BeginsBelow net fault (length net.nodes) facts worklist → AreOutside net fault (held_by facts)
begins_outside net fault facts worklist b x fact = (λ e. ((b.outside x fact).0 e).1, λ out. (b.outside x fact).1 (kind_live net x out.0, out))

pub begins_pending : (net : Net) (fault : Fault) (facts : List NodeFacts) (worklist worklist' : List Bool) → IsWellFormed net → BeginsBelow net fault (length net.nodes) facts worklist → ((z : ℕ) → IsSeen worklist z → IsSeen worklist' z) → IsSeen worklist' 0 → IsSeen worklist' 1 → IsSeen worklist' fault.gate.0 → IsPending net fault facts worklist'
begins_pending net fault facts worklist worklist' formed b kept zero' one' gate y = elim (seen_or_not worklist' y) [
  | inl on' ↦ inl on'
  | inr off ↦ inr (outside_settled net fault (held_by facts) formed (begins_outside net fault facts worklist b) y (λ is. off (subst (IsSeen worklist') (sym is) zero')) (λ is. off (subst (IsSeen worklist') (sym is) one')) (λ is. off (subst (IsSeen worklist') (sym is) gate))
      (λ pinless. off (kept y (b.pinless y (kind_live net y (pinless.0.0, pinless.0.1.0)) pinless))))
]

-- the constants and the faulty gate were put on
pub three_set : (net : Net) (fault : Fault) (worklist one two three : List Bool) → IsWellFormed net → HasPin net fault → length net.nodes ≤ length worklist → one ≡ slice_set worklist 0 true → two ≡ slice_set one 1 true → three ≡ slice_set two fault.gate.0 true → ((z : ℕ) → IsSeen worklist z → IsSeen three z) × (IsSeen three 0 × (IsSeen three 1 × IsSeen three fault.gate.0))
three_set net fault worklist one two three formed stuck room is is' is'' = (
  λ z seen. rw is'' (seen_kept two fault.gate.0 z (rw is' (seen_kept one 1 z (rw is (seen_kept worklist 0 z seen))))),
  (rw is'' (seen_kept two fault.gate.0 0 (rw is' (seen_kept one 1 0 (rw is (seen_new worklist 0 zero_below))))), (rw is'' (seen_kept two fault.gate.0 1 (rw is' (seen_new one 1 one_below))), rw is'' (seen_new two fault.gate.0 gate_below))),
)
  where
    same : length one ≡ length worklist
    same = ap (λ xs. length xs) is ∙ length-set worklist 0 true

    same' : length two ≡ length worklist
    same' = ap (λ xs. length xs) is' ∙ length-set one 1 true ∙ same

    zero_below : 0 < length worklist
    zero_below = let low : 0 < length net.nodes = kind_live net 0 (Zero, ([], formed.constants.zero_is)) in omega (arith, room)

    one_below : 1 < length one
    one_below = let low : 1 < length net.nodes = kind_live net 1 (One, ([], formed.constants.one_is)) in omega (arith, room, same)

    gate_below : fault.gate.0 < length two
    gate_below = let low : fault.gate.0 < length net.nodes = kind_live net fault.gate.0 (gate_live net fault stuck) in omega (arith, room, same')

-- THE LINES
pub writes_none : (net : Net) (fault : Fault) (tree : List Item) → WritesBelow net fault 0 tree tree
writes_none net fault tree = record {
  lines = [];
  is = sym (append-nil tree);
  held = none_held;
  leads = refl;
  outside = λ x fact. (λ e. let wrong : none_held x fact ≡ true = e in cc, λ h. absurd (below_none x h.0));
}
  where
    below_none : (x : ℕ) → x < 0 → ⊥
    below_none x low = omega arith

pub writes_skip : (net : Net) (fault : Fault) (number : ℕ) (before after : List Item) → WritesBelow net fault number before after → ((x : ℕ) (fact : Fact) → Concludes net fault none_held (Out (node_of number)) x fact → ⊥) → WritesBelow net fault (number + 1) before after
writes_skip net fault number before after w never = record {
  lines = w.lines;
  is = w.is;
  held = w.held;
  leads = w.leads;
  outside = λ x fact. (
    λ e. let low : x < number = ((w.outside x fact).0 e).0 in (omega arith, ((w.outside x fact).0 e).1),
    λ out. elim (cases_lt x number) [
      | inl low ↦ (w.outside x fact).1 (low, out.1)
      | inr high ↦ let below : x < number + 1 = out.0 in let is : x ≡ number = omega arith in absurd (never x fact (out.1.0, out.1.1, out.1.2, is, out.1.4))
    ],
  );
}

map_append : (xs ys : List Line) → map line_item (xs ++ ys) ≡ map line_item xs ++ map line_item ys
map_append [] ys = refl
map_append (x ∷ xs) ys = ap (λ items. line_item x ∷ items) (map_append xs ys)

pub writes_more : (net : Net) (fault : Fault) (number : ℕ) (before after after' : List Item) (x : ℕ) (fact : Fact) → WritesBelow net fault number before after → Concludes net fault none_held (Out (node_of number)) x fact → after' ≡ after ++ LineItem (Out (node_of number)) ∷ [] → WritesBelow net fault (number + 1) before after'
writes_more net fault number before after after' x fact w out is = record {
  lines = w.lines ++ Out (node_of number) ∷ [];
  is = is ∙ ap (λ items. items ++ LineItem (Out (node_of number)) ∷ []) w.is ∙ append_assoc before (map line_item w.lines) (LineItem (Out (node_of number)) ∷ []) ∙ ap (λ items. before ++ items) (sym (map_append w.lines (Out (node_of number) ∷ [])));
  held = with_fact w.held x fact;
  leads = leads_append net fault w.lines (Out (node_of number) ∷ []) none_held w.held (with_fact w.held x fact) w.leads (x, (fact, (out, refl)));
  outside = λ z other. (
    λ e. elim (with_cases w.held x fact z other e) [
      | inl same ↦ let place : z ≡ number = same.0 ∙ out.3 in (omega arith, rw (same.0, same.1) (out.0, out.1, out.2, refl, out.4))
      | inr before ↦ let low : z < number = ((w.outside z other).0 before).0 in (omega arith, ((w.outside z other).0 before).1)
    ],
    λ again. elim (cases_lt z number) [
      | inl low ↦ with_more w.held x fact z other ((w.outside z other).1 (low, again.1))
      | inr high ↦
          let below : z < number + 1 = again.0 in
          let is : z ≡ number = omega arith in
          let place : z ≡ x = is ∙ sym out.3 in
          let same : other ≡ fact = again.1.4 ∙ sym out.4 in
          rw (place, same) (with_there w.held x fact)
    ],
  );
}

pub writes_outside : (net : Net) (fault : Fault) (number : ℕ) (before after : List Item) → WritesBelow net fault number before after → length net.nodes ≤ number → AppendsOutside net fault before after
writes_outside net fault number before after w all = (
  w.lines,
  (
    w.is,
    record {
      some = w.held;
      outside = outside;
      leads = λ start o. subst (λ (k : Held). LinesLead net fault none_held w.lines k) (outside_same net fault w.held start outside o) w.leads;
    },
  ),
)
  where
    outside : AreOutside net fault w.held
    outside x fact = (λ e. ((w.outside x fact).0 e).1, λ out. let low : x < length net.nodes = kind_live net x out.0 in (w.outside x fact).1 (omega (arith, all), out))

-- THAT THERE ARE SUCH LINES
some_lines : (net : Net) (fault : Fault) (start : Held) → AreOutside net fault start → (n : ℕ) → (items : List Item) × WritesBelow net fault n [] items
some_lines net fault start o zero = ([], writes_none net fault [])
some_lines net fault start o (suc n) =
    let e : n + 1 ≡ suc n = omega arith in
    let rest = some_lines net fault start o n in
    subst (λ m. (items : List Item) × WritesBelow net fault m [] items) e (at (start n Equal) refl rest.0 rest.1)
  where
    at : (b : Bool) → start n Equal ≡ b → (items : List Item) → WritesBelow net fault n [] items → (items : List Item) × WritesBelow net fault (n + 1) [] items
    at true is items w = (items ++ LineItem (Out (node_of n)) ∷ [], writes_more net fault n [] items (items ++ LineItem (Out (node_of n)) ∷ []) n Equal w ((o n Equal).0 is) refl)
    at false is items w = (items, writes_skip net fault n [] items w (λ x fact out. let place : x ≡ n = out.3 in let there : start n Equal ≡ true = (o n Equal).1 (subst (λ z. Concludes net fault none_held (Out (node_of n)) z Equal) place (out.0, out.1, out.2, out.3, refl)) in cc))

-- lines lead there
pub outside_led : (net : Net) (fault : Fault) (start : Held) → AreOutside net fault start → (lines : List Line) × LinesLead net fault none_held lines start
outside_led net fault start o =
    let some = some_lines net fault start o (length net.nodes) in
    let all = writes_outside net fault (length net.nodes) [] some.0 some.1 (omega arith) in
    (all.0, all.1.1.leads start o)
