-- What one more fact does to the work that is left.
use Rattle.std.proofs.Common.{Bool, List, None, Option, Some, [], ap, append-nil, append_assoc, arith, drop, false, inl, inr, length, length-append, refl, subst, suc, sym, true, ℕ, ◌*◌, ◌++◌, ◌+◌, ◌<◌, ◌∙◌, ◌∷◌, ◌≡◌, ◌≢◌, ◌≤◌}
use Rattle.std.proofs.Math.Seq.{drop-length}
use Rattle.std.proofs.lemmas.Bool.{eqb-true, ne_eqb}
use Rattle.std.proofs.lemmas.Bool.Decides.{eqb_tells}
use Rattle.std.proofs.lemmas.List.{drop-append-le}
use Rattle.std.specs.Prelude.{IsTrue, nat_eq, replicate, slice_set, ◌↔◌}
use mathlib.Core.Path.{fun_ext}
use Rattle.gate_graph.proofs.Public.{none_seen}
use Rattle.gate_graph.specs.Search.{IsSeen}
use Rattle.gate_net.specs.Net.{Net, Reads, drivers_of}
use Rattle.implications.proofs.Local.{line_local}
use Rattle.implications.proofs.Trails.{trail_tells, without-append}
use Rattle.refutation.specs.Worklists.{seen_count}
use Rattle.implications.specs.Settled.{AgreeAt, IsSettled}
use Rattle.implications.specs.Inner.Settled.{IsFresh}
use Rattle.implications.specs.Inner.Tallies.{AreTallied, TallyState}
use Rattle.implications.specs.Trail.{AreAdded, LeadsBack, without_all}
use Rattle.implications.specs.Inner.Working.{Holds, IsPending, IsPendingBut, Keeps, Outcome, Settling, Stops, Sweeps, Touches, Works, work}
use Rattle.implications.specs.declared.found.Found.{Found}
use Rattle.refutation.specs.Closing.{IsClashFree, IsWithin, LinesLead}
use Rattle.refutation.specs.FactSets.{Becomes, held_by, missing}
use Rattle.refutation.specs.Facts.{AreOpposed, Held, same_fact, with_fact, without_fact}
use Rattle.refutation.proofs.Public.{count_within, find, kind_live, same_fact_true, seen_stays, with_more}
use Rattle.refutation.specs.Lines.{Concludes}
use Rattle.refutation.specs.declared.held.NodeFacts.{NodeFacts}
use Rattle.refutation.specs.declared.reasoning.Fact.{Fact}
use Rattle.refutation.specs.declared.reasoning.Fact.TheVariants.{Differs, Equal, Faulty, Good}
use Rattle.refutation.specs.declared.reasoning.Line.{Line}
use Rattle.rm_base.specs.declared.numbers.Fault.{Fault}
use Rattle.rm_base.specs.declared.numbers.NodeId.{NodeId}

-- FACTS
pub becomes_is : (facts facts' : List NodeFacts) (x : ℕ) (fact : Fact) → Becomes facts facts' (with_fact (held_by facts) x fact) → held_by facts' ≡ with_fact (held_by facts) x fact
becomes_is facts facts' x fact b = fun_ext (λ y. fun_ext (λ other. b.facts y other))

-- facts of other nodes are as they were
agree_other : (facts facts' : List NodeFacts) (x : ℕ) (fact : Fact) → Becomes facts facts' (with_fact (held_by facts) x fact) → (z : ℕ) → z ≢ x → AgreeAt (held_by facts') (held_by facts) z
agree_other facts facts' x fact b z ne other = b.facts z other ∙ rw (ne_eqb z x ne) refl

pub more_held : (facts facts' : List NodeFacts) (x : ℕ) (fact : Fact) → Becomes facts facts' (with_fact (held_by facts) x fact) → IsWithin (held_by facts) (held_by facts')
more_held facts facts' x fact b z other e = b.facts z other ∙ with_more (held_by facts) x fact z other e

still_settled : (net : Net) (fault : Fault) (facts facts' : List NodeFacts) (x : ℕ) (fact : Fact) → Becomes facts facts' (with_fact (held_by facts) x fact) → (z : ℕ) → z ≢ x → ((p d : ℕ) → Reads net z p d → d ≢ x) → IsSettled net fault (held_by facts) z → IsSettled net fault (held_by facts') z
still_settled net fault facts facts' x fact b z ne drivers settled l w other place concludes =
    more_held facts facts' x fact b w other (settled l w other place (line_local net fault (held_by facts') (held_by facts) z (agree_other facts facts' x fact b z ne) (λ p d reads. agree_other facts facts' x fact b d (drivers p d reads)) l w other place concludes))

eqb_false : (a b : ℕ) → nat_eq a b ≡ false → a ≢ b
eqb_false a b e is = elim (eqb_tells a b) [ inl t ↦ let wrong : nat_eq a b ≡ true = t.0 in cc | inr t ↦ t.1 is ]

-- no clash at the node, and none elsewhere
pub free_more : (facts facts' : List NodeFacts) (x : ℕ) (fact : Fact) → IsClashFree (held_by facts) → Becomes facts facts' (with_fact (held_by facts) x fact) → (AreOpposed (held_by facts') x → ⊥) → IsClashFree (held_by facts')
free_more facts facts' x fact free b here z opposed = elim (eqb_tells z x) [
  | inl same ↦ here (subst (AreOpposed (held_by facts')) same.1 opposed)
  | inr ne ↦ free z (elim opposed [
    | inl good ↦ inl (back ne.1 (Good false) good.0, back ne.1 (Good true) good.1)
    | inr other ↦ elim other [
      | inl faulty ↦ inr (inl (back ne.1 (Faulty false) faulty.0, back ne.1 (Faulty true) faulty.1))
      | inr equal ↦ inr (inr (back ne.1 Equal equal.0, back ne.1 Differs equal.1))
    ]
  ])
]
  where
    back : z ≢ x → (other : Fact) → IsTrue (held_by facts' z other) → IsTrue (held_by facts z other)
    back ne other e = sym (agree_other facts facts' x fact b z ne other) ∙ e

-- LINES
leads_more : (net : Net) (fault : Fault) (l : Line) (x : ℕ) (fact : Fact) (lines : List Line) (start held after : Held) → LinesLead net fault start lines held → Concludes net fault held l x fact → after ≡ with_fact held x fact → LinesLead net fault start (lines ++ l ∷ []) after
leads_more net fault l x fact [] start held after e concludes is = (x, (fact, (rw e at concludes, is ∙ ap (λ h. with_fact h x fact) e)))
leads_more net fault l x fact (k ∷ lines) start held after (y, (other, (concludes', rest))) concludes is =
    (y, (other, (concludes', leads_more net fault l x fact lines (with_fact start y other) held after rest concludes is)))

pub works_none : (net : Net) (fault : Fault) (facts : List NodeFacts) (lines : List Line) → Works net fault facts lines facts lines
works_none net fault facts lines = record { goes_on = λ start leads. leads; fewer = omega arith }

pub works_join : (net : Net) (fault : Fault) (a : List NodeFacts) (a_lines : List Line) (b : List NodeFacts) (b_lines : List Line) (c : List NodeFacts) (c_lines : List Line) → Works net fault a a_lines b b_lines → Works net fault b b_lines c c_lines → Works net fault a a_lines c c_lines
works_join net fault a a_lines b b_lines c c_lines h k = record {
  goes_on = λ start leads. k.goes_on start (h.goes_on start leads);
  fewer = let one : missing b ≤ missing a = h.fewer in let two : missing c ≤ missing b = k.fewer in omega arith;
}

pub works_hold : (net : Net) (fault : Fault) (facts : List NodeFacts) (lines : List Line) (facts' : List NodeFacts) (lines' : List Line) (f : Found) → Concludes net fault (held_by facts) f.line f.node.0 f.fact → Holds facts lines facts' lines' f → Works net fault facts lines facts' lines'
works_hold net fault facts lines facts' lines' f concludes h = record {
  goes_on = λ start leads. rw h.lines (leads_more net fault f.line f.node.0 f.fact lines start (held_by facts) (held_by facts') leads concludes (becomes_is facts facts' f.node.0 f.fact h.facts));
  fewer = let less : suc (missing facts') ≡ missing facts = h.less in omega arith;
}

-- THE TRAIL
pub keeps_none : (facts : List NodeFacts) (trail : List (NodeId × Fact)) → Keeps facts trail facts trail
keeps_none facts trail = record { more = λ x fact e. e; size = refl; rest = []; grown = sym (append-nil trail); back = λ mark start b. b }

pub keeps_join : (a : List NodeFacts) (a_trail : List (NodeId × Fact)) (b : List NodeFacts) (b_trail : List (NodeId × Fact)) (c : List NodeFacts) (c_trail : List (NodeId × Fact)) → Keeps a a_trail b b_trail → Keeps b b_trail c c_trail → Keeps a a_trail c c_trail
keeps_join a a_trail b b_trail c c_trail h k = record {
  more = λ x fact e. k.more x fact (h.more x fact e);
  size = k.size ∙ h.size;
  rest = h.rest ++ k.rest;
  grown = k.grown ∙ ap (λ xs. xs ++ k.rest) h.grown ∙ append_assoc a_trail h.rest k.rest;
  back = λ mark start b. k.back mark start (h.back mark start b);
}

-- a fact that wasn't held, added and taken away again
with_without : (held : Held) (x : ℕ) (fact : Fact) → held x fact ≡ false → (y : ℕ) (other : Fact) → without_fact (with_fact held x fact) x fact y other ≡ held y other
with_without held x fact new y other = at (nat_eq y x) (same_fact other fact) refl refl
  where
    at : (b c : Bool) → nat_eq y x ≡ b → same_fact other fact ≡ c → without_fact (with_fact held x fact) x fact y other ≡ held y other
    at true true is same =
        let none : held y other ≡ false = rw (eqb-true y x is, same_fact_true other fact same) new in
        rw (is, same, none) refl
    at true false is same = rw (is, same) refl
    at false c is same = rw is refl

pub keeps_hold : (facts : List NodeFacts) (trail : List (NodeId × Fact)) (facts' : List NodeFacts) (trail' : List (NodeId × Fact)) (x : NodeId) (fact : Fact) → held_by facts x.0 fact ≡ false → Becomes facts facts' (with_fact (held_by facts) x.0 fact) → trail' ≡ trail ++ (x, fact) ∷ [] → Keeps facts trail facts' trail'
keeps_hold facts trail facts' trail' x fact new b is = record {
  more = more_held facts facts' x.0 fact b;
  size = b.size;
  rest = (x, fact) ∷ [];
  grown = is;
  back = λ mark start h. record {
    order = let e : length trail' ≡ length trail + 1 = ap (λ xs. length xs) is ∙ length-append trail one in let le : mark ≤ length trail = h.order in omega arith;
    size = b.size ∙ h.size;
    back = λ y other. h.back y other ∙ ap (λ k. k y other)
        (ap (λ k. without_all (drop mark trail) k) (sym same) ∙ sym (without-append (drop mark trail) one (held_by facts'))
        ∙ ap (λ xs. without_all xs (held_by facts')) (sym (drop-append-le mark trail one h.order) ∙ ap (λ xs. drop mark xs) (sym is)));
  };
}
  where
    one : List (NodeId × Fact)
    one = (x, fact) ∷ []

    same : without_fact (held_by facts') x.0 fact ≡ held_by facts
    same = ap (λ k. without_fact k x.0 fact) (becomes_is facts facts' x.0 fact b) ∙ fun_ext (λ y. fun_ext (λ other. with_without (held_by facts) x.0 fact new y other))

pub back_none : (trail : List (NodeId × Fact)) (facts : List NodeFacts) → LeadsBack trail (length trail) facts facts
back_none trail facts = record { order = omega arith; size = refl; back = λ x fact. rw (drop-length trail) refl }

pub added_of : (facts : List NodeFacts) (trail : List (NodeId × Fact)) (facts' : List NodeFacts) (trail' : List (NodeId × Fact)) → Keeps facts trail facts' trail' → AreAdded (drop (length trail) trail') facts facts'
added_of facts trail facts' trail' k = trail_tells trail' (length trail) facts' facts (k.back (length trail) facts (back_none trail facts))

-- tallies of the facts with one more are those of the facts now
pub tallied_by : (net : Net) (facts facts' : List NodeFacts) (x : ℕ) (fact : Fact) (position : ℕ) (s : TallyState) → Becomes facts facts' (with_fact (held_by facts) x fact) → AreTallied net (with_fact (held_by facts) x fact) position s → AreTallied net (held_by facts') position s
tallied_by net facts facts' x fact position s b tallied = subst (λ h. AreTallied net h position s) (sym (becomes_is facts facts' x fact b)) tallied

-- where no gate was counted
pub tallied_none : (net : Net) (held : Held) (position : ℕ) (s : TallyState) → s.counted ≡ replicate (length s.counted) false → AreTallied net held position s
tallied_none net held position s none y seen = absurd (none_seen (length s.counted) y (subst (λ marks. IsSeen marks y) none seen))

-- THE WORKLIST
pub pending_more : (net : Net) (fault : Fault) (facts facts' : List NodeFacts) (worklist worklist' : List Bool) (y x : ℕ) (fact : Fact) → IsPendingBut net fault facts worklist y → Becomes facts facts' (with_fact (held_by facts) x fact) → Touches net worklist worklist' x → IsPendingBut net fault facts' worklist' y
pending_more net fault facts facts' worklist worklist' y x fact pending b t z = elim (pending z) [
  | inl is ↦ inl is
  | inr rest ↦ inr (elim rest [
    | inl on' ↦ inl (t.kept z on')
    | inr settled ↦ elim (eqb_tells z x) [
      | inl same ↦ inl (subst (IsSeen worklist') (sym same.1) t.itself)
      | inr ne ↦ elim (find (λ d. nat_eq d x) (drivers_of net z)) [
        | inl found ↦ inl (t.readers z found.0 (subst (λ w. Reads net z found.0 w) (eqb-true found.1.0 x found.1.1.1) found.1.1.0))
        | inr none ↦ inr (still_settled net fault facts facts' x fact b z ne.1 (λ p d reads. eqb_false d x (none p d reads)) settled)
      ]
    ]
  ])
]

pub pending_take : (net : Net) (fault : Fault) (facts : List NodeFacts) (worklist worklist' : List Bool) (d : ℕ) → IsPending net fault facts worklist → worklist' ≡ slice_set worklist d false → IsPendingBut net fault facts worklist' d
pending_take net fault facts worklist worklist' d pending is z = elim (eqb_tells z d) [
  | inl same ↦ inl same.1
  | inr ne ↦ inr (elim (pending z) [ inl on' ↦ inl (rw is (seen_stays worklist d z on' ne.1)) | inr settled ↦ inr settled ])
]

pub pending_settled : (net : Net) (fault : Fault) (facts : List NodeFacts) (worklist : List Bool) (y : ℕ) → IsPendingBut net fault facts worklist y → IsSettled net fault (held_by facts) y → IsPending net fault facts worklist
pending_settled net fault facts worklist y pending settled z = elim (pending z) [ inr rest ↦ rest | inl is ↦ inr (subst (IsSettled net fault (held_by facts)) (sym is) settled) ]

pub all_settled : (net : Net) (fault : Fault) (facts : List NodeFacts) (worklist : List Bool) → IsPending net fault facts worklist → ((z : ℕ) → IsSeen worklist z → ⊥) → (y : ℕ) → IsSettled net fault (held_by facts) y
all_settled net fault facts worklist pending none y = elim (pending y) [ inl on' ↦ absurd (none y on') | inr settled ↦ settled ]

times_suc : (a b : ℕ) → suc a * b ≡ b + a * b
times_suc a b = omega arith

pub less_than : {a b d : ℕ} → a < b → b ≤ d → a < d
less_than h k = omega arith

pub work_less : (facts facts' : List NodeFacts) (worklist worklist' : List Bool) → suc (missing facts') ≡ missing facts → length worklist' ≡ length worklist → work facts' worklist' < work facts worklist
work_less facts facts' worklist worklist' less same =
    let e : missing facts * suc (length worklist) ≡ suc (length worklist) + missing facts' * suc (length worklist) = ap (λ m. m * suc (length worklist)) (sym less) ∙ times_suc (missing facts') (suc (length worklist)) in
    let f : missing facts' * suc (length worklist') ≡ missing facts' * suc (length worklist) = ap (λ m. missing facts' * suc m) same in
    let few : seen_count worklist' ≤ length worklist' = count_within worklist' in
    omega arith

pub work_take : (facts : List NodeFacts) (worklist worklist' : List Bool) → length worklist' ≡ length worklist → seen_count worklist' < seen_count worklist → work facts worklist' < work facts worklist
work_take facts worklist worklist' same less =
    let f : missing facts * suc (length worklist') ≡ missing facts * suc (length worklist) = ap (λ m. missing facts * suc m) same in
    omega arith

-- WHAT THE WORK COMES TO
pub outcome_none : (net : Net) (fault : Fault) (facts : List NodeFacts) (worklist : List Bool) (o : Option NodeId) → o ≡ None → Outcome net fault facts worklist o → IsPending net fault facts worklist × IsClashFree (held_by facts)
outcome_none net fault facts worklist None e h = h
outcome_none net fault facts worklist (Some x) e h = cc

pub outcome_some : (net : Net) (fault : Fault) (facts : List NodeFacts) (worklist : List Bool) (o : Option NodeId) (x : NodeId) → o ≡ Some x → Outcome net fault facts worklist o → AreOpposed (held_by facts) x.0
outcome_some net fault facts worklist None x e h = cc
outcome_some net fault facts worklist (Some y) x e h = let same : y ≡ x = cc in subst (λ n. AreOpposed (held_by facts) n.0) same h

-- one fact more at the node
module _ (net : Net) (fault : Fault) (old : List NodeFacts) (old_lines : List Line) (old_trail : List (NodeId × Fact)) (old_worklist : List Bool) (facts : List NodeFacts) (lines : List Line) (trail : List (NodeId × Fact)) (worklist : List Bool) (y : ℕ) (s : Settling net fault old old_lines old_trail old_worklist facts lines trail worklist y) (f : Found) (fresh : IsFresh net fault facts f) (facts' : List NodeFacts) (lines' : List Line) (trail' : List (NodeId × Fact)) (holds : Holds facts lines facts' lines' f) (keeps : Keeps facts trail facts' trail') where
  pub settled_works : Works net fault old old_lines facts' lines'
  settled_works = works_join net fault old old_lines facts lines facts' lines' s.works (works_hold net fault facts lines facts' lines' f fresh.gives holds)

  pub settled_keeps : Keeps old old_trail facts' trail'
  settled_keeps = keeps_join old old_trail facts trail facts' trail' s.keeps keeps

  module _ (worklist' : List Bool) (t : Touches net worklist worklist' f.node.0) where
    pub settled_smaller : work facts' worklist' < work facts worklist
    settled_smaller = work_less facts facts' worklist worklist' holds.less t.size

    pub settled_less : work facts' worklist' ≤ work old old_worklist
    settled_less = let before : work facts worklist ≤ work old old_worklist = s.less in omega (arith, settled_smaller)

    pub settling_more : (AreOpposed (held_by facts') f.node.0 → ⊥) → Settling net fault old old_lines old_trail old_worklist facts' lines' trail' worklist' y
    settling_more here = record {
      works = settled_works;
      keeps = settled_keeps;
      pending = pending_more net fault facts facts' worklist worklist' y f.node.0 f.fact s.pending holds.facts t;
      free = free_more facts facts' f.node.0 f.fact s.free holds.facts here;
      less = settled_less;
      same = t.size ∙ s.same;
    }

pub not_opposed : (b : Bool) (facts : List NodeFacts) (x : ℕ) → b ≡ false → (IsTrue b ↔ AreOpposed (held_by facts) x) → AreOpposed (held_by facts) x → ⊥
not_opposed b facts x off tells opposed = let on' : b ≡ true = tells.1 opposed in cc

-- one stretch of work at the node after another
module _ (net : Net) (fault : Fault) (a : List NodeFacts) (a_lines : List Line) (a_trail : List (NodeId × Fact)) (a_worklist : List Bool) (b : List NodeFacts) (b_lines : List Line) (b_trail : List (NodeId × Fact)) (b_worklist : List Bool) (c : List NodeFacts) (c_lines : List Line) (c_trail : List (NodeId × Fact)) (c_worklist : List Bool) (y : ℕ) (first : Settling net fault a a_lines a_trail a_worklist b b_lines b_trail b_worklist y) where
  pub less_join : work c c_worklist ≤ work b b_worklist → work c c_worklist ≤ work a a_worklist
  less_join next = let before : work b b_worklist ≤ work a a_worklist = first.less in omega arith

  pub settling_join : Settling net fault b b_lines b_trail b_worklist c c_lines c_trail c_worklist y → Settling net fault a a_lines a_trail a_worklist c c_lines c_trail c_worklist y
  settling_join next = record {
    works = works_join net fault a a_lines b b_lines c c_lines first.works next.works;
    keeps = keeps_join a a_trail b b_trail c c_trail first.keeps next.keeps;
    pending = next.pending;
    free = next.free;
    less = less_join next.less;
    same = next.same ∙ first.same;
  }

  pub stops_join : (x : ℕ) → Stops net fault b b_lines b_worklist c c_lines c_worklist x → Stops net fault a a_lines a_worklist c c_lines c_worklist x
  stops_join x next = record {
    works = works_join net fault a a_lines b b_lines c c_lines first.works next.works;
    less = less_join next.less;
    opposed = next.opposed;
  }

pub sweeps_none : (net : Net) (fault : Fault) (a : List NodeFacts) (a_lines : List Line) (a_trail : List (NodeId × Fact)) (a_worklist : List Bool) (b : List NodeFacts) (b_lines : List Line) (b_trail : List (NodeId × Fact)) (b_worklist : List Bool) (y : ℕ) (o : Option NodeId) → o ≡ None → Sweeps net fault a a_lines a_trail a_worklist b b_lines b_trail b_worklist y o → Settling net fault a a_lines a_trail a_worklist b b_lines b_trail b_worklist y
sweeps_none net fault a a_lines a_trail a_worklist b b_lines b_trail b_worklist y None e h = h
sweeps_none net fault a a_lines a_trail a_worklist b b_lines b_trail b_worklist y (Some x) e h = cc

pub sweeps_some : (net : Net) (fault : Fault) (a : List NodeFacts) (a_lines : List Line) (a_trail : List (NodeId × Fact)) (a_worklist : List Bool) (b : List NodeFacts) (b_lines : List Line) (b_trail : List (NodeId × Fact)) (b_worklist : List Bool) (y : ℕ) (o : Option NodeId) (x : NodeId) → o ≡ Some x → Sweeps net fault a a_lines a_trail a_worklist b b_lines b_trail b_worklist y o → Stops net fault a a_lines a_worklist b b_lines b_worklist x.0
sweeps_some net fault a a_lines a_trail a_worklist b b_lines b_trail b_worklist y None x e h = cc
sweeps_some net fault a a_lines a_trail a_worklist b b_lines b_trail b_worklist y (Some z) x e h = let same : z ≡ x = cc in subst (λ (n : NodeId). Stops net fault a a_lines a_worklist b b_lines b_worklist n.0) same h

pub fresh_within : (net : Net) (fault : Fault) (old : List NodeFacts) (old_trail : List (NodeId × Fact)) (facts : List NodeFacts) (trail : List (NodeId × Fact)) (f : Found) → length net.nodes ≤ length old → Keeps old old_trail facts trail → IsFresh net fault facts f → f.node.0 < length facts
fresh_within net fault old old_trail facts trail f size k fresh =
    let below : f.node.0 < length net.nodes = kind_live net f.node.0 fresh.live in
    let same : length facts ≡ length old = k.size in
    omega arith
