-- The lines that ask for no facts.
use Rattle.std.proofs.Common.{List, None, Option, Some, arith, inl, inr, length, refl, subst, sym, ℕ, ◌+◌, ◌<◌, ◌∙◌, ◌≡◌, ◌≤◌}
use Rattle.std.proofs.lemmas.Bool.{cases_lt}
use Rattle.std.proofs.lemmas.Bool.Decides.{eqb_tells}
use Rattle.std.specs.Prelude.{Err, IfOk, IsTrue, Ok, Result, slice_get}
use Rattle.gate_net.specs.Net.{IsAcyclic, IsLive, Net, drivers_of}
use Rattle.implications.specs.Beginning.{node_of}
use Rattle.implications.specs.Inner.Beginning.{AreDoneAtFault, AreDoneOnChain, AreDoneOutside, Chaining, Gives, GivingOut}
use Rattle.implications.specs.Settled.{IsSettled, place_of}
use Rattle.implications.specs.Inner.Settled.{HasFirst, IsDone}
use Rattle.implications.specs.Inner.Working.{Keeps, Works}
use Rattle.implications.proofs.Steps.{keeps_join, works_join}
use Rattle.refutation.specs.Answers.{GoesOnTo, IsAnswer}
use Rattle.refutation.specs.Closing.{IsClashFree, IsClosedUnderLines, IsWithin}
use Rattle.refutation.specs.FactSets.{Becomes, held_by}
use Rattle.refutation.specs.Facts.{AreOpposed, Held, with_fact}
use Rattle.refutation.proofs.Public.{kind_live, walk_ends, walk_goes_on, walk_live, walk_short, walk_starts, with_there}
use Rattle.refutation.specs.Lines.{Concludes}
use Rattle.refutation.specs.Walks.{Walks}
use Rattle.refutation.specs.declared.held.NodeFacts.{NodeFacts}
use Rattle.refutation.specs.declared.reasoning.Fact.{Fact}
use Rattle.refutation.specs.declared.reasoning.Fact.TheVariants.{Differs}
use Rattle.refutation.specs.declared.reasoning.Line.{Line}
use Rattle.refutation.specs.declared.reasoning.Line.TheVariants.{Act, Chain, Compare, Constant, DiffersBack, EqualForward, FaultyBack, FaultyForward, GoodBack, GoodForward, NotDiffers, NotEqual, Out, Side, Site, ToFaulty, ToGood}
use Rattle.rm_base.specs.declared.numbers.Fault.{Fault}
use Rattle.rm_base.specs.declared.numbers.NodeId.{NodeId}

-- ONE LINE
-- a line without a place gives one fact, whatever is held
pub first_unique : (net : Net) (fault : Fault) (held other : Held) (l : Line) (x y : ℕ) (fact fact' : Fact) → place_of l ≡ None → Concludes net fault held l x fact → Concludes net fault other l y fact' → (y ≡ x) × (fact' ≡ fact)
first_unique net fault held other Act x y fact fact' e h k = let hx : slice_get (drivers_of net fault.gate.0) fault.position ≡ Some x = h.0 in let ky : slice_get (drivers_of net fault.gate.0) fault.position ≡ Some y = k.0 in (cc, k.1 ∙ sym h.1)
first_unique net fault held other Site x y fact fact' e h k = (k.0 ∙ sym h.0, k.1 ∙ sym h.1)
first_unique net fault held other (Chain z) x y fact fact' e h k = (k.1 ∙ sym h.1, k.2 ∙ sym h.2)
first_unique net fault held other (Out z) x y fact fact' e h k = (k.3 ∙ sym h.3, k.4 ∙ sym h.4)
first_unique net fault held other (Constant z) x y fact fact' e h k = cc
first_unique net fault held other (GoodForward z) x y fact fact' e h k = cc
first_unique net fault held other (GoodBack z q) x y fact fact' e h k = cc
first_unique net fault held other (Compare z) x y fact fact' e h k = cc
first_unique net fault held other (FaultyForward z) x y fact fact' e h k = cc
first_unique net fault held other (FaultyBack z q) x y fact fact' e h k = cc
first_unique net fault held other (ToFaulty z) x y fact fact' e h k = cc
first_unique net fault held other (ToGood z) x y fact fact' e h k = cc
first_unique net fault held other (NotDiffers z) x y fact fact' e h k = cc
first_unique net fault held other (NotEqual z) x y fact fact' e h k = cc
first_unique net fault held other (EqualForward z) x y fact fact' e h k = cc
first_unique net fault held other (DiffersBack z q) x y fact fact' e h k = cc
first_unique net fault held other (Side z q) x y fact fact' e h k = cc

first_any : (net : Net) (fault : Fault) (held other : Held) (l : Line) (x : ℕ) (fact : Fact) → place_of l ≡ None → Concludes net fault held l x fact → Concludes net fault other l x fact
first_any net fault held other Act x fact e h = h
first_any net fault held other Site x fact e h = h
first_any net fault held other (Chain z) x fact e h = h
first_any net fault held other (Out z) x fact e h = h
first_any net fault held other (Constant z) x fact e h = cc
first_any net fault held other (GoodForward z) x fact e h = cc
first_any net fault held other (GoodBack z q) x fact e h = cc
first_any net fault held other (Compare z) x fact e h = cc
first_any net fault held other (FaultyForward z) x fact e h = cc
first_any net fault held other (FaultyBack z q) x fact e h = cc
first_any net fault held other (ToFaulty z) x fact e h = cc
first_any net fault held other (ToGood z) x fact e h = cc
first_any net fault held other (NotDiffers z) x fact e h = cc
first_any net fault held other (NotEqual z) x fact e h = cc
first_any net fault held other (EqualForward z) x fact e h = cc
first_any net fault held other (DiffersBack z q) x fact e h = cc
first_any net fault held other (Side z q) x fact e h = cc

-- a line without a place that is done stays done
pub done_stays : (net : Net) (fault : Fault) (facts facts' : List NodeFacts) (l : Line) → place_of l ≡ None → IsWithin (held_by facts) (held_by facts') → IsDone net fault facts l → IsDone net fault facts' l
done_stays net fault facts facts' l e within done x fact h = within x fact (done x fact (first_any net fault (held_by facts') (held_by facts) l x fact e h))

-- its fact is held
pub done_held : (net : Net) (fault : Fault) (facts : List NodeFacts) (l : Line) (x : ℕ) (fact : Fact) → Concludes net fault (held_by facts) l x fact → IsTrue (held_by facts x fact) → place_of l ≡ None → IsDone net fault facts l
done_held net fault facts l x fact concludes there e y other h =
    let same : (y ≡ x) × (other ≡ fact) = first_unique net fault (held_by facts) (held_by facts) l x y fact other e concludes h in
    rw (same.0, same.1) there

-- its fact was just added
pub done_added : (net : Net) (fault : Fault) (facts facts' : List NodeFacts) (l : Line) (x : ℕ) (fact : Fact) → Concludes net fault (held_by facts) l x fact → Becomes facts facts' (with_fact (held_by facts) x fact) → place_of l ≡ None → IsDone net fault facts' l
done_added net fault facts facts' l x fact concludes b e = done_held net fault facts' l x fact (first_any net fault (held_by facts) (held_by facts') l x fact e concludes) (b.facts x fact ∙ with_there (held_by facts) x fact) e

pub answer_some : (net : Net) (fault : Fault) (held : Held) (l : Line) (o : Option (NodeId × Fact)) (r : NodeId × Fact) → o ≡ Some r → IsAnswer net fault held l o → Concludes net fault held l r.0.0 r.1
answer_some net fault held l o r e h = let at : IsAnswer net fault held l (Some r) = rw e at h in at

pub answer_none : (net : Net) (fault : Fault) (facts : List NodeFacts) (l : Line) (o : Option (NodeId × Fact)) → o ≡ None → IsAnswer net fault (held_by facts) l o → IsDone net fault facts l
answer_none net fault facts l o e h x fact concludes = let at : IsAnswer net fault (held_by facts) l None = rw e at h in absurd (at x fact concludes)

pub gives_none : (facts : List NodeFacts) (P : Type 0) (o : Option NodeId) → o ≡ None → Gives facts P o → IsClashFree (held_by facts) × P
gives_none facts P None e h = h
gives_none facts P (Some x) e h = cc

pub gives_some : (facts : List NodeFacts) (P : Type 0) (o : Option NodeId) (x : NodeId) → o ≡ Some x → Gives facts P o → AreOpposed (held_by facts) x.0
gives_some facts P None x e h = cc
gives_some facts P (Some y) x e h = let same : y ≡ x = cc in subst (λ (n : NodeId). AreOpposed (held_by facts) n.0) same h

-- what holds besides
pub gives_more : (facts : List NodeFacts) (P Q : Type 0) (o : Option NodeId) → (P → Q) → Gives facts P o → Gives facts Q o
gives_more facts P Q None f h = (h.0, f h.1)
gives_more facts P Q (Some x) f h = h

-- THE CHAIN
pub chaining_first : (net : Net) (fault : Fault) (facts : List NodeFacts) (lines : List Line) (trail : List (NodeId × Fact)) → Works net fault facts lines facts lines → Keeps facts trail facts trail → IsClashFree (held_by facts) → Chaining net fault facts lines trail facts lines trail fault.gate.0 0
chaining_first net fault facts lines trail works keeps free = record {
  works = works;
  keeps = keeps;
  free = free;
  long = walk_starts net fault.gate.0 (length net.nodes);
  each = λ z. inr (walk_starts net fault.gate.0 z);
}

pub chain_gives : (net : Net) (fault : Fault) (held : Held) (count : ℕ) (node : NodeId) → Walks net fault.gate.0 (length net.nodes) node.0 count → IsAnswer net fault held (Chain node) (Some (node, Differs))
chain_gives net fault held count node w = ((w.before, w.chain), refl, refl)

module _ (net : Net) (fault : Fault) (old : List NodeFacts) (old_lines : List Line) (old_trail : List (NodeId × Fact)) (facts : List NodeFacts) (lines : List Line) (trail : List (NodeId × Fact)) (node : NodeId) (count : ℕ) (live : IsLive net fault.gate.0) (c : Chaining net fault old old_lines old_trail facts lines trail node.0 count) (facts' : List NodeFacts) (lines' : List Line) (trail' : List (NodeId × Fact)) (works : Works net fault facts lines facts' lines') (keeps : Keeps facts trail facts' trail') (free : IsClashFree (held_by facts')) (here : IsDone net fault facts' (Chain node)) where
  chain_here : (z : ℕ) → node.0 ≡ z → IsDone net fault facts' (Chain (node_of z))
  chain_here z is = subst (λ n. IsDone net fault facts' (Chain (node_of n))) is here

  chain_done : (z : ℕ) → IsDone net fault facts (Chain (node_of z)) → IsDone net fault facts' (Chain (node_of z))
  chain_done z done = done_stays net fault facts facts' (Chain (node_of z)) refl keeps.more done

  pub chaining_more : (next : ℕ) → GoesOnTo net node.0 next → Chaining net fault old old_lines old_trail facts' lines' trail' next (count + 1)
  chaining_more next goes = record {
    works = works_join net fault old old_lines facts lines facts' lines' c.works works;
    keeps = keeps_join old old_trail facts trail facts' trail' c.keeps keeps;
    free = free;
    long = walk_goes_on net fault.gate.0 (length net.nodes) node.0 count next c.long (λ e. let below : node.0 < length net.nodes = kind_live net node.0 (walk_live net fault.gate.0 (length net.nodes) node.0 count live c.long) in omega arith) goes;
    each = λ z. elim (c.each z) [
      | inl done ↦ inl (chain_done z done)
      | inr walk ↦ elim (eqb_tells node.0 z) [
        | inl same ↦ inl (chain_here z same.1)
        | inr ne ↦ inr (walk_goes_on net fault.gate.0 z node.0 count next walk ne.1 goes)
      ]
    ];
  }

  pub chaining_ends : ((y : ℕ) → GoesOnTo net node.0 y → ⊥) → AreDoneOnChain net fault facts'
  chaining_ends ends z = elim (c.each z.0) [
    | inl done ↦ chain_done z.0 done
    | inr walk ↦ elim (eqb_tells node.0 z.0) [
      | inl same ↦ chain_here z.0 same.1
      | inr ne ↦ λ x fact h. absurd (walk_ends net fault.gate.0 z.0 node.0 count walk ne.1 ends h.0)
    ]
  ]

pub chain_short : (net : Net) (fault : Fault) (old : List NodeFacts) (old_lines : List Line) (old_trail : List (NodeId × Fact)) (facts : List NodeFacts) (lines : List Line) (trail : List (NodeId × Fact)) (at : ℕ) → IsAcyclic net → IsLive net fault.gate.0 → Chaining net fault old old_lines old_trail facts lines trail at (length net.nodes) → ⊥
chain_short net fault old old_lines old_trail facts lines trail at acyclic live c = walk_short net fault.gate.0 (length net.nodes) at (length net.nodes) acyclic live (omega arith) c.long

-- OUTSIDE
pub outside_first : (net : Net) (fault : Fault) (facts : List NodeFacts) (lines : List Line) (trail : List (NodeId × Fact)) → Works net fault facts lines facts lines → Keeps facts trail facts trail → IsClashFree (held_by facts) → GivingOut net fault 0 facts lines trail facts lines trail
outside_first net fault facts lines trail works keeps free = record { works = works; keeps = keeps; free = free; done = λ z below. absurd (omega arith) }

pub outside_more : (net : Net) (fault : Fault) (number : ℕ) (old : List NodeFacts) (old_lines : List Line) (old_trail : List (NodeId × Fact)) (facts : List NodeFacts) (lines : List Line) (trail : List (NodeId × Fact)) (facts' : List NodeFacts) (lines' : List Line) (trail' : List (NodeId × Fact)) → GivingOut net fault number old old_lines old_trail facts lines trail → Works net fault facts lines facts' lines' → Keeps facts trail facts' trail' → IsClashFree (held_by facts') → IsDone net fault facts' (Out (node_of number)) → GivingOut net fault (number + 1) old old_lines old_trail facts' lines' trail'
outside_more net fault number old old_lines old_trail facts lines trail facts' lines' trail' g works keeps free here = record {
  works = works_join net fault old old_lines facts lines facts' lines' g.works works;
  keeps = keeps_join old old_trail facts trail facts' trail' g.keeps keeps;
  free = free;
  done = λ z below. elim (cases_lt z number) [
    | inl before ↦ done_stays net fault facts facts' (Out (node_of z)) refl keeps.more (g.done z before)
    | inr last ↦ let is : number ≡ z = omega arith in subst (λ n. IsDone net fault facts' (Out (node_of n))) is here
  ];
}

pub outside_ends : (net : Net) (fault : Fault) (number : ℕ) (old : List NodeFacts) (old_lines : List Line) (old_trail : List (NodeId × Fact)) (facts : List NodeFacts) (lines : List Line) (trail : List (NodeId × Fact)) → GivingOut net fault number old old_lines old_trail facts lines trail → length net.nodes ≤ number → AreDoneOutside net fault facts
outside_ends net fault number old old_lines old_trail facts lines trail g all z x fact h =
    let is : x ≡ z.0 = h.3 in
    let below : x < length net.nodes = kind_live net x h.0 in
    g.done z.0 (omega arith) x fact h

-- ALL OF THEM
pub has_first : (net : Net) (fault : Fault) (facts : List NodeFacts) → AreDoneAtFault net fault facts → AreDoneOnChain net fault facts → AreDoneOutside net fault facts → HasFirst net fault (held_by facts)
has_first net fault facts a b d Act x fact e h = a.0 x fact h
has_first net fault facts a b d Site x fact e h = a.1 x fact h
has_first net fault facts a b d (Chain z) x fact e h = b z x fact h
has_first net fault facts a b d (Out z) x fact e h = d z x fact h
has_first net fault facts a b d (Constant z) x fact e h = cc
has_first net fault facts a b d (GoodForward z) x fact e h = cc
has_first net fault facts a b d (GoodBack z q) x fact e h = cc
has_first net fault facts a b d (Compare z) x fact e h = cc
has_first net fault facts a b d (FaultyForward z) x fact e h = cc
has_first net fault facts a b d (FaultyBack z q) x fact e h = cc
has_first net fault facts a b d (ToFaulty z) x fact e h = cc
has_first net fault facts a b d (ToGood z) x fact e h = cc
has_first net fault facts a b d (NotDiffers z) x fact e h = cc
has_first net fault facts a b d (NotEqual z) x fact e h = cc
has_first net fault facts a b d (EqualForward z) x fact e h = cc
has_first net fault facts a b d (DiffersBack z q) x fact e h = cc
has_first net fault facts a b d (Side z q) x fact e h = cc

pub at_fault_stays : (net : Net) (fault : Fault) (facts facts' : List NodeFacts) → IsWithin (held_by facts) (held_by facts') → AreDoneAtFault net fault facts → AreDoneAtFault net fault facts'
at_fault_stays net fault facts facts' within a = (done_stays net fault facts facts' Act refl within a.0, done_stays net fault facts facts' Site refl within a.1)

pub on_chain_stays : (net : Net) (fault : Fault) (facts facts' : List NodeFacts) → IsWithin (held_by facts) (held_by facts') → AreDoneOnChain net fault facts → AreDoneOnChain net fault facts'
on_chain_stays net fault facts facts' within b z = done_stays net fault facts facts' (Chain z) refl within (b z)

pub outside_stays : (net : Net) (fault : Fault) (facts facts' : List NodeFacts) → IsWithin (held_by facts) (held_by facts') → AreDoneOutside net fault facts → AreDoneOutside net fault facts'
outside_stays net fault facts facts' within d z = done_stays net fault facts facts' (Out z) refl within (d z)

pub first_more : (net : Net) (fault : Fault) (held held' : Held) → IsWithin held held' → HasFirst net fault held → HasFirst net fault held'
first_more net fault held held' within first l x fact e h = within x fact (first l x fact e (first_any net fault held' held l x fact e h))

-- CLOSED
pub closed_all : (net : Net) (fault : Fault) (held : Held) → HasFirst net fault held → ((y : ℕ) → IsSettled net fault held y) → IsClosedUnderLines net fault held
closed_all net fault held first settled l x fact h = at (place_of l) refl
  where
    at : (o : Option ℕ) → place_of l ≡ o → IsTrue (held x fact)
    at None e = first l x fact e h
    at (Some y) e = settled y l x fact e h

pub closed_first : (net : Net) (fault : Fault) (held : Held) → IsClosedUnderLines net fault held → HasFirst net fault held
closed_first net fault held closed l x fact e h = closed l x fact h

pub closed_settled : (net : Net) (fault : Fault) (held : Held) → IsClosedUnderLines net fault held → (y : ℕ) → IsSettled net fault held y
closed_settled net fault held closed y l x fact e h = closed l x fact h

pub gives_ok : {E : Type 0} (facts : List NodeFacts) (P Q : Type 0) (r : Result (Option NodeId) E) → (P → Q) → IfOk r (Gives facts P) → IfOk r (Gives facts Q)
gives_ok facts P Q (Ok o) f h = gives_more facts P Q o f h
gives_ok facts P Q (Err e) f h = h
