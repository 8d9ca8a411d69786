-- A basis that follows a net that changes.
use Rattle.std.proofs.Common.{List, None, Option, Some, [], ap, arith, inl, inr, length, map, refl, subst, suc, sym, true, false, Bool, zero, ℕ, ◌++◌, ◌+◌, ◌<◌, ◌∙◌, ◌∷◌, ◌≡◌, ◌≢◌, ◌≤◌, ◌↔◌}
use Rattle.std.proofs.lemmas.Bool.{cases_lt}
use Rattle.std.proofs.lemmas.Bool.Decides.{eqb_tells}
use Rattle.std.proofs.lemmas.Option.{slice_get_within}
use Rattle.std.specs.Option.{is_some}
use Rattle.std.specs.Prelude.{IsTrue, slice_get, ◌⊎◌}
use Rattle.gate_net.specs.Edits.{IsSameBut}
use Rattle.gate_net.specs.Net.{IsLive, Net, drivers_in, kind_in, kind_of, node_at}
use Rattle.gate_net.specs.declared.Kind.{Kind}
use Rattle.implications.proofs.Bases.{listed_kept, listed_last, without_left, without_stays}
use Rattle.implications.proofs.Trails.{held_past}
use Rattle.implications.specs.Bases.{ArePinless, IsListed, IsRest}
use Rattle.implications.specs.Inner.Bases.{IsRefitted}
use Rattle.implications.specs.Outside.{IsPinless}
use Rattle.refutation.proofs.Public.{kind_is, kind_live, with_cases, with_more, with_there}
use Rattle.refutation.specs.FactSets.{Becomes, held_by}
use Rattle.refutation.specs.Facts.{with_fact, without_fact}
use Rattle.refutation.specs.declared.held.NodeFacts.{NodeFacts}
use Rattle.refutation.specs.declared.reasoning.Fact.{Fact}
use Rattle.refutation.specs.declared.reasoning.Fact.TheVariants.{Differs, Equal, Faulty, Good}
use Rattle.rm_base.specs.declared.numbers.NodeId.{NodeId}
use Rattle.rm_base.proofs.Public.{last_cases, map_found, stands_or_not}

-- ONE NODE
pub is_there : (net : Net) (y : ℕ) (o : Option Kind) (b : Bool) → o ≡ kind_of net y → b ≡ is_some o → b ≡ true → IsLive net y
is_there net y None b is e on = cc
is_there net y (Some kind) b is e on = (kind, kind_is net y kind is)

pub is_dead : (net : Net) (y : ℕ) (o : Option Kind) (b : Bool) → o ≡ kind_of net y → b ≡ is_some o → b ≡ false → IsLive net y → ⊥
is_dead net y None b is e off (kind, (drivers, there)) = let known : kind_of net y ≡ Some kind = ap kind_in there in cc
is_dead net y (Some kind) b is e off live = cc

pub refits_live : (net : Net) (node : ℕ) (facts facts' : List NodeFacts) → IsLive net node → Becomes facts facts' (with_fact (held_by facts) node Equal) → IsRefitted net node facts facts'
refits_live net node facts facts' live is = record {
  here = (λ e. live, λ l. is.facts node Equal ∙ with_there (held_by facts) node Equal);
  others = λ x fact ne. (
    λ e. elim (with_cases (held_by facts) node Equal x fact (sym (is.facts x fact) ∙ e)) [ inl same ↦ absurd (ne same) | inr before ↦ before ],
    λ e. is.facts x fact ∙ with_more (held_by facts) node Equal x fact e,
  );
}

pub refits_dead : (net : Net) (node : ℕ) (facts facts' : List NodeFacts) → (IsLive net node → ⊥) → Becomes facts facts' (without_fact (held_by facts) node Equal) → IsRefitted net node facts facts'
refits_dead net node facts facts' dead is = record {
  here = (λ e. absurd ((without_left (held_by facts) node Equal node Equal (sym (is.facts node Equal) ∙ e)).1 (refl, refl)), λ l. absurd (dead l));
  others = λ x fact ne. (
    λ e. (without_left (held_by facts) node Equal x fact (sym (is.facts x fact) ∙ e)).0,
    λ e. is.facts x fact ∙ without_stays (held_by facts) node Equal x fact e (λ same. ne (same.1, same.0)),
  );
}

pub refits_past : (net : Net) (node : ℕ) (facts : List NodeFacts) → length net.nodes ≤ length facts → length facts ≤ node → IsRefitted net node facts facts
refits_past net node facts room past = record {
  here = (λ e. (let off : held_by facts node Equal ≡ false = held_past facts node Equal past in cc), λ l. let low : node < length net.nodes = kind_live net node l in absurd (omega (arith, low, room, past)));
  others = λ x fact ne. (λ e. e, λ e. e);
}

-- ALL NODES
-- of the first numbers of the list, what is live on the later net is equal; of the others, what was live before
pub record Refits (before net : Net) (xs : List ℕ) (i : ℕ) (facts : List NodeFacts) : Type 0 where
  pub only : (x : ℕ) (fact : Fact) → IsTrue (held_by facts x fact) → fact ≡ Equal
  pub done : (k x : ℕ) → k < i → slice_get xs k ≡ Some x → IsTrue (held_by facts x Equal) ↔ IsLive net x
  pub ahead : (x : ℕ) → ((k : ℕ) → k < i → slice_get xs k ≡ Some x → ⊥) → IsTrue (held_by facts x Equal) ↔ IsLive before x

pub refits_first : (before net : Net) (xs : List ℕ) (facts : List NodeFacts) → IsRest before (held_by facts) → Refits before net xs 0 facts
refits_first before net xs facts rest = record {
  only = λ x fact e. ((rest x fact).0 e).1;
  done = λ k x low there. absurd (none k low);
  ahead = λ x ne. (λ e. ((rest x Equal).0 e).0, λ live. (rest x Equal).1 (live, refl));
}
  where
    none : (k : ℕ) → k < 0 → ⊥
    none k low = omega arith

only_equal : (facts facts' : List NodeFacts) (d : ℕ) → ((x : ℕ) (fact : Fact) → ((x ≡ d) × (fact ≡ Equal) → ⊥) → IsTrue (held_by facts' x fact) ↔ IsTrue (held_by facts x fact)) → ((x : ℕ) (fact : Fact) → IsTrue (held_by facts x fact) → fact ≡ Equal) → (x : ℕ) (fact : Fact) → IsTrue (held_by facts' x fact) → fact ≡ Equal
only_equal facts facts' d others only x Equal e = refl
only_equal facts facts' d others only x Differs e = only x Differs ((others x Differs (λ h. let wrong = h.1 in cc)).0 e)
only_equal facts facts' d others only x (Good b) e = only x (Good b) ((others x (Good b) (λ h. let wrong = h.1 in cc)).0 e)
only_equal facts facts' d others only x (Faulty b) e = only x (Faulty b) ((others x (Faulty b) (λ h. let wrong = h.1 in cc)).0 e)

pub refits_next : (before net : Net) (xs : List ℕ) (i d : ℕ) (facts facts' : List NodeFacts) → slice_get xs i ≡ Some d → IsRefitted net d facts facts' → Refits before net xs i facts → Refits before net xs (i + 1) facts'
refits_next before net xs i d facts facts' at step r = record {
  only = only_equal facts facts' d step.others r.only;
  done = λ k x low there. elim (eqb_tells x d) [
    | inl same ↦ subst (λ (y : ℕ). IsTrue (held_by facts' y Equal) ↔ IsLive net y) (sym same.1) step.here
    | inr other ↦ elim (cases_lt k i) [
      | inl less ↦ (λ e. (r.done k x less there).0 ((step.others x Equal (λ h. other.1 h.0)).0 e), λ l. (step.others x Equal (λ h. other.1 h.0)).1 ((r.done k x less there).1 l))
      | inr more ↦ absurd (other.1 (last k x low more there))
    ]
  ];
  ahead = λ x ne.
      let other : x ≢ d = λ same. ne i (let less : i < i + 1 = omega arith in less) (at ∙ ap Some (sym same)) in
      let rest = r.ahead x (λ k low there. ne k (let less : k < i + 1 = omega (arith, low) in less) there) in
      (λ e. rest.0 ((step.others x Equal (λ h. other h.0)).0 e), λ l. (step.others x Equal (λ h. other h.0)).1 (rest.1 l));
}
  where
    last : (k x : ℕ) → k < i + 1 → i ≤ k → slice_get xs k ≡ Some x → x ≡ d
    last k x low more there =
        let is : k ≡ i = omega (arith, low, more) in
        let both : Some x ≡ Some d = sym there ∙ ap (slice_get xs) is ∙ at in
        cc

pub number_at : (nodes : List NodeId) (k : ℕ) (n : NodeId) → slice_get nodes k ≡ Some n → slice_get (map (λ (n : NodeId). n.0) nodes) k ≡ Some n.0
number_at [] k n there = cc
number_at (m ∷ nodes) zero n there = let is : m ≡ n = cc in ap (λ (a : NodeId). Some a.0) is
number_at (m ∷ nodes) (suc k) n there = number_at nodes k n there

same_live : (before net : Net) (x : ℕ) → node_at net x ≡ node_at before x → IsLive before x → IsLive net x
same_live before net x same live = (live.0, (live.1.0, same ∙ live.1.1))

pub refits_all : (before net : Net) (xs : List ℕ) (i : ℕ) (facts : List NodeFacts) → length xs ≤ i → IsSameBut before net xs → Refits before net xs i facts → IsRest net (held_by facts)
refits_all before net xs i facts end same r x fact = (
  λ e. (subst (λ (f : Fact). IsTrue (held_by facts x f) → IsLive net x) (sym (r.only x fact e)) (λ h. at.0 h) e, r.only x fact e),
  λ h. subst (λ (f : Fact). IsTrue (held_by facts x f)) (sym h.1) (at.1 h.0),
)
  where
    at : IsTrue (held_by facts x Equal) ↔ IsLive net x
    at = elim (stands_or_not xs x) [
      | inl there ↦ (let within : there.0 < length xs = slice_get_within xs there.0 x there.1 in r.done there.0 x (omega (arith, within, end)) there.1)
      | inr none ↦ (let rest = r.ahead x (λ k low there. none k there) in (λ e. same_live before net x (same x none) (rest.0 e), λ l. rest.1 (same_live net before x (sym (same x none)) l)))
    ]

-- THE GATES WITHOUT PINS
pub listed_here : (xs : List NodeId) (x : NodeId) (y : ℕ) → y ≡ x.0 → IsListed (xs ++ x ∷ []) y
listed_here xs x y same = subst (IsListed (xs ++ x ∷ [])) (sym same) (listed_last xs x)

pub below_more : (xs : List NodeId) (x : NodeId) (bound : ℕ) → ((k : ℕ) (n : NodeId) → slice_get xs k ≡ Some n → n.0 < bound) → x.0 < bound → (k : ℕ) (n : NodeId) → slice_get (xs ++ x ∷ []) k ≡ Some n → n.0 < bound
below_more xs x bound below low k n there = elim (last_cases xs x k n there) [
  | inl before ↦ below k n before
  | inr same ↦ subst (λ (m : NodeId). m.0 < bound) (sym same) low
]

pub pinless_low : (net : Net) (x : ℕ) → IsPinless net x → x < length net.nodes
pinless_low net x pinless = kind_live net x (pinless.0.0, pinless.0.1.0)

-- of the first nodes, those that are gates without pins are listed, and nothing is listed that isn't live but what was
pub record ListsFirst (net : Net) (nodes : List NodeId) (i : ℕ) (old new : List NodeId) : Type 0 where
  pub all : (k : ℕ) (n : NodeId) → k < i → slice_get nodes k ≡ Some n → IsPinless net n.0 → IsListed new n.0
  pub kept : (y : ℕ) → IsListed old y → IsListed new y
  pub below : (k : ℕ) (n : NodeId) → slice_get new k ≡ Some n → n.0 < length net.nodes

pub lists_first : (net : Net) (nodes old : List NodeId) → ((k : ℕ) (n : NodeId) → slice_get old k ≡ Some n → n.0 < length net.nodes) → ListsFirst net nodes 0 old old
lists_first net nodes old below = record { all = λ k n low there p. absurd (none k low); kept = λ y listed. listed; below = below }
  where
    none : (k : ℕ) → k < 0 → ⊥
    none k low = omega arith

here_or : (nodes : List NodeId) (i k : ℕ) (d n : NodeId) → slice_get nodes i ≡ Some d → k < i + 1 → slice_get nodes k ≡ Some n → (k < i) ⊎ (n ≡ d)
here_or nodes i k d n at low there = elim (cases_lt k i) [
  | inl less ↦ inl less
  | inr more ↦ (let is : k ≡ i = omega (arith, low, more) in let both : Some n ≡ Some d = sym there ∙ ap (slice_get nodes) is ∙ at in inr cc)
]

pub lists_skip : (net : Net) (nodes : List NodeId) (i : ℕ) (d : NodeId) (old new : List NodeId) → slice_get nodes i ≡ Some d → (IsPinless net d.0 → ⊥) → ListsFirst net nodes i old new → ListsFirst net nodes (i + 1) old new
lists_skip net nodes i d old new at off l = record {
  all = λ k n low there p. elim (here_or nodes i k d n at low there) [
    | inl less ↦ l.all k n less there p
    | inr same ↦ absurd (off (subst (λ (m : NodeId). IsPinless net m.0) same p))
  ];
  kept = l.kept;
  below = l.below;
}

pub lists_push : (net : Net) (nodes : List NodeId) (i : ℕ) (d : NodeId) (old new new' : List NodeId) → slice_get nodes i ≡ Some d → IsPinless net d.0 → new' ≡ new ++ d ∷ [] → ListsFirst net nodes i old new → ListsFirst net nodes (i + 1) old new'
lists_push net nodes i d old new new' at on is l = rw is (record {
  all = λ k n low there p. elim (here_or nodes i k d n at low there) [
    | inl less ↦ listed_kept new d n.0 (l.all k n less there p)
    | inr same ↦ listed_here new d n.0 (ap (λ (m : NodeId). m.0) same)
  ];
  kept = λ y listed. listed_kept new d y (l.kept y listed);
  below = below_more new d (length net.nodes) l.below (pinless_low net d.0 on);
})

pub lists_all : (net : Net) (nodes : List NodeId) (i : ℕ) (old new : List NodeId) → length nodes ≤ i → ListsFirst net nodes i old new → (y : ℕ) → IsListed nodes y → IsPinless net y → IsListed new y
lists_all net nodes i old new end l y listed p =
    let within : listed.0 < length nodes = slice_get_within nodes listed.0 listed.1.0 listed.1.1.0 in
    subst (IsListed new) listed.1.1.1 (l.all listed.0 listed.1.0 (omega (arith, within, end)) listed.1.1.0 (subst (IsPinless net) (sym listed.1.1.1) p))

same_pinless : (before net : Net) (y : ℕ) → node_at net y ≡ node_at before y → IsPinless net y → IsPinless before y
same_pinless before net y same p = ((p.0.0, ((p.0.1.0.0, sym same ∙ p.0.1.0.1), p.0.1.1)), ap drivers_in (sym same) ∙ p.1)

-- those that were listed before and still are such, and those among the changed nodes, are all
pub pinless_all : (before net : Net) (nodes old mid new : List NodeId) → IsSameBut before net (map (λ (n : NodeId). n.0) nodes) → ArePinless before old
    → ((y : ℕ) → IsListed old y → IsPinless net y → IsListed mid y) → ((y : ℕ) → IsListed mid y → IsListed new y)
    → ((y : ℕ) → IsListed nodes y → IsPinless net y → IsListed new y)
    → ((k : ℕ) (n : NodeId) → slice_get new k ≡ Some n → n.0 < length net.nodes) → ArePinless net new
pinless_all before net nodes old mid new same are first kept second below = record {
  all = λ y p. elim (stands_or_not (map (λ (n : NodeId). n.0) nodes) y) [
    | inl there ↦ second y (let found = map_found (λ (n : NodeId). n.0) nodes there.0 y there.1 in (there.0, (found.0, (found.1.0, found.1.1)))) p
    | inr none ↦ kept y (first y (are.all y (same_pinless before net y (same y none) p)) p)
  ];
  below = below;
}
