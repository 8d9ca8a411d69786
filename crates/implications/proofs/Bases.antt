-- Coming to rest, and beginning from there.
use Rattle.std.proofs.Common.{Bool, List, None, Option, Some, [], ap, arith, false, inl, inr, length, not, refl, replicate, subst, suc, sym, true, zero, ℕ, ◌&&◌, ◌++◌, ◌+◌, ◌<◌, ◌∙◌, ◌∷◌, ◌≡◌, ◌≤◌, ◌↔◌}
use Rattle.std.proofs.lemmas.Bool.{cases_lt, eq-eqb, eqb-true}
use Rattle.std.proofs.lemmas.Bool.Decides.{eqb_tells}
use Rattle.std.proofs.lemmas.List.{length-set}
use Rattle.std.proofs.lemmas.Option.{slice_get_within}
use Rattle.std.specs.Option.{is_some}
use Rattle.std.specs.Prelude.{Err, IfOk, IsTrue, Ok, OnOk, Result, nat_eq, slice_get, slice_set, ◌⊎◌}
use Rattle.gate_graph.proofs.Public.{none_seen, seen_cases, seen_kept, seen_new, seen_or_not}
use Rattle.gate_graph.specs.Search.{IsSeen}
use Rattle.gate_net.specs.Net.{IsLive, IsWellFormed, Net, kind_in, kind_of}
use Rattle.gate_net.specs.Paths.{Reaches}
use Rattle.gate_net.specs.declared.Kind.{Kind}
use Rattle.implications.proofs.BeginsOutside.{outside_led}
use Rattle.implications.proofs.Closes.{closing_open}
use Rattle.implications.proofs.Leads.{leads_append}
use Rattle.implications.proofs.Outside.{outside_settled}
use Rattle.implications.proofs.Trails.{back_all}
use Rattle.implications.specs.Bases.{ArePinless, ComesToRest, FitsBelow, IsListed, IsOpened, IsRest, TakesEquals}
use Rattle.implications.specs.Inner.Bases.{IsAmongNumbers, IsBegun, PutsBack}
use Rattle.implications.specs.Outside.{AreOutside, IsPinless}
use Rattle.implications.specs.Trail.{LeadsBack, TakesBack}
use Rattle.implications.specs.Inner.Working.{Closes, IsPending, Works}
use Rattle.refutation.specs.Closing.{IsWithin, LinesLead}
use Rattle.refutation.specs.FactSets.{Becomes, held_by}
use Rattle.refutation.specs.Facts.{Held, none_held, same_fact, with_fact, without_fact}
use Rattle.refutation.specs.Reaching.{MarksReached}
use Rattle.refutation.proofs.Public.{kind_is, kind_live, same_fact_refl, same_fact_true, seen_left, seen_stays, with_cases, with_more, with_there}
use Rattle.refutation.specs.declared.held.NodeFacts.{NodeFacts}
use Rattle.refutation.specs.declared.reasoning.Fact.{Fact}
use Rattle.refutation.specs.declared.reasoning.Fact.TheVariants.{Equal}
use Rattle.refutation.specs.declared.reasoning.Line.{Line}
use Rattle.rm_base.specs.declared.numbers.Fault.{Fault}
use Rattle.rm_base.specs.declared.numbers.NodeId.{NodeId}
use Rattle.rm_base.specs.Members.{AmongFirst}

-- LISTS OF NODES
pub listed_kept : (xs : List NodeId) (x : NodeId) (y : ℕ) → IsListed xs y → IsListed (xs ++ x ∷ []) y
listed_kept xs x y (k, (n, (there, is))) = (k, (n, (kept xs k n there, is)))
  where
    kept : (xs : List NodeId) (k : ℕ) (n : NodeId) → slice_get xs k ≡ Some n → slice_get (xs ++ x ∷ []) k ≡ Some n
    kept [] k n e = cc
    kept (z ∷ xs) zero n e = e
    kept (z ∷ xs) (suc k) n e = kept xs k n e

pub listed_last : (xs : List NodeId) (x : NodeId) → IsListed (xs ++ x ∷ []) x.0
listed_last [] x = (zero, (x, (refl, refl)))
listed_last (z ∷ xs) x = let rest = listed_last xs x in (suc rest.0, (rest.1.0, rest.1.1))

-- GOING OVER THE NET
pub fits_first : (net : Net) (facts : List NodeFacts) (nodes : List NodeId) → ((x : ℕ) (fact : Fact) → held_by facts x fact ≡ false) → nodes ≡ [] → FitsBelow net 0 facts nodes
fits_first net facts nodes none empty = record {
  held = λ x fact. (λ e. let wrong : held_by facts x fact ≡ false = none x fact in cc, λ h. absurd (below_none x h.0));
  all = λ y low. absurd (below_none y low);
  below = λ k n there. let gone : slice_get [] k ≡ Some n = subst (λ (xs : List NodeId). slice_get xs k ≡ Some n) empty there in cc;
}
  where
    below_none : (x : ℕ) → x < 0 → ⊥
    below_none x low = omega arith

not_live : (net : Net) (y : ℕ) → kind_of net y ≡ None → IsLive net y → ⊥
not_live net y none (kind, (drivers, is)) = let known : kind_of net y ≡ Some kind = ap kind_in is in cc

pub live_known : (net : Net) (y : ℕ) (o : Option Kind) (b : Bool) → o ≡ kind_of net y → is_some o ≡ not b → b ≡ false → IsLive net y
live_known net y None b is e off = cc
live_known net y (Some kind) b is e off = (kind, kind_is net y kind is)

-- a number that isn't live
pub fits_skip : (net : Net) (number : ℕ) (facts : List NodeFacts) (nodes : List NodeId) → kind_of net number ≡ None → FitsBelow net number facts nodes → FitsBelow net (number + 1) facts nodes
fits_skip net number facts nodes none f = record {
  held = λ x fact. (
    λ e. let low : x < number = ((f.held x fact).0 e).0 in (omega arith, ((f.held x fact).0 e).1),
    λ h. elim (cases_lt x number) [
      | inl low ↦ (f.held x fact).1 (low, h.1)
      | inr high ↦ let below : x < number + 1 = h.0 in let is : x ≡ number = omega arith in absurd (not_live net number none (subst (IsLive net) is h.1.0))
    ],
  );
  all = λ y low pinless. elim (cases_lt y number) [
    | inl before ↦ f.all y before pinless
    | inr high ↦ let is : y ≡ number = omega arith in absurd (not_live net number none (subst (IsLive net) is (pinless.0.0, pinless.0.1.0)))
  ];
  below = λ k n there. let low : n.0 < number = f.below k n there in omega arith;
}

-- a live number, which may be that of a gate without pins
pub fits_more : (net : Net) (number : ℕ) (facts facts' : List NodeFacts) (nodes nodes' : List NodeId) → IsLive net number → Becomes facts facts' (with_fact (held_by facts) number Equal) → ((y : ℕ) → IsListed nodes y → IsListed nodes' y) → (IsPinless net number → IsListed nodes' number) → ((k : ℕ) (n : NodeId) → slice_get nodes' k ≡ Some n → (slice_get nodes k ≡ Some n) ⊎ (n.0 ≡ number)) → FitsBelow net number facts nodes → FitsBelow net (number + 1) facts' nodes'
fits_more net number facts facts' nodes nodes' live is kept here new f = record {
  held = λ x fact. (
    λ e. elim (with_cases (held_by facts) number Equal x fact (sym (is.facts x fact) ∙ e)) [
      | inl same ↦ let place : x ≡ number = same.0 in (omega arith, (rw place live, same.1))
      | inr before ↦ let low : x < number = ((f.held x fact).0 before).0 in (omega arith, ((f.held x fact).0 before).1)
    ],
    λ h. is.facts x fact ∙ elim (cases_lt x number) [
      | inl low ↦ with_more (held_by facts) number Equal x fact ((f.held x fact).1 (low, h.1))
      | inr high ↦ let below : x < number + 1 = h.0 in let place : x ≡ number = omega arith in rw (place, h.1.1) (with_there (held_by facts) number Equal)
    ],
  );
  all = λ y low pinless. elim (cases_lt y number) [
    | inl before ↦ kept y (f.all y before pinless)
    | inr high ↦ let place : number ≡ y = omega arith in subst (λ n. IsPinless net n → IsListed nodes' n) place here pinless
  ];
  below = λ k n there. elim (new k n there) [
    | inl before ↦ let low : n.0 < number = f.below k n before in omega arith
    | inr same ↦ omega arith
  ];
}

pub fits_rest : (net : Net) (number : ℕ) (facts : List NodeFacts) (nodes : List NodeId) → length net.nodes ≤ number → FitsBelow net number facts nodes → IsRest net (held_by facts)
fits_rest net number facts nodes end f x fact = (
  λ e. ((f.held x fact).0 e).1,
  λ h. let low : x < length net.nodes = kind_live net x h.0 in (f.held x fact).1 (omega (arith, end, low), h),
)

pub fits_pinless : (net : Net) (number : ℕ) (facts : List NodeFacts) (nodes : List NodeId) → number ≡ length net.nodes → FitsBelow net number facts nodes → ArePinless net nodes
fits_pinless net number facts nodes end f = record {
  all = λ y pinless. let low : y < length net.nodes = kind_live net y (pinless.0.0, pinless.0.1.0) in f.all y (omega (arith, end, low)) pinless;
  below = λ k n there. let low : n.0 < number = f.below k n there in omega (arith, end, low);
}

-- TAKING EQUALS AWAY
pub without_left : (held : Held) (x : ℕ) (fact : Fact) (y : ℕ) (other : Fact) → IsTrue (without_fact held x fact y other) → IsTrue (held y other) × ((other ≡ fact) × (y ≡ x) → ⊥)
without_left held x fact y other e = at (nat_eq y x && same_fact other fact) (held y other) refl refl e
  where
    at : (b c : Bool) → (nat_eq y x && same_fact other fact) ≡ b → held y other ≡ c → (not b && c) ≡ true → IsTrue (held y other) × ((other ≡ fact) × (y ≡ x) → ⊥)
    at true c is there e = cc
    at false false is there e = cc
    at false true is there e = (there, λ same. let wrong : (nat_eq y x && same_fact other fact) ≡ true = rw (same.0, same.1, eq-eqb x x refl, same_fact_refl fact) refl in cc)

pub without_stays : (held : Held) (x : ℕ) (fact : Fact) (y : ℕ) (other : Fact) → IsTrue (held y other) → ((other ≡ fact) × (y ≡ x) → ⊥) → IsTrue (without_fact held x fact y other)
without_stays held x fact y other there ne = at (nat_eq y x) (same_fact other fact) refl refl
  where
    at : (b c : Bool) → nat_eq y x ≡ b → same_fact other fact ≡ c → without_fact held x fact y other ≡ true
    at true true is same = absurd (ne (same_fact_true other fact same, eqb-true y x is))
    at true false is same = rw (is, same, there) refl
    at false c is same = rw (is, there) refl

pub takes_one : (facts facts' : List NodeFacts) (taken taken' : List Bool) (x : ℕ) → x < length taken → taken' ≡ slice_set taken x true → Becomes facts facts' (without_fact (held_by facts) x Equal) → TakesEquals (λ z. z ≡ x) facts taken facts' taken'
takes_one facts facts' taken taken' x low is b = record {
  held = λ z fact. (λ e. without_left (held_by facts) x Equal z fact (sym (b.facts z fact) ∙ e), λ h. b.facts z fact ∙ without_stays (held_by facts) x Equal z fact h.0 h.1);
  marked = λ z. (
    λ e. seen_cases taken x z (subst (λ (s : List Bool). IsSeen s z) is e),
    λ h. rw is (elim h [ inl before ↦ seen_kept taken x z before | inr same ↦ rw same (seen_new taken x low) ]),
  );
  size = b.size;
  room = ap (λ xs. length xs) is ∙ length-set taken x true;
}

pub takes_none : (Such : ℕ → Type 0) → ((z : ℕ) → Such z → ⊥) → (facts : List NodeFacts) (taken : List Bool) → TakesEquals Such facts taken facts taken
takes_none Such none facts taken = record {
  held = λ z fact. (λ e. (e, λ h. none z h.1), λ h. h.0);
  marked = λ z. (λ e. inl e, λ h. elim h [ inl e ↦ e | inr s ↦ absurd (none z s) ]);
  size = refl;
  room = refl;
}

pub takes_join : (P Q R : ℕ → Type 0) → ((z : ℕ) → R z ↔ (P z ⊎ Q z)) → (a b c : List NodeFacts) (k l m : List Bool) → TakesEquals P a k b l → TakesEquals Q b l c m → TakesEquals R a k c m
takes_join P Q R both a b c k l m p q = record {
  held = λ z fact. (
    λ e.
        let second = (q.held z fact).0 e in
        let first = (p.held z fact).0 second.0 in
        (first.0, λ h. elim ((both z).0 h.1) [ inl such ↦ first.1 (h.0, such) | inr such ↦ second.1 (h.0, such) ]),
    λ h. (q.held z fact).1 ((p.held z fact).1 (h.0, λ s. h.1 (s.0, (both z).1 (inl s.1))), λ s. h.1 (s.0, (both z).1 (inr s.1))),
  );
  marked = λ z. (
    λ e. elim ((q.marked z).0 e) [
      | inl before ↦ elim ((p.marked z).0 before) [ inl first ↦ inl first | inr such ↦ inr ((both z).1 (inl such)) ]
      | inr such ↦ inr ((both z).1 (inr such))
    ],
    λ h. elim h [
      | inl before ↦ (q.marked z).1 (inl ((p.marked z).1 (inl before)))
      | inr such ↦ elim ((both z).0 such) [ inl s ↦ (q.marked z).1 (inl ((p.marked z).1 (inr s))) | inr s ↦ (q.marked z).1 (inr s) ]
    ],
  );
  size = q.size ∙ p.size;
  room = q.room ∙ p.room;
}

pub first_none : (xs : List ℕ) (facts : List NodeFacts) (taken : List Bool) → TakesEquals (AmongFirst xs 0) facts taken facts taken
first_none xs facts taken = takes_none (AmongFirst xs 0) (λ z among. none among.0 among.1.0) facts taken
  where
    none : (k : ℕ) → k < 0 → ⊥
    none k low = omega arith

pub first_next : (xs : List ℕ) (i d : ℕ) (a b c : List NodeFacts) (k l m : List Bool) → slice_get xs i ≡ Some d → TakesEquals (AmongFirst xs i) a k b l → TakesEquals (λ z. z ≡ d) b l c m → TakesEquals (AmongFirst xs (i + 1)) a k c m
first_next xs i d a b c k l m here =
    takes_join (AmongFirst xs i) (λ z. z ≡ d) (AmongFirst xs (i + 1))
    (λ z. (
      λ among. elim (cases_lt among.0 i) [
        | inl low ↦ inl (among.0, (low, among.1.1))
        | inr high ↦
            let last : among.0 < i + 1 = among.1.0 in
            let is : among.0 ≡ i = omega arith in
            let there : slice_get xs i ≡ Some z = subst (λ n. slice_get xs n ≡ Some z) is among.1.1 in
            inr cc
      ],
      λ h. elim h [
        | inl among ↦ let low : among.0 < i = among.1.0 in (among.0, (omega arith, among.1.1))
        | inr is ↦ (i, (omega arith, rw is here))
      ],
    )) a b c k l m

pub first_all : (xs : List ℕ) (i : ℕ) (a b : List NodeFacts) (k l : List Bool) → length xs ≤ i → TakesEquals (AmongFirst xs i) a k b l → TakesEquals (IsAmongNumbers xs) a k b l
first_all xs i a b k l end t = takes_same (AmongFirst xs i) (IsAmongNumbers xs) (λ z. (
  λ among. (among.0, among.1.1),
  λ found. (found.0, (let within : found.0 < length xs = slice_get_within xs found.0 z found.1 in omega (arith, end, within), found.1)),
)) a b k l t
  where
    takes_same : (P Q : ℕ → Type 0) → ((z : ℕ) → P z ↔ Q z) → (a b : List NodeFacts) (k l : List Bool) → TakesEquals P a k b l → TakesEquals Q a k b l
    takes_same P Q same a b k l t = record {
      held = λ z fact. (λ e. (((t.held z fact).0 e).0, λ h. ((t.held z fact).0 e).1 (h.0, (same z).1 h.1)), λ h. (t.held z fact).1 (h.0, λ s. h.1 (s.0, (same z).0 s.1)));
      marked = λ z. (
        λ e. elim ((t.marked z).0 e) [ inl before ↦ inl before | inr such ↦ inr ((same z).0 such) ],
        λ h. elim h [ inl before ↦ (t.marked z).1 (inl before) | inr such ↦ (t.marked z).1 (inr ((same z).1 such)) ],
      );
      size = t.size;
      room = t.room;
    }

-- PUTTING THEM BACK
-- what the nodes that are still marked add to the facts now is what was to be added
pub record Putting (taken : List Bool) (held : Held) (taken' : List Bool) (facts' : List NodeFacts) : Type 0 where
  pub same : (x : ℕ) (fact : Fact) → (IsTrue (held_by facts' x fact) ⊎ (IsSeen taken' x × (fact ≡ Equal))) ↔ (IsTrue (held x fact) ⊎ (IsSeen taken x × (fact ≡ Equal)))
  pub room : length taken' ≡ length taken

pub putting_first : (taken : List Bool) (facts : List NodeFacts) → Putting taken (held_by facts) taken facts
putting_first taken facts = record { same = λ x fact. (λ h. h, λ h. h); room = refl }

pub putting_more : (taken : List Bool) (held : Held) (a b : List Bool) (facts facts' : List NodeFacts) (d : ℕ) → Putting taken held a facts → IsSeen a d × (b ≡ slice_set a d false) → Becomes facts facts' (with_fact (held_by facts) d Equal) → Putting taken held b facts'
putting_more taken held a b facts facts' d p (seen, is) becomes = record {
  same = λ x fact. (
    λ h. (p.same x fact).0 (elim h [
      | inl now ↦ elim (with_cases (held_by facts) d Equal x fact (sym (becomes.facts x fact) ∙ now)) [
        | inl new ↦ inr (rw new.0 seen, new.1)
        | inr before ↦ inl before
      ]
      | inr still ↦ inr ((seen_left a d x (subst (λ (s : List Bool). IsSeen s x) is still.0)).0, still.1)
    ]),
    λ h. elim ((p.same x fact).1 h) [
      | inl before ↦ inl (becomes.facts x fact ∙ with_more (held_by facts) d Equal x fact before)
      | inr marked ↦ elim (eqb_tells x d) [
        | inl same ↦ inl (becomes.facts x fact ∙ rw (same.1, marked.1) (with_there (held_by facts) d Equal))
        | inr other ↦ inr (rw is (seen_stays a d x marked.0 other.1), marked.1)
      ]
    ],
  );
  room = ap (λ xs. length xs) is ∙ length-set a d false ∙ p.room;
}

pub putting_done : (taken : List Bool) (held : Held) (taken' : List Bool) (facts' : List NodeFacts) → ((z : ℕ) → IsSeen taken' z → ⊥) → Putting taken held taken' facts' → PutsBack taken held (held_by facts')
putting_done taken held taken' facts' none p x fact = (
  λ e. (p.same x fact).0 (inl e),
  λ h. elim ((p.same x fact).1 h) [ inl e ↦ e | inr marked ↦ absurd (none x marked.0) ],
)

-- the whole trail was taken off, and then it is at rest
pub rests : (net : Net) (trail : List (NodeId × Fact)) (taken : List Bool) (facts : List NodeFacts) (trail' : List (NodeId × Fact)) (middle after : List NodeFacts) → TakesBack trail facts trail' middle → length trail' ≡ 0 → PutsBack taken (held_by middle) (held_by after) → ComesToRest net trail taken facts → IsRest net (held_by after)
rests net trail taken facts trail' middle after back long p c x fact =
    let same : middle ≡ c.start = back_all trail facts trail' middle 0 back long c.start c.leads in
    let held : held_by middle x fact ≡ held_by c.start x fact = ap (λ (m : List NodeFacts). held_by m x fact) same in (
      λ e. (c.rest x fact).0 (elim ((p x fact).0 e) [ inl before ↦ inl (sym held ∙ before) | inr marked ↦ inr marked ]),
      λ h. (p x fact).1 (elim ((c.rest x fact).1 h) [ inl before ↦ inl (held ∙ before) | inr marked ↦ inr marked ]),
    )

pub leads_none : (facts : List NodeFacts) → LeadsBack [] 0 facts facts
leads_none facts = record { order = omega arith; size = refl; back = λ x fact. refl }

pub leads_first : (trail : List (NodeId × Fact)) (facts : List NodeFacts) → trail ≡ [] → LeadsBack trail 0 facts facts
leads_first trail facts is = rw is (leads_none facts)

-- nothing was added and none taken
pub rest_comes : (net : Net) (taken : List Bool) (facts : List NodeFacts) → IsRest net (held_by facts) → ((z : ℕ) → IsSeen taken z → ⊥) → ComesToRest net [] taken facts
rest_comes net taken facts rest none = record {
  start = facts;
  leads = leads_none facts;
  rest = λ x fact. (λ h. elim h [ inl e ↦ (rest x fact).0 e | inr marked ↦ absurd (none x marked.0) ], λ h. inl ((rest x fact).1 h));
}

-- BEGINNING
pub none_seen_in : (marks : List Bool) → marks ≡ replicate (length marks) false → (z : ℕ) → IsSeen marks z → ⊥
none_seen_in marks is z seen = none_seen (length marks) z (subst (λ (s : List Bool). IsSeen s z) is seen)

-- the gate, or among the numbers
abbrev pub IsTaken : ℕ → List ℕ → ℕ → Type 0
IsTaken gate numbers z = (z ≡ gate) ⊎ IsAmongNumbers numbers z

-- the faulty gate and what it reaches were taken
pub begun : (net : Net) (fault : Fault) (reached : List Bool) (numbers : List ℕ) (facts facts' facts'' : List NodeFacts) (taken taken' taken'' : List Bool) → IsRest net (held_by facts) → ((z : ℕ) → IsSeen taken z → ⊥) → MarksReached net fault.gate.0 reached → ((z : ℕ) → IsAmongNumbers numbers z ↔ IsSeen reached z) → IsLive net fault.gate.0 → ((z : ℕ) → Reaches net fault.gate.0 z → IsLive net z) → TakesEquals (λ z. z ≡ fault.gate.0) facts taken facts' taken' → TakesEquals (IsAmongNumbers numbers) facts' taken' facts'' taken'' → IsBegun net fault facts'' taken''
begun net fault reached numbers facts facts' facts'' taken taken' taken'' rest none marks lists gate live one two = record {
  outside = λ x fact. (
    λ e.
        let left = (all.held x fact).0 e in
        let is = (rest x fact).0 left.0 in
        (is.0, λ same. left.1 (is.1, inl same), λ reaches. left.1 (is.1, inr ((lists x).1 (marks.all x reaches))), refl, is.1),
    λ out. (all.held x fact).1 ((rest x fact).1 (out.0, out.4), λ such. elim such.1 [ inl same ↦ out.1 same | inr among ↦ out.2 (marks.sound x ((lists x).0 among)) ]),
  );
  rest = λ x fact. (
    λ h. elim h [
      | inl e ↦ (rest x fact).0 ((all.held x fact).0 e).0
      | inr marked ↦ (elim ((all.marked x).0 marked.0) [ inl before ↦ absurd (none x before) | inr such ↦ elim such [ inl same ↦ rw same gate | inr among ↦ live x (marks.sound x ((lists x).0 among)) ] ], marked.1)
    ],
    λ h. elim (seen_or_not taken'' x) [
      | inl seen ↦ inr (seen, h.1)
      | inr off ↦ inl ((all.held x fact).1 ((rest x fact).1 h, λ such. off ((all.marked x).1 (inr such.1))))
    ],
  );
}
  where
    all : TakesEquals (IsTaken fault.gate.0 numbers) facts taken facts'' taken''
    all = takes_join (λ z. z ≡ fault.gate.0) (IsAmongNumbers numbers) (IsTaken fault.gate.0 numbers) (λ z. (λ h. h, λ h. h)) facts facts' facts'' taken taken' taken'' one two

-- each node is on the worklist or settled by what isn't reached
pub outside_pending : (net : Net) (fault : Fault) (nodes : List NodeId) (worklist : List Bool) → IsWellFormed net → ArePinless net nodes → ((k : ℕ) (n : NodeId) → slice_get nodes k ≡ Some n → IsSeen worklist n.0) → IsSeen worklist 0 → IsSeen worklist 1 → IsSeen worklist fault.gate.0 → (facts : List NodeFacts) → AreOutside net fault (held_by facts) → IsPending net fault facts worklist
outside_pending net fault nodes worklist formed are on' zero' one' gate facts outside y = elim (seen_or_not worklist y) [
  | inl seen ↦ inl seen
  | inr off ↦ inr (outside_settled net fault (held_by facts) formed outside y (λ is. off (subst (IsSeen worklist) (sym is) zero')) (λ is. off (subst (IsSeen worklist) (sym is) one')) (λ is. off (subst (IsSeen worklist) (sym is) gate))
      (λ pinless. let listed = are.all y pinless in off (subst (IsSeen worklist) listed.1.1.1 (on' listed.0 listed.1.0 listed.1.1.0))))
]

-- WHAT IS ANSWERED
pub opened_ok : {E : Type 0} (net : Net) (fault : Fault) (start facts : List NodeFacts) (before lines : List Line) (r : Result (Option NodeId) E) → AreOutside net fault (held_by start) → before ≡ [] → OnOk r (Works net fault start before facts lines) → IsWithin (held_by start) (held_by facts) → length facts ≡ length start → length net.nodes ≤ length start → IfOk r (Closes net fault facts) → IfOk r (IsOpened net fault lines facts)
opened_ok net fault start facts before lines (Ok None) outside none works within same size closes = closing_open net fault start facts before lines None outside none works within same size refl closes
opened_ok net fault start facts before lines (Ok (Some x)) outside none works within same size closes =
    let led = outside_led net fault (held_by start) outside in
    let leads : LinesLead net fault (held_by start) lines (held_by facts) = works.goes_on (held_by start) (rw none refl) in
    record {
      start = held_by start;
      outside = outside;
      clash = record { leads = leads; opposed = closes };
      clashes = (led.0 ++ lines, (held_by facts, (leads_append net fault led.0 lines none_held (held_by start) (held_by facts) led.1 leads, (x.0, closes))));
    }
opened_ok net fault start facts before lines (Err e) outside none works within same size closes = closes
