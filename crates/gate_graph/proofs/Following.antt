-- An order of the nodes, as far as it has come.
use Rattle.std.proofs.Common.{◌≡◌, ◌≢◌, ℕ, zero, suc, ◌+◌, ◌-◌, ◌<◌, ◌≤◌, true, false, ◌⊎◌, inl, inr, List, [], ◌∷◌, ◌++◌, length, map, get_or, Option, Some, None, refl, sym, ap, ◌∙◌, subst, arith, append-nil}
use Rattle.std.specs.Prelude.{slice_get, slice_index, slice_set}
use Rattle.std.proofs.lemmas.Bool.{cases_eq, cases_lt, cases_Bool, ne_eqb, eq-eqb, false≢true, false_from_ne_true, or_left, or_right, or_cases, or_parts}
use Rattle.std.proofs.lemmas.List.{get_or-set_same, get_or-set_other, length_push}
use Rattle.std.proofs.lemmas.Option.{slice_get_within}
use Rattle.rm_base.specs.declared.numbers.NodeId.{NodeId}
use Rattle.gate_net.specs.declared.Kind.{Kind}
use Rattle.pin_pool.proofs.Public.{has-append, has-there, length-apart}
use Rattle.pin_pool.specs.Ring.{has, IsApart}
use Rattle.pin_pool.specs.Pins.{list_of}
use Rattle.pin_pool.specs.Rings.{AreRings, rings_of}
use Rattle.gate_graph.specs.Wirings.{IsShaped, IsWired, kind_at}
use Rattle.gate_graph.specs.Circuit.{Circuit, wiring, net_of, gate_pins, home}
use Rattle.gate_graph.specs.Order.{IsOrder, IsCounted, IsFollowing, IsStarted, IsDriven, unseen_in}
use Rattle.gate_graph.specs.Inner.Order.{IsFollowed}
use Rattle.gate_graph.proofs.NetOf.{home-here}
use Rattle.gate_graph.proofs.Ranked.{some-at, read-by}
use Rattle.gate_graph.proofs.KindAt.{kind-within}
use Rattle.gate_graph.proofs.Formed.{live-node, dead-node}
use Rattle.rm_base.proofs.Public.{front_stands, last_stands}

-- LISTS
push-cases : (xs : List ℕ) (d p y : ℕ) → slice_get (xs ++ d ∷ []) p ≡ Some y → (slice_get xs p ≡ Some y) ⊎ ((p ≡ length xs) × (y ≡ d))
push-cases [] d zero y e = inr (refl, cc)
push-cases [] d (suc p) y e = inl e
push-cases (x ∷ xs) d zero y e = inl e
push-cases (x ∷ xs) d (suc p) y e = elim (push-cases xs d p y e) [ inl old ↦ inl old | inr new ↦ inr (ap suc new.0, new.1) ]

has-beside : (seen : List ℕ) (p q : ℕ) → q ≢ p → has q (seen ++ p ∷ []) ≡ has q seen
has-beside [] p q ne = rw (ne_eqb q p ne) refl
has-beside (o ∷ seen) p q ne = rw (has-beside seen p q ne) refl

has-pushed : (seen : List ℕ) (p : ℕ) → has p (seen ++ p ∷ []) ≡ true
has-pushed [] p = or_left _ _ (eq-eqb p p refl)
has-pushed (o ∷ seen) p = or_right _ _ (has-pushed seen p)

-- another pin is seen, which isn't in the list
unseen-other : (seen xs : List ℕ) (p : ℕ) → has p xs ≡ false → unseen_in (seen ++ p ∷ []) xs ≡ unseen_in seen xs
unseen-other seen [] p out = refl
unseen-other seen (x ∷ xs) p out =
    let ne : p ≢ x = λ is. false≢true (sym out ∙ or_left _ _ (eq-eqb p x is)) in
    let rest = unseen-other seen xs p (or_parts _ _ out).1 in
    rw (has-beside seen p x (λ is. ne (sym is)), rest) refl

-- and one that is
unseen-one : (seen xs : List ℕ) (p : ℕ) → IsApart xs → has p xs ≡ true → has p seen ≡ false → unseen_in seen xs ≡ unseen_in (seen ++ p ∷ []) xs + 1
unseen-one seen [] p a h out = cc
unseen-one seen (x ∷ xs) p a h out = elim (cases_eq p x) [
  | inl is ↦
      let fresh : has x seen ≡ false = ap (λ (q : ℕ). has q seen) (sym is) ∙ out in
      let now : has x (seen ++ p ∷ []) ≡ true = ap (λ (q : ℕ). has q (seen ++ p ∷ [])) (sym is) ∙ has-pushed seen p in
      let rest = unseen-other seen xs p (ap (λ (q : ℕ). has q xs) is ∙ a.0) in
      rw (fresh, now) (omega (arith, rest))
  | inr ne ↦
      let later : has p xs ≡ true = rw (ne_eqb p x ne) at h in
      let rest = unseen-one seen xs p a.1 later out in
      rw (has-beside seen p x (λ is. ne (sym is))) (elim (cases_Bool (has x seen)) [
        | inl seen' ↦ rw seen' rest
        | inr fresh ↦ rw fresh (omega (arith, rest))
      ])
]

unseen-some : (seen xs : List ℕ) (p : ℕ) → has p xs ≡ true → has p seen ≡ false → 0 < unseen_in seen xs
unseen-some seen [] p h out = cc
unseen-some seen (x ∷ xs) p h out = elim (cases_Bool (has x seen)) [
  | inr fresh ↦ rw fresh (omega arith)
  | inl seen' ↦
      let ne : p ≢ x = λ is. false≢true (sym out ∙ ap (λ (q : ℕ). has q seen) is ∙ seen') in
      let later : has p xs ≡ true = rw (ne_eqb p x ne) at h in
      rw seen' (unseen-some seen xs p later out)
]

unseen-found : (seen xs : List ℕ) → unseen_in seen xs ≢ 0 → (p : ℕ) × ((has p xs ≡ true) × (has p seen ≡ false))
unseen-found seen [] some = absurd (some refl)
unseen-found seen (x ∷ xs) some = elim (cases_Bool (has x seen)) [
  | inr fresh ↦ (x, (or_left _ _ (eq-eqb x x refl), fresh))
  | inl seen' ↦ let rest = unseen-found seen xs (λ none. some (rw seen' none)) in (rest.0, (or_right _ _ rest.1.0, rest.1.1))
]

unseen-none : (seen xs : List ℕ) (p : ℕ) → unseen_in seen xs ≡ 0 → has p xs ≡ true → has p seen ≡ true
unseen-none seen xs p none h = elim (cases_Bool (has p seen)) [
  | inl yes' ↦ yes'
  | inr out ↦ let some = unseen-some seen xs p h out in absurd (omega (arith, some, none))
]

unseen-all : (xs : List ℕ) → unseen_in [] xs ≡ length xs
unseen-all [] = refl
unseen-all (x ∷ xs) = ap suc (unseen-all xs)

no-length : (xs : List ℕ) (p : ℕ) → length xs ≡ 0 → has p xs ≡ true → ⊥
no-length [] p e h = (let wrong : false ≡ true = h in cc)
no-length (x ∷ xs) p e h = absurd (omega arith)

-- COUNTING DOWN
module _ (v : Circuit) (r : AreRings (rings_of v.pool)) (s : IsShaped (wiring v)) (left xs seen : List ℕ) (i : IsCounted v left xs seen) (p g : ℕ) (at : has p (list_of v.pool.inputs g) ≡ true) (fresh : has p seen ≡ false) where
  gate-alone : (h : ℕ) → h ≢ g → has p (gate_pins v.pool h) ≡ false
  gate-alone h ne = elim (cases_eq h 0) [
    | inl is ↦ rw is refl
    | inr ne' ↦ rw (ne_eqb h 0 ne') (false_from_ne_true _ (λ k. ne (r.inputs.one h g p k at)))
  ]

  -- an observed place
  pub counted-observed : g ≡ 0 → IsCounted v left xs (seen ++ p ∷ [])
  counted-observed is = record {
    sizes = i.sizes;
    live = i.live;
    once = i.once;
    counts = λ h l. i.counts h l ∙ sym (unseen-other seen (gate_pins v.pool h) p (elim (cases_eq h g) [
      | inl same ↦ rw (same ∙ is) refl
      | inr ne ↦ gate-alone h ne
    ]));
    listed = i.listed;
    ready = i.ready;
    before = i.before;
  }

  module _ (nz : g ≢ 0) where
    own : has p (gate_pins v.pool g) ≡ true
    own = rw (ne_eqb g 0 nz) at

    pins-apart : IsApart (gate_pins v.pool g)
    pins-apart = rw (ne_eqb g 0 nz) (r.inputs.apart g)

    gate-live : kind_at v.kinds g ≢ None
    gate-live = s.gates_live g p at

    pub gate-within : g < length left
    gate-within = omega (arith, kind-within v.kinds g gate-live, i.sizes)

    pub gate-some : 0 < slice_index left g
    gate-some = omega (arith, i.counts g gate-live, unseen-some seen (gate_pins v.pool g) p own fresh)

    abbrev less : List ℕ
    less = slice_set left g (slice_index left g - 1)

    at-gate : slice_index less g ≡ slice_index left g - 1
    at-gate = get_or-set_same left g (slice_index left g - 1) 0 gate-within

    at-other : (h : ℕ) → h ≢ g → slice_index less h ≡ slice_index left h
    at-other h ne = get_or-set_other left g h (slice_index left g - 1) 0 ne

    counts-now : (h : ℕ) → kind_at v.kinds h ≢ None → slice_index less h ≡ unseen_in (seen ++ p ∷ []) (gate_pins v.pool h)
    counts-now h l = elim (cases_eq h g) [
      | inl is ↦ rw is (omega (arith, at-gate, i.counts g gate-live, unseen-one seen (gate_pins v.pool g) p pins-apart own fresh))
      | inr ne ↦ at-other h ne ∙ i.counts h l ∙ sym (unseen-other seen (gate_pins v.pool h) p (gate-alone h ne))
    ]

    -- the gate isn't listed yet
    unlisted : (k : ℕ) → slice_get xs k ≡ Some g → ⊥
    unlisted k e = let none = i.ready k g e in absurd (omega (arith, none, gate-some))

    size-now : length less ≡ length v.kinds
    size-now = length-set' left g (slice_index left g - 1) ∙ i.sizes
      where
        length-set' : (l : List ℕ) (n x : ℕ) → length (slice_set l n x) ≡ length l
        length-set' [] n x = refl
        length-set' (y ∷ l) zero x = refl
        length-set' (y ∷ l) (suc n) x = ap suc (length-set' l n x)

    pub counted-more : slice_index left g ≢ 1 → IsCounted v less xs (seen ++ p ∷ [])
    counted-more ne = record {
      sizes = size-now;
      live = i.live;
      once = i.once;
      counts = counts-now;
      listed = λ h l zero'. elim (cases_eq h g) [
        | inl is ↦ (let now : slice_index less g ≡ 0 = ap (slice_index less) (sym is) ∙ zero' in absurd (ne (omega (arith, now, at-gate, gate-some))))
        | inr ne' ↦ i.listed h l (sym (at-other h ne') ∙ zero')
      ];
      ready = λ k h e. (let ne' : h ≢ g = λ is. unlisted k (e ∙ ap (λ (n : ℕ). Some n) is) in at-other h ne' ∙ i.ready k h e);
      before = i.before;
    }

    pub counted-last : slice_index left g ≡ 1 → ((q : ℕ) → has q (seen ++ p ∷ []) ≡ true → IsDriven v xs (length xs) q) → IsCounted v less (xs ++ g ∷ []) (seen ++ p ∷ [])
    counted-last one from = record {
      sizes = size-now;
      live = λ k x e. elim (push-cases xs g k x e) [ inl old ↦ i.live k x old | inr new ↦ rw new.1 gate-live ];
      once = λ k l x e f. elim (push-cases xs g k x e) [
        | inl old ↦ elim (push-cases xs g l x f) [
          | inl old' ↦ i.once k l x old old'
          | inr new' ↦ absurd (unlisted k (old ∙ ap (λ (n : ℕ). Some n) new'.1))
        ]
        | inr new ↦ elim (push-cases xs g l x f) [
          | inl old' ↦ absurd (unlisted l (old' ∙ ap (λ (n : ℕ). Some n) new.1))
          | inr new' ↦ new.0 ∙ sym new'.0
        ]
      ];
      counts = counts-now;
      listed = λ h l zero'. elim (cases_eq h g) [
        | inl is ↦ (length xs, last_stands xs g ∙ ap (λ (n : ℕ). Some n) (sym is))
        | inr ne' ↦ let old = i.listed h l (sym (at-other h ne') ∙ zero') in (old.0, front_stands xs (g ∷ []) old.0 h old.1)
      ];
      ready = λ k h e. elim (push-cases xs g k h e) [
        | inl old ↦ (let ne' : h ≢ g = λ is. unlisted k (old ∙ ap (λ (n : ℕ). Some n) is) in at-other h ne' ∙ i.ready k h old)
        | inr new ↦ rw new.1 (omega (arith, at-gate, one))
      ];
      before = λ k h q e inside. elim (push-cases xs g k h e) [
        | inl old ↦ let by = i.before k h q old inside in (by.0, (by.1.0, front_stands xs (g ∷ []) by.0 _ by.1.1))
        | inr new ↦
            let own' : has q (gate_pins v.pool g) ≡ true = ap (λ (n : ℕ). has q (gate_pins v.pool n)) (sym new.1) ∙ inside in
            let none : unseen_in (seen ++ p ∷ []) (gate_pins v.pool g) ≡ 0 = omega (arith, counts-now g gate-live, at-gate, one) in
            let by = from q (unseen-none (seen ++ p ∷ []) (gate_pins v.pool g) q none own') in
            (by.0, ((let h' = by.1.0 in let k' = new.0 in omega (arith, h', k')), front_stands xs (g ∷ []) by.0 _ by.1.1))
      ];
    }

-- ONE NODE'S READERS
driven-more : (v : Circuit) (xs : List ℕ) (g end p : ℕ) → IsDriven v xs end p → IsDriven v (xs ++ g ∷ []) end p
driven-more v xs g end p by = (by.0, (by.1.0, front_stands xs (g ∷ []) by.0 _ by.1.1))

pub following-start : (v : Circuit) (left xs : List ℕ) (next node : ℕ) → IsFollowed v left xs next → slice_get xs next ≡ Some node → IsFollowing v left xs next node []
following-start v left xs next node f here = record {
  seen = f.seen;
  counted = subst (λ (l : List ℕ). IsCounted v left xs l) (sym (append-nil f.seen)) f.counted;
  here = here;
  from = f.from;
  ours = λ p h. cc;
  done = f.done;
}

pub following-end : (v : Circuit) (left xs : List ℕ) (next node : ℕ) (ys : List ℕ) → AreRings (rings_of v.pool) → IsFollowing v left xs next node ys → ys ≡ list_of v.pool.fanouts node → IsFollowed v left xs (next + 1)
following-end v left xs next node ys r f e = record {
  seen = f.seen ++ ys;
  counted = f.counted;
  room = omega (arith, slice_get_within xs next node f.here);
  from = λ p h. elim (or_cases (has p f.seen) (has p ys) (sym (has-append f.seen ys p) ∙ h)) [
    | inl old ↦ let by = f.from p old in (by.0, ((let less = by.1.0 in omega (arith, less)), by.1.1))
    | inr new ↦ (next, (omega arith, f.here ∙ ap (λ (n : ℕ). Some n) (sym (f.ours p new))))
  ];
  done = λ k x p h at inside. has-append f.seen ys p ∙ elim (cases_lt k next) [
    | inl low ↦ or_left _ _ (f.done k x p low at inside)
    | inr high ↦
        let is : k ≡ next = omega arith in
        let both : Some x ≡ Some node = sym at ∙ ap (slice_get xs) is ∙ f.here in
        let same : x ≡ node = cc in
        or_right _ _ (ap (has p) e ∙ ap (λ (n : ℕ). has p (list_of v.pool.fanouts n)) (sym same) ∙ inside)
  ];
}

module _ (v : Circuit) (left xs : List ℕ) (next node : ℕ) (ys : List ℕ) (r : AreRings (rings_of v.pool)) (s : IsShaped (wiring v)) (f : IsFollowing v left xs next node ys) (p g : ℕ) (rest : List ℕ) (all : list_of v.pool.fanouts node ≡ ys ++ p ∷ rest) (at : has p (list_of v.pool.inputs g) ≡ true) where
  there : has p (list_of v.pool.fanouts node) ≡ true
  there = ap (has p) all ∙ has-append ys (p ∷ rest) p ∙ or_right _ _ (or_left _ _ (eq-eqb p p refl))

  home-is : home v.pool.fanouts p ≡ node
  home-is = home-here v.pool.fanouts _ p node r.fanouts there

  apart-at : (ys : List ℕ) → IsApart (ys ++ p ∷ rest) → has p ys ≡ false
  apart-at [] a = refl
  apart-at (y ∷ ys) a =
      let ne : p ≢ y = λ is. false≢true (sym a.0 ∙ has-append ys (p ∷ rest) y ∙ or_right _ _ (or_left _ _ (eq-eqb y p (sym is)))) in
      rw (ne_eqb p y ne) (apart-at ys a.1)

  fresh-ys : has p ys ≡ false
  fresh-ys = apart-at ys (subst (λ (l : List ℕ). IsApart l) all (r.fanouts.apart node))

  fresh-seen : has p f.seen ≡ false
  fresh-seen = false_from_ne_true _ (λ h. (
      let by = f.from p h in
      let same : slice_get xs by.0 ≡ Some node = by.1.1 ∙ ap (λ (n : ℕ). Some n) home-is in
      let is = f.counted.once by.0 next node same f.here in
      let less = by.1.0 in omega (arith, is, less)))

  pub fresh : has p (f.seen ++ ys) ≡ false
  fresh = has-append f.seen ys p ∙ rw (fresh-seen, fresh-ys) refl

  more-seen : (f.seen ++ ys) ++ p ∷ [] ≡ f.seen ++ (ys ++ p ∷ [])
  more-seen = by f.seen
    where
      by : (zs : List ℕ) → (zs ++ ys) ++ p ∷ [] ≡ zs ++ (ys ++ p ∷ [])
      by [] = refl
      by (z ∷ zs) = ap (λ (l : List ℕ). z ∷ l) (by zs)

  ours-now : (q : ℕ) → has q (ys ++ p ∷ []) ≡ true → home v.pool.fanouts q ≡ node
  ours-now q h = elim (cases_eq q p) [
    | inl is ↦ ap (home v.pool.fanouts) is ∙ home-is
    | inr ne ↦ f.ours q (sym (has-beside ys p q ne) ∙ h)
  ]

  driven-now : (q : ℕ) → has q ((f.seen ++ ys) ++ p ∷ []) ≡ true → IsDriven v xs (length xs) q
  driven-now q h =
      let inside = slice_get_within xs next node f.here in
      elim (or_cases (has q f.seen) (has q (ys ++ p ∷ [])) (sym (has-append f.seen (ys ++ p ∷ []) q) ∙ ap (has q) (sym more-seen) ∙ h)) [
        | inl old ↦ let by = f.from q old in (by.0, ((let less = by.1.0 in omega (arith, less, inside)), by.1.1))
        | inr new ↦ (next, (inside, f.here ∙ ap (λ (n : ℕ). Some n) (sym (ours-now q new))))
      ]

  pub following-observed : g ≡ 0 → IsFollowing v left xs next node (ys ++ p ∷ [])
  following-observed is = record {
    seen = f.seen;
    counted = subst (λ (l : List ℕ). IsCounted v left xs l) more-seen (counted-observed v r s left xs (f.seen ++ ys) f.counted p g at fresh is);
    here = f.here;
    from = f.from;
    ours = ours-now;
    done = f.done;
  }

  pub following-more : g ≢ 0 → slice_index left g ≢ 1 → IsFollowing v (slice_set left g (slice_index left g - 1)) xs next node (ys ++ p ∷ [])
  following-more nz ne = record {
    seen = f.seen;
    counted = subst (λ (l : List ℕ). IsCounted v (slice_set left g (slice_index left g - 1)) xs l) more-seen (counted-more v r s left xs (f.seen ++ ys) f.counted p g at fresh nz ne);
    here = f.here;
    from = f.from;
    ours = ours-now;
    done = f.done;
  }

  pub following-last : g ≢ 0 → slice_index left g ≡ 1 → IsFollowing v (slice_set left g (slice_index left g - 1)) (xs ++ g ∷ []) next node (ys ++ p ∷ [])
  following-last nz one = record {
    seen = f.seen;
    counted = subst (λ (l : List ℕ). IsCounted v (slice_set left g (slice_index left g - 1)) (xs ++ g ∷ []) l) more-seen (counted-last v r s left xs (f.seen ++ ys) f.counted p g at fresh nz one driven-now);
    here = front_stands xs (g ∷ []) next node f.here;
    from = λ q h. driven-more v xs g next q (f.from q h);
    ours = ours-now;
    done = λ k x q h e inside. elim (push-cases xs g k x e) [
      | inl old ↦ f.done k x q h old inside
      | inr new ↦ (let less = slice_get_within xs next node f.here in let is = new.0 in absurd (omega (arith, h, less, is)))
    ];
  }

  pub step-within : g ≢ 0 → g < length left
  step-within nz = gate-within v r s left xs (f.seen ++ ys) f.counted p g at fresh nz

  pub step-some : g ≢ 0 → 0 < slice_index left g
  step-some nz = gate-some v r s left xs (f.seen ++ ys) f.counted p g at fresh nz

  pub following-step : (left' xs' zs : List ℕ) → zs ≡ ys ++ p ∷ [] → g ≢ 0 → left' ≡ slice_set left g (slice_index left g - 1) → (slice_index left g ≡ 1 → xs' ≡ xs ++ g ∷ []) → (slice_index left g ≢ 1 → xs' ≡ xs) → IsFollowing v left' xs' next node zs
  following-step left' xs' zs e nz el last more = elim (cases_eq (slice_index left g) 1) [
    | inl one ↦ rw (e, el, last one) (following-last nz one)
    | inr ne ↦ rw (e, el, more ne) (following-more nz ne)
  ]

  pub following-skip : (zs : List ℕ) → zs ≡ ys ++ p ∷ [] → g ≡ 0 → IsFollowing v left xs next node zs
  following-skip zs e is = rw e (following-observed is)

-- THE START
pub started-none : (v : Circuit) → IsStarted v [] [] 0
started-none v = record {
  sizes = refl;
  within = λ k x e. cc;
  live = λ k x e. absurd cc;
  once = λ k l x e f. absurd cc;
  counts = λ g h. absurd (omega arith);
  listed = λ g h. absurd (omega arith);
  ready = λ k g e. absurd cc;
}

index-push : (left : List ℕ) (x g : ℕ) → g < length left → slice_index (left ++ x ∷ []) g ≡ slice_index left g
index-push [] x g h = absurd (omega arith)
index-push (y ∷ left) x zero h = refl
index-push (y ∷ left) x (suc g) h = index-push left x g (omega arith)

index-last : (left : List ℕ) (x g : ℕ) → g ≡ length left → slice_index (left ++ x ∷ []) g ≡ x
index-last [] x g e = rw e refl
index-last (y ∷ left) x zero e = absurd (omega arith)
index-last (y ∷ left) x (suc g) e = index-last left x g (omega arith)

module _ (v : Circuit) (left xs : List ℕ) (n x : ℕ) (i : IsStarted v left xs n) (is : x ≡ length (gate_pins v.pool n)) where
  index-now : (g : ℕ) → g < n + 1 → slice_index (left ++ x ∷ []) g ≡ length (gate_pins v.pool g)
  index-now g h = elim (cases_eq g n) [
    | inl here ↦ index-last left x g (omega (arith, here, i.sizes)) ∙ is ∙ ap (λ (m : ℕ). length (gate_pins v.pool m)) (sym here)
    | inr ne ↦ let low : g < n = omega arith in index-push left x g (omega (arith, low, i.sizes)) ∙ i.counts g low
  ]

  pub started-other : (kind_at v.kinds n ≡ None) ⊎ (x ≢ 0) → IsStarted v (left ++ x ∷ []) xs (n + 1)
  started-other or = record {
    sizes = length_push left x ∙ ap (λ k. k + 1) i.sizes;
    within = λ k y e. omega (arith, i.within k y e);
    live = i.live;
    once = i.once;
    counts = index-now;
    listed = λ g h l zero'. elim (cases_eq g n) [
      | inr ne ↦ let low : g < n = omega arith in i.listed g low l (i.counts g low ∙ sym (index-now g h) ∙ zero')
      | inl here ↦ elim or [
        | inl dead ↦ absurd (l (ap (kind_at v.kinds) here ∙ dead))
        | inr some ↦ absurd (some (sym (index-last left x g (omega (arith, here, i.sizes))) ∙ zero'))
      ]
    ];
    ready = λ k g e. (let low = i.within k g e in index-push left x g (omega (arith, low, i.sizes)) ∙ i.ready k g e);
  }

  pub started-ready : kind_at v.kinds n ≢ None → x ≡ 0 → IsStarted v (left ++ x ∷ []) (xs ++ n ∷ []) (n + 1)
  started-ready alive none = record {
    sizes = length_push left x ∙ ap (λ k. k + 1) i.sizes;
    within = λ k y e. elim (push-cases xs n k y e) [ inl old ↦ omega (arith, i.within k y old) | inr new ↦ (let same = new.1 in omega (arith, same)) ];
    live = λ k y e. elim (push-cases xs n k y e) [ inl old ↦ i.live k y old | inr new ↦ rw new.1 alive ];
    once = λ k l y e f. elim (push-cases xs n k y e) [
      | inl old ↦ elim (push-cases xs n l y f) [
        | inl old' ↦ i.once k l y old old'
        | inr new' ↦ (let low = i.within k y old in let same = new'.1 in absurd (omega (arith, low, same)))
      ]
      | inr new ↦ elim (push-cases xs n l y f) [
        | inl old' ↦ (let low = i.within l y old' in let same = new.1 in absurd (omega (arith, low, same)))
        | inr new' ↦ new.0 ∙ sym new'.0
      ]
    ];
    counts = index-now;
    listed = λ g h l zero'. elim (cases_eq g n) [
      | inl here ↦ (length xs, last_stands xs n ∙ ap (λ (m : ℕ). Some m) (sym here))
      | inr ne ↦ let low : g < n = omega arith in let old = i.listed g low l (i.counts g low ∙ sym (index-now g h) ∙ zero') in (old.0, front_stands xs (n ∷ []) old.0 g old.1)
    ];
    ready = λ k g e. elim (push-cases xs n k g e) [
      | inl old ↦ (let low = i.within k g old in index-push left x g (omega (arith, low, i.sizes)) ∙ i.ready k g old)
      | inr new ↦ index-last left x g (new.1 ∙ sym i.sizes) ∙ none
    ];
  }

pub followed-start : (v : Circuit) (left xs : List ℕ) (n : ℕ) → IsStarted v left xs n → n ≡ length v.kinds → IsFollowed v left xs 0
followed-start v left xs n i e =
    let within : (g : ℕ) → kind_at v.kinds g ≢ None → g < n = λ g l. omega (arith, kind-within v.kinds g l, e) in
    record {
      seen = [];
      counted = record {
        sizes = i.sizes ∙ e;
        live = i.live;
        once = i.once;
        counts = λ g l. i.counts g (within g l) ∙ sym (unseen-all (gate_pins v.pool g));
        listed = λ g l. i.listed g (within g l) l;
        ready = i.ready;
        before = λ k g p at inside. absurd (no-length (gate_pins v.pool g) p (sym (i.counts g (i.within k g at)) ∙ i.ready k g at) inside);
      };
      room = omega arith;
      from = λ p h. cc;
      done = λ k x p h. absurd (omega arith);
    }

-- THE END
once-apart : (xs : List ℕ) → ((k l x : ℕ) → slice_get xs k ≡ Some x → slice_get xs l ≡ Some x → k ≡ l) → IsApart xs
once-apart [] once = tt
once-apart (x ∷ xs) once = (
  false_from_ne_true _ (λ h. (let at = some-at xs x h in let wrong : 0 ≡ suc at.0 = once 0 (suc at.0) x refl at.1 in omega (arith, wrong))),
  once-apart xs (λ k l y e f. (let same : suc k ≡ suc l = once (suc k) (suc l) y e f in omega (arith, same))),
)

pub order-few : (v : Circuit) (left xs : List ℕ) (next : ℕ) → IsFollowed v left xs next → length xs ≤ length v.kinds
order-few v left xs next f = length-apart xs (length v.kinds) (once-apart xs f.counted.once) (λ q h. (let at = some-at xs q h in kind-within v.kinds q (f.counted.live at.0 q at.1)))

-- every live node is listed in the end
all-listed : (v : Circuit) (left xs : List ℕ) → AreRings (rings_of v.pool) → (w : IsWired (wiring v)) → IsFollowed v left xs (length xs) → (n g : ℕ) → w.rank g < n → kind_at v.kinds g ≢ None → (k : ℕ) × (slice_get xs k ≡ Some g)
all-listed v left xs r w f zero g h live = absurd (omega arith)
all-listed v left xs r w f (suc n) g h live = elim (cases_eq (slice_index left g) 0) [
  | inl none ↦ f.counted.listed g live none
  | inr some ↦
      let found = unseen-found f.seen (gate_pins v.pool g) (λ none. some (f.counted.counts g live ∙ none)) in
      let p = found.0 in
      let nz : g ≢ 0 = λ is. (let wrong : has p [] ≡ true = ap (λ (n : ℕ). has p (gate_pins v.pool n)) (sym is) ∙ found.1.0 in cc) in
      let pins : gate_pins v.pool g ≡ list_of v.pool.inputs g = rw (ne_eqb g 0 nz) refl in
      let inside : has p (list_of v.pool.inputs g) ≡ true = ap (has p) (sym pins) ∙ found.1.0 in
      let by = w.shape.driven g p inside in
      let less = w.ranked g by.0 p nz inside by.1 in
      let at = all-listed v left xs r w f n by.0 (omega (arith, less, h)) (w.shape.drivers_live by.0 p by.1) in
      absurd (false≢true (sym found.1.1 ∙ f.done at.0 by.0 p (slice_get_within xs at.0 by.0 at.1) at.1 by.1))
]

pub order-is : (v : Circuit) (left xs : List ℕ) (next : ℕ) → AreRings (rings_of v.pool) → IsWired (wiring v) → IsFollowed v left xs next → length xs ≤ next → IsOrder (net_of v) xs
order-is v left xs next r w f end =
    let is : next ≡ length xs = omega (arith, f.room) in
    let g : IsFollowed v left xs (length xs) = subst (λ (k : ℕ). IsFollowed v left xs k) is f in
    record {
      live = λ k x e. live-node v x (f.counted.live k x e);
      all = λ x alive. all-listed v left xs r w g (suc (w.rank x)) x (omega arith) (λ none. alive (dead-node v x none));
      once = f.counted.once;
      before = λ k l x y position e e' reads.
          let by = read-by v r w.shape y position x reads in
          let driven = f.counted.before l y by.0 e' (has-there (gate_pins v.pool y) position by.0 (sym by.1.0)) in
          let same : slice_get xs driven.0 ≡ Some x = driven.1.1 ∙ ap (λ (n : ℕ). Some n) (home-here v.pool.fanouts _ by.0 x r.fanouts by.1.1) in
          let is' = f.counted.once k driven.0 x e same in
          let less = driven.1.0 in omega (arith, is', less);
    }

pub started-step : (v : Circuit) (left left' xs xs' : List ℕ) (n x : ℕ) → IsStarted v left xs n → x ≡ length (gate_pins v.pool n) → left' ≡ left ++ x ∷ [] → (kind_at v.kinds n ≢ None → x ≡ 0 → xs' ≡ xs ++ n ∷ []) → (kind_at v.kinds n ≡ None → xs' ≡ xs) → (x ≢ 0 → xs' ≡ xs) → IsStarted v left' xs' (n + 1)
started-step v left left' xs xs' n x i is el ready dead more = elim (cases_eq x 0) [
  | inr some ↦ rw (el, more some) (started-other v left xs n x i is (inr some))
  | inl none ↦ by (kind_at v.kinds n) refl none
]
  where
    by : (o : Option Kind) → kind_at v.kinds n ≡ o → x ≡ 0 → IsStarted v left' xs' (n + 1)
    by None e none = rw (el, dead e) (started-other v left xs n x i is (inl e))
    by (Some k) e none =
        let alive : kind_at v.kinds n ≢ None = λ none'. (let both : Some k ≡ None = sym e ∙ none' in cc) in
        rw (el, ready alive none) (started-ready v left xs n x i is alive none)

pub at-number : (xs : List NodeId) (k : ℕ) (d : NodeId) → k < length xs → (let x : NodeId = get_or xs k d in slice_get (map (λ (n : NodeId). n.0) xs) k ≡ Some x.0)
at-number [] k d h = absurd (omega arith)
at-number (x ∷ xs) zero d h = refl
at-number (x ∷ xs) (suc k) d h = at-number xs k d (omega arith)
