-- The last entry of each place.
use Rattle.std.proofs.Common.{List, Some, [], ap, append-nil, append_assoc, arith, get_or, inl, inr, length, length-append, length-set, refl, replicate, subst, suc, sym, zero, ℕ, ◌++◌, ◌+◌, ◌-◌, ◌<◌, ◌∙◌, ◌∷◌, ◌≡◌, ◌≢◌, ◌≤◌, ◌⊎◌}
use Rattle.std.proofs.lemmas.Bool.{cases_lt}
use Rattle.std.proofs.lemmas.Bool.Decides.{eqb_tells}
use Rattle.std.proofs.lemmas.List.{get_or-replicate, get_or-set_other, get_or-set_same, length-replicate}
use Rattle.std.proofs.lemmas.Option.{slice_get_read, slice_get_within}
use Rattle.std.specs.Prelude.{slice_get, slice_index, slice_set}
use Rattle.recursive_learning.specs.Resting.{IsLonger, IsWatched}
use Rattle.recursive_learning.specs.Inner.Resting.{IsIndex, IsLast}
use Rattle.recursive_learning.specs.declared.resting.Rest.{Rest}
use Rattle.rm_base.proofs.Public.{front_stands, last_stands, one_stands}

-- PLACES IN A LIST
-- a place of a longer list is one of the list before, or the new one
pub get_pushed : {A : Type 0} (xs : List A) (x : A) (k : ℕ) (a : A) → slice_get (xs ++ x ∷ []) k ≡ Some a → ((k < length xs) × (slice_get xs k ≡ Some a)) ⊎ ((k ≡ length xs) × (a ≡ x))
get_pushed [] x zero a e = inr (refl, let same : x ≡ a = cc in sym same)
get_pushed [] x (suc k) a e = cc
get_pushed (y ∷ xs) x zero a e = inl (omega arith, e)
get_pushed (y ∷ xs) x (suc k) a e = elim (get_pushed xs x k a e) [
  | inl old ↦ inl (let less : k < length xs = old.0 in omega arith, old.1)
  | inr new ↦ inr (ap suc new.0, new.1)
]

pub longer_none : (xs : List Rest) → IsLonger xs xs
longer_none xs = ([], sym (append-nil xs))

pub longer_join : (xs ys zs : List Rest) → IsLonger xs ys → IsLonger ys zs → IsLonger xs zs
longer_join xs ys zs (r, e) (s, f) = (r ++ s, f ∙ ap (λ (l : List Rest). l ++ s) e ∙ append_assoc xs r s)

pub watched_longer : (xs ys : List Rest) → IsLonger xs ys → (z y : ℕ) → IsWatched xs z y → IsWatched ys z y
watched_longer xs ys (r, e) z y (k, (a, (there, is))) = (k, (a, (rw e (front_stands xs r k a there), is)))

-- NOTHING YET
pub index_none : (n : ℕ) (last : List ℕ) → last ≡ replicate n 0 → IsIndex [] last
index_none n last e = rw e (record {
  lasts = λ z less. let is : slice_index (replicate n 0) z ≡ 0 = get_or-replicate n z 0 0 (let zero' : ℕ = 0 in let long : length {A = ℕ} (replicate n zero') ≡ n = length-replicate n zero' in omega arith) in
      record {
        within = rw is (omega arith);
        there = λ k at. let wrong : 0 ≡ suc k = sym is ∙ at in absurd (omega arith);
        none = λ k e there. absurd (none_there k e there);
      };
  befores = λ k e there. absurd (none_there k e there);
  places = λ k e there. absurd (none_there k e there);
  gates = λ k e there. absurd (none_there k e there);
})
  where
    none_there : (k : ℕ) (e : Rest) → slice_get {X = Rest} [] k ≡ Some e → ⊥
    none_there k e there = cc

-- ONE MORE
-- entries before the last one don't change
last_left : (entries : List Rest) (e : Rest) (z n at : ℕ) → n ≤ length entries → IsLast entries z n at → IsLast (entries ++ e ∷ []) z n at
last_left entries e z n at le l = record {
  within = l.within;
  there = λ k is. let h : (e' : Rest) × ((slice_get entries k ≡ Some e') × (e'.place ≡ z)) = l.there k is in (h.0, (front_stands entries (e ∷ []) k h.0 h.1.0, h.1.1));
  none = λ k e' there less place. elim (get_pushed entries e k e' there) [
    | inl old ↦ l.none k e' old.1 less place
    | inr new ↦ absurd (let is : k ≡ length entries = new.0 in omega arith)
  ];
}

module _ (entries : List Rest) (last : List ℕ) (place gate : ℕ) (h : IsIndex entries last) (inside : place < length last) (gate_in : gate < length last) where
  abbrev new : Rest
  new = record { place = place; gate = gate; before = slice_index last place }

  abbrev more : List Rest
  more = entries ++ new ∷ []

  abbrev marked : List ℕ
  marked = slice_set last place (length entries + 1)

  longer : length more ≡ length entries + 1
  longer = length-append entries (new ∷ [])

  long : length marked ≡ length last
  long = length-set last place (length entries + 1)

  -- the new entry is the last of its place
  here : IsLast more place (length more) (length entries + 1)
  here = record {
    within = omega (arith, longer);
    there = λ k is. let same : length entries ≡ k = omega arith in (new, (rw (← same) (last_stands entries new), refl));
    none = λ k e there less is. omega (arith, longer);
  }

  -- and none of another
  other : (z : ℕ) → z ≢ place → z < length last → IsLast more z (length more) (slice_index last z)
  other z ne less = record {
    within = let w : slice_index last z ≤ length entries = (h.lasts z less).within in omega (arith, longer);
    there = λ k is. let t : (e : Rest) × ((slice_get entries k ≡ Some e) × (e.place ≡ z)) = (h.lasts z less).there k is in (t.0, (front_stands entries (new ∷ []) k t.0 t.1.0, t.1.1));
    none = λ k e there low is. elim (get_pushed entries new k e there) [
      | inl old ↦ (h.lasts z less).none k e old.1 old.0 is
      | inr last' ↦ absurd (ne (sym is ∙ ap (λ (a : Rest). a.place) last'.1))
    ];
  }

  at_place : (z : ℕ) → z < length last → IsLast more z (length more) (slice_index marked z)
  at_place z less = elim (eqb_tells z place) [
    | inl same ↦ subst (λ (w : ℕ). IsLast more w (length more) (slice_index marked w)) (sym same.1) (subst (IsLast more place (length more)) (sym (get_or-set_same last place (length entries + 1) 0 inside)) here)
    | inr ne ↦ subst (IsLast more z (length more)) (sym (get_or-set_other last place z (length entries + 1) 0 ne.1)) (other z ne.1 less)
  ]

  pub index_push : IsIndex more marked
  index_push = record {
    lasts = λ z less. at_place z (omega (arith, long));
    befores = λ k e there. elim (get_pushed entries new k e there) [
      | inl old ↦ last_left entries new e.place k e.before (omega (arith, old.0)) (h.befores k e old.1)
      | inr new' ↦ rw (new'.0, new'.1) (last_left entries new place (length entries) (slice_index last place) (omega arith) (h.lasts place inside))
    ];
    places = λ k e there. elim (get_pushed entries new k e there) [
      | inl old ↦ let p : e.place < length last = h.places k e old.1 in omega (arith, long)
      | inr new' ↦ rw new'.1 (omega (arith, long))
    ];
    gates = λ k e there. elim (get_pushed entries new k e there) [
      | inl old ↦ let p : e.gate < length last = h.gates k e old.1 in omega (arith, long)
      | inr new' ↦ rw new'.1 (omega (arith, long))
    ];
  }

  pub watched_push : IsWatched more place gate
  watched_push = (length entries, (new, (last_stands entries new, (refl, refl))))

-- ONE LESS
module _ (entries : List Rest) (e : Rest) (last : List ℕ) (h : IsIndex (entries ++ e ∷ []) last) where
  all_long : length (entries ++ e ∷ []) ≡ length entries + 1
  all_long = length-append entries (e ∷ [])

  abbrev cleared : List ℕ
  cleared = slice_set last e.place e.before

  clear_long : length cleared ≡ length last
  clear_long = length-set last e.place e.before

  -- what is said of entries before the last one
  left_last : (z n at : ℕ) → n ≤ length entries → at ≤ n → IsLast (entries ++ e ∷ []) z n at → IsLast entries z n at
  left_last z n at le low l = record {
    within = low;
    there = λ k is. let t : (e' : Rest) × ((slice_get (entries ++ e ∷ []) k ≡ Some e') × (e'.place ≡ z)) = l.there k is in
        elim (get_pushed entries e k t.0 t.1.0) [
          | inl old ↦ (t.0, (old.1, t.1.1))
          | inr new ↦ absurd (let same : k ≡ length entries = new.0 in omega arith)
        ];
    none = λ k e' there less is. l.none k e' (front_stands entries (e ∷ []) k e' there) less is;
  }

  gone_here : IsLast entries e.place (length entries) e.before
  gone_here = let b : IsLast (entries ++ e ∷ []) e.place (length entries) e.before = h.befores (length entries) e (last_stands entries e) in left_last e.place (length entries) e.before (omega arith) b.within b

  -- another place doesn't have the last entry
  low_other : (z : ℕ) → z ≢ e.place → (less : z < length last) → slice_index last z ≤ length entries
  low_other z ne less = elim (cases_lt (length entries) (slice_index last z)) [
    | inl high ↦ let w : slice_index last z ≤ length (entries ++ e ∷ []) = (h.lasts z less).within in
        let is : slice_index last z ≡ suc (length entries) = omega (arith, all_long) in
        let t : (e' : Rest) × ((slice_get (entries ++ e ∷ []) (length entries) ≡ Some e') × (e'.place ≡ z)) = (h.lasts z less).there (length entries) is in
        absurd (ne (sym t.1.1 ∙ ap (λ (a : Rest). a.place) (one_stands (entries ++ e ∷ []) (length entries) t.0 e t.1.0 (last_stands entries e))))
    | inr low ↦ low
  ]

  gone_other : (z : ℕ) → z ≢ e.place → (less : z < length last) → IsLast entries z (length entries) (slice_index last z)
  gone_other z ne less = let low : slice_index last z ≤ length entries = low_other z ne less in record {
    within = low;
    there = λ k is. let t : (e' : Rest) × ((slice_get (entries ++ e ∷ []) k ≡ Some e') × (e'.place ≡ z)) = (h.lasts z less).there k is in
        elim (get_pushed entries e k t.0 t.1.0) [
          | inl old ↦ (t.0, (old.1, t.1.1))
          | inr new ↦ absurd (let same : k ≡ length entries = new.0 in omega arith)
        ];
    none = λ k e' there less' is. (h.lasts z less).none k e' (front_stands entries (e ∷ []) k e' there) (omega (arith, all_long)) is;
  }

  gone_at : (z : ℕ) → z < length last → IsLast entries z (length entries) (slice_index cleared z)
  gone_at z less = elim (eqb_tells z e.place) [
    | inl same ↦ subst (λ (w : ℕ). IsLast entries w (length entries) (slice_index cleared w)) (sym same.1) (subst (IsLast entries e.place (length entries)) (sym (get_or-set_same last e.place e.before 0 (h.places (length entries) e (last_stands entries e)))) gone_here)
    | inr ne ↦ subst (IsLast entries z (length entries)) (sym (get_or-set_other last e.place z e.before 0 ne.1)) (gone_other z ne.1 less)
  ]

  pub index_pop : IsIndex entries cleared
  index_pop = record {
    lasts = λ z less. gone_at z (omega (arith, clear_long));
    befores = λ k e' there. let less : k < length entries = slice_get_within entries k e' there in
        let b : IsLast (entries ++ e ∷ []) e'.place k e'.before = h.befores k e' (front_stands entries (e ∷ []) k e' there) in
        left_last e'.place k e'.before (omega arith) b.within b;
    places = λ k e' there. let p : e'.place < length last = h.places k e' (front_stands entries (e ∷ []) k e' there) in omega (arith, clear_long);
    gates = λ k e' there. let p : e'.gate < length last = h.gates k e' (front_stands entries (e ∷ []) k e' there) in omega (arith, clear_long);
  }

-- GOING BACK
-- the gates of the entries of the place from that number on have been seen
abbrev pub SeesFrom : List Rest → ℕ → ℕ → (ℕ → Type 0) → Type 0
SeesFrom entries z at Seen = (k : ℕ) (e : Rest) → slice_get entries k ≡ Some e → at ≤ k → e.place ≡ z → Seen e.gate

pub sees_first : (entries : List Rest) (last : List ℕ) (z : ℕ) (Seen : ℕ → Type 0) → IsIndex entries last → z < length last → SeesFrom entries z (slice_index last z) Seen
sees_first entries last z Seen h less k e there le is =
    let low : k < slice_index last z = (h.lasts z less).none k e there (slice_get_within entries k e there) is in absurd (omega arith)

pub sees_next : (entries : List Rest) (last : List ℕ) (z k : ℕ) (e : Rest) (Seen : ℕ → Type 0) → IsIndex entries last → slice_get entries k ≡ Some e → e.place ≡ z → SeesFrom entries z (suc k) Seen → Seen e.gate → SeesFrom entries z e.before Seen
sees_next entries last z k e Seen h there is sees seen j a at le place = elim (cases_lt k j) [
  | inl above ↦ sees j a at (omega arith) place
  | inr below ↦ elim (cases_lt j k) [
    | inl before ↦ let low : j < e.before = (h.befores k e there).none j a at before (place ∙ sym is) in absurd (omega arith)
    | inr same' ↦ let same : j ≡ k = omega arith in subst Seen (ap (λ (b : Rest). b.gate) (one_stands entries k e a there (subst (λ (i : ℕ). slice_get entries i ≡ Some a) same at))) seen
  ]
]

pub sees_all : (entries : List Rest) (z : ℕ) (Seen : ℕ → Type 0) → SeesFrom entries z 0 Seen → (y : ℕ) → IsWatched entries z y → Seen y
sees_all entries z Seen sees y (k, (e, (there, (place, gate)))) = subst Seen gate (sees k e there (omega arith) place)

pub last_itself : (entries : List Rest) (z n at : ℕ) → IsLast entries z n at → IsLast entries z at at
last_itself entries z n at l = record { within = omega arith; there = l.there; none = λ k e there less is. less }

-- the entry at a number that isn't 0
pub entry_within : (entries : List Rest) (z number : ℕ) → 0 < number → IsLast entries z number number → number - 1 < length entries
entry_within entries z number some l =
    let is : number ≡ suc (number - 1) = omega arith in
    let t : (e : Rest) × ((slice_get entries (number - 1) ≡ Some e) × (e.place ≡ z)) = l.there (number - 1) is in
    slice_get_within entries (number - 1) t.0 t.1.0

pub entry_read : (entries : List Rest) (z number : ℕ) (r : Rest) → 0 < number → IsLast entries z number number → r ≡ get_or entries (number - 1) r → (slice_get entries (number - 1) ≡ Some r) × (r.place ≡ z)
entry_read entries z number r some l read =
    let is : number ≡ suc (number - 1) = omega arith in
    let t : (e : Rest) × ((slice_get entries (number - 1) ≡ Some e) × (e.place ≡ z)) = l.there (number - 1) is in
    let there : slice_get entries (number - 1) ≡ Some r = slice_get_read entries (length entries) (number - 1) r refl (slice_get_within entries (number - 1) t.0 t.1.0) read in
    (there, ap (λ (a : Rest). a.place) (one_stands entries (number - 1) r t.0 there t.1.0) ∙ t.1.1)

-- where the last entry of the place is of the gate, the gate rests on it
pub watched_last : (entries : List Rest) (last : List ℕ) (z y k : ℕ) (e : Rest) → IsIndex entries last → z < length last → slice_index last z ≡ suc k → slice_get entries k ≡ Some e → e.gate ≡ y → IsWatched entries z y
watched_last entries last z y k e h less is there gate =
    let t : (e' : Rest) × ((slice_get entries k ≡ Some e') × (e'.place ≡ z)) = (h.lasts z less).there k is in
    (k, (e, (there, (ap (λ (a : Rest). a.place) (one_stands entries k e t.0 there t.1.0) ∙ t.1.1, gate))))
