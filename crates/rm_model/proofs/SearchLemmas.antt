-- The steps of the search for ranks keep what is said of it.
use Rattle.std.proofs.Common.{◌≡◌, ◌≢◌, ℕ, zero, suc, ◌<◌, ◌≤◌, List, [], ◌∷◌, ◌++◌, map, length, take, set, replicate, Option, Some, None, ◌⊎◌, inl, inr, refl, sym, ap, ◌∙◌, subst, arith, length-append, length-set}
use Rattle.std.specs.Prelude.{slice_get}
use Rattle.std.specs.Option.{option_map}
use Rattle.std.proofs.Math.Seq.{take-length}
use Rattle.std.proofs.Math.ListN.{get_or-eq_default}
use Rattle.std.proofs.lemmas.Bool.{cases_eq, cases_lt}
use Rattle.std.proofs.lemmas.List.{get_or-map, length-replicate}
use Rattle.std.proofs.lemmas.Option.{slice_get_within}
use Rattle.rm_model.specs.Ranks.{rank_at}
use Rattle.rm_model.specs.Inner.Numbers.{rank_over}
use Rattle.rm_model.specs.Inner.Search.{list_at, known_count, State, HasRank, IsIn, AllowsRank, IsSound, IsSettled, waiting_for, with_rank, woken, start, LeadsTo}
use Rattle.rm_model.specs.declared.rank_search.Looked.{Looked}
use Rattle.rm_model.proofs.RankLaws.{Below, parts_of, higher_parts, at_replicate, same_list, length_map}
use Rattle.rm_model.proofs.PlaceLemmas.{get-set, written}
use Rattle.rm_base.proofs.Public.{front_stands, last_stands, pushed_stands}

-- one driver's part
abbrev pub above : List (Option ℕ) → ℕ → Option ℕ
above r d = option_map (λ n. suc n) (rank_at r d)

above-some : (r : List (Option ℕ)) (d n : ℕ) → above r d ≡ Some n → (i : ℕ) × ((rank_at r d ≡ Some i) × (n ≡ suc i))
above-some r d n e = go (rank_at r d) refl e
  where
    go : (o : Option ℕ) → rank_at r d ≡ o → option_map (λ n. suc n) o ≡ Some n → (i : ℕ) × ((rank_at r d ≡ Some i) × (n ≡ suc i))
    go None is e = absurd cc
    go (Some i) is e = (i, (is, cc))

pub rank_over-more : (r s : List (Option ℕ)) → Below r s → (ds : List ℕ) (n : ℕ) → rank_over r ds ≡ Some n → rank_over s ds ≡ Some n
rank_over-more r s below [] n e = e
rank_over-more r s below (d ∷ ds) n e =
    let p = parts_of (above r d) (rank_over r ds) n e in
    let h : (i : ℕ) × ((rank_at r d ≡ Some i) × (p.first ≡ suc i)) = above-some r d p.first p.is_first in
    let now : rank_at s d ≡ Some h.0 = below d h.0 h.1.0 in
    let first : above s d ≡ Some p.first = rw now (ap Some (sym h.1.1)) in
    higher_parts (above s d) (rank_over s ds) n (record { first = p.first; second = p.second; is_first = first; is_second = rank_over-more r s below ds p.second p.is_second; is_max = p.is_max })

pub rank_over-bound : (r : List (Option ℕ)) (high : ℕ) → ((k n : ℕ) → rank_at r k ≡ Some n → n < high) → (ds : List ℕ) (n : ℕ) → rank_over r ds ≡ Some n → n ≤ high
rank_over-bound r high small [] n e = let is : 0 ≡ n = cc in omega (arith, is)
rank_over-bound r high small (d ∷ ds) n e =
    let p = parts_of (above r d) (rank_over r ds) n e in
    let h : (i : ℕ) × ((rank_at r d ≡ Some i) × (p.first ≡ suc i)) = above-some r d p.first p.is_first in
    omega (arith, p.is_max, h.1.1, small d h.0 h.1.0, rank_over-bound r high small ds p.second p.is_second)

pub rank_over-all : (r : List (Option ℕ)) (ds : List ℕ) (n p d : ℕ) → rank_over r ds ≡ Some n → slice_get ds p ≡ Some d → HasRank (rank_at r d)
rank_over-all r [] n p d e at = absurd cc
rank_over-all r (c ∷ ds) n zero d e at =
    let parts = parts_of (above r c) (rank_over r ds) n e in
    let h : (i : ℕ) × ((rank_at r c ≡ Some i) × (parts.first ≡ suc i)) = above-some r c parts.first parts.is_first in
    let is : c ≡ d = cc in
    (h.0, subst (λ (k : ℕ). rank_at r k ≡ Some h.0) is h.1.0)
rank_over-all r (c ∷ ds) n (suc p) d e at = let parts = parts_of (above r c) (rank_over r ds) n e in rank_over-all r ds parts.second p d parts.is_second at

pub known_count-set : (r : List (Option ℕ)) (k n : ℕ) → k < length r → rank_at r k ≡ None → known_count (set r k (Some n)) ≡ suc (known_count r)
known_count-set [] k n lt e = absurd (omega (arith, lt))
known_count-set (None ∷ r) zero n lt e = refl
known_count-set (Some i ∷ r) zero n lt e = absurd cc
known_count-set (None ∷ r) (suc k) n lt e = known_count-set r k n (omega (arith, lt)) e
known_count-set (Some i ∷ r) (suc k) n lt e = ap suc (known_count-set r k n (omega (arith, lt)) e)

-- a cover gets its rank
module _ (drivers : List (List ℕ)) (s : State) (sound : IsSound drivers s) (k : ℕ) (l : Looked) (within : k < length drivers) (unknown : rank_at s.ranks k ≡ None) (all : l.count ≡ length (list_at drivers k)) (least : rank_over s.ranks (take l.count (list_at drivers k)) ≡ Some l.least) where
  in_ranks : k < length s.ranks
  in_ranks = omega (arith, within, sound.ranks_length)

  abbrev after : State
  after = with_rank s k l

  here : (j : ℕ) → j ≡ k → rank_at after.ranks j ≡ Some l.least
  here j e = (written s.ranks k (Some l.least) j None in_ranks).here e

  elsewhere : (j : ℕ) → j ≢ k → rank_at after.ranks j ≡ rank_at s.ranks j
  elsewhere j ne = (written s.ranks k (Some l.least) j None in_ranks).elsewhere ne

  more : Below s.ranks after.ranks
  more j n e = elim (cases_eq j k) [
    | inl is ↦ absurd (let none : rank_at s.ranks j ≡ None = ap (rank_at s.ranks) is ∙ unknown in cc)
    | inr ne ↦ elsewhere j ne ∙ e
  ]

  full : rank_over s.ranks (list_at drivers k) ≡ Some l.least
  full = ap (rank_over s.ranks) (sym (ap (λ (n : ℕ). take n (list_at drivers k)) all ∙ take-length (list_at drivers k))) ∙ least

  not-listed : (p : ℕ) → slice_get s.order p ≡ Some k → ⊥
  not-listed p e = let h : HasRank (rank_at s.ranks k) = sound.ranked k (p, e) in let is = h.1 in cc

  push-once : (p q j : ℕ) → (slice_get s.order p ≡ Some j) ⊎ ((p ≡ length s.order) × (j ≡ k)) → (slice_get s.order q ≡ Some j) ⊎ ((q ≡ length s.order) × (j ≡ k)) → p ≡ q
  push-once p q j (inl a) (inl b) = sound.once p q j a b
  push-once p q j (inl a) (inr b) = absurd (not-listed p (a ∙ ap Some b.1))
  push-once p q j (inr a) (inl b) = absurd (not-listed q (b ∙ ap Some a.1))
  push-once p q j (inr a) (inr b) = a.0 ∙ sym b.0

  with_rank-sound : IsSound drivers after
  with_rank-sound = record {
    ranks_length = length-set s.ranks k (Some l.least) ∙ sound.ranks_length;
    looked_length = length-set s.looked k l ∙ sound.looked_length;
    waiting_length = sound.waiting_length;
    follow = λ j n e. elim (cases_eq j k) [
      | inl is ↦
          let n_is : l.least ≡ n = (let h = here j is in cc) in
          ap (λ (i : ℕ). rank_over after.ranks (list_at drivers i)) is ∙ (rank_over-more s.ranks after.ranks more (list_at drivers k) l.least full ∙ ap Some n_is)
      | inr ne ↦ rank_over-more s.ranks after.ranks more (list_at drivers j) n (sound.follow j n (sym (elsewhere j ne) ∙ e))
    ];
    small = λ j n e. elim (cases_eq j k) [
      | inl is ↦
          let n_is : l.least ≡ n = (let h = here j is in cc) in
          omega (arith, n_is, length-append s.order (k ∷ []), rank_over-bound s.ranks (length s.order) sound.small (list_at drivers k) l.least full)
      | inr ne ↦ omega (arith, length-append s.order (k ∷ []), sound.small j n (sym (elsewhere j ne) ∙ e))
    ];
    count = omega (arith, length-append s.order (k ∷ []), sound.count, known_count-set s.ranks k l.least in_ranks unknown);
    looked = λ j h e. elim (get-set s.looked k l j h e) [
      | inl is ↦
          let mine : AllowsRank after.ranks (list_at drivers k) l = (omega (arith, all), rank_over-more s.ranks after.ranks more (take l.count (list_at drivers k)) l.least least) in
          subst (λ (i : ℕ). AllowsRank after.ranks (list_at drivers i) h) (sym is.0) (subst (AllowsRank after.ranks (list_at drivers k)) (sym is.1) mine)
      | inr old ↦ let o = sound.looked j h old in (o.0, rank_over-more s.ranks after.ranks more (take h.count (list_at drivers j)) h.least o.1)
    ];
    listed = λ j n e. elim (cases_eq j k) [
      | inl is ↦ (length s.order, last_stands s.order k ∙ ap Some (sym is))
      | inr ne ↦ let o = sound.listed j n (sym (elsewhere j ne) ∙ e) in (o.0, front_stands s.order (k ∷ []) o.0 j o.1)
    ];
    once = λ p q j e f. push-once p q j (pushed_stands s.order k p j e) (pushed_stands s.order k q j f);
    ranked = λ j at. elim (pushed_stands s.order k at.0 j at.1) [
      | inl old ↦ let o : HasRank (rank_at s.ranks j) = sound.ranked j (at.0, old) in (o.0, more j o.0 o.1)
      | inr is ↦ (l.least, here j is.1)
    ];
    waiting = sound.waiting;
    ordered = λ p j d at reads. elim (pushed_stands s.order k p j at) [
      | inl old ↦ let o = sound.ordered p j d old reads in (o.0, (o.1.0, front_stands s.order (k ∷ []) o.0 d o.1.1))
      | inr is ↦
          let mine : IsIn (list_at drivers k) d = subst (λ (i : ℕ). IsIn (list_at drivers i) d) is.1 reads in
          let known : HasRank (rank_at s.ranks d) = rank_over-all s.ranks (list_at drivers k) l.least mine.0 d full mine.1 in
          let o : IsIn s.order d = sound.listed d known.0 known.1 in
          (o.0, (omega (arith, is.0, slice_get_within s.order o.0 d o.1), front_stands s.order (k ∷ []) o.0 d o.1))
    ];
  }

  with_rank-kept : (place j : ℕ) → place ≤ length s.order → IsSettled drivers place s j → IsSettled drivers place after j
  with_rank-kept place j le (inl h) = inl (h.0, more j h.0 h.1)
  with_rank-kept place j le (inr w) = inr (record {
    driver = w.driver;
    reads = w.reads;
    waits = w.waits;
    open_yet = elim w.open_yet [
      | inl none ↦ elim (cases_eq w.driver k) [
        | inl is ↦ inr (length s.order, (le, last_stands s.order k ∙ ap Some (sym is)))
        | inr ne ↦ inl (elsewhere w.driver ne ∙ none)
      ]
      | inr at ↦ inr (at.0, (at.1.0, front_stands s.order (k ∷ []) at.0 w.driver at.1.1))
    ];
  })

  pub with_rank-leads : LeadsTo drivers s (with_rank s k l)
  with_rank-leads = record { sound = with_rank-sound; kept = with_rank-kept; longer = omega (arith, length-append s.order (k ∷ [])) }

  pub with_rank-settled : (place : ℕ) → IsSettled drivers place (with_rank s k l) k
  with_rank-settled place = inl (l.least, here k refl)

-- a cover waits for a driver without rank
module _ (drivers : List (List ℕ)) (s : State) (sound : IsSound drivers s) (k : ℕ) (l : Looked) (d : ℕ) (within : k < length drivers) (looked : AllowsRank s.ranks (list_at drivers k) l) (reads : slice_get (list_at drivers k) l.count ≡ Some d) (unknown : rank_at s.ranks d ≡ None) (known : d < length drivers) where
  abbrev later : State
  later = waiting_for s k l d

  in_waiting : d < length s.waiting
  in_waiting = omega (arith, known, sound.waiting_length)

  waits-here : (e : ℕ) → e ≡ d → list_at later.waiting e ≡ list_at s.waiting d ++ k ∷ []
  waits-here e is = (written s.waiting d (list_at s.waiting d ++ k ∷ []) e [] in_waiting).here is

  waits-elsewhere : (e : ℕ) → e ≢ d → list_at later.waiting e ≡ list_at s.waiting e
  waits-elsewhere e ne = (written s.waiting d (list_at s.waiting d ++ k ∷ []) e [] in_waiting).elsewhere ne

  waiting_for-sound : IsSound drivers later
  waiting_for-sound = record {
    ranks_length = sound.ranks_length;
    looked_length = length-set s.looked k l ∙ sound.looked_length;
    waiting_length = length-set s.waiting d (list_at s.waiting d ++ k ∷ []) ∙ sound.waiting_length;
    follow = sound.follow;
    small = sound.small;
    count = sound.count;
    looked = λ j h e. elim (get-set s.looked k l j h e) [
      | inl is ↦ subst (λ (i : ℕ). AllowsRank s.ranks (list_at drivers i) h) (sym is.0) (subst (AllowsRank s.ranks (list_at drivers k)) (sym is.1) looked)
      | inr old ↦ sound.looked j h old
    ];
    listed = sound.listed;
    once = sound.once;
    ranked = sound.ranked;
    waiting = λ e j at. elim (cases_eq e d) [
      | inl is ↦
          let here : IsIn (list_at s.waiting d ++ k ∷ []) j = subst (λ (ls : List ℕ). IsIn ls j) (waits-here e is) at in
          elim (pushed_stands (list_at s.waiting d) k here.0 j here.1) [
            | inl old ↦ sound.waiting d j (here.0, old)
            | inr new ↦ omega (arith, new.1, within)
          ]
      | inr ne ↦ sound.waiting e j (subst (λ (ls : List ℕ). IsIn ls j) (waits-elsewhere e ne) at)
    ];
    ordered = sound.ordered;
  }

  still-waits : (e j : ℕ) → IsIn (list_at s.waiting e) j → IsIn (list_at later.waiting e) j
  still-waits e j at = elim (cases_eq e d) [
    | inl is ↦
        let old : IsIn (list_at s.waiting d) j = subst (λ (i : ℕ). IsIn (list_at s.waiting i) j) is at in
        let new : IsIn (list_at s.waiting d ++ k ∷ []) j = (old.0, front_stands (list_at s.waiting d) (k ∷ []) old.0 j old.1) in
        subst (λ (ls : List ℕ). IsIn ls j) (sym (waits-here e is)) new
    | inr ne ↦ subst (λ (ls : List ℕ). IsIn ls j) (sym (waits-elsewhere e ne)) at
  ]

  waiting_for-kept : (place j : ℕ) → place ≤ length s.order → IsSettled drivers place s j → IsSettled drivers place later j
  waiting_for-kept place j le (inl h) = inl h
  waiting_for-kept place j le (inr w) = inr (record { driver = w.driver; reads = w.reads; waits = still-waits w.driver j w.waits; open_yet = w.open_yet })

  pub waiting_for-leads : LeadsTo drivers s (waiting_for s k l d)
  waiting_for-leads = record { sound = waiting_for-sound; kept = waiting_for-kept; longer = omega arith }

  pub waiting_for-settled : (place : ℕ) → IsSettled drivers place (waiting_for s k l d) k
  waiting_for-settled place = inr (record {
    driver = d;
    reads = (l.count, reads);
    waits = subst (λ (ls : List ℕ). IsIn ls k) (sym (waits-here d refl)) (length (list_at s.waiting d), last_stands (list_at s.waiting d) k);
    open_yet = inl unknown;
  })

-- the covers that wait for the next cover of the order are taken out
module _ (drivers : List (List ℕ)) (s : State) (sound : IsSound drivers s) (place d : ℕ) (at : slice_get s.order place ≡ Some d) (known : d < length drivers) where
  in_lists : d < length s.waiting
  in_lists = omega (arith, known, sound.waiting_length)

  woken-elsewhere : (e : ℕ) → e ≢ d → list_at (woken s d).waiting e ≡ list_at s.waiting e
  woken-elsewhere e ne = (written s.waiting d [] e [] in_lists).elsewhere ne

  none-here : (e : ℕ) → e ≡ d → list_at (woken s d).waiting e ≡ []
  none-here e is = (written s.waiting d [] e [] in_lists).here is

  pub woken-sound : IsSound drivers (woken s d)
  woken-sound = record {
    ranks_length = sound.ranks_length;
    looked_length = sound.looked_length;
    waiting_length = length-set s.waiting d [] ∙ sound.waiting_length;
    follow = sound.follow;
    small = sound.small;
    count = sound.count;
    looked = sound.looked;
    listed = sound.listed;
    once = sound.once;
    ranked = sound.ranked;
    waiting = λ e j in'. elim (cases_eq e d) [
      | inl is ↦ absurd (let none : IsIn [] j = subst (λ (ls : List ℕ). IsIn ls j) (none-here e is) in' in no_place none)
      | inr ne ↦ sound.waiting e j (subst (λ (ls : List ℕ). IsIn ls j) (woken-elsewhere e ne) in')
    ];
    ordered = sound.ordered;
  }
    where
      no_place : {j : ℕ} → IsIn [] j → ⊥
      no_place h = let e = h.1 in cc

  pub woken-settled : (j : ℕ) → IsSettled drivers place s j → IsSettled drivers (suc place) (woken s d) j ⊎ IsIn (list_at s.waiting d) j
  woken-settled j (inl h) = inl (inl h)
  woken-settled j (inr w) = elim (cases_eq w.driver d) [
    | inl is ↦ inr (subst (λ (i : ℕ). IsIn (list_at s.waiting i) j) is w.waits)
    | inr ne ↦ inl (inr (record {
      driver = w.driver;
      reads = w.reads;
      waits = subst (λ (ls : List ℕ). IsIn ls j) (sym (woken-elsewhere w.driver ne)) w.waits;
      open_yet = elim w.open_yet [
        | inl none ↦ inl none
        | inr o ↦ elim (cases_eq o.0 place) [
          | inl same ↦ absurd (ne (let there : slice_get s.order place ≡ Some w.driver = subst (λ (i : ℕ). slice_get s.order i ≡ Some w.driver) same o.1.1 in cc))
          | inr other ↦ inr (o.0, (omega (arith, o.1.0, other), o.1.1))
        ]
      ];
    }))
  ]

pub leads-on : (drivers : List (List ℕ)) (s t u : State) → LeadsTo drivers s t → LeadsTo drivers t u → LeadsTo drivers s u
leads-on drivers s t u f g = record {
  sound = g.sound;
  kept = λ place k le h. g.kept place k (omega (arith, le, f.longer)) (f.kept place k le h);
  longer = omega (arith, f.longer, g.longer);
}

pub leads-stays : (drivers : List (List ℕ)) (s : State) → IsSound drivers s → LeadsTo drivers s s
leads-stays drivers s sound = record { sound = sound; kept = λ place k le h. h; longer = omega arith }

known_count-length : (r : List (Option ℕ)) → known_count r ≤ length r
known_count-length [] = omega arith
known_count-length (None ∷ r) = omega (arith, known_count-length r)
known_count-length (Some n ∷ r) = omega (arith, known_count-length r)

pub ranks-small : (drivers : List (List ℕ)) (s : State) → IsSound drivers s → (k n : ℕ) → rank_at s.ranks k ≡ Some n → n < length s.ranks
ranks-small drivers s sound k n e = omega (arith, sound.small k n e, sound.count, known_count-length s.ranks)

pub order-short : (drivers : List (List ℕ)) (s : State) → IsSound drivers s → length s.order ≤ length drivers
order-short drivers s sound = omega (arith, sound.count, known_count-length s.ranks, sound.ranks_length)

pub rank-within : (r : List (Option ℕ)) (k n : ℕ) → rank_at r k ≡ Some n → k < length r
rank-within [] k n e = absurd cc
rank-within (a ∷ r) zero n e = omega arith
rank-within (a ∷ r) (suc k) n e = omega (arith, rank-within r k n e)

pub order-known : (drivers : List (List ℕ)) (s : State) → IsSound drivers s → (p k : ℕ) → slice_get s.order p ≡ Some k → k < length drivers
order-known drivers s sound p k e =
    let h : HasRank (rank_at s.ranks k) = sound.ranked k (p, e) in
    omega (arith, rank-within s.ranks k h.0 h.1, sound.ranks_length)

none-there : (n k i : ℕ) → rank_at (replicate n None) k ≡ Some i → ⊥
none-there n k i e = let none = at_replicate n k in cc

none-known : (n : ℕ) → known_count (replicate n None) ≡ 0
none-known zero = refl
none-known (suc n) = none-known n

replicate-at : {X : Type 0} (n k : ℕ) (v x : X) → slice_get (replicate n v) k ≡ Some x → x ≡ v
replicate-at zero k v x e = absurd cc
replicate-at (suc n) zero v x e = let is : v ≡ x = cc in sym is
replicate-at (suc n) (suc k) v x e = replicate-at n k v x e

empty-lists : (n k : ℕ) → list_at (replicate n []) k ≡ []
empty-lists zero k = refl
empty-lists (suc n) zero = refl
empty-lists (suc n) (suc k) = empty-lists n k

not-in : {j : ℕ} (xs : List ℕ) → xs ≡ [] → IsIn xs j → ⊥
not-in [] e h = let is = h.1 in cc
not-in (x ∷ xs) e h = cc

pub start-sound : (drivers : List (List ℕ)) (n : ℕ) → n ≡ length drivers → IsSound drivers (start n)
start-sound drivers n e = record {
  ranks_length = length-replicate n None ∙ e;
  looked_length = length-replicate n (record { count = 0; least = 0 }) ∙ e;
  waiting_length = length-replicate n [] ∙ e;
  follow = λ k i is. absurd (none-there n k i is);
  small = λ k i is. absurd (none-there n k i is);
  count = sym (none-known n);
  looked = λ k l is. let same : l ≡ record { count = 0; least = 0 } = replicate-at n k (record { count = 0; least = 0 }) l is in subst (AllowsRank (replicate n None) (list_at drivers k)) (sym same) (omega arith, ap (rank_over (replicate n None)) (take-zero (list_at drivers k)));
  listed = λ k i is. absurd (none-there n k i is);
  once = λ p q k e f. absurd (not-in [] refl (p, e));
  ranked = λ k at. absurd (not-in [] refl at);
  waiting = λ d k at. absurd (not-in (list_at (replicate n []) d) (empty-lists n d) at);
  ordered = λ p k d at reads. absurd (not-in [] refl (p, at));
}
  where
    take-zero : (xs : List ℕ) → take 0 xs ≡ []
    take-zero [] = refl
    take-zero (x ∷ xs) = refl

-- at the end a cover without rank waits for one without rank
rank_over-none : (r : List (Option ℕ)) (ds : List ℕ) (d : ℕ) → IsIn ds d → rank_at r d ≡ None → rank_over r ds ≡ None
rank_over-none r ds d at none = go (rank_over r ds) refl
  where
    go : (o : Option ℕ) → rank_over r ds ≡ o → o ≡ None
    go None e = refl
    go (Some n) e = absurd (let h : HasRank (rank_at r d) = rank_over-all r ds n at.0 d e at.1 in let is = h.1 in cc)

pub settled-follow : (drivers : List (List ℕ)) (s : State) → IsSound drivers s → ((k : ℕ) → k < length drivers → IsSettled drivers (length s.order) s k) → s.ranks ≡ map (rank_over s.ranks) drivers
settled-follow drivers s sound settled = same_list s.ranks (map (rank_over s.ranks) drivers) (sound.ranks_length ∙ sym (length_map (rank_over s.ranks) drivers)) (λ k. at k (cases_lt k (length drivers)))
  where
    by-list : (k : ℕ) → k < length drivers → rank_at (map (rank_over s.ranks) drivers) k ≡ rank_over s.ranks (list_at drivers k)
    by-list k lt = get_or-map (rank_over s.ranks) drivers k [] None lt

    value : (k : ℕ) → IsSettled drivers (length s.order) s k → rank_at s.ranks k ≡ rank_over s.ranks (list_at drivers k)
    value k (inl h) = h.1 ∙ sym (sound.follow k h.0 h.1)
    value k (inr w) = by (rank_at s.ranks k) refl w.open_yet
      where
        by : (o : Option ℕ) → rank_at s.ranks k ≡ o → (rank_at s.ranks w.driver ≡ None) ⊎ ((i : ℕ) × ((length s.order ≤ i) × (slice_get s.order i ≡ Some w.driver))) → o ≡ rank_over s.ranks (list_at drivers k)
        by (Some n) e _ = sym (sound.follow k n e)
        by None e (inl none) = sym (rank_over-none s.ranks (list_at drivers k) w.driver w.reads none)
        by None e (inr h) = absurd (omega (arith, h.1.0, slice_get_within s.order h.0 w.driver h.1.1))

    at : (k : ℕ) → (k < length drivers) ⊎ (length drivers ≤ k) → rank_at s.ranks k ≡ rank_at (map (rank_over s.ranks) drivers) k
    at k (inl lt) = value k (settled k lt) ∙ sym (by-list k lt)
    at k (inr le) = get_or-eq_default s.ranks None (omega (arith, le, sound.ranks_length)) ∙ sym (get_or-eq_default (map (rank_over s.ranks) drivers) None (omega (arith, le, length_map (rank_over s.ranks) drivers)))
