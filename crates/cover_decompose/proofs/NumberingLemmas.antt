-- The numbers of a well-formed model's signals.
use Rattle.std.proofs.Common.{◌≡◌, ◌<◌, ◌+◌, ℕ, zero, suc, Bool, true, false, cond, List, [], ◌∷◌, ◌++◌, length, map, get_or, set, refl, sym, ap, subst, ◌∙◌, arith}
use Rattle.std.specs.Prelude.{All, Some, Option, slice_get, ◌||◌, replicate, unwrap_or}
use Rattle.std.specs.Option.{option_map}
use Rattle.std.specs.List.{AllByRecursion, flat_map, zip}
use Rattle.std.proofs.lemmas.Option.{slice_get-map}
use Rattle.std.proofs.Math.ListN.{length-set}
use Rattle.rm_model.specs.Ranks.{rank_at, ranks_of}
use Rattle.rm_model.specs.Words.{is_word}
use Rattle.rm_model.specs.Value.{is_among, observed_names, source_names}
use Rattle.rm_model.specs.WellFormed.{IsWellFormed, IsWellFormedCover, driven_names, is_distinct}
use Rattle.rm_model.specs.declared.parts.Cover.{Cover}
use Rattle.rm_model.specs.declared.parts.Model.{Model}
use Rattle.cover_decompose.specs.Inner.Chosen.{AtPlaces, IsNumbered, Signals}
use Rattle.cover_decompose.specs.Count.{cover_zero_names, cover_wires, decomposed, new_count}
use Rattle.cover_decompose.specs.Needed.{covers_by_rank, of_ranks, ranked_covers, taken}
use Rattle.cover_decompose.specs.Inner.Places.{marked, needed_places, placed, places_by_rank}
use Rattle.cover_decompose.specs.Inner.Signals.{signal_of}
use Rattle.cover_decompose.specs.Inner.Tally.{AreEven, covers_tally}
use Rattle.cover_decompose.proofs.Choosing.{Marked, Pairs, covers_tally_match, needed_match, placed_pairs, ranks_places, set_marks}
use Rattle.cover_decompose.proofs.Matching.{signal_within, signals_from}
use Rattle.cover_decompose.proofs.Members.{among_in}
use Rattle.cover_decompose.proofs.Places.{get_right}
use Rattle.cover_decompose.proofs.Points.{distinct_rest}
use Rattle.cover_decompose.proofs.Sums.{sum-total}
use Rattle.rm_base.proofs.Public.{all_by_index, in_at}
use Rattle.rm_base.specs.Words.{Word}
use Rattle.rm_model.proofs.Public.{is_word-same, same_word}

-- among distinct names a name's number is its place
pub signal_exact : (names : List Word) (k : ℕ) (x : Word) → is_distinct names ≡ true → slice_get names k ≡ Some x → signal_of names x ≡ Some k
signal_exact [] k x d e = absurd cc
signal_exact (y ∷ ys) zero x d e = let is : y ≡ x = cc in let same : is_word x y ≡ true = ap (λ (z : Word). is_word x z) is ∙ is_word-same x in rw same refl
signal_exact (y ∷ ys) (suc k) x d e = by_test (is_word x y) refl (distinct_rest y ys d).0 (signal_exact ys k x (distinct_rest y ys d).1 e)
  where
    by_test : (b : Bool) → is_word x y ≡ b → is_among ys y ≡ false → signal_of ys x ≡ Some k → cond b (Some 0) (option_map (λ k. suc k) (signal_of ys x)) ≡ Some (suc k)
    by_test true same out rest =
        let there : is_among ys y ≡ true = ap (λ (z : Word). is_among ys z) (sym (same_word x y same)) ∙ among_in ys x (in_at ys k x e) in
        let bad : true ≡ false = sym there ∙ out in absurd cc
    by_test false same out rest = ap (λ (o : Option ℕ). option_map (λ k. suc k) o) rest

all_index : {A : Type 0} (P : A → Type 0) (xs : List A) → AllByRecursion P xs → All P xs
all_index P [] h k d lt = absurd (omega arith)
all_index P (x ∷ xs) h zero d lt = h.0
all_index P (x ∷ xs) h (suc k) d lt = all_index P xs h.1 k d (omega arith)

signals_bound : (names xs : List Word) (ks : List ℕ) → Signals names xs ks → AllByRecursion (λ k. k < length names) ks
signals_bound names [] [] h = tt
signals_bound names [] (k ∷ ks) h = absurd h
signals_bound names (x ∷ xs) [] h = absurd h
signals_bound names (x ∷ xs) (k ∷ ks) h = (signal_within names x k h.0, signals_bound names xs ks h.1)

signals_count : (names xs : List Word) (ks : List ℕ) → Signals names xs ks → length ks ≡ length xs
signals_count names [] [] h = refl
signals_count names [] (k ∷ ks) h = absurd h
signals_count names (x ∷ xs) [] h = absurd h
signals_count names (x ∷ xs) (k ∷ ks) h = ap (λ (n : ℕ). suc n) (signals_count names xs ks h.1)

-- cover by cover
abbrev pub EachSignals : List Word → List Cover → List (List ℕ) → Type 0
EachSignals names [] [] = Unit {0}
EachSignals names [] (ks ∷ inputs) = ⊥
EachSignals names (c ∷ cs) [] = ⊥
EachSignals names (c ∷ cs) (ks ∷ inputs) = Signals names c.inputs ks × EachSignals names cs inputs

each_from : (names : List Word) (cs : List Cover) (inputs : List (List ℕ)) → map (λ ks. map (λ k. Some k) ks) inputs ≡ map (λ (c : Cover). map (signal_of names) c.inputs) cs → EachSignals names cs inputs
each_from names [] [] e = tt
each_from names [] (ks ∷ inputs) e = absurd cc
each_from names (c ∷ cs) [] e = absurd cc
each_from names (c ∷ cs) (ks ∷ inputs) e =
    let here : map (λ k. Some k) ks ≡ map (signal_of names) c.inputs = cc in
    let rest : map (λ ks. map (λ k. Some k) ks) inputs ≡ map (λ (c : Cover). map (signal_of names) c.inputs) cs = cc in
    (signals_from names c.inputs ks here, each_from names cs inputs rest)

each_at : (names : List Word) (cs : List Cover) (inputs : List (List ℕ)) (i : ℕ) (c : Cover) → EachSignals names cs inputs → slice_get cs i ≡ Some c → (ks : List ℕ) × ((slice_get inputs i ≡ Some ks) × Signals names c.inputs ks)
each_at names [] inputs i c h e = absurd cc
each_at names (d ∷ cs) [] i c h e = absurd h
each_at names (d ∷ cs) (ks ∷ inputs) zero c h e = let is : d ≡ c = cc in (ks, (refl, let P : Cover → Type 0 = λ y. Signals names y.inputs ks in subst P is h.0))
each_at names (d ∷ cs) (ks ∷ inputs) (suc i) c h e = each_at names cs inputs i c h.1 e

each_count : (names : List Word) (cs : List Cover) (inputs : List (List ℕ)) → EachSignals names cs inputs → length inputs ≡ length cs
each_count names [] [] h = refl
each_count names [] (ks ∷ inputs) h = absurd h
each_count names (c ∷ cs) [] h = absurd h
each_count names (c ∷ cs) (ks ∷ inputs) h = ap (λ (n : ℕ). suc n) (each_count names cs inputs h.1)

each_even : (names : List Word) (cs : List Cover) (inputs : List (List ℕ)) → EachSignals names cs inputs → AllByRecursion IsWellFormedCover cs → AreEven cs inputs
each_even names [] inputs h w = tt
each_even names (c ∷ cs) [] h w = absurd h
each_even names (c ∷ cs) (ks ∷ inputs) h w = ((λ k d lt. w.0.row_lengths k d lt ∙ sym (signals_count names c.inputs ks h.0)), each_even names cs inputs h.1 w.1)

each_bound : (names : List Word) (cs : List Cover) (inputs : List (List ℕ)) (n : ℕ) → length names ≡ n → EachSignals names cs inputs → AllByRecursion (λ (ks : List ℕ). All (λ k. k < n) ks) inputs
each_bound names [] [] n e h = tt
each_bound names [] (ks ∷ inputs) n e h = absurd h
each_bound names (c ∷ cs) [] n e h = absurd h
each_bound names (c ∷ cs) (ks ∷ inputs) n e h = (subst (λ (i : ℕ). All (λ k. k < i) ks) e (all_index (λ k. k < length names) ks (signals_bound names c.inputs ks h.0)), each_bound names cs inputs n e h.1)

length-both : (xs ys : List Word) → length (xs ++ ys) ≡ length xs + length ys
length-both [] ys = omega arith
length-both (x ∷ xs) ys = let r = length-both xs ys in omega arith

length-outputs : (cs : List Cover) → length (map (λ (c : Cover). c.output) cs) ≡ length cs
length-outputs [] = refl
length-outputs (c ∷ cs) = ap (λ (n : ℕ). suc n) (length-outputs cs)

pub driven-length : (m : Model) → length (driven_names m) ≡ length (source_names m) + length m.covers
driven-length m = length-both (source_names m) (map (λ (c : Cover). c.output) m.covers) ∙ ap (λ (n : ℕ). length (source_names m) + n) (length-outputs m.covers)

pub numbered : (m : Model) (inputs : List (List ℕ)) (observed : List ℕ) → IsWellFormed m → map (λ ks. map (λ k. Some k) ks) inputs ≡ map (λ (c : Cover). map (signal_of (driven_names m)) c.inputs) m.covers
    → map (λ k. Some k) observed ≡ map (signal_of (driven_names m)) (observed_names m) → IsNumbered m inputs observed
numbered m inputs observed w e f =
    let each : EachSignals (driven_names m) m.covers inputs = each_from (driven_names m) m.covers inputs e in
    let points : Signals (driven_names m) (observed_names m) observed = signals_from (driven_names m) (observed_names m) observed f in
    record {
      covers = λ i c at. (
        signal_exact (driven_names m) (length (source_names m) + i) c.output w.driven_once
            (get_right (source_names m) (map (λ (c : Cover). c.output) m.covers) i ∙ (slice_get-map (λ (c : Cover). c.output) m.covers i ∙ ap (λ (o : Option Cover). option_map (λ (c : Cover). c.output) o) at)),
        each_at (driven_names m) m.covers inputs i c each at,
      );
      points = points;
      even = each_even (driven_names m) m.covers inputs each (all_by_index IsWellFormedCover m.covers w.covers);
      count = each_count (driven_names m) m.covers inputs each;
      within = all_index (λ (ks : List ℕ). All (λ k. k < length (source_names m) + length m.covers) ks) inputs (each_bound (driven_names m) m.covers inputs (length (source_names m) + length m.covers) (driven-length m) each);
      points_within = subst (λ (i : ℕ). All (λ k. k < i) observed) (driven-length m) (all_index (λ k. k < length (driven_names m)) observed (signals_bound (driven_names m) (observed_names m) observed points));
    }

-- the order by rank
unwrapped : (rs : List ℕ) → map (λ (r : Option ℕ). unwrap_or r 0) (map (λ r. Some r) rs) ≡ rs
unwrapped [] = refl
unwrapped (r ∷ rs) = ap (λ (l : List ℕ). r ∷ l) (unwrapped rs)

wrapped-length : (rs : List ℕ) → length (map (λ r. Some r) rs) ≡ length rs
wrapped-length [] = refl
wrapped-length (r ∷ rs) = ap (λ (n : ℕ). suc n) (wrapped-length rs)

wrapped_at : (rs : List ℕ) (k d : ℕ) → k < length rs → rank_at (map (λ r. Some r) rs) k ≡ Some (get_or rs k d)
wrapped_at [] k d lt = absurd (omega arith)
wrapped_at (r ∷ rs) zero d lt = refl
wrapped_at (r ∷ rs) (suc k) d lt = wrapped_at rs k d (omega arith)

pub rank_count : (m : Model) (rs : List ℕ) → map (λ r. Some r) rs ≡ ranks_of m → length (ranks_of m) ≡ length m.covers → length rs ≡ length m.covers
rank_count m rs e l = sym (wrapped-length rs) ∙ (ap (λ (l : List (Option ℕ)). length l) e ∙ l)

pub ranks_small : (m : Model) (rs : List ℕ) → map (λ r. Some r) rs ≡ ranks_of m → length (ranks_of m) ≡ length m.covers → ((k n : ℕ) → rank_at (ranks_of m) k ≡ Some n → n < length m.covers) → All (λ r. r < length rs) rs
ranks_small m rs e l small k d lt =
    let n : ℕ = get_or rs k d in
    let at : rank_at (ranks_of m) k ≡ Some n = ap (λ (l : List (Option ℕ)). rank_at l k) (sym e) ∙ wrapped_at rs k d lt in
    let bound : n < length m.covers = small k n at in
    let count : length rs ≡ length m.covers = rank_count m rs e l in
    omega arith

pub in_order : (m : Model) (rs is : List ℕ) → map (λ r. Some r) rs ≡ ranks_of m → length (ranks_of m) ≡ length m.covers → is ≡ places_by_rank rs → AtPlaces m.covers is (covers_by_rank m)
in_order m rs is e l f =
    let count : length rs ≡ length m.covers = rank_count m rs e l in
    let ranked : zip rs m.covers ≡ ranked_covers m = ap (λ (l : List ℕ). zip l m.covers) (sym (unwrapped rs) ∙ ap (λ (l : List (Option ℕ)). map (λ (r : Option ℕ). unwrap_or r 0) l) e) in
    let pairs : Pairs m.covers (placed 0 rs) (ranked_covers m) = let P : List (ℕ × Cover) → Type 0 = λ qs. Pairs m.covers (placed 0 rs) qs in subst P ranked (placed_pairs m.covers m.covers rs 0 (λ j c at. let z : 0 + j ≡ j = omega arith in ap (λ (i : ℕ). slice_get m.covers i) z ∙ at) count) in
    let places : AtPlaces m.covers (of_ranks (placed 0 rs) 0 (length rs)) (of_ranks (ranked_covers m) 0 (length rs)) = ranks_places m.covers (placed 0 rs) (ranked_covers m) 0 (length rs) pairs in
    let P : List ℕ → Type 0 = λ l. AtPlaces m.covers l (covers_by_rank m) in
    subst P (sym f) (let Q : ℕ → Type 0 = λ n. AtPlaces m.covers (of_ranks (placed 0 rs) 0 (length rs)) (of_ranks (ranked_covers m) 0 n) in subst Q count places)

no_marks : (n k : ℕ) → get_or (replicate n false) k false ≡ false
no_marks zero k = refl
no_marks (suc n) zero = refl
no_marks (suc n) (suc k) = no_marks n k

marks-length : (n : ℕ) → length (replicate n false) ≡ n
marks-length zero = refl
marks-length (suc n) = ap (λ (k : ℕ). suc k) (marks-length n)

pub nothing_marked : (m : Model) (n : ℕ) → n ≡ length (source_names m) + length m.covers → Marked (driven_names m) (replicate n false) (λ x. false)
nothing_marked m n e = record { all = λ x k at. no_marks n k; count = marks-length n ∙ (e ∙ sym (driven-length m)) }

pub taken_at_places : (m : Model) (inputs : List (List ℕ)) (observed order : List ℕ) (first n : ℕ) → IsNumbered m inputs observed → first ≡ length (source_names m) → n ≡ length (source_names m) + length m.covers → AtPlaces m.covers order (covers_by_rank m)
    → AtPlaces m.covers (needed_places (marked (replicate n false) observed) inputs first order).1 (taken m)
taken_at_places m inputs observed order first n h ef en at =
    let start : Marked (driven_names m) (marked (replicate n false) observed) (λ x. is_among (observed_names m) x || false) = set_marks (driven_names m) (replicate n false) (λ x. false) (observed_names m) observed h.points (nothing_marked m n en) in
    let marks : Marked (driven_names m) (marked (replicate n false) observed) (is_among (observed_names m)) = record { all = λ x k e. start.all x k e ∙ or_nothing (is_among (observed_names m) x); count = start.count } in
    (let P : ℕ → Type 0 = λ i. AtPlaces m.covers (needed_places (marked (replicate n false) observed) inputs i order).1 (taken m) in
    subst P (sym ef) (needed_match (driven_names m) m.covers inputs (length (source_names m)) (observed_names m) (marked (replicate n false) observed) order (covers_by_rank m) h.covers at marks).0)
  where
    or_nothing : (b : Bool) → (b || false) ≡ b
    or_nothing true = refl
    or_nothing false = refl

pub tally_is : (m : Model) (inputs : List (List ℕ)) (observed places : List ℕ) (n : ℕ) → IsNumbered m inputs observed → n ≡ length (source_names m) + length m.covers → AtPlaces m.covers places (taken m) → (covers_tally (replicate n false) inputs m.covers places).0 ≡ decomposed m
tally_is m inputs observed places n h en at =
    covers_tally_match (driven_names m) m.covers inputs (length (source_names m)) (replicate n false) [] places (taken m) h.covers at (nothing_marked m n en)
    ∙ ap (λ (k : ℕ). k + new_count [] (flat_map cover_zero_names (taken m))) (sym (sum-total cover_wires (taken m)))

pub places_bound : (covers cs : List Cover) (is : List ℕ) → AtPlaces covers is cs → All (λ i. i < length covers) is
places_bound covers cs is h = all_index (λ i. i < length covers) is (each cs is h)
  where
    within : (xs : List Cover) (k : ℕ) (y : Cover) → slice_get xs k ≡ Some y → k < length xs
    within [] k y e = absurd cc
    within (z ∷ xs) zero y e = omega arith
    within (z ∷ xs) (suc k) y e = let lt = within xs k y e in omega arith

    each : (cs : List Cover) (is : List ℕ) → AtPlaces covers is cs → AllByRecursion (λ i. i < length covers) is
    each [] [] h = tt
    each [] (i ∷ is) h = absurd h
    each (c ∷ cs) [] h = absurd h
    each (c ∷ cs) (i ∷ is) h = (within covers i c h.0, each cs is h.1)

pub all_unmapped : {A B : Type 0} (f : A → B) (P : B → Type 0) (xs : List A) → All P (map f xs) → All (λ x. P (f x)) xs
all_unmapped f P [] h k d lt = absurd (omega arith)
all_unmapped f P (x ∷ xs) h zero d lt = h 0 (f d) (omega arith)
all_unmapped f P (x ∷ xs) h (suc k) d lt = all_unmapped f P xs (λ j e l. h (suc j) e (omega arith)) k d (omega arith)

-- in the forms that the calls have
pub all_same : {A : Type 0} (P Q : A → Type 0) (xs ys : List A) → ((x : A) → P x → Q x) → xs ≡ ys → All P xs → All Q ys
all_same P Q xs ys f e h = subst (λ (l : List _). All Q l) e (λ k d lt. f (get_or xs k d) (h k d lt))

pub marks_count : (n : ℕ) (observed : List ℕ) → length (marked (replicate n false) observed) ≡ n
marks_count n observed = each (replicate n false) observed ∙ marks-length n
  where
    each : (marks : List Bool) (ks : List ℕ) → length (marked marks ks) ≡ length marks
    each marks [] = refl
    each marks (k ∷ ks) = each (set marks k true) ks ∙ length-set marks k true

pub taken_result : (m : Model) (inputs ins : List (List ℕ)) (observed obs order result : List ℕ) (first count : ℕ) (marks : List Bool) → IsNumbered m inputs observed → first ≡ length (source_names m) → count ≡ length m.covers → AtPlaces m.covers order (covers_by_rank m)
    → obs ≡ observed → marks ≡ marked (replicate (first + count) false) obs → ins ≡ inputs → result ≡ (needed_places marks ins first order).1 → AtPlaces m.covers result (taken m)
taken_result m inputs ins observed obs order result first count marks h ef ec at eo em ei er =
    let places : AtPlaces m.covers (needed_places (marked (replicate (first + count) false) observed) inputs first order).1 (taken m) = taken_at_places m inputs observed order first (first + count) h ef (omega arith) at in
    let is : result ≡ (needed_places (marked (replicate (first + count) false) observed) inputs first order).1 =
    er ∙ (ap (λ (l : List Bool). (needed_places l ins first order).1) (em ∙ ap (λ (l : List ℕ). marked (replicate (first + count) false) l) eo) ∙ ap (λ (l : List (List ℕ)). (needed_places (marked (replicate (first + count) false) observed) l first order).1) ei) in
    let P : List ℕ → Type 0 = λ l. AtPlaces m.covers l (taken m) in
    subst P (sym is) places

pub wires_result : (m : Model) (inputs ins : List (List ℕ)) (observed places : List ℕ) (first count : ℕ) (covers : List Cover) → IsNumbered m inputs observed → first ≡ length (source_names m) → count ≡ length m.covers → AtPlaces m.covers places (taken m)
    → ins ≡ inputs → covers ≡ m.covers → (covers_tally (replicate (first + count) false) ins covers places).0 ≡ decomposed m
wires_result m inputs ins observed places first count covers h ef ec at ei ev =
    ap (λ (l : List (List ℕ)). (covers_tally (replicate (first + count) false) l covers places).0) ei
    ∙ (ap (λ (l : List Cover). (covers_tally (replicate (first + count) false) inputs l places).0) ev
    ∙ tally_is m inputs observed places (first + count) h (omega arith) at)
