-- The first name without a driver.
use Rattle.std.proofs.Common.{◌≡◌, ℕ, ◌+◌, ◌≤◌, zero, suc, List, [], ◌∷◌, ◌++◌, map, length, drop, Bool, true, false, not, ◌&&◌, ◌||◌, inl, inr, refl, sym, ◌∙◌, ap, add-one, append_assoc, Option, None, Some}
use Rattle.std.specs.Prelude.{if◌then◌else◌, slice_get, find, fold}
use Rattle.std.specs.Option.{option_map}
use Rattle.std.proofs.lemmas.List.{drop_all}
use Rattle.std.proofs.Math.Bool.{or-true}
use Rattle.rm_base.specs.declared.numbers.Place.{Place}
use Rattle.rm_model.specs.Words.{is_word}
use Rattle.rm_model.specs.Value.{is_among}
use Rattle.rm_model.specs.WellFormed.{is_distinct}
use Rattle.blif_format.specs.Uses.{Use, is_driver, wants_driver, names_in}
use Rattle.blif_format.specs.declared.words.Role.{Role}
use Rattle.blif_format.specs.declared.words.Role.TheVariants.{Input, ClockInput, Output, CoverInput, CoverOutput, LatchInput, LatchOutput, Control}
use Rattle.blif_format.specs.FirstFault.{is_undriven, undriven_fault, fault}
use Rattle.blif_format.specs.declared.refusal.FaultKind.TheVariants.{Undriven}
use Rattle.blif_format.specs.declared.refusal.ReadRefusal.TheVariants.{Fault}
use Rattle.blif_reader.specs.declared.names.Flags.{Flags}
use Rattle.blif_reader.specs.declared.names.NameUse.{NameUse}
use Rattle.blif_reader.specs.Inner.Tally.{Tally, entry_of, flags_at, flags_or_none, has_driver, free_of, first_free, plays, flags_in, with_first, first_of, IsTally}
use Rattle.blif_reader.proofs.Compared.{word_tells, word_turned, among_more}
use Rattle.blif_reader.proofs.Plays.{plays_driver, names_among}
use Rattle.rm_base.proofs.Public.{and_second, neither_first, neither_second}
use Rattle.rm_base.specs.Words.{Word}
use Rattle.rm_model.proofs.Public.{is_word-same, same_word}

pub free_here : (es : List (Word × NameUse)) (i : ℕ) (p : Place) → Some p ≡ free_of (slice_get es i) → first_free (drop i es) ≡ Some p
free_here [] i p h = let wrong : Some p ≡ None = h in cc
free_here (e ∷ es) zero p h = at (has_driver e.1.flags) refl
  where
    at : (t : Bool) → has_driver e.1.flags ≡ t → first_free (e ∷ es) ≡ Some p
    at true i = let wrong : Some p ≡ None = rw i at h in cc
    at false i = let now : Some p ≡ Some e.1.place = rw i at h in rw i (sym now)
free_here (e ∷ es) (suc i) p h = free_here es i p h

pub free_later : (es : List (Word × NameUse)) (i : ℕ) → None ≡ free_of (slice_get es i) → first_free (drop i es) ≡ first_free (drop (i + 1) es)
free_later es i h = go es i h ∙ ap (λ n. first_free (drop n es)) (sym (add-one i))
  where
    go : (es : List (Word × NameUse)) (i : ℕ) → None ≡ free_of (slice_get es i) → first_free (drop i es) ≡ first_free (drop (suc i) es)
    go [] zero h = refl
    go [] (suc i) h = refl
    go (e ∷ es) zero h = at (has_driver e.1.flags) refl
      where
        at : (t : Bool) → has_driver e.1.flags ≡ t → first_free (e ∷ es) ≡ first_free es
        at true i = rw i refl
        at false i = let wrong : None ≡ Some e.1.place = rw i at h in cc
    go (e ∷ es) (suc i) h = go es i h

pub free_end : (es : List (Word × NameUse)) (i : ℕ) → length es ≤ i → first_free (drop i es) ≡ None
free_end es i h = ap first_free (drop_all i es h)

-- names with places, the first of which passes
first_place : (Word → Bool) → List (Word × Place) → Option Place
first_place q [] = None
first_place q (f ∷ fs) = if q f.0 then Some f.1 else first_place q fs

names_at : List (Word × Place) → List Word
names_at fs = map (λ (f : Word × Place). f.0) fs

not_first : (a b : Bool) → (not a && b) ≡ true → a ≡ false
not_first true b e = cc
not_first false b e = refl

key_names : List (Word × NameUse) → List Word
key_names es = map (λ (e : Word × NameUse). e.0) es

free_by_name : (es : List (Word × NameUse)) (look : Word → Flags) → is_distinct (key_names es) ≡ true → ((y : Word) → is_among (key_names es) y ≡ true → look y ≡ flags_at es y) → first_free es ≡ first_place (λ y. not (has_driver (look y))) (map first_of es)
unfolding first_place key_names
free_by_name [] look d same = refl
free_by_name (e ∷ es) look d same =
    let here : look e.0 ≡ e.1.flags = same e.0 (ap (λ b. b || is_among (key_names es) e.0) (is_word-same e.0)) ∙ ap (λ (b : Bool). flags_or_none (if b then Some e.1 else entry_of es e.0)) (is_word-same e.0) in
    let new : is_among (key_names es) e.0 ≡ false = not_first (is_among (key_names es) e.0) (is_distinct (key_names es)) d in
    at (has_driver e.1.flags) refl here (free_by_name es look (and_second (not (is_among (key_names es) e.0)) (is_distinct (key_names es)) d) (λ y h. later y h new))
  where
    later : (y : Word) → is_among (key_names es) y ≡ true → is_among (key_names es) e.0 ≡ false → look y ≡ flags_at es y
    later y h new = elim (word_tells y e.0) [
      | inl s ↦ let wrong : true ≡ false = sym h ∙ ap (is_among (key_names es)) s.1 ∙ new in cc
      | inr s ↦ same y (ap (λ b. is_word y e.0 || b) h ∙ or-true (is_word y e.0)) ∙ ap (λ (b : Bool). flags_or_none (if b then Some e.1 else entry_of es y)) s.0
    ]

    at : (t : Bool) → has_driver e.1.flags ≡ t → look e.0 ≡ e.1.flags → first_free es ≡ first_place (λ y. not (has_driver (look y))) (map first_of es) → first_free (e ∷ es) ≡ first_place (λ y. not (has_driver (look y))) (map first_of (e ∷ es))
    at true i here ih = let test : has_driver (look e.0) ≡ true = ap has_driver here ∙ i in rw (i, test) ih
    at false i here ih = let test : has_driver (look e.0) ≡ false = ap has_driver here ∙ i in rw (i, test) refl

-- first uses have different names
pub distinct_add : (xs : List Word) (x : Word) → is_distinct xs ≡ true → is_among xs x ≡ false → is_distinct (xs ++ x ∷ []) ≡ true
distinct_add [] x d n = refl
distinct_add (y ∷ ys) x d n =
    let new : is_among ys y ≡ false = not_first (is_among ys y) (is_distinct ys) d in
    let other : is_word x y ≡ false = neither_first (is_word x y) (is_among ys x) n in
    let rest : is_among ys x ≡ false = neither_second (is_word x y) (is_among ys x) n in
    let still : is_among (ys ++ x ∷ []) y ≡ false = among_more ys x y ∙ ap (λ b. b || is_word y x) new ∙ word_turned y x ∙ other in
    ap (λ b. not b && is_distinct (ys ++ x ∷ [])) still ∙ distinct_add ys x (and_second (not (is_among ys y)) (is_distinct ys) d) rest

map_names : (fs : List (Word × Place)) (u : Use) → names_at (fs ++ (u.name, u.place) ∷ []) ≡ names_at fs ++ u.name ∷ []
unfolding names_at
map_names [] u = refl
map_names (f ∷ fs) u = ap (λ xs. f.0 ∷ xs) (map_names fs u)

firsts_distinct : (fs : List (Word × Place)) (us : List Use) → is_distinct (names_at fs) ≡ true → is_distinct (names_at (fold with_first fs us)) ≡ true
unfolding names_at
firsts_distinct fs [] d = d
firsts_distinct fs (u ∷ us) d = at (is_among (names_at fs) u.name) refl (firsts_distinct (with_first fs u) us)
  where
    at : (t : Bool) → is_among (names_at fs) u.name ≡ t → (is_distinct (names_at (with_first fs u)) ≡ true → is_distinct (names_at (fold with_first (with_first fs u) us)) ≡ true) → is_distinct (names_at (fold with_first (with_first fs u) us)) ≡ true
    at true i ih = ih (rw i d)
    at false i ih = ih (rw i (ap is_distinct (map_names fs u) ∙ distinct_add (names_at fs) u.name d i))

or_place : Option Place → Option Place → Option Place
or_place None later = later
or_place (Some p) later = Some p

place_more : (q : Word → Bool) (fs : List (Word × Place)) (u : Use) → first_place q (fs ++ (u.name, u.place) ∷ []) ≡ or_place (first_place q fs) (if q u.name then Some u.place else None)
unfolding first_place or_place
place_more q [] u = refl
place_more q (f ∷ fs) u = at (q f.0) refl (place_more q fs u)
  where
    at : (t : Bool) → q f.0 ≡ t → first_place q (fs ++ (u.name, u.place) ∷ []) ≡ or_place (first_place q fs) (if q u.name then Some u.place else None) → first_place q ((f ∷ fs) ++ (u.name, u.place) ∷ []) ≡ or_place (first_place q (f ∷ fs)) (if q u.name then Some u.place else None)
    at true i ih = rw i refl
    at false i ih = rw i ih

place_among : (q : Word → Bool) (fs : List (Word × Place)) (x : Word) → is_among (names_at fs) x ≡ true → q x ≡ true → (p : Place) × (first_place q fs ≡ Some p)
unfolding first_place names_at
place_among q [] x a h = cc
place_among q (f ∷ fs) x a h = at (q f.0) (is_word x f.0) refl refl (place_among q fs x)
  where
    at : (t w : Bool) → q f.0 ≡ t → is_word x f.0 ≡ w → (is_among (names_at fs) x ≡ true → q x ≡ true → (p : Place) × (first_place q fs ≡ Some p)) → (p : Place) × (first_place q (f ∷ fs) ≡ Some p)
    at true w i j ih = (f.1, rw i refl)
    at false true i j ih = let same : x ≡ f.0 = same_word x f.0 j in let wrong : true ≡ false = sym h ∙ ap q same ∙ i in cc
    at false false i j ih = let r = ih (rw j at a) h in (r.0, rw i r.1)

or_same : (a b : Option Place) → (p : Place) → a ≡ Some p → or_place a b ≡ a
unfolding or_place
or_same None b p e = cc
or_same (Some p) b q e = refl

or_place_assoc : (a b c : Option Place) → or_place (or_place a b) c ≡ or_place a (or_place b c)
unfolding or_place
or_place_assoc None b c = refl
or_place_assoc (Some p) b c = refl

find_place : (q : Word → Bool) (us : List Use) → Option Place
find_place q us = option_map (λ (u : Use). u.place) (find (λ (u : Use). q u.name) us)

find_step : (q : Word → Bool) (u : Use) (us : List Use) → find_place q (u ∷ us) ≡ or_place (if q u.name then Some u.place else None) (find_place q us)
unfolding find_place or_place
find_step q u us = at (q u.name) refl
  where
    at : (t : Bool) → q u.name ≡ t → find_place q (u ∷ us) ≡ or_place (if q u.name then Some u.place else None) (find_place q us)
    at true i = rw i refl
    at false i = rw i refl

or_none : (a : Option Place) → a ≡ or_place a None
unfolding or_place
or_none None = refl
or_none (Some p) = refl

firsts_find : (q : Word → Bool) (fs : List (Word × Place)) (us : List Use) → first_place q (fold with_first fs us) ≡ or_place (first_place q fs) (find_place q us)
unfolding names_at or_place find_place
firsts_find q fs [] = or_none (first_place q fs)
firsts_find q fs (u ∷ us) = firsts_find q (with_first fs u) us ∙ at (is_among (names_at fs) u.name) (q u.name) refl refl ∙ ap (or_place (first_place q fs)) (sym (find_step q u us))
  where
    at : (t w : Bool) → is_among (names_at fs) u.name ≡ t → q u.name ≡ w → or_place (first_place q (with_first fs u)) (find_place q us) ≡ or_place (first_place q fs) (or_place (if q u.name then Some u.place else None) (find_place q us))
    at true true i j = let r = place_among q fs u.name i j in rw i (or_same (first_place q fs) (find_place q us) r.0 r.1 ∙ sym (or_same (first_place q fs) (or_place (if q u.name then Some u.place else None) (find_place q us)) r.0 r.1))
    at true false i j = rw (i, j) refl
    at false w i j = rw i (ap (λ o. or_place o (find_place q us)) (place_more q fs u) ∙ or_place_assoc (first_place q fs) (if q u.name then Some u.place else None) (find_place q us))

wants_case : (r : Role) → wants_driver r ≡ not (is_driver r)
wants_case r = elim r as (λ r. wants_driver r ≡ not (is_driver r)) [ Input ↦ refl | ClockInput ↦ refl | Output ↦ refl | CoverInput ↦ refl | CoverOutput ↦ refl | LatchInput ↦ refl | LatchOutput ↦ refl | Control ↦ refl ]

plays_in : (test : Role → Bool) (pre : List Use) (u : Use) (us : List Use) → test u.role ≡ true → plays test (pre ++ u ∷ us) u.name ≡ true
plays_in test [] u us h = ap (λ b. (b && is_word u.name u.name) || plays test us u.name) h ∙ ap (λ b. b || plays test us u.name) (is_word-same u.name)
plays_in test (v ∷ vs) u us h = ap (λ b. (test v.role && is_word v.name u.name) || b) (plays_in test vs u us h) ∙ or-true (test v.role && is_word v.name u.name)

abbrev free_name : List Use → Word → Bool
free_name all y = not (has_driver (flags_in all y))

same_test : (all pre : List Use) (u : Use) (us : List Use) → all ≡ pre ++ u ∷ us → free_name all u.name ≡ is_undriven all u
same_test all pre u us e = ap not (sym (plays_driver all u.name)) ∙ at (is_driver u.role) refl ∙ ap (λ b. b && not (is_among (names_in is_driver all) u.name)) (sym (wants_case u.role))
  where
    at : (t : Bool) → is_driver u.role ≡ t → not (plays is_driver all u.name) ≡ (not (is_driver u.role) && not (is_among (names_in is_driver all) u.name))
    at true i = let there : plays is_driver all u.name ≡ true = ap (λ xs. plays is_driver xs u.name) e ∙ plays_in is_driver pre u us i in rw (i, there) refl
    at false i = rw i (ap not (sym (names_among is_driver all u.name)))

find_same : (all pre us : List Use) → all ≡ pre ++ us → find (λ (u : Use). free_name all u.name) us ≡ find (is_undriven all) us
find_same all pre [] e = refl
find_same all pre (u ∷ us) e =
    ap (λ (b : Bool). if b then Some u else find (λ (v : Use). free_name all v.name) us) (same_test all pre u us e)
    ∙ ap (λ o. if is_undriven all u then Some u else o) (find_same all (pre ++ u ∷ []) us (e ∙ sym (append_assoc pre (u ∷ []) us)))

keys_same : (es : List (Word × NameUse)) → key_names es ≡ names_at (map first_of es)
unfolding key_names names_at
keys_same [] = refl
keys_same (e ∷ es) = ap (λ xs. e.0 ∷ xs) (keys_same es)

told : (o : Option Use) → option_map (λ (p : Place). Fault Undriven p) (option_map (λ (u : Use). u.place) o) ≡ elim o [ None ↦ None | Some this ↦ fault Undriven this.place ]
told None = refl
told (Some u) = refl

pub undriven_law : (uses : List Use) (t : Tally) → IsTally uses t → option_map (λ (p : Place). Fault Undriven p) (first_free t.entries) ≡ undriven_fault uses
unfolding names_at find_place or_place first_place
undriven_law uses t is =
    let d : is_distinct (key_names t.entries) ≡ true = ap is_distinct (keys_same t.entries ∙ ap names_at is.firsts_are) ∙ firsts_distinct [] uses refl in
    ap (option_map (λ (p : Place). Fault Undriven p)) (
    free_by_name t.entries (flags_in uses) d (λ y h. sym (is.flags y))
    ∙ ap (first_place (free_name uses)) is.firsts_are
    ∙ firsts_find (free_name uses) [] uses
    ∙ ap (option_map (λ (u : Use). u.place)) (find_same uses [] uses refl))
    ∙ told (find (is_undriven uses) uses)
