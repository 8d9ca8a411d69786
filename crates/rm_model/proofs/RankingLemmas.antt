-- From the lists of drivers to the ranks of a model.
use Rattle.std.proofs.Common.{◌≡◌, ℕ, zero, suc, ◌<◌, ◌≤◌, List, [], ◌∷◌, map, length, take, get_or, true, false, Option, Some, None, ◌⊎◌, inl, inr, refl, sym, ap, ◌∙◌, subst, arith}
use Rattle.std.specs.Prelude.{slice_get, is_none, position, Result, Ok, Err, IfOk}
use Rattle.std.specs.List.{position_or_len, filter_map, cons_option}
use Rattle.std.specs.Option.{option_map}
use Rattle.std.proofs.lemmas.List.{length-map, get_or-map}
use Rattle.std.proofs.lemmas.Option.{slice_get_cases, slice_get_within}
use Rattle.std.proofs.Math.ListN.{get_or-eq_default}
use Rattle.rm_model.specs.Ranks.{cover_of, rank_at, rank_by, ranks_of}
use Rattle.rm_model.specs.Inner.Numbers.{drivers_of, rank_over, IsFixed}
use Rattle.rm_model.specs.Inner.Search.{list_at, IsIn, AreKnown}
use Rattle.rm_model.specs.declared.parts.Cover.{Cover}
use Rattle.rm_model.specs.declared.parts.Model.{Model}
use Rattle.rm_model.proofs.CoverLemmas.{drives-of}
use Rattle.rm_model.proofs.DriverLemmas.{rank_by-over}
use Rattle.rm_model.proofs.NumberLemmas.{position-step}
use Rattle.rm_model.proofs.RankLaws.{ranks_are_fixed, ranks_are_only}
use Rattle.rm_base.specs.Words.{Word}

-- the first rank that is missing
pub first-missing : (ranks : List (Option ℕ)) (xs : List ℕ) (i : ℕ) → map Some xs ≡ take i ranks → i < length ranks → rank_at ranks i ≡ None → position is_none ranks ≡ Some i
first-missing [] xs i e lt none = absurd (omega (arith, lt))
first-missing (None ∷ r) xs zero e lt none = position-step true (position_or_len is_none r) (length r)
first-missing (None ∷ r) [] (suc i) e lt none = absurd cc
first-missing (None ∷ r) (x ∷ xs) (suc i) e lt none = absurd cc
first-missing (Some n ∷ r) xs zero e lt none = absurd cc
first-missing (Some n ∷ r) [] (suc i) e lt none = absurd cc
first-missing (Some n ∷ r) (x ∷ xs) (suc i) e lt none =
    let rest : map Some xs ≡ take i r = cc in
    position-step false (position_or_len is_none r) (length r) ∙ ap (option_map (λ k. suc k)) (first-missing r xs i rest (omega (arith, lt)) none)

-- no rank is missing where all are there
pub none-missing : (xs : List ℕ) → position is_none (map Some xs) ≡ None
none-missing [] = refl
none-missing (x ∷ xs) = position-step false (position_or_len is_none (map Some xs)) (length (map Some xs)) ∙ ap (option_map (λ k. suc k)) (none-missing xs)

in-filter : (f : Word → Option ℕ) (xs : List Word) (p d : ℕ) → slice_get (filter_map f xs) p ≡ Some d → (x : Word) × (f x ≡ Some d)
in-filter f [] p d e = absurd cc
in-filter f (x ∷ xs) p d e = go (f x) refl p e (λ q. in-filter f xs q d)
  where
    go : (o : Option ℕ) → f x ≡ o → (p : ℕ) → slice_get (cons_option o (filter_map f xs)) p ≡ Some d → ((q : ℕ) → slice_get (filter_map f xs) q ≡ Some d → (x : Word) × (f x ≡ Some d)) → (x : Word) × (f x ≡ Some d)
    go None is p e rest = rest p e
    go (Some y) is zero e rest = (x, is ∙ e)
    go (Some y) is (suc p) e rest = rest p e

-- the drivers are covers
pub drivers-known : (covers : List Cover) → AreKnown (map (drivers_of covers) covers)
drivers-known covers k d h = by (slice_get_cases covers k).1
  where
    none-in : (xs : List ℕ) → xs ≡ [] → IsIn xs d → ⊥
    none-in [] e at = let is = at.1 in cc
    none-in (x ∷ xs) e at = cc

    by : ((c : Cover) × (k < length covers) × (slice_get covers k ≡ Some c) × (get_or covers k c ≡ c)) ⊎ ((length covers ≤ k) × (slice_get covers k ≡ None)) → d < length (map (drivers_of covers) covers)
    by (inl g) =
        let list : list_at (map (drivers_of covers) covers) k ≡ drivers_of covers g.0 = get_or-map (drivers_of covers) covers k g.0 [] g.1 ∙ ap (drivers_of covers) g.3 in
        let at : IsIn (drivers_of covers g.0) d = subst (λ (l : List ℕ). IsIn l d) list h in
        let found : (x : Word) × (cover_of covers x ≡ Some d) = in-filter (cover_of covers) g.0.inputs at.0 d at.1 in
        let driver = drives-of covers found.0 d found.1 in
        let within : d < length covers = slice_get_within covers d driver.cover driver.there in
        omega (arith, within, length-map covers (drivers_of covers))
    by (inr past) =
        let none : list_at (map (drivers_of covers) covers) k ≡ [] = get_or-eq_default (map (drivers_of covers) covers) [] (omega (arith, past.0, length-map covers (drivers_of covers))) in
        absurd (none-in (list_at (map (drivers_of covers) covers) k) none h)

pub fixed-ranks : (m : Model) (ranks : List (Option ℕ)) → IsFixed m.covers ranks → ranks ≡ ranks_of m
fixed-ranks m ranks fixed = ranks_are_only m ranks (ranks_of m) (fixed ∙ sym (map-same (rank_by m ranks) (λ c. rank_over ranks (drivers_of m.covers c)) (rank_by-over m ranks) m.covers)) (ranks_are_fixed m)
  where
    map-same : {A B : Type 0} (f g : A → B) → ((x : A) → f x ≡ g x) → (xs : List A) → map f xs ≡ map g xs
    map-same f g h [] = refl
    map-same f g h (x ∷ xs) = rw (h x, map-same f g h xs) refl

pub map-twice : {A B C : Type 0} (f : B → C) (g : A → B) (xs : List A) → map f (map g xs) ≡ map (λ x. f (g x)) xs
map-twice f g [] = refl
map-twice f g (x ∷ xs) = rw (map-twice f g xs) refl

pub if_ok_map : {T E : Type 0} (P Q : T → Type 0) (r : Result T E) → ((x : T) → P x → Q x) → IfOk r P → IfOk r Q
if_ok_map P Q (Ok x) f h = f x h
if_ok_map P Q (Err e) f h = tt
