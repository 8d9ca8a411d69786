-- Tables of outputs, lists of drivers, and a rank over one more driver.
use Rattle.std.proofs.Common.{◌≡◌, ℕ, zero, suc, ◌+◌, List, [], ◌∷◌, ◌++◌, map, take, max, true, false, not, Option, Some, None, refl, ap, ◌∙◌, subst, arith}
use Rattle.std.specs.Prelude.{slice_get}
use Rattle.std.specs.List.{filter_map}
use Rattle.std.specs.Option.{option_map}
use Rattle.std.proofs.lemmas.Bool.{and_parts, false_from_ne_true}
use Rattle.rm_model.specs.Words.{is_word}
use Rattle.rm_model.specs.Value.{is_among, outputs_of}
use Rattle.rm_model.specs.WellFormed.{is_distinct}
use Rattle.rm_model.specs.Numbers.{place_of}
use Rattle.rm_model.specs.Inner.Numbers.{drivers_of, rank_over}
use Rattle.rm_model.specs.Ranks.{cover_of, rank_at, higher, rank_by}
use Rattle.rm_model.specs.declared.parts.Cover.{Cover}
use Rattle.rm_model.specs.declared.parts.Model.{Model}
use Rattle.rm_model.proofs.CoverLemmas.{same_word, among-at, output-at}
use Rattle.rm_model.proofs.NumberLemmas.{place_of-cover}
use Rattle.rm_model.proofs.RankLaws.{parts_of, higher_parts, rank_from}
use Rattle.rm_base.proofs.Public.{map_pointwise, not_excludes}
use Rattle.rm_base.specs.Words.{Word}

-- an output isn't among those before it
pub new-output : (cs : List Cover) (i : ℕ) (c : Cover) → is_distinct (outputs_of cs) ≡ true → slice_get cs i ≡ Some c → is_among (outputs_of (take i cs)) c.output ≡ false
new-output [] i c once e = absurd cc
new-output (d ∷ cs) zero c once e = refl
new-output (d ∷ cs) (suc i) c once e =
    let parts = and_parts (not (is_among (outputs_of cs) d.output)) (is_distinct (outputs_of cs)) once in
    let other : is_word c.output d.output ≡ false = false_from_ne_true (is_word c.output d.output) (λ same.
    let there : is_among (outputs_of cs) c.output ≡ true = among-at (outputs_of cs) i c.output (output-at cs i c e) in
    not_excludes (is_among (outputs_of cs) d.output) parts.0 (subst (λ (x : Word). is_among (outputs_of cs) x ≡ true) (same_word c.output d.output same) there)) in
    rw (other, new-output cs i c parts.1 e) refl

filter_map-same : {A B : Type 0} (f g : A → Option B) → ((x : A) → f x ≡ g x) → (xs : List A) → filter_map f xs ≡ filter_map g xs
filter_map-same f g h [] = refl
filter_map-same f g h (x ∷ xs) = rw (h x, filter_map-same f g h xs) refl

pub drivers-by_table : (cs : List Cover) (c : Cover) → filter_map (place_of (outputs_of cs)) c.inputs ≡ drivers_of cs c
drivers-by_table cs c = filter_map-same (place_of (outputs_of cs)) (cover_of cs) (place_of-cover cs) c.inputs

pub all_drivers-by_table : (cs ds : List Cover) → map (λ (c : Cover). filter_map (place_of (outputs_of cs)) c.inputs) ds ≡ map (drivers_of cs) ds
all_drivers-by_table cs ds = map_pointwise (λ (c : Cover). filter_map (place_of (outputs_of cs)) c.inputs) (drivers_of cs) (drivers-by_table cs) ds

pub rank_over-push : (r : List (Option ℕ)) (xs : List ℕ) (d a n : ℕ) → rank_over r xs ≡ Some a → rank_at r d ≡ Some n → rank_over r (xs ++ d ∷ []) ≡ Some (max a (n + 1))
rank_over-push r [] d a n e is = let zero_is : a ≡ 0 = cc in rw (is, zero_is) (ap Some (omega arith))
rank_over-push r (x ∷ xs) d a n e is =
    let p = parts_of (option_map (λ n. suc n) (rank_at r x)) (rank_over r xs) a e in
    let rest = rank_over-push r xs d p.second n p.is_second is in
    higher_parts (option_map (λ n. suc n) (rank_at r x)) (rank_over r (xs ++ d ∷ [])) (max a (n + 1)) (record { first = p.first; second = max p.second (n + 1); is_first = p.is_first; is_second = rest; is_max = omega (arith, p.is_max) })

-- sources count for nothing
pub rank_from-over : (cs : List Cover) (r : List (Option ℕ)) (xs : List Word) → rank_from cs r xs ≡ rank_over r (filter_map (cover_of cs) xs)
rank_from-over cs r [] = refl
rank_from-over cs r (x ∷ xs) = go (cover_of cs x) refl (rank_from-over cs r xs)
  where
    over_zero : (o : Option ℕ) → higher (Some 0) o ≡ o
    over_zero None = refl
    over_zero (Some n) = ap Some (omega arith)

    go : (o : Option ℕ) → cover_of cs x ≡ o → rank_from cs r xs ≡ rank_over r (filter_map (cover_of cs) xs) → rank_from cs r (x ∷ xs) ≡ rank_over r (filter_map (cover_of cs) (x ∷ xs))
    go None is rest = rw is (over_zero (rank_from cs r xs) ∙ rest)
    go (Some k) is rest = rw is (ap (higher (option_map (λ n. suc n) (rank_at r k))) rest)

pub rank_by-over : (m : Model) (r : List (Option ℕ)) (c : Cover) → rank_by m r c ≡ rank_over r (drivers_of m.covers c)
rank_by-over m r c = rank_from-over m.covers r c.inputs
