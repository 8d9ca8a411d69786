-- Numbered names.
use Rattle.std.proofs.Common.{◌≡◌, ℕ, suc, ◌<◌, ◌+◌, List, [], ◌∷◌, ◌++◌, Bool, true, false, cond, not, ◌||◌, filter, Option, Some, None, inl, inr, refl, sym, ap, ◌∙◌, subst, arith}
use Rattle.std.specs.Prelude.{nat_lt}
use Rattle.std.specs.Option.{option_map}
use Rattle.std.proofs.lemmas.Bool.{cases_lt, false_from_ne_true}
use Rattle.std.proofs.lemmas.Bool.Decides.{Decides-ltb}
use Rattle.rm_model.specs.Words.{is_word}
use Rattle.rm_model.specs.Value.{is_among, outputs_of}
use Rattle.rm_model.specs.Numbers.{place_of}
use Rattle.rm_model.specs.Ranks.{cover_of}
use Rattle.rm_model.specs.declared.parts.Cover.{Cover}
use Rattle.rm_model.proofs.CoverLemmas.{same_word}
use Rattle.rm_base.specs.Words.{Word}

pub position-step : (b : Bool) (n l : ℕ) → cond (nat_lt (cond (not b) (1 + n) 0) (suc l)) (Some (cond (not b) (1 + n) 0)) None ≡ cond b (Some 0) (option_map (λ k. suc k) (cond (nat_lt n l) (Some n) None))
position-step true n l = let first : nat_lt 0 (suc l) ≡ true = (Decides-ltb 0 (suc l)).1 (omega arith) in rw first refl
position-step false n l = elim (cases_lt n l) [
  | inl lt ↦
      let here : nat_lt n l ≡ true = (Decides-ltb n l).1 lt in
      let next : nat_lt (1 + n) (suc l) ≡ true = (Decides-ltb (1 + n) (suc l)).1 (omega (arith, lt)) in
      rw (here, next) (ap Some (omega arith))
  | inr le ↦
      let here : nat_lt n l ≡ false = false_from_ne_true (nat_lt n l) (λ e. let lt : n < l = (Decides-ltb n l).0 e in omega (arith, lt, le)) in
      let next : nat_lt (1 + n) (suc l) ≡ false = false_from_ne_true (nat_lt (1 + n) (suc l)) (λ e. let lt : 1 + n < suc l = (Decides-ltb (1 + n) (suc l)).0 e in omega (arith, lt, le)) in
      rw (here, next) refl
]

-- a cover's place is that of its output
pub place_of-cover : (cs : List Cover) (x : Word) → place_of (outputs_of cs) x ≡ cover_of cs x
place_of-cover [] x = refl
place_of-cover (c ∷ cs) x = ap (λ (o : Option ℕ). cond (is_word x c.output) (Some 0) (option_map (λ k. suc k) o)) (place_of-cover cs x)

pub among-push : (xs : List Word) (y x : Word) → is_among (xs ++ y ∷ []) x ≡ (is_among xs x || is_word x y)
among-push [] y x = swap (is_word x y)
  where
    swap : (b : Bool) → (b || false) ≡ (false || b)
    swap true = refl
    swap false = refl
among-push (z ∷ xs) y x = ap (λ (b : Bool). is_word x z || b) (among-push xs y x) ∙ join (is_word x z) (is_among xs x) (is_word x y)
  where
    join : (a b c : Bool) → (a || (b || c)) ≡ ((a || b) || c)
    join true b c = refl
    join false b c = refl

pub among-kept : (xs : List Word) (y x : Word) → is_among xs y ≡ true → is_among xs x ≡ (is_among xs x || is_word x y)
among-kept xs y x there = go (is_word x y) refl (is_among xs x) refl
  where
    go : (b : Bool) → is_word x y ≡ b → (a : Bool) → is_among xs x ≡ a → a ≡ (a || b)
    go true same true e = refl
    go true same false e = absurd (let is : x ≡ y = same_word x y same in let now : is_among xs x ≡ true = subst (λ (z : Word). is_among xs z ≡ true) (sym is) there in cc)
    go false other true e = refl
    go false other false e = refl

pub filter-among : (xs ys : List Word) → ((x : Word) → is_among xs x ≡ is_among ys x) → (ns : List Word) → filter (λ x. not (is_among xs x)) ns ≡ filter (λ x. not (is_among ys x)) ns
filter-among xs ys h [] = refl
filter-among xs ys h (n ∷ ns) = rw (h n, filter-among xs ys h ns) refl
