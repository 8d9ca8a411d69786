-- Names by first appearance in a set that keeps their order.
use Rattle.std.proofs.Common.{◌≡◌, ℕ, suc, List, [], ◌∷◌, ◌++◌, map, length, Bool, true, false, cond, ◌||◌, Option, Some, refl, sym, ap, ◌∙◌}
use Rattle.std.specs.Prelude.{position, if◌then◌else◌}
use Rattle.std.specs.List.{list_any, position_or_len}
use Rattle.std.specs.Option.{option_map}
use Rattle.rm_model.specs.Words.{is_word}
use Rattle.rm_model.specs.Value.{is_among}
use Rattle.rm_model.specs.Numbers.{place_of}
use Rattle.rm_model.proofs.NumberLemmas.{position-step, among-push, among-kept}
use Rattle.rm_base.specs.Words.{Word}

module _ {K : Type 0} (name : K → Word) where
  pub among-map : (ks : List K) (x : Word) → list_any (λ k. is_word x (name k)) ks ≡ is_among (map name ks) x
  among-map [] x = refl
  among-map (k ∷ ks) x = ap (λ (b : Bool). is_word x (name k) || b) (among-map ks x)

  pub position-place : (ks : List K) (x : Word) → position (λ k. is_word x (name k)) ks ≡ place_of (map name ks) x
  position-place [] x = refl
  position-place (k ∷ ks) x =
      position-step (is_word x (name k)) (position_or_len (λ k. is_word x (name k)) ks) (length ks)
      ∙ ap (λ (o : Option ℕ). cond (is_word x (name k)) (Some 0) (option_map (λ k. suc k) o)) (position-place ks x)

  map-push : (ks : List K) (k : K) → map name (ks ++ k ∷ []) ≡ map name ks ++ name k ∷ []
  map-push [] k = refl
  map-push (j ∷ ks) k = ap (λ (l : List Word). name j ∷ l) (map-push ks k)

  pub map-inserted : (ks : List K) (k : K) → is_among (map name ks) (name k) ≡ false → map name (if list_any (λ j. is_word (name k) (name j)) ks then ks else ks ++ k ∷ []) ≡ map name ks ++ name k ∷ []
  map-inserted ks k e = let new : list_any (λ j. is_word (name k) (name j)) ks ≡ false = among-map ks (name k) ∙ e in rw new (map-push ks k)

  pub among-included : (ks : List K) (k : K) (x : Word) → is_among (map name (if list_any (λ j. is_word (name k) (name j)) ks then ks else ks ++ k ∷ [])) x ≡ (is_among (map name ks) x || is_word x (name k))
  among-included ks k x = go (list_any (λ j. is_word (name k) (name j)) ks) refl
    where
      go : (b : Bool) → list_any (λ j. is_word (name k) (name j)) ks ≡ b → is_among (map name (if b then ks else ks ++ k ∷ [])) x ≡ (is_among (map name ks) x || is_word x (name k))
      go true there = among-kept (map name ks) (name k) x (sym (among-map ks (name k)) ∙ there)
      go false absent = ap (λ (l : List Word). is_among l x) (map-push ks k) ∙ among-push (map name ks) (name k) x
