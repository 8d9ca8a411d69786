-- A map with bytes as keys: what one insertion leaves at any bytes, and the places of pushed items.
use Rattle.std.proofs.Common.{◌≡◌, ℕ, suc, Bool, true, false, cond, List, [], ◌∷◌, ◌++◌, length, Option, Some, None, ◌⊎◌, inl, inr, refl, sym, ap, ◌∙◌, subst, Vec}
use Rattle.std.specs.Prelude.{is_some}
use Rattle.std.specs.BTreeMap.{BTreeMap, UpdatesBy}
use Rattle.std.specs.Cmp.{eq_by_cmp_equiv}
use Rattle.std.specs.Cmp.Lexicographic.{bytes_decides, nat_list_cmp_total, nat_list_eq_equiv, slice_cmp}
use Rattle.std.specs.Map.{AreApart, IsKeyTest, KeepsOthers, lookup}
use Rattle.std.specs.Option.{option_map}
use Rattle.std.specs.Ordering.{is_eq, nat_cmp}
use Rattle.std.specs.Str.{bytes_eq}
use Rattle.std.proofs.lemmas.Bool.{cases_Bool}
use Rattle.std.proofs.lemmas.Map.Text.{is_eq-slice_cmp}
use Rattle.rm_model.specs.Numbers.{place_of}
use Rattle.rm_model.specs.Words.{is_word}
use Rattle.rm_base.specs.Words.{Word}
use Rattle.cover_sharing.specs.Inner.Placed.{at_bytes}

-- WHAT AN INSERTION LEAVES

apart_in_order : (bs cs ks : List ℕ) → bytes_eq bs cs ≡ false → is_eq (slice_cmp nat_cmp bs ks) ≡ true → is_eq (slice_cmp nat_cmp cs ks) ≡ false
apart_in_order bs cs ks n y = is_eq-slice_cmp cs ks ∙ (nat_list_eq_equiv.symm cs ks ∙ (sym (nat_list_eq_equiv.congr bs ks cs (sym (is_eq-slice_cmp bs ks) ∙ y)) ∙ n))

other_entries : {K X : Type 0} (eq : K → K → Bool) (test : K → Bool) (old new : List (K × X)) → KeepsOthers eq test old new → (other : K → Bool) → IsKeyTest eq other → AreApart test other → lookup other new ≡ lookup other old
unfolding KeepsOthers
other_entries eq test old new h = h

pub inserted : {Y : Type 0} (m n : BTreeMap (Vec ℕ Y) ℕ) (bs : List ℕ) (w : Option ℕ) → UpdatesBy (λ (x y : Vec ℕ Y). slice_cmp nat_cmp x.items y.items) (λ (k : Vec ℕ Y). slice_cmp nat_cmp bs k.items) m n w
    → (cs : List ℕ) → at_bytes n cs ≡ cond (bytes_eq bs cs) w (at_bytes m cs)
inserted {Y = Y} m n bs w h cs = go (bytes_eq bs cs) refl
  where
    go : (b : Bool) → bytes_eq bs cs ≡ b → at_bytes n cs ≡ cond b w (at_bytes m cs)
    go true e = ap (at_bytes n) (sym ((bytes_decides bs cs).0 e)) ∙ h.1
    go false e = other_entries _ _ m.entries n.entries h.3 _ (λ x y. (eq_by_cmp_equiv nat_list_cmp_total).congr cs x.items y.items) (λ k. apart_in_order bs cs k.items e)

-- PLACES

-- the first of two places
abbrev earlier : Option ℕ → Option ℕ → Option ℕ
earlier None o = o
earlier (Some k) o = Some k

later_place : (a b : Option ℕ) → option_map (λ k. suc k) (earlier a b) ≡ earlier (option_map (λ k. suc k) a) (option_map (λ k. suc k) b)
later_place None b = refl
later_place (Some k) b = refl

mapped_cond : (b : Bool) (n : ℕ) → option_map (λ k. suc k) (cond b (Some n) None) ≡ cond b (Some (suc n)) None
mapped_cond true n = refl
mapped_cond false n = refl

place_pushed : (xs : List Word) (x y : Word) → place_of (xs ++ x ∷ []) y ≡ earlier (place_of xs y) (cond (is_word y x) (Some (length xs)) None)
place_pushed [] x y = refl
place_pushed (z ∷ xs) x y = go (is_word y z) (place_pushed xs x y)
  where
    go : (b : Bool) → place_of (xs ++ x ∷ []) y ≡ earlier (place_of xs y) (cond (is_word y x) (Some (length xs)) None)
        → cond b (Some 0) (option_map (λ k. suc k) (place_of (xs ++ x ∷ []) y)) ≡ earlier (cond b (Some 0) (option_map (λ k. suc k) (place_of xs y))) (cond (is_word y x) (Some (suc (length xs))) None)
    go true e = refl
    go false e = ap (option_map (λ k. suc k)) e ∙ (later_place (place_of xs y) (cond (is_word y x) (Some (length xs)) None) ∙ ap (earlier (option_map (λ k. suc k) (place_of xs y))) (mapped_cond (is_word y x) (length xs)))

-- bytes that were there keep their place
pub place_again : (xs : List Word) (x y : Word) → is_some (place_of xs x) ≡ true → place_of (xs ++ x ∷ []) y ≡ place_of xs y
place_again xs x y there = place_pushed xs x y ∙ go (is_word y x) refl (place_of xs y) refl
  where
    go : (b : Bool) → is_word y x ≡ b → (o : Option ℕ) → place_of xs y ≡ o → earlier o (cond b (Some (length xs)) None) ≡ o
    go b is (Some k) e = refl
    go false is None e = refl
    go true is None e = absurd (let same : y ≡ x = (bytes_decides y x).0 is in let none : place_of xs x ≡ None = ap (place_of xs) (sym same) ∙ e in let bad : true ≡ false = sym there ∙ ap is_some none in cc)

-- new bytes come last
pub place_new : (xs : List Word) (x y : Word) → is_some (place_of xs x) ≡ false → place_of (xs ++ x ∷ []) y ≡ cond (bytes_eq x y) (Some (length xs)) (place_of xs y)
place_new xs x y new = place_pushed xs x y ∙ (ap (λ (b : Bool). earlier (place_of xs y) (cond b (Some (length xs)) None)) (nat_list_eq_equiv.symm y x) ∙ go (bytes_eq x y) refl (place_of xs y) refl)
  where
    go : (b : Bool) → bytes_eq x y ≡ b → (o : Option ℕ) → place_of xs y ≡ o → earlier o (cond b (Some (length xs)) None) ≡ cond b (Some (length xs)) o
    go true is None e = refl
    go false is None e = refl
    go false is (Some k) e = refl
    go true is (Some k) e = absurd (let same : x ≡ y = (bytes_decides x y).0 is in let some : place_of xs x ≡ Some k = ap (place_of xs) same ∙ e in let bad : true ≡ false = ap is_some (sym some) ∙ new in cc)
