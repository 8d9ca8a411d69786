-- Good values among facts.
use Rattle.std.proofs.Common.{Bool, List, Some, [], ap, get_or, length, take, ◌+◌, ◌<◌, inl, inr, refl, suc, sym, zero, ℕ, ◌++◌, ◌∙◌, ◌∷◌, ◌≡◌, ◌≢◌, ◌⊎◌}
use Rattle.std.proofs.lemmas.List.{take_more}
use Rattle.std.specs.Prelude.{slice_get}
use Rattle.refutation.specs.FactLists.{IsAmong}
use Rattle.recursive_learning.specs.Inner.Common.{AreGoodsOf, AreHeldAmong, IsAmongGoods}
use Rattle.recursive_learning.specs.declared.justified_values.GoodValue.{GoodValue}
use Rattle.refutation.specs.Facts.{Held, known_good}
use Rattle.refutation.specs.declared.reasoning.Fact.{Fact}
use Rattle.refutation.specs.declared.reasoning.Fact.TheVariants.{Good}
use Rattle.rm_base.specs.declared.numbers.NodeId.{NodeId}
use Rattle.rm_base.proofs.Public.{last_cases}

pub still_at : {A : Type 0} (xs : List A) (x : A) (p : ℕ) (a : A) → slice_get xs p ≡ Some a → slice_get (xs ++ x ∷ []) p ≡ Some a
still_at [] x p a e = cc
still_at (y ∷ xs) x zero a e = e
still_at (y ∷ xs) x (suc p) a e = still_at xs x p a e

pub last_at : {A : Type 0} (xs : List A) (x : A) → (p : ℕ) × (slice_get (xs ++ x ∷ []) p ≡ Some x)
last_at [] x = (zero, refl)
last_at (y ∷ xs) x = let rest : (p : ℕ) × (slice_get (xs ++ x ∷ []) p ≡ Some x) = last_at xs x in (suc rest.0, rest.1)

pub among_still : (goods : List GoodValue) (g : GoodValue) (x : ℕ) (b : Bool) → IsAmongGoods goods x b → IsAmongGoods (goods ++ g ∷ []) x b
among_still goods g x b (k, (h, (there, is))) = (k, (h, (still_at goods g k h there, is)))

pub among_last : (goods : List GoodValue) (g : GoodValue) (x : ℕ) (b : Bool) → g.node.0 ≡ x → g.value ≡ b → IsAmongGoods (goods ++ g ∷ []) x b
among_last goods g x b is value = let last : (p : ℕ) × (slice_get (goods ++ g ∷ []) p ≡ Some g) = last_at goods g in (last.0, (g, (last.1, (is, value))))

-- A LIST OF ADDED FACTS, ONE MORE AT A TIME
pub goods_none : (held : Held) → AreGoodsOf [] held []
goods_none held = record { all = λ x b (k, (a, (there, is))) known. cc; each = λ k g e. cc }

among_before : (added : List (NodeId × Fact)) (entry : NodeId × Fact) (x : ℕ) (fact : Fact) → IsAmong (added ++ entry ∷ []) x fact → IsAmong added x fact ⊎ ((entry.0.0 ≡ x) × (entry.1 ≡ fact))
among_before added entry x fact (k, (a, (there, is))) = elim (last_cases added entry k a there) [
  | inl old ↦ inl (k, (a, (old, is)))
  | inr same ↦ inr (sym (ap (λ (e : NodeId × Fact). e.0.0) same) ∙ is.0, sym (ap (λ (e : NodeId × Fact). e.1) same) ∙ is.1)
]

among_more : (added : List (NodeId × Fact)) (entry : NodeId × Fact) (x : ℕ) (fact : Fact) → IsAmong added x fact → IsAmong (added ++ entry ∷ []) x fact
among_more added entry x fact (k, (a, (there, is))) = (k, (a, (still_at added entry k a there, is)))

-- the entry is no good value, or isn't known
pub goods_skip : (added : List (NodeId × Fact)) (held : Held) (goods : List GoodValue) (entry : NodeId × Fact) → AreGoodsOf added held goods → ((b : Bool) → entry.1 ≡ Good b → known_good held entry.0.0 ≢ Some b) → AreGoodsOf (added ++ entry ∷ []) held goods
goods_skip added held goods entry of none = record {
  all = λ x b among known. elim (among_before added entry x (Good b) among) [
    | inl old ↦ of.all x b old known
    | inr is ↦ absurd (none b is.1 (ap (known_good held) is.0 ∙ known))
  ];
  each = λ k g there. (among_more added entry g.node.0 (Good g.value) (of.each k g there).0, (of.each k g there).1);
}

pub goods_push : (added : List (NodeId × Fact)) (held : Held) (goods : List GoodValue) (entry : NodeId × Fact) (b : Bool) → AreGoodsOf added held goods → entry.1 ≡ Good b → known_good held entry.0.0 ≡ Some b → AreGoodsOf (added ++ entry ∷ []) held (goods ++ record { node = entry.0; value = b } ∷ [])
goods_push added held goods entry b of is known = record {
  all = λ x c among there. elim (among_before added entry x (Good c) among) [
    | inl old ↦ among_still goods (record { node = entry.0; value = b }) x c (of.all x c old there)
    | inr same ↦ let good : Good b ≡ Good c = sym is ∙ same.1 in among_last goods (record { node = entry.0; value = b }) x c same.0 (let e : b ≡ c = cc in e)
  ];
  each = λ k g there. elim (last_cases goods (record { node = entry.0; value = b }) k g there) [
    | inl old ↦ (among_more added entry g.node.0 (Good g.value) (of.each k g old).0, (of.each k g old).1)
    | inr same ↦ let last : (p : ℕ) × (slice_get (added ++ entry ∷ []) p ≡ Some entry) = last_at added entry in
        rw same ((last.0, (entry, (last.1, (refl, is)))), known)
  ];
}

-- A LIST OF VALUES, ONE MORE AT A TIME
pub kept_none : (held : Held) → AreHeldAmong [] held []
kept_none held = record { all = λ x b (k, (g, (there, is))) known. cc; each = λ k g e. cc }

goods_before : (goods : List GoodValue) (good : GoodValue) (x : ℕ) (b : Bool) → IsAmongGoods (goods ++ good ∷ []) x b → IsAmongGoods goods x b ⊎ ((good.node.0 ≡ x) × (good.value ≡ b))
goods_before goods good x b (k, (g, (there, is))) = elim (last_cases goods good k g there) [
  | inl old ↦ inl (k, (g, (old, is)))
  | inr same ↦ inr (sym (ap (λ (e : GoodValue). e.node.0) same) ∙ is.0, sym (ap (λ (e : GoodValue). e.value) same) ∙ is.1)
]

pub kept_skip : (goods : List GoodValue) (held : Held) (kept : List GoodValue) (good : GoodValue) → AreHeldAmong goods held kept → known_good held good.node.0 ≢ Some good.value → AreHeldAmong (goods ++ good ∷ []) held kept
kept_skip goods held kept good of none = record {
  all = λ x b among known. elim (goods_before goods good x b among) [
    | inl old ↦ of.all x b old known
    | inr is ↦ absurd (none (ap (known_good held) is.0 ∙ known ∙ ap Some (sym is.1)))
  ];
  each = λ k g there. ((((of.each k g there).0).0, still_at goods good ((of.each k g there).0).0 g ((of.each k g there).0).1), (of.each k g there).1);
}

pub kept_push : (goods : List GoodValue) (held : Held) (kept : List GoodValue) (good : GoodValue) → AreHeldAmong goods held kept → known_good held good.node.0 ≡ Some good.value → AreHeldAmong (goods ++ good ∷ []) held (kept ++ good ∷ [])
kept_push goods held kept good of known = record {
  all = λ x b among there. elim (goods_before goods good x b among) [
    | inl old ↦ among_still kept good x b (of.all x b old there)
    | inr same ↦ among_last kept good x b same.0 same.1
  ];
  each = λ k g there. elim (last_cases kept good k g there) [
    | inl old ↦ ((((of.each k g old).0).0, still_at goods good ((of.each k g old).0).0 g ((of.each k g old).0).1), (of.each k g old).1)
    | inr same ↦ rw same (last_at goods good, known)
  ];
}

-- ALONG A SLICE
pub goods_next : (added : List (NodeId × Fact)) (held : Held) (goods : List GoodValue) (i : ℕ) (d : NodeId × Fact) → i < length added → AreGoodsOf (take i added ++ get_or added i d ∷ []) held goods → AreGoodsOf (take (i + 1) added) held goods
goods_next added held goods i d below of = rw (take_more added i d below) of

pub kept_next : (goods : List GoodValue) (held : Held) (kept : List GoodValue) (i : ℕ) (d : GoodValue) → i < length goods → AreHeldAmong (take i goods ++ get_or goods i d ∷ []) held kept → AreHeldAmong (take (i + 1) goods) held kept
kept_next goods held kept i d below of = rw (take_more goods i d below) of
