-- The different drivers of a gate whose good value isn't known.
use Rattle.std.proofs.Common.{Bool, List, None, Option, Some, [], ap, append-nil, arith, false, inl, inr, length, length-append, map, refl, suc, sym, true, zero, ℕ, ◌++◌, ◌+◌, ◌||◌, ◌∙◌, ◌∷◌, ◌≡◌, ◌≢◌, ◌≤◌}
use Rattle.std.proofs.lemmas.Bool.{eq-eqb}
use Rattle.std.proofs.lemmas.Bool.Decides.{eqb_tells}
use Rattle.std.proofs.lemmas.List.Folds.{list_any-append}
use Rattle.std.proofs.lemmas.Map.Keys.{IsDistinct-push}
use Rattle.std.proofs.lemmas.Map.Made.{length-le_from_is_member}
use Rattle.std.specs.Cmp.{nat_eq_equiv}
use Rattle.std.specs.List.{IsDistinct, list_any}
use Rattle.std.specs.Prelude.{is_some, nat_eq, slice_get}
use Rattle.std.proofs.Math.Bool.{or-true}
use Rattle.gate_net.specs.Net.{Net, drivers_of}
use Rattle.recursive_learning.specs.Inner.Gates.{AreJustifications}
use Rattle.refutation.specs.Facts.{Held, known_good}
use Rattle.refutation.specs.Learning.{HasFew, IsJustification}
use Rattle.rm_base.specs.declared.numbers.NodeId.{NodeId}
use Rattle.rm_base.proofs.Public.{last_cases}

-- the open drivers among those looked at
pub record OpenTo (net : Net) (held : Held) (y : ℕ) (before ds : List ℕ) : Type 0 where
  pub each : (k d : ℕ) → slice_get ds k ≡ Some d → IsJustification net held y d
  pub all : (p d : ℕ) → slice_get before p ≡ Some d → known_good held d ≡ None → list_any (nat_eq d) ds ≡ true
  pub distinct : IsDistinct nat_eq ds
  pub few : length ds ≤ 8

pub place_of : (d : ℕ) (ds : List ℕ) → list_any (nat_eq d) ds ≡ true → (k : ℕ) × (slice_get ds k ≡ Some d)
place_of d [] e = cc
place_of d (x ∷ xs) e = elim (eqb_tells d x) [
  | inl same ↦ (0, let is : d ≡ x = same.1 in rw is refl)
  | inr other ↦ let rest : (k : ℕ) × (slice_get xs k ≡ Some d) = place_of d xs (rw other.0 at e) in (suc rest.0, rest.1)
]

pub listed_at : (d : ℕ) (ds : List ℕ) (k : ℕ) → slice_get ds k ≡ Some d → list_any (nat_eq d) ds ≡ true
listed_at d [] k e = cc
listed_at d (x ∷ xs) zero e = let same : x ≡ d = cc in rw (same, eq-eqb d d refl) refl
listed_at d (x ∷ xs) (suc k) e = rw (listed_at d xs k e) (or-true (nat_eq d x))

pub open_none : (net : Net) (held : Held) (y : ℕ) → OpenTo net held y [] []
unfolding IsDistinct
open_none net held y = record { each = λ k d e. cc; all = λ p d e. cc; distinct = tt; few = omega arith }

pub open_skip : (net : Net) (held : Held) (y : ℕ) (before ds : List ℕ) (x : ℕ) → OpenTo net held y before ds → (known_good held x ≡ None → list_any (nat_eq x) ds ≡ true) → OpenTo net held y (before ++ x ∷ []) ds
open_skip net held y before ds x o known = record {
  each = o.each;
  all = λ p d there none. elim (last_cases before x p d there) [
    | inl old ↦ o.all p d old none
    | inr is ↦ rw is (known (rw is at none))
  ];
  distinct = o.distinct;
  few = o.few;
}

pub open_push : (net : Net) (held : Held) (y : ℕ) (before ds : List ℕ) (x : ℕ) → OpenTo net held y before ds → IsJustification net held y x → list_any (nat_eq x) ds ≡ false → length ds ≢ 8 → OpenTo net held y (before ++ x ∷ []) (ds ++ x ∷ [])
open_push net held y before ds x o just new less = record {
  each = λ k d there. elim (last_cases ds x k d there) [ inl old ↦ o.each k d old | inr is ↦ rw is just ];
  all = λ p d there none. elim (last_cases before x p d there) [
    | inl old ↦ rw (list_any-append (nat_eq d) ds (x ∷ []), o.all p d old none) refl
    | inr is ↦ rw (list_any-append (nat_eq d) ds (x ∷ []), is, eq-eqb x x refl) (or-true (list_any (nat_eq x) ds))
  ];
  distinct = IsDistinct-push nat_eq_equiv ds x o.distinct new;
  few = rw (length-append ds (x ∷ [])) (let few : length ds ≤ 8 = o.few in omega arith);
}

-- nine different ones aren't few
pub too_many : (net : Net) (held : Held) (y : ℕ) (before ds : List ℕ) (x : ℕ) → OpenTo net held y before ds → IsJustification net held y x → list_any (nat_eq x) ds ≡ false → length ds ≡ 8 → HasFew net held y → ⊥
too_many net held y before ds x o just new full (es, (few, cover)) =
    let le : length (ds ++ x ∷ []) ≤ length es = length-le_from_is_member nat_eq_equiv (ds ++ x ∷ []) es (IsDistinct-push nat_eq_equiv ds x o.distinct new) (λ q member. covered q (place_of q (ds ++ x ∷ []) member)) in
    let long : length (ds ++ x ∷ []) ≡ length ds + 1 = length-append ds (x ∷ []) in
    absurd (omega arith)
  where
    covered : (q : ℕ) → (k : ℕ) × (slice_get (ds ++ x ∷ []) k ≡ Some q) → list_any (nat_eq q) es ≡ true
    covered q (k, there) = elim (last_cases ds x k q there) [
      | inl old ↦ at q (cover q (o.each k q old))
      | inr is ↦ at q (cover q (rw is just))
    ]
      where
        at : (q : ℕ) → (k : ℕ) × (slice_get es k ≡ Some q) → list_any (nat_eq q) es ≡ true
        at q (k, there) = listed_at q es k there

pub open_all : (net : Net) (held : Held) (y : ℕ) (ds : List ℕ) → OpenTo net held y (drivers_of net y) ds → AreJustifications net held y ds
open_all net held y ds o = record {
  each = o.each;
  all = λ d just. place_of d ds (o.all just.0.0 d just.0.1 just.1);
  few = o.few;
}

pub listed_map : (d : ℕ) (nodes : List NodeId) → list_any (λ (n : NodeId). nat_eq d n.0) nodes ≡ list_any (nat_eq d) (map (λ (n : NodeId). n.0) nodes)
listed_map d [] = refl
listed_map d (n ∷ nodes) = ap (λ (b : Bool). nat_eq d n.0 || b) (listed_map d nodes)

-- known, so no justification
pub known_skip : (o : Option Bool) (listed : Bool) → is_some o ≡ true → o ≡ None → listed ≡ true
known_skip None listed e f = cc
known_skip (Some b) listed e f = cc

-- an iterator that has nothing left has yielded all
pub all_yielded : {A B : Type 0} (f : A → B) (all : List B) (before : List A) (rest : List B) → all ≡ map f before ++ rest → rest ≡ [] → map f before ≡ all
all_yielded f all before rest e none = sym (rw none at e ∙ append-nil (map f before))
