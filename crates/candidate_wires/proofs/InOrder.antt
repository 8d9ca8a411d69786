-- Known nodes by ascending numbers.
use Rattle.std.proofs.Common.{Bool, List, Some, [], ap, arith, get_or, inl, inr, length, refl, subst, suc, sym, zero, ℕ, ◌++◌, ◌+◌, ◌-◌, ◌<◌, ◌∙◌, ◌∷◌, ◌≡◌, ◌≤◌, ◌⊎◌}
use Rattle.std.specs.Prelude.{slice_get}
use Rattle.std.specs.List.Sorted.{IsPermutation, IsSorted}
use Rattle.std.specs.Ordering.{nat_cmp}
use Rattle.std.proofs.lemmas.List.Sorted.{Contains-permutation}
use Rattle.std.proofs.lemmas.Map.Keys.{ge_from_not_lt}
use Rattle.std.proofs.lemmas.Option.{get_or_from_slice_get, slice_get-get_or, slice_get_within}
use Rattle.gate_net.specs.Net.{Net}
use Rattle.refutation.specs.Facts.{Held}
use Rattle.refutation.specs.declared.reasoning.Fact.{Fact}
use Rattle.refutation.specs.declared.reasoning.Fact.TheVariants.{Good}
use Rattle.rm_base.specs.declared.numbers.NodeId.{NodeId}
use Rattle.candidate_wires.specs.Inner.Parts.{AreKnown, HasGoods, HasNoneFrom, HasUsable, IsAscending, IsInList}
use Rattle.candidate_wires.specs.declared.known.Known.{Known}
use Rattle.rm_base.proofs.Public.{back_stands, front_stands}

-- the nodes of the good values among the first facts are in the list
abbrev pub AreGoodsIn : List (NodeId × Fact) → ℕ → List ℕ → Type 0
AreGoodsIn facts count numbers = (k : ℕ) (entry : NodeId × Fact) (value : Bool) → k < count → slice_get facts k ≡ Some entry → entry.1 ≡ Good value → IsInList numbers entry.0.0

-- beyond numbers that aren't usable
pub known_on : (net : Net) (held : Held) (from to : ℕ) (ks : List Known) → AreKnown net held from ks → from ≤ to → HasNoneFrom net held from to → AreKnown net held to ks
known_on net held from to ks known le none = record {
  each = λ m k e. let old = known.each m k e in (let less : k.node.0 < from = old.0 in omega (arith, less, le), old.1);
  all = λ x value less usable. elim (lt_or_le x from) [
    | inl lt ↦ known.all x value lt usable
    | inr ge ↦ absurd (none x value ge less usable)
  ];
  sorted = known.sorted;
}
  where
    lt_or_le : (a b : ℕ) → (a < b) ⊎ (b ≤ a)
    lt_or_le a zero = inr (omega arith)
    lt_or_le zero (suc b) = inl (omega arith)
    lt_or_le (suc a) (suc b) = elim (lt_or_le a b) [ inl lt ↦ inl (omega (arith, lt)) | inr le ↦ inr (omega (arith, le)) ]

-- what a sort gives ascends
pub sorted_ascends : (xs : List ℕ) → IsSorted nat_cmp xs → IsAscending xs
sorted_ascends xs sorted j k x y le at_j at_k =
    let e : j + (k - j) ≡ k = omega (arith, le) in
    far (k - j) j x y at_j (subst (λ (i : ℕ). slice_get xs i ≡ Some y) (sym e) at_k)
  where
    far : (d i a b : ℕ) → slice_get xs i ≡ Some a → slice_get xs (i + d) ≡ Some b → a ≤ b
    far zero i a b at_i at_d =
        let e : i + 0 ≡ i = omega arith in
        let s : Some a ≡ Some b = sym at_i ∙ subst (λ (m : ℕ). slice_get xs m ≡ Some b) e at_d in
        let same : a ≡ b = cc in
        omega (arith, same)
    far (suc d) i a b at_i at_d =
        let e : i + suc d ≡ (i + d) + 1 = omega arith in
        let at_next : slice_get xs ((i + d) + 1) ≡ Some b = subst (λ (m : ℕ). slice_get xs m ≡ Some b) e at_d in
        let within : (i + d) + 1 < length xs = slice_get_within xs ((i + d) + 1) b at_next in
        let mid : slice_get xs (i + d) ≡ Some (get_or xs (i + d) b) = slice_get-get_or xs (i + d) b (omega (arith, within)) in
        let first : a ≤ get_or xs (i + d) b = far d i a (get_or xs (i + d) b) at_i mid in
        let last : get_or xs (i + d) b ≤ get_or xs ((i + d) + 1) b = ge_from_not_lt (get_or xs ((i + d) + 1) b) (get_or xs (i + d) b) (sorted (i + d) b (omega arith) within) in
        let is : get_or xs ((i + d) + 1) b ≡ b = get_or_from_slice_get xs ((i + d) + 1) b b at_next in
        omega (arith, first, last, is)

-- a sort leaves every number in the list
pub sorted_has : (xs ys : List ℕ) (x : ℕ) → IsPermutation xs ys → IsInList xs x → IsInList ys x
sorted_has xs ys x same (k, there) =
    let within : k < length xs = slice_get_within xs k x there in
    let found = Contains-permutation xs ys x same (k, within, get_or_from_slice_get xs k x x there) in
    (found.0, slice_get-get_or ys found.0 x found.1 ∙ ap Some found.2)

-- which of the first numbers were looked at
abbrev pub AreSeen : Net → List ℕ → ℕ → ℕ → Type 0
AreSeen net numbers count next = (k x : ℕ) → k < count → slice_get numbers k ≡ Some x → (x < next) ⊎ (length net.nodes ≤ x)

pub seen_more : (net : Net) (numbers : List ℕ) (count number next next' : ℕ) → AreSeen net numbers count next → slice_get numbers count ≡ Some number → next ≤ next' → (number < next') ⊎ (length net.nodes ≤ number) → AreSeen net numbers (count + 1) next'
seen_more net numbers count number next next' seen at grows here k x lt is = elim (lt_or_is k count lt) [
  | inl less ↦ elim (seen k x less is) [ inl below ↦ inl (omega (arith, below, grows)) | inr above ↦ inr above ]
  | inr same ↦
      let s : Some number ≡ Some x = sym at ∙ subst (λ (m : ℕ). slice_get numbers m ≡ Some x) same is in
      let e : number ≡ x = cc in
      subst (λ (m : ℕ). (m < next') ⊎ (length net.nodes ≤ m)) e here
]
  where
    lt_or_is : (a b : ℕ) → a < b + 1 → (a < b) ⊎ (a ≡ b)
    lt_or_is zero zero h = inr refl
    lt_or_is zero (suc b) h = inl (omega arith)
    lt_or_is (suc a) zero h = absurd (omega (arith, h))
    lt_or_is (suc a) (suc b) h = elim (lt_or_is a b (omega (arith, h))) [ inl lt ↦ inl (omega (arith, lt)) | inr is ↦ inr (ap suc is) ]

-- no usable node stands between the last one and the next in the list
pub none_between : (net : Net) (held : Held) (numbers : List ℕ) (count number next : ℕ) → IsAscending numbers → HasUsable net held numbers → AreSeen net numbers count next → slice_get numbers count ≡ Some number → number < length net.nodes → HasNoneFrom net held next number
none_between net held numbers count number next order all seen at below x value from to usable =
    let there : IsInList numbers x = all x value usable in
    elim (lt_or_le there.0 count) [
      | inl lt ↦ elim (seen there.0 x lt there.1) [ inl less ↦ omega (arith, less, from) | inr above ↦ omega (arith, above, to, below) ]
      | inr le ↦ let ge : number ≤ x = order count there.0 number x le at there.1 in omega (arith, ge, to)
    ]
  where
    lt_or_le : (a b : ℕ) → (a < b) ⊎ (b ≤ a)
    lt_or_le a zero = inr (omega arith)
    lt_or_le zero (suc b) = inl (omega arith)
    lt_or_le (suc a) (suc b) = elim (lt_or_le a b) [ inl lt ↦ inl (omega (arith, lt)) | inr le ↦ inr (omega (arith, le)) ]

-- none stands beyond the last number
pub none_after : (net : Net) (held : Held) (numbers : List ℕ) (next : ℕ) → HasUsable net held numbers → AreSeen net numbers (length numbers) next → HasNoneFrom net held next (length net.nodes)
none_after net held numbers next all seen x value from to usable =
    let there : IsInList numbers x = all x value usable in
    elim (seen there.0 x (slice_get_within numbers there.0 x there.1) there.1) [ inl less ↦ omega (arith, less, from) | inr above ↦ omega (arith, above, to) ]

-- one more good value is listed, or a fact that is none
pub goods_more : (facts : List (NodeId × Fact)) (i : ℕ) (entry : NodeId × Fact) (numbers numbers' : List ℕ) → AreGoodsIn facts i numbers → slice_get facts i ≡ Some entry → ((x : ℕ) → IsInList numbers x → IsInList numbers' x) → ((value : Bool) → entry.1 ≡ Good value → IsInList numbers' entry.0.0) → AreGoodsIn facts (i + 1) numbers'
goods_more facts i entry numbers numbers' goods at more here k e value lt is good = elim (lt_or_is k i lt) [
  | inl less ↦ more e.0.0 (goods k e value less is good)
  | inr same ↦
      let s : Some entry ≡ Some e = sym at ∙ subst (λ (m : ℕ). slice_get facts m ≡ Some e) same is in
      let one : entry ≡ e = cc in
      subst (λ (f : NodeId × Fact). f.1 ≡ Good value → IsInList numbers' f.0.0) one (here value) good
]
  where
    lt_or_is : (a b : ℕ) → a < b + 1 → (a < b) ⊎ (a ≡ b)
    lt_or_is zero zero h = inr refl
    lt_or_is zero (suc b) h = inl (omega arith)
    lt_or_is (suc a) zero h = absurd (omega (arith, h))
    lt_or_is (suc a) (suc b) h = elim (lt_or_is a b (omega (arith, h))) [ inl lt ↦ inl (omega (arith, lt)) | inr is ↦ inr (ap suc is) ]

pub goods_all : (facts : List (NodeId × Fact)) (numbers : List ℕ) → AreGoodsIn facts (length facts) numbers → HasGoods facts numbers
goods_all facts numbers goods x value (k, (entry, (at, (is, good)))) = subst (IsInList numbers) is (goods k entry value (slice_get_within facts k entry at) at good)

-- a longer list has all of the shorter one
pub list_more : (numbers : List ℕ) (last x : ℕ) → IsInList numbers x → IsInList (numbers ++ last ∷ []) x
list_more numbers last x (k, at) = (k, front_stands numbers (last ∷ []) k x at)

pub list_last : (numbers : List ℕ) (last : ℕ) → IsInList (numbers ++ last ∷ []) last
list_last numbers last = back_stands numbers (last ∷ []) 0 last refl
