-- How a cut is taken on.
use Rattle.rm_base.specs.Members.{In}
use Rattle.std.proofs.Common.{inl, inr, ◌≡◌, ◌<◌, ◌≤◌, ◌+◌, ◌-◌, ◌^◌, ℕ, Bool, true, false, List, [], ◌∷◌, ◌++◌, length, min, nat_le, option_to_list, refl, sym, ap, ◌∙◌, subst, arith, append_assoc, append-nil, length-append, Vec, Global}
use Rattle.std.specs.Prelude.{Option, Some, slice_get, if◌then◌else◌}
use Rattle.std.proofs.lemmas.Bool.{le-leb, lt-leb}
use Rattle.std.proofs.lemmas.List.{map-append}
use Rattle.std.proofs.lemmas.List.Sums.{sum_by-append}
use Rattle.cover_decompose.specs.Count.{cover_wires}
use Rattle.rm_model.specs.declared.parts.Cover.{Cover}
use Rattle.window_cut.proofs.Lists.{covers_at-push}
use Rattle.window_cut.specs.Cut.{joined, last_window, weight, windows, windows_from}
use Rattle.window_cut.specs.Inner.Places.{IsWeighed, TakesOn, windows_at, windows_with}
use Rattle.window_cut.specs.Inner.Weights.{capped}
use Rattle.window_cut.specs.Order.{covers_at}
use Rattle.window_cut.specs.declared.cutting.Cutting.{Cutting}

-- THE CUT

joined_rest : (begun : List Cover) → joined (last_window begun) ≡ begun
joined_rest [] = refl
joined_rest (c ∷ cs) = append-nil (c ∷ cs)

-- the windows of covers have all of them, in order
pub joined_from : (first width : ℕ) (begun cs : List Cover) → joined (windows_from first width begun cs) ≡ begun ++ cs
joined_from first width begun [] = joined_rest begun ∙ sym (append-nil begun)
joined_from first width begun (c ∷ cs) = by_weight (nat_le first (weight (begun ++ c ∷ []))) (joined_from width width [] cs) (joined_from first width (begun ++ c ∷ []) cs)
  where
    by_weight : (b : Bool) → joined (windows_from width width [] cs) ≡ cs → joined (windows_from first width (begun ++ c ∷ []) cs) ≡ (begun ++ c ∷ []) ++ cs
        → joined (if b then (begun ++ c ∷ []) ∷ windows_from width width [] cs else windows_from first width (begun ++ c ∷ []) cs) ≡ begun ++ c ∷ cs
    by_weight true e f = ap (λ (l : List Cover). (begun ++ c ∷ []) ++ l) e ∙ append_assoc begun (c ∷ []) cs
    by_weight false e f = f ∙ append_assoc begun (c ∷ []) cs

-- STEPS

capped_sum : (a b top : ℕ) → min (min a top + min b top) top ≡ min (a + b) top
capped_sum a b top = omega arith

pub weight-push : (cs : List Cover) (c : Cover) → weight (cs ++ c ∷ []) ≡ weight cs + cover_wires c
weight-push cs c = let one : 0 + cover_wires c ≡ cover_wires c = omega arith in sum_by-append cover_wires cs (c ∷ []) ∙ ap (λ (n : ℕ). weight cs + n) one

-- a cut with one more cover begun
pub record HasMore (s : Cutting) (c : Cover) (k : ℕ) (t : Cutting) : Type 0 where
  pub windows : t.windows ≡ s.windows
  pub least : t.least ≡ s.least
  pub begun : t.begun.items ≡ s.begun.items ++ k ∷ []
  pub weight : t.weight ≡ capped (s.weight + capped (cover_wires c))

-- the window that is begun is closed
pub record HasClosed (t : Cutting) (width : ℕ) (u : Cutting) : Type 0 where
  pub windows : u.windows.items ≡ t.windows.items ++ t.begun ∷ []
  pub begun : u.begun.items ≡ []
  pub weight : u.weight ≡ 0
  pub least : u.least ≡ width

module _ (cs : List Cover) (width : ℕ) (small : width < 2 ^ 32) where
  begun_more : (s t : Cutting) (c : Cover) (k : ℕ) → slice_get cs k ≡ Some c → HasMore s c k t → covers_at cs t.begun.items ≡ covers_at cs s.begun.items ++ c ∷ []
  begun_more s t c k at h = ap (covers_at cs) h.begun ∙ (covers_at-push cs s.begun.items k ∙ ap (λ (o : Option Cover). covers_at cs s.begun.items ++ option_to_list o) at)

  pub weighed_more : (s t : Cutting) (c : Cover) (k : ℕ) → slice_get cs k ≡ Some c → HasMore s c k t → IsWeighed cs s → IsWeighed cs t
  weighed_more s t c k at h w = record {
    placed =
        ap (λ (l : List Cover). length l) (begun_more s t c k at h)
        ∙ (length-append (covers_at cs s.begun.items) (c ∷ [])
        ∙ (ap (λ (n : ℕ). n + 1) w.placed
        ∙ (sym (length-append s.begun.items (k ∷ [])) ∙ sym (ap (λ (l : List ℕ). length l) h.begun))));
    weighs =
        h.weight
        ∙ (ap (λ (n : ℕ). capped (n + capped (cover_wires c))) w.weighs
        ∙ (capped_sum (weight (covers_at cs s.begun.items)) (cover_wires c) (2 ^ 64 - 1)
        ∙ (ap capped (sym (weight-push (covers_at cs s.begun.items) c)) ∙ ap (λ (l : List Cover). capped (weight l)) (sym (begun_more s t c k at h)))));
    small = subst (λ (n : ℕ). n < 2 ^ 32) (sym h.least) w.small;
  }

  cut_at : ℕ → List Cover → List Cover → List Cover → Bool → List (List Cover)
  cut_at least begun window rest b = if b then window ∷ windows_from width width [] rest else windows_from least width window rest

  too_light : (n w least : ℕ) → n ≡ capped w → n < least → least < 2 ^ 32 → w < least
  too_light n w least e lt small = omega (arith, e)

  enough : (n w least : ℕ) → n ≡ capped w → least ≤ n → least ≤ w
  enough n w least e le = omega (arith, e)

  -- the window isn't heavy enough yet
  pub goes_on : (s t : Cutting) (c : Cover) (k : ℕ) → slice_get cs k ≡ Some c → IsWeighed cs s → HasMore s c k t → t.weight < t.least → TakesOn cs width s (option_to_list (slice_get cs k)) t
  goes_on s t c k at w h light =
      subst (λ (o : Option Cover). TakesOn cs width s (option_to_list o) t) (sym at)
      (record { weighed = weighed_more s t c k at h w; same = same })
    where
      same : (rest : List Cover) → windows_with cs width t rest ≡ windows_with cs width s (c ∷ rest)
      same rest =
          let begun = begun_more s t c k at h in
          let less : weight (covers_at cs t.begun.items) < t.least = too_light t.weight (weight (covers_at cs t.begun.items)) t.least (weighed_more s t c k at h w).weighs light (weighed_more s t c k at h w).small in
          let test : nat_le s.least (weight (covers_at cs s.begun.items ++ c ∷ [])) ≡ false = ap (λ (n : ℕ). nat_le n (weight (covers_at cs s.begun.items ++ c ∷ []))) (sym h.least) ∙ (ap (λ (l : List Cover). nat_le t.least (weight l)) (sym begun) ∙ lt-leb t.least (weight (covers_at cs t.begun.items)) less) in
          ap (λ (ws : List (Vec ℕ Global)). windows_at cs ws ++ windows_from t.least width (covers_at cs t.begun.items) rest) (ap (λ (v : _). v.items) h.windows)
          ∙ (ap (λ (n : ℕ). windows_at cs s.windows.items ++ windows_from n width (covers_at cs t.begun.items) rest) h.least
          ∙ (ap (λ (l : List Cover). windows_at cs s.windows.items ++ windows_from s.least width l rest) begun
          ∙ ap (λ (b : Bool). windows_at cs s.windows.items ++ (if b then (covers_at cs s.begun.items ++ c ∷ []) ∷ windows_from width width [] rest else windows_from s.least width (covers_at cs s.begun.items ++ c ∷ []) rest)) (sym test)))

  -- the window is closed
  pub closes : (s t u : Cutting) (c : Cover) (k : ℕ) → slice_get cs k ≡ Some c → IsWeighed cs s → HasMore s c k t → t.least ≤ t.weight → HasClosed t width u → TakesOn cs width s (option_to_list (slice_get cs k)) u
  closes s t u c k at w h heavy z =
      subst (λ (o : Option Cover). TakesOn cs width s (option_to_list o) u) (sym at)
      (record { weighed = fresh_cut; same = same })
    where
      fresh_cut : IsWeighed cs u
      fresh_cut = record {
        placed = ap (λ (l : List ℕ). length (covers_at cs l)) z.begun ∙ sym (ap (λ (l : List ℕ). length l) z.begun);
        weighs = z.weight ∙ sym (ap (λ (l : List ℕ). capped (weight (covers_at cs l))) z.begun);
        small = subst (λ (n : ℕ). n < 2 ^ 32) (sym z.least) small;
      }

      same : (rest : List Cover) → windows_with cs width u rest ≡ windows_with cs width s (c ∷ rest)
      same rest =
          let begun = begun_more s t c k at h in
          let more : t.least ≤ weight (covers_at cs t.begun.items) = enough t.weight (weight (covers_at cs t.begun.items)) t.least (weighed_more s t c k at h w).weighs heavy in
          let test : nat_le s.least (weight (covers_at cs s.begun.items ++ c ∷ [])) ≡ true = ap (λ (n : ℕ). nat_le n (weight (covers_at cs s.begun.items ++ c ∷ []))) (sym h.least) ∙ (ap (λ (l : List Cover). nat_le t.least (weight l)) (sym begun) ∙ le-leb t.least (weight (covers_at cs t.begun.items)) more) in
          let windows : windows_at cs u.windows.items ≡ windows_at cs s.windows.items ++ (covers_at cs s.begun.items ++ c ∷ []) ∷ [] =
          ap (windows_at cs) z.windows
          ∙ (map-append (λ (v : Vec ℕ Global). covers_at cs v.items) t.windows.items (t.begun ∷ [])
          ∙ (ap (λ (ws : List (Vec ℕ Global)). windows_at cs ws ++ covers_at cs t.begun.items ∷ []) (ap (λ (v : _). v.items) h.windows)
          ∙ ap (λ (l : List Cover). windows_at cs s.windows.items ++ l ∷ []) begun)) in
          ap (λ (ws : List (List Cover)). ws ++ windows_from u.least width (covers_at cs u.begun.items) rest) windows
          ∙ (ap (λ (n : ℕ). (windows_at cs s.windows.items ++ (covers_at cs s.begun.items ++ c ∷ []) ∷ []) ++ windows_from n width (covers_at cs u.begun.items) rest) z.least
          ∙ (ap (λ (l : List ℕ). (windows_at cs s.windows.items ++ (covers_at cs s.begun.items ++ c ∷ []) ∷ []) ++ windows_from width width (covers_at cs l) rest) z.begun
          ∙ (append_assoc (windows_at cs s.windows.items) ((covers_at cs s.begun.items ++ c ∷ []) ∷ []) (windows_from width width [] rest)
          ∙ ap (λ (b : Bool). windows_at cs s.windows.items ++ (if b then (covers_at cs s.begun.items ++ c ∷ []) ∷ windows_from width width [] rest else windows_from s.least width (covers_at cs s.begun.items ++ c ∷ []) rest)) (sym test))))

  pub takes_none : (s : Cutting) → IsWeighed cs s → TakesOn cs width s [] s
  takes_none s w = record { weighed = w; same = λ rest. refl }

  pub takes_more : (s t u : Cutting) (xs ys zs : List Cover) → zs ≡ xs ++ ys → TakesOn cs width s xs t → TakesOn cs width t ys u → TakesOn cs width s zs u
  takes_more s t u xs ys zs e a b = record { weighed = b.weighed; same = λ rest. b.same rest ∙ (a.same (ys ++ rest) ∙ ap (windows_with cs width s) (sym (append_assoc xs ys rest) ∙ ap (λ (l : List Cover). l ++ rest) (sym e))) }

-- THE WHOLE

pub fresh : (cs : List Cover) (s : Cutting) → s.begun.items ≡ [] → s.weight ≡ 0 → s.least < 2 ^ 32 → IsWeighed cs s
fresh cs s begun weighs small = record {
  placed = ap (λ (l : List ℕ). length (covers_at cs l)) begun ∙ sym (ap (λ (l : List ℕ). length l) begun);
  weighs = weighs ∙ sym (ap (λ (l : List ℕ). capped (weight (covers_at cs l))) begun);
  small = small;
}

pub cut_whole : (cs xs : List Cover) (first width : ℕ) (s t : Cutting) → s.windows.items ≡ [] → s.begun.items ≡ [] → s.least ≡ first → TakesOn cs width s xs t → windows_with cs width t [] ≡ windows_from first width [] xs
cut_whole cs xs first width s t windows begun least h =
    h.same []
    ∙ (ap (λ (l : List Cover). windows_with cs width s l) (append-nil xs)
    ∙ (ap (λ (ws : List (Vec ℕ Global)). windows_at cs ws ++ windows_from s.least width (covers_at cs s.begun.items) xs) windows
    ∙ (ap (λ (l : List ℕ). windows_from s.least width (covers_at cs l) xs) begun
    ∙ ap (λ (n : ℕ). windows_from n width [] xs) least)))

-- a list that ends in an element
abbrev pub HasLast : {A : Type 0} → List A → Type 0
HasLast {A} w = (v : List A) × ((c : A) × (w ≡ v ++ c ∷ []))

last_of : (c : Cover) (cs : List Cover) → HasLast (c ∷ cs)
last_of c [] = ([], (c, refl))
last_of c (d ∷ cs) = let r = last_of d cs in (c ∷ r.0, (r.1.0, ap (λ (l : List Cover). c ∷ l) r.1.1))

last_in : (begun w : List Cover) → In (last_window begun) w → HasLast w
last_in [] w i = absurd i
last_in (c ∷ cs) w (inl s) = subst (λ (l : List Cover). HasLast l) s (last_of c cs)
last_in (c ∷ cs) w (inr z) = absurd z

-- no window is empty
pub nonempty_from : (first width : ℕ) (begun cs w : List Cover) → In (windows_from first width begun cs) w → HasLast w
nonempty_from first width begun [] w i = last_in begun w i
nonempty_from first width begun (c ∷ cs) w i = by_weight (nat_le first (weight (begun ++ c ∷ []))) (nonempty_from width width [] cs w) (nonempty_from first width (begun ++ c ∷ []) cs w) i
  where
    by_weight : (b : Bool) → (In (windows_from width width [] cs) w → HasLast w) → (In (windows_from first width (begun ++ c ∷ []) cs) w → HasLast w)
        → In (if b then (begun ++ c ∷ []) ∷ windows_from width width [] cs else windows_from first width (begun ++ c ∷ []) cs) w → HasLast w
    by_weight true f g (inl s) = (begun, (c, sym s))
    by_weight true f g (inr i) = f i
    by_weight false f g i = g i
