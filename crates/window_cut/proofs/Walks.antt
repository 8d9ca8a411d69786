-- The steps of the walk.
use Rattle.std.proofs.Common.{◌≡◌, ◌≢◌, ◌<◌, ◌≤◌, ◌+◌, ℕ, zero, suc, Bool, true, false, List, [], ◌∷◌, ◌++◌, length, fold, drop, reverse, refl, sym, ap, ◌∙◌, subst, arith, nat_eq, ◌||◌, inl, inr, replicate}
use Rattle.std.specs.Prelude.{Option, None, Some, if◌then◌else◌, slice_get, slice_set, slice_index_or}
use Rattle.std.specs.Option.{option_map}
use Rattle.std.proofs.lemmas.Bool.{or_right}
use Rattle.std.proofs.lemmas.Bool.Decides.{eqb_tells}
use Rattle.std.proofs.lemmas.List.{length-replicate, reverse-append}
use Rattle.std.proofs.lemmas.Option.{slice_get_within}
use Rattle.rm_base.proofs.Public.{drop_stands}
use Rattle.rm_base.specs.Words.{Word}
use Rattle.rm_model.specs.Numbers.{place_of}
use Rattle.rm_model.specs.Ranks.{cover_of}
use Rattle.rm_model.specs.Value.{outputs_of}
use Rattle.rm_model.specs.Words.{is_word}
use Rattle.rm_model.specs.declared.parts.Cover.{Cover}
use Rattle.rm_model.specs.declared.parts.Model.{Model}
use Rattle.rm_model.proofs.Public.{drives-of}
use Rattle.window_cut.proofs.Fuel.{steps_cover, visit_covers}
use Rattle.window_cut.specs.Inner.Levels.{IsLevelled}
use Rattle.window_cut.specs.Inner.Walk.{AreWithin, IsMarked, Steps, after, due, due_steps, entered, finished, first_frame, remaining, steps, steps_over, sum_of, visit}
use Rattle.window_cut.specs.Order.{inputs_at, is_done, with_cover}
use Rattle.window_cut.specs.declared.walk.Frame.{Frame}

-- the table of outputs gives each name the place of its cover
pub place_of-cover : (cs : List Cover) (x : Word) → place_of (outputs_of cs) x ≡ cover_of cs x
place_of-cover [] x = refl
place_of-cover (c ∷ cs) x = ap (λ (o : Option ℕ). if is_word x c.output then Some 0 else option_map (λ k. suc k) o) (place_of-cover cs x)

drop_more : {A : Type 0} (xs : List A) (q : ℕ) (x : A) → slice_get xs q ≡ Some x → drop q xs ≡ x ∷ drop (q + 1) xs
drop_more xs q x e = let next : suc q ≡ q + 1 = omega arith in drop_stands xs q x e ∙ ap (λ (k : ℕ). x ∷ drop k xs) next

drop_none : {A : Type 0} (xs : List A) (q : ℕ) → slice_get xs q ≡ None → drop q xs ≡ []
drop_none [] zero e = refl
drop_none [] (suc q) e = refl
drop_none (x ∷ xs) zero e = absurd cc
drop_none (x ∷ xs) (suc q) e = drop_none xs q e

-- MARKS

done_more : (done : List ℕ) (k j : ℕ) → is_done (done ++ k ∷ []) j ≡ (is_done done j || nat_eq j k)
done_more [] k j = by_test (nat_eq j k)
  where
    by_test : (b : Bool) → (b || false) ≡ b
    by_test true = refl
    by_test false = refl
done_more (i ∷ done) k j = by_test (nat_eq j i) (done_more done k j)
  where
    by_test : (b : Bool) → is_done (done ++ k ∷ []) j ≡ (is_done done j || nat_eq j k) → (b || is_done (done ++ k ∷ []) j) ≡ ((b || is_done done j) || nat_eq j k)
    by_test true e = refl
    by_test false e = e

set_itself : (marks : List Bool) (k : ℕ) → k < length marks → slice_index_or (slice_set marks k true) k false ≡ true
set_itself [] k lt = absurd (omega arith)
set_itself (b ∷ marks) zero lt = refl
set_itself (b ∷ marks) (suc k) lt = set_itself marks k (omega arith)

set_apart : (marks : List Bool) (k j : ℕ) → j ≢ k → slice_index_or (slice_set marks k true) j false ≡ slice_index_or marks j false
set_apart [] k j ne = refl
set_apart (b ∷ marks) zero zero ne = absurd (ne refl)
set_apart (b ∷ marks) zero (suc j) ne = refl
set_apart (b ∷ marks) (suc k) zero ne = refl
set_apart (b ∷ marks) (suc k) (suc j) ne = set_apart marks k j (λ e. ne (ap suc e))

set_length : (marks : List Bool) (k : ℕ) → length (slice_set marks k true) ≡ length marks
set_length [] k = refl
set_length (b ∷ marks) zero = refl
set_length (b ∷ marks) (suc k) = ap suc (set_length marks k)

module _ (m : Model) where
  pub mark_done : (done : List ℕ) (marks : List Bool) (k : ℕ) → k < length m.covers → IsMarked m done marks → IsMarked m (done ++ k ∷ []) (slice_set marks k true)
  mark_done done marks k lt h = record { count = set_length marks k ∙ h.count; each = each }
    where
      each : (j : ℕ) → j < length m.covers → slice_index_or (slice_set marks k true) j false ≡ is_done (done ++ k ∷ []) j
      each j less = elim (eqb_tells j k) [
        | inl e ↦
            let here : slice_index_or (slice_set marks k true) j false ≡ true = rw e.1 (set_itself marks k (omega (arith, h.count))) in
            here ∙ sym (done_more done k j ∙ or_right (is_done done j) (nat_eq j k) e.0)
        | inr e ↦ set_apart marks k j e.1 ∙ (h.each j less ∙ sym (done_more done k j ∙ last (is_done done j) (nat_eq j k) e.0))
      ]
        where
          last : (a b : Bool) → b ≡ false → (a || b) ≡ a
          last true b e = refl
          last false b e = e

-- STEPS

drop_zero : {A : Type 0} (xs : List A) → drop 0 xs ≡ xs
drop_zero [] = refl
drop_zero (x ∷ xs) = refl

stack_is : (st ys : List Frame) (f : Frame) → reverse ((st ++ f ∷ []) ++ ys) ≡ reverse ys ++ (f ∷ reverse st)
stack_is st ys f = reverse-append (st ++ f ∷ []) ys ∙ ap (λ (l : List Frame). reverse ys ++ l) (reverse-append st (f ∷ []))

-- the walk leads to this end
pub record IsOn (m : Model) (end : List ℕ) (done : List ℕ) (fs : List Frame) (marks : List Bool) : Type 0 where
  pub same : due m done fs ≡ end
  pub marked : IsMarked m done marks
  pub within : AreWithin m fs

module _ (m : Model) (level : ℕ → ℕ) (levelled : IsLevelled m level) where
  finished_on : (f : Frame) (x : Word) (done : List ℕ) → slice_get (inputs_at m.covers f.place) f.next ≡ Some x → finished m done f ≡ finished m (visit m done x) (after f)
  finished_on f x done at = ap (λ (xs : List Word). fold (visit m) done xs ++ f.place ∷ []) (drop_more (inputs_at m.covers f.place) f.next x at)

  sum_on : (f : Frame) (x : Word) → slice_get (inputs_at m.covers f.place) f.next ≡ Some x → sum_of (steps m) (remaining m f) ≡ steps m x + sum_of (steps m) (remaining m (after f))
  sum_on f x at = ap (sum_of (steps m)) (drop_more (inputs_at m.covers f.place) f.next x at)

  visit_source : (done : List ℕ) (x : Word) → cover_of m.covers x ≡ None → visit m done x ≡ done
  visit_source done x e = visit_covers m level levelled done x ∙ ap (with_cover (visit m) m done) e

  visit_done : (done : List ℕ) (x : Word) (k : ℕ) → cover_of m.covers x ≡ Some k → is_done done k ≡ true → visit m done x ≡ done
  visit_done done x k e is = visit_covers m level levelled done x ∙ (ap (with_cover (visit m) m done) e ∙ ap (λ (b : Bool). if b then done else fold (visit m) done (inputs_at m.covers k) ++ k ∷ []) is)

  visit_new : (done : List ℕ) (x : Word) (k : ℕ) → cover_of m.covers x ≡ Some k → is_done done k ≡ false → visit m done x ≡ finished m done (first_frame k)
  visit_new done x k e is =
      visit_covers m level levelled done x
      ∙ (ap (with_cover (visit m) m done) e
      ∙ (ap (λ (b : Bool). if b then done else fold (visit m) done (inputs_at m.covers k) ++ k ∷ []) is
      ∙ ap (λ (xs : List Word). fold (visit m) done xs ++ k ∷ []) (sym (drop_zero (inputs_at m.covers k)))))

  steps_new : (x : Word) (k : ℕ) → cover_of m.covers x ≡ Some k → steps m x ≡ 2 + sum_of (steps m) (remaining m (first_frame k))
  steps_new x k e = steps_cover m level levelled x ∙ (ap (steps_over (steps m) m) e ∙ ap (λ (xs : List Word). 2 + sum_of (steps m) xs) (sym (drop_zero (inputs_at m.covers k))))

  some_steps : (x : Word) → 1 ≤ steps m x
  some_steps x = by_cover (cover_of m.covers x) refl
    where
      by_cover : (o : Option ℕ) → cover_of m.covers x ≡ o → 1 ≤ steps m x
      by_cover None e = let is : steps m x ≡ 1 = steps_cover m level levelled x ∙ ap (steps_over (steps m) m) e in omega (arith, is)
      by_cover (Some k) e = omega (arith, steps_new x k e)

  place_within : (x : Word) (k : ℕ) → cover_of m.covers x ≡ Some k → k < length m.covers
  place_within x k e = let d = drives-of m.covers x k e in slice_get_within m.covers k d.cover d.there

  -- no input is left
  pub step_out : (f : Frame) (fs : List Frame) (done : List ℕ) (marks : List Bool) → slice_get (inputs_at m.covers f.place) f.next ≡ None → f.place < length m.covers → AreWithin m fs → IsMarked m done marks → Steps m f fs done fs (done ++ f.place ∷ []) (slice_set marks f.place true)
  step_out f fs done marks none lt within marked =
      let end : finished m done f ≡ done ++ f.place ∷ [] = ap (λ (xs : List Word). fold (visit m) done xs ++ f.place ∷ []) (drop_none (inputs_at m.covers f.place) f.next none) in
      record { same = ap (λ (l : List ℕ). due m l fs) (sym end); marked = mark_done m done marks f.place lt marked; within = within; nearer = omega arith }

  -- the next input is done, or given by no cover
  step_over : (f : Frame) (fs : List Frame) (done : List ℕ) (marks : List Bool) (x : Word) → slice_get (inputs_at m.covers f.place) f.next ≡ Some x → visit m done x ≡ done → f.place < length m.covers → AreWithin m fs → IsMarked m done marks → Steps m f fs done (after f ∷ fs) done marks
  step_over f fs done marks x at same lt within marked = record {
    same = ap (λ (l : List ℕ). due m l fs) (sym (finished_on f x done at ∙ ap (λ (d : List ℕ). finished m d (after f)) same));
    marked = marked;
    within = (lt, within);
    nearer = omega (arith, sum_on f x at, some_steps x);
  }

  -- the next input's cover comes first
  step_down : (f : Frame) (fs : List Frame) (done : List ℕ) (marks : List Bool) (x : Word) (k : ℕ) → slice_get (inputs_at m.covers f.place) f.next ≡ Some x → cover_of m.covers x ≡ Some k → is_done done k ≡ false → f.place < length m.covers → AreWithin m fs → IsMarked m done marks → Steps m f fs done (first_frame k ∷ after f ∷ fs) done marks
  step_down f fs done marks x k at e new lt within marked = record {
    same = ap (λ (l : List ℕ). due m l fs) (sym (finished_on f x done at ∙ ap (λ (d : List ℕ). finished m d (after f)) (visit_new done x k e new)));
    marked = marked;
    within = (place_within x k e, (lt, within));
    nearer = omega (arith, sum_on f x at, steps_new x k e);
  }

  pub step_in : (f : Frame) (st st2 : List Frame) (done : List ℕ) (marks : List Bool) (table : List Word) (x : Word) → table ≡ outputs_of m.covers → slice_get (inputs_at m.covers f.place) f.next ≡ Some x → st2 ≡ (st ++ after f ∷ []) ++ entered marks (place_of table x) → f.place < length m.covers → AreWithin m (reverse st) → IsMarked m done marks → Steps m f (reverse st) done (reverse st2) done marks
  step_in f st st2 done marks table x outs at stack lt within marked =
      let o : place_of table x ≡ cover_of m.covers x = ap (λ (t : List Word). place_of t x) outs ∙ place_of-cover m.covers x in
      let frames : reverse st2 ≡ reverse (entered marks (cover_of m.covers x)) ++ (after f ∷ reverse st) = ap (λ (l : List Frame). reverse l) (stack ∙ ap (λ (p : Option ℕ). (st ++ after f ∷ []) ++ entered marks p) o) ∙ stack_is st (entered marks (cover_of m.covers x)) (after f) in
      subst (λ (gs : List Frame). Steps m f (reverse st) done gs done marks) (sym frames) (by_cover (cover_of m.covers x) refl)
    where
      by_mark : (k : ℕ) → cover_of m.covers x ≡ Some k → (b : Bool) → is_done done k ≡ b → Steps m f (reverse st) done (reverse (if b then [] else first_frame k ∷ []) ++ (after f ∷ reverse st)) done marks
      by_mark k e true is = step_over f (reverse st) done marks x at (visit_done done x k e is) lt within marked
      by_mark k e false is = step_down f (reverse st) done marks x k at e is lt within marked

      by_cover : (p : Option ℕ) → cover_of m.covers x ≡ p → Steps m f (reverse st) done (reverse (entered marks p) ++ (after f ∷ reverse st)) done marks
      by_cover None e = step_over f (reverse st) done marks x at (visit_source done x e) lt within marked
      by_cover (Some k) e = by_mark k e (slice_index_or marks k false) (sym (marked.each k (place_within x k e)))

  -- THE WALK

  pub walk_start : (st : List Frame) (done : List ℕ) (marks : List Bool) (table : List Word) (x : Word) → table ≡ outputs_of m.covers → st ≡ entered marks (place_of table x) → IsMarked m done marks → IsOn m (visit m done x) done (reverse st) marks
  walk_start st done marks table x outs stack marked =
      let o : place_of table x ≡ cover_of m.covers x = ap (λ (t : List Word). place_of t x) outs ∙ place_of-cover m.covers x in
      subst (λ (gs : List Frame). IsOn m (visit m done x) done (reverse gs) marks) (sym (stack ∙ ap (entered marks) o)) (by_cover (cover_of m.covers x) refl)
    where
      by_mark : (k : ℕ) → cover_of m.covers x ≡ Some k → (b : Bool) → is_done done k ≡ b → IsOn m (visit m done x) done (reverse (if b then [] else first_frame k ∷ [])) marks
      by_mark k e true is = record { same = sym (visit_done done x k e is); marked = marked; within = tt }
      by_mark k e false is = record { same = sym (visit_new done x k e is); marked = marked; within = (place_within x k e, tt) }

      by_cover : (p : Option ℕ) → cover_of m.covers x ≡ p → IsOn m (visit m done x) done (reverse (entered marks p)) marks
      by_cover None e = record { same = sym (visit_source done x e); marked = marked; within = tt }
      by_cover (Some k) e = by_mark k e (slice_index_or marks k false) (sym (marked.each k (place_within x k e)))

pub popped_is : (st rest : List Frame) (f : Frame) → st ≡ rest ++ f ∷ [] → reverse st ≡ f ∷ reverse rest
popped_is st rest f e = ap (λ (l : List Frame). reverse l) e ∙ reverse-append rest (f ∷ [])

pub popped_on : (m : Model) (end done : List ℕ) (st rest : List Frame) (f : Frame) (marks : List Bool) → st ≡ rest ++ f ∷ [] → IsOn m end done (reverse st) marks → IsOn m end done (f ∷ reverse rest) marks
popped_on m end done st rest f marks e h = subst (λ (fs : List Frame). IsOn m end done fs marks) (popped_is st rest f e) h

pub walk_on : (m : Model) (end done done2 : List ℕ) (f : Frame) (fs gs : List Frame) (marks marks2 : List Bool) → IsOn m end done (f ∷ fs) marks → Steps m f fs done gs done2 marks2 → IsOn m end done2 gs marks2
walk_on m end done done2 f fs gs marks marks2 h s = record { same = s.same ∙ h.same; marked = s.marked; within = s.within }

pub walk_nearer : (m : Model) (st rest : List Frame) (f : Frame) (gs : List Frame) → st ≡ rest ++ f ∷ [] → due_steps m gs < due_steps m (f ∷ reverse rest) → due_steps m gs < due_steps m (reverse st)
walk_nearer m st rest f gs e lt = subst (λ (fs : List Frame). due_steps m gs < due_steps m fs) (sym (popped_is st rest f e)) lt

pub walk_end : (m : Model) (end done : List ℕ) (st : List Frame) (marks : List Bool) → st ≡ [] → IsOn m end done (reverse st) marks → done ≡ end
walk_end m end done st marks e h = sym (ap (λ (l : List Frame). due m done (reverse l)) e) ∙ h.same

pub unmarked : (m : Model) (marks : List Bool) (n : ℕ) → n ≡ length m.covers → marks ≡ replicate n false → IsMarked m [] marks
unmarked m marks n count e = record { count = ap length e ∙ (length-replicate n false ∙ count); each = λ k lt. ap (λ (l : List Bool). slice_index_or l k false) e ∙ none n k }
  where
    none : (n k : ℕ) → slice_index_or (replicate n false) k false ≡ false
    none zero k = refl
    none (suc n) zero = refl
    none (suc n) (suc k) = none n k
