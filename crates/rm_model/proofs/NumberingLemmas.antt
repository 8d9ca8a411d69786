-- The numbers of a model's signals, and the covers that drive them.
use Rattle.std.proofs.Common.{◌≡◌, ◌<◌, ◌+◌, ◌-◌, ℕ, zero, suc, Bool, true, false, cond, List, [], ◌∷◌, ◌++◌, length, map, take, Option, Some, None, ◌⊎◌, inl, inr, refl, sym, ap, ◌∙◌, arith, Vec, Global}
use Rattle.std.specs.Prelude.{slice_get, nat_lt, ◌||◌}
use Rattle.std.specs.List.{flat_map, filter_map, cons_option, list_all}
use Rattle.std.specs.Option.{option_map}
use Rattle.std.proofs.lemmas.Bool.{false_from_ne_true}
use Rattle.std.proofs.lemmas.Bool.Decides.{Decides-ltb}
use Rattle.rm_model.specs.Words.{is_word}
use Rattle.rm_model.specs.Value.{control_of, is_among, observed_names, source_names, outputs_of}
use Rattle.rm_model.specs.WellFormed.{driven_names, is_distinct, IsWellFormed}
use Rattle.rm_model.specs.Numbers.{place_of}
use Rattle.rm_model.specs.Inner.Numbers.{drivers_of}
use Rattle.rm_model.specs.Ranks.{cover_of}
use Rattle.rm_model.specs.Inner.Signals.{cover_at}
use Rattle.rm_model.specs.declared.parts.Cover.{Cover}
use Rattle.rm_model.specs.declared.parts.Latch.{Latch}
use Rattle.rm_model.specs.declared.parts.Model.{Model}
use Rattle.rm_model.proofs.CoverLemmas.{among-at, drives-of, output-at, distinct-right}
use Rattle.rm_model.proofs.NameLemmas.{among-append, distinct-apart, new-word, place-absent}
use Rattle.rm_base.proofs.Public.{list_all-parts, list_all-join}
use Rattle.rm_base.specs.Words.{Word}

-- the next of distinct names is new
pub next-is-new : (xs ys : List Word) (i : ℕ) (x : Word) → is_distinct (xs ++ ys) ≡ true → slice_get ys i ≡ Some x → is_among (xs ++ take i ys) x ≡ false
next-is-new xs ys i x once at = false_from_ne_true (is_among (xs ++ take i ys) x) (λ e. elim (among-append xs (take i ys) x e) [
  | inl h ↦ distinct-apart xs ys x once h (among-at ys i x at)
  | inr h ↦ let new : is_among (take i ys) x ≡ false = new-word ys i x (distinct-right xs ys once) at in cc
])

pub outputs-take : (cs : List Cover) (i : ℕ) → outputs_of (take i cs) ≡ take i (outputs_of cs)
outputs-take [] zero = refl
outputs-take [] (suc i) = refl
outputs-take (c ∷ cs) zero = refl
outputs-take (c ∷ cs) (suc i) = ap (λ (l : List Word). c.output ∷ l) (outputs-take cs i)

pub next-output-is-new : (xs : List Word) (cs : List Cover) (i : ℕ) (c : Cover) → is_distinct (xs ++ outputs_of cs) ≡ true → slice_get cs i ≡ Some c → is_among (xs ++ outputs_of (take i cs)) c.output ≡ false
next-output-is-new xs cs i c once at = ap (λ (l : List Word). is_among (xs ++ l) c.output) (outputs-take cs i) ∙ next-is-new xs (outputs_of cs) i c.output once (output-at cs i c at)

-- a name that is among others has a number
pub number-there : (names : List Word) (x : Word) → is_among names x ≡ true → place_of names x ≡ None → ⊥
number-there names x e none = let out : is_among names x ≡ false = place-absent names x none in cc

-- a number is that of a name of the first list, or of the second one behind it
pub place-in-two : (ns ys : List Word) (x : Word) (k : ℕ) → place_of (ns ++ ys) x ≡ Some k → ((k < length ns) × (is_among ns x ≡ true)) ⊎ ((j : ℕ) × ((k ≡ length ns + j) × (place_of ys x ≡ Some j)))
place-in-two [] ys x k e = inr (k, (omega arith, e))
place-in-two (n ∷ ns) ys x k e = by_test (is_word x n) refl (place_of (ns ++ ys) x) refl e (place-in-two ns ys x)
  where
    Cases : Bool → ℕ → Type 0
    Cases b k = ((k < suc (length ns)) × ((b || is_among ns x) ≡ true)) ⊎ ((j : ℕ) × ((k ≡ suc (length ns) + j) × (place_of ys x ≡ Some j)))

    by_test : (b : Bool) → is_word x n ≡ b → (o : Option ℕ) → place_of (ns ++ ys) x ≡ o → cond b (Some 0) (option_map (λ k. suc k) o) ≡ Some k → ((i : ℕ) → place_of (ns ++ ys) x ≡ Some i → ((i < length ns) × (is_among ns x ≡ true)) ⊎ ((j : ℕ) × ((i ≡ length ns + j) × (place_of ys x ≡ Some j)))) → Cases (is_word x n) k
    by_test true same o is e rest = let first : 0 ≡ k = cc in inl (omega (arith, first), ap (λ (b : Bool). b || is_among ns x) same)
    by_test false other None is e rest = absurd cc
    by_test false other (Some i) is e rest = let next : suc i ≡ k = cc in elim (rest i is) [
      | inl h ↦ inl (omega (arith, next, h.0), ap (λ (b : Bool). b || is_among ns x) other ∙ h.1)
      | inr h ↦ inr (h.0, (omega (arith, next, h.1.0), h.1.1))
    ]

no-cover : (cs : List Cover) (x : Word) → (is_among (outputs_of cs) x ≡ true → ⊥) → cover_of cs x ≡ None
no-cover cs x h = by (cover_of cs x) refl
  where
    by : (o : Option ℕ) → cover_of cs x ≡ o → cover_of cs x ≡ None
    by None e = e
    by (Some k) e =
        let d = drives-of cs x k e in
        absurd (h (among-at (outputs_of cs) k x (output-at cs k d.cover d.there ∙ ap Some (sym d.drives))))

place-of-cover : (cs : List Cover) (x : Word) → place_of (outputs_of cs) x ≡ cover_of cs x
place-of-cover [] x = refl
place-of-cover (c ∷ cs) x = ap (λ (o : Option ℕ). cond (is_word x c.output) (Some 0) (option_map (λ k. suc k) o)) (place-of-cover cs x)

-- the cover at a signal's number drives the signal
pub cover-at-number : (ns : List Word) (cs : List Cover) (x : Word) (k : ℕ) → is_distinct (ns ++ outputs_of cs) ≡ true → place_of (ns ++ outputs_of cs) x ≡ Some k → cover_at (length ns) k ≡ cover_of cs x
cover-at-number ns cs x k once e = elim (place-in-two ns (outputs_of cs) x k e) [
  | inl h ↦
      let lt : nat_lt k (length ns) ≡ true = (Decides-ltb k (length ns)).1 h.0 in
      let none : cover_of cs x ≡ None = no-cover cs x (λ out. distinct-apart ns (outputs_of cs) x once h.1 out) in
      rw lt (sym none)
  | inr h ↦
      let ge : nat_lt k (length ns) ≡ false = false_from_ne_true (nat_lt k (length ns)) (λ e. let lt : k < length ns = (Decides-ltb k (length ns)).0 e in omega (arith, lt, h.1.0)) in
      let place : k - length ns ≡ h.0 = omega (arith, h.1.0) in
      rw ge (ap Some place ∙ (sym h.1.1 ∙ place-of-cover cs x))
]

pub covers-of-numbers : (ns : List Word) (cs : List Cover) (xs : List Word) (ks : List ℕ) → is_distinct (ns ++ outputs_of cs) ≡ true → map (λ k. Some k) ks ≡ map (place_of (ns ++ outputs_of cs)) xs → filter_map (cover_at (length ns)) ks ≡ filter_map (cover_of cs) xs
covers-of-numbers ns cs [] [] once e = refl
covers-of-numbers ns cs [] (k ∷ ks) once e = absurd cc
covers-of-numbers ns cs (x ∷ xs) [] once e = absurd cc
covers-of-numbers ns cs (x ∷ xs) (k ∷ ks) once e =
    let here : Some k ≡ place_of (ns ++ outputs_of cs) x = cc in
    let rest : map (λ k. Some k) ks ≡ map (place_of (ns ++ outputs_of cs)) xs = cc in
    let at : cover_at (length ns) k ≡ cover_of cs x = cover-at-number ns cs x k once (sym here) in
    let more : filter_map (cover_at (length ns)) ks ≡ filter_map (cover_of cs) xs = covers-of-numbers ns cs xs ks once rest in
    ap (λ (o : Option ℕ). cons_option o (filter_map (cover_at (length ns)) ks)) at ∙ ap (cons_option (cover_of cs x)) more

pub drivers-of-numbers : (m : Model) (cs : List Cover) (inputs : List (List ℕ)) → is_distinct (driven_names m) ≡ true → map (λ ks. map (λ k. Some k) ks) inputs ≡ map (λ (c : Cover). map (place_of (driven_names m)) c.inputs) cs → map (λ ks. filter_map (cover_at (length (source_names m))) ks) inputs ≡ map (drivers_of m.covers) cs
drivers-of-numbers m [] [] once e = refl
drivers-of-numbers m [] (ks ∷ inputs) once e = absurd cc
drivers-of-numbers m (c ∷ cs) [] once e = absurd cc
drivers-of-numbers m (c ∷ cs) (ks ∷ inputs) once e =
    let here : map (λ k. Some k) ks ≡ map (place_of (driven_names m)) c.inputs = cc in
    let rest : map (λ ks. map (λ k. Some k) ks) inputs ≡ map (λ (c : Cover). map (place_of (driven_names m)) c.inputs) cs = cc in
    let first : filter_map (cover_at (length (source_names m))) ks ≡ drivers_of m.covers c = covers-of-numbers (source_names m) m.covers c.inputs ks once here in
    let more : map (λ ks. filter_map (cover_at (length (source_names m))) ks) inputs ≡ map (drivers_of m.covers) cs = drivers-of-numbers m cs inputs once rest in
    ap (λ (l : List ℕ). l ∷ map (λ ks. filter_map (cover_at (length (source_names m))) ks) inputs) first ∙ ap (λ (l : List (List ℕ)). drivers_of m.covers c ∷ l) more

pub map-map : {A B C : Type 0} (f : A → B) (g : B → C) (xs : List A) → map g (map f xs) ≡ map (λ (x : A). g (f x)) xs
map-map f g [] = refl
map-map f g (x ∷ xs) = ap (λ (l : List _). g (f x) ∷ l) (map-map f g xs)

pub numbered-lists : (m : Model) (inputs : List (Vec ℕ Global)) (s : ℕ) → is_distinct (driven_names m) ≡ true → s ≡ length (source_names m)
    → map (λ ks. map (λ k. Some k) ks) (map (λ (v : Vec ℕ Global). v.items) inputs) ≡ map (λ (c : Cover). map (place_of (driven_names m)) c.inputs) m.covers
    → map (λ (v : Vec ℕ Global). filter_map (cover_at s) v.items) inputs ≡ map (drivers_of m.covers) m.covers
numbered-lists m inputs s once is e =
    sym (map-map (λ (v : Vec ℕ Global). v.items) (filter_map (cover_at s)) inputs)
    ∙ (ap (λ (n : ℕ). map (filter_map (cover_at n)) (map (λ (v : Vec ℕ Global). v.items) inputs)) is
    ∙ drivers-of-numbers m m.covers (map (λ (v : Vec ℕ Global). v.items) inputs) once e)

-- what the look-ups need
all-inputs : (p : Word → Bool) (cs : List Cover) → list_all p (flat_map (λ (c : Cover). c.inputs) cs) ≡ true → list_all (λ (c : Cover). list_all p c.inputs) cs ≡ true
all-inputs p [] e = refl
all-inputs p (c ∷ cs) e =
    let parts = list_all-parts p c.inputs (flat_map (λ (c : Cover). c.inputs) cs) e in
    rw (parts.0, all-inputs p cs parts.1) refl

pub inputs-driven : (m : Model) → IsWellFormed m → list_all (λ (c : Cover). list_all (is_among (driven_names m)) c.inputs) m.covers ≡ true
inputs-driven m w =
    let controls = list_all-parts (is_among (driven_names m)) ((m.outputs ++ flat_map (λ (c : Cover). c.inputs) m.covers) ++ map (λ (l : Latch). l.input) m.latches) (filter_map control_of m.latches) w.all_driven in
    let latches = list_all-parts (is_among (driven_names m)) (m.outputs ++ flat_map (λ (c : Cover). c.inputs) m.covers) (map (λ (l : Latch). l.input) m.latches) controls.0 in
    let outputs = list_all-parts (is_among (driven_names m)) m.outputs (flat_map (λ (c : Cover). c.inputs) m.covers) latches.0 in
    all-inputs (is_among (driven_names m)) m.covers outputs.1

pub observed-all-driven : (m : Model) → IsWellFormed m → list_all (is_among (driven_names m)) (observed_names m) ≡ true
observed-all-driven m w =
    let controls = list_all-parts (is_among (driven_names m)) ((m.outputs ++ flat_map (λ (c : Cover). c.inputs) m.covers) ++ map (λ (l : Latch). l.input) m.latches) (filter_map control_of m.latches) w.all_driven in
    let latches = list_all-parts (is_among (driven_names m)) (m.outputs ++ flat_map (λ (c : Cover). c.inputs) m.covers) (map (λ (l : Latch). l.input) m.latches) controls.0 in
    let outputs = list_all-parts (is_among (driven_names m)) m.outputs (flat_map (λ (c : Cover). c.inputs) m.covers) latches.0 in
    list_all-join (is_among (driven_names m)) (m.outputs ++ map (λ (l : Latch). l.input) m.latches) (filter_map control_of m.latches) (list_all-join (is_among (driven_names m)) m.outputs (map (λ (l : Latch). l.input) m.latches) outputs.0 latches.1) controls.1
