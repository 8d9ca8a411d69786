-- What holds of the names that the instances drive holds of the names that they read.
use Rattle.std.proofs.Common.{◌≡◌, ◌≤◌, ◌+◌, ℕ, List, [], ◌∷◌, ◌++◌, map, Bool, true, Option, None, Some, refl, ap, ◌∙◌, arith}
use Rattle.std.specs.List.{cons_option, filter_map, flat_map, list_all}
use Rattle.std.specs.Option.{option_map}
use Rattle.rm_base.specs.Words.{Word}
use Rattle.rm_base.proofs.Public.{and_first, and_second, both_and, list_all-join, list_all-parts}
use Rattle.rm_model.specs.Value.{control_of, is_among}
use Rattle.rm_model.specs.WellFormed.{used_names}
use Rattle.rm_model.specs.declared.parts.Cover.{Cover}
use Rattle.rm_model.specs.declared.parts.Latch.{Latch}
use Rattle.rm_model.specs.declared.parts.Timing.{Timing}
use Rattle.rm_model.specs.declared.parts.Model.{Model}
use Rattle.blif_flatten.specs.declared.modules.Pin.{Pin}
use Rattle.blif_flatten.specs.declared.modules.Link.{Link}
use Rattle.blif_flatten.specs.declared.modules.Module.{Module}
use Rattle.blif_flatten.specs.Instances.{Calls, Done, Then, instance_count, name_in}
use Rattle.blif_flatten.specs.Flat.{renamed_cover, renamed_latch, input_pins, output_pins, copies_in, copies_out, covers_in, latches_in}
use Rattle.blif_flatten.proofs.FormedCounts.{times, all-times, all-through, times-all, times-found, times-same}
use Rattle.blif_flatten.proofs.FormedTree.{actuals, formals, inner_times, level_ins, name-own, own_names, some-of-three}

abbrev pub cover_inputs : List Cover → List Word
cover_inputs cs = flat_map (λ (c : Cover). c.inputs) cs

abbrev pub latch_inputs : List Latch → List Word
latch_inputs ls = map (λ (l : Latch). l.input) ls

-- the names that an instance reads
abbrev pub read_names : Module → Calls → List Word
read_names m inside = used_names m.model ++ level_ins inside

-- each name that an instance reads is one that it drives
pub record IsDriven (l : Link) (m : Module) (inside : Calls) : Type 0 where
  pub reads : list_all (is_among (own_names l m inside)) (read_names m inside) ≡ true
  pub outward : list_all (is_among m.model.outputs) (formals (output_pins l)) ≡ true

abbrev pub AreDriven : Calls → Type 0
AreDriven Done = Unit {0}
AreDriven (Then l m inside behind) = IsDriven l m inside × (AreDriven inside × AreDriven behind)

-- the test holds of each name that the instances drive
abbrev pub AreHeld : (Word → Bool) → Word → ℕ → Calls → Type 0
AreHeld p before i Done = Unit {0}
AreHeld p before i (Then l m inside behind) =
    (list_all (λ y. p (name_in before i y)) (own_names l m inside) ≡ true)
    × (AreHeld p before (i + 1) inside × AreHeld p before (i + 1 + instance_count inside) behind)

-- a name that is counted passes
pub held-times : (p : Word → Bool) (before x : Word) (i : ℕ) (calls : Calls) → AreHeld p before i calls → 1 ≤ inner_times before x i calls → p x ≡ true
held-times p before x i Done held h = absurd (let bad : 1 ≤ 0 = h in omega (arith, bad))
held-times p before x i (Then l m inside behind) held h =
    some-of-three (times x (map (name_in before i) (own_names l m inside))) (inner_times before x (i + 1) inside) (inner_times before x (i + 1 + instance_count inside) behind)
    (λ a.
    let there = times-found (name_in before i) x (own_names l m inside) a in
    ap p there.1.1 ∙ times-all (λ y. p (name_in before i y)) (own_names l m inside) there.0 held.0 there.1.0)
    (held-times p before x (i + 1) inside held.1.0)
    (held-times p before x (i + 1 + instance_count inside) behind held.1.1) h

-- a test that holds of all names that are counted
pub times-held : (p : Word → Bool) (before : Word) (i : ℕ) (calls : Calls) → ((x : Word) → 1 ≤ inner_times before x i calls → p x ≡ true) → AreHeld p before i calls
times-held p before i Done h = tt
times-held p before i (Then l m inside behind) h = (
  all-times (λ y. p (name_in before i y)) (own_names l m inside) (λ y k.
      let same : times (name_in before i y) (map (name_in before i) (own_names l m inside)) ≡ times y (own_names l m inside) = times-same (name_in before i) (name-own before i) y (own_names l m inside) in
      h (name_in before i y) (omega (arith, same, k))),
  (
    times-held p before (i + 1) inside (λ x k. h x (omega (arith, k))),
    times-held p before (i + 1 + instance_count inside) behind (λ x k. h x (omega (arith, k))),
  ),
)

-- LISTS OF COVERS AND OF LATCHES
module _ (p : Word → Bool) where
  pub inputs-join : (xs ys : List Cover) → list_all p (cover_inputs xs) ≡ true → list_all p (cover_inputs ys) ≡ true → list_all p (cover_inputs (xs ++ ys)) ≡ true
  inputs-join [] ys a b = b
  inputs-join (c ∷ cs) ys a b = let parts = list_all-parts p c.inputs (cover_inputs cs) a in list_all-join p c.inputs (cover_inputs (cs ++ ys)) parts.0 (inputs-join cs ys parts.1 b)

  pub map-join : {A : Type 0} (f : A → Word) (xs ys : List A) → list_all p (map f xs) ≡ true → list_all p (map f ys) ≡ true → list_all p (map f (xs ++ ys)) ≡ true
  map-join f [] ys a b = b
  map-join f (z ∷ zs) ys a b = both_and (p (f z)) (list_all p (map f (zs ++ ys))) (and_first (p (f z)) (list_all p (map f zs)) a) (map-join f zs ys (and_second (p (f z)) (list_all p (map f zs)) a) b)

  one-control : (o : Option Word) (ws : List Word) → list_all p (cons_option o ws) ≡ true → (list_all p (cons_option o []) ≡ true) × (list_all p ws ≡ true)
  one-control None ws a = (refl, a)
  one-control (Some w) ws a = (both_and (p w) true (and_first (p w) (list_all p ws) a) refl, and_second (p w) (list_all p ws) a)

  more-control : (o : Option Word) (ws : List Word) → list_all p (cons_option o []) ≡ true → list_all p ws ≡ true → list_all p (cons_option o ws) ≡ true
  more-control None ws a b = b
  more-control (Some w) ws a b = both_and (p w) (list_all p ws) (and_first (p w) true a) b

  pub controls-join : (xs ys : List Latch) → list_all p (filter_map control_of xs) ≡ true → list_all p (filter_map control_of ys) ≡ true → list_all p (filter_map control_of (xs ++ ys)) ≡ true
  controls-join [] ys a b = b
  controls-join (l ∷ ls) ys a b = let parts = one-control (control_of l) (filter_map control_of ls) a in more-control (control_of l) (filter_map control_of (ls ++ ys)) parts.0 (controls-join ls ys parts.1 b)

  -- RENAMED
  module _ (f : Word → Word) where
    renamed-words : (ws : List Word) → list_all (λ y. p (f y)) ws ≡ true → list_all p (map f ws) ≡ true
    renamed-words [] a = refl
    renamed-words (w ∷ ws) a = both_and (p (f w)) (list_all p (map f ws)) (and_first (p (f w)) (list_all (λ y. p (f y)) ws) a) (renamed-words ws (and_second (p (f w)) (list_all (λ y. p (f y)) ws) a))

    renamed-inputs : (cs : List Cover) → list_all (λ y. p (f y)) (cover_inputs cs) ≡ true → list_all p (cover_inputs (map (renamed_cover f) cs)) ≡ true
    renamed-inputs [] a = refl
    renamed-inputs (c ∷ cs) a =
        let parts = list_all-parts (λ y. p (f y)) c.inputs (cover_inputs cs) a in
        list_all-join p (map f c.inputs) (cover_inputs (map (renamed_cover f) cs)) (renamed-words c.inputs parts.0) (renamed-inputs cs parts.1)

    renamed-latch_inputs : (ls : List Latch) → list_all (λ y. p (f y)) (latch_inputs ls) ≡ true → list_all p (latch_inputs (map (renamed_latch f) ls)) ≡ true
    renamed-latch_inputs [] a = refl
    renamed-latch_inputs (l ∷ ls) a =
        both_and (p (f l.input)) (list_all p (latch_inputs (map (renamed_latch f) ls))) (and_first (p (f l.input)) (list_all (λ y. p (f y)) (latch_inputs ls)) a)
        (renamed-latch_inputs ls (and_second (p (f l.input)) (list_all (λ y. p (f y)) (latch_inputs ls)) a))

    abbrev control_in : Option Timing → Option Word
    control_in None = None
    control_in (Some t) = t.control

    renamed-controls : (ls : List Latch) → list_all (λ y. p (f y)) (filter_map control_of ls) ≡ true → list_all p (filter_map control_of (map (renamed_latch f) ls)) ≡ true
    renamed-controls [] a = refl
    renamed-controls (l ∷ ls) a = at l.timing refl a (renamed-controls ls)
      where
        one : (o : Option Word) → list_all (λ y. p (f y)) (cons_option o (filter_map control_of ls)) ≡ true → (list_all (λ y. p (f y)) (filter_map control_of ls) ≡ true → list_all p (filter_map control_of (map (renamed_latch f) ls)) ≡ true)
            → list_all p (cons_option (option_map f o) (filter_map control_of (map (renamed_latch f) ls))) ≡ true
        one None b k = k b
        one (Some w) b k = both_and (p (f w)) (list_all p (filter_map control_of (map (renamed_latch f) ls))) (and_first (p (f w)) (list_all (λ y. p (f y)) (filter_map control_of ls)) b) (k (and_second (p (f w)) (list_all (λ y. p (f y)) (filter_map control_of ls)) b))

        at : (o : Option Timing) → l.timing ≡ o → list_all (λ y. p (f y)) (filter_map control_of (l ∷ ls)) ≡ true → (list_all (λ y. p (f y)) (filter_map control_of ls) ≡ true → list_all p (filter_map control_of (map (renamed_latch f) ls)) ≡ true)
            → list_all p (filter_map control_of (map (renamed_latch f) (l ∷ ls))) ≡ true
        at None e b k = rw e (one None (rw e at b) k)
        at (Some t) e b k = rw e (one t.control (rw e at b) k)

  module _ (before : Word) (outer i : ℕ) where
    in-reads : (pins : List Pin) → list_all (λ y. p (name_in before outer y)) (actuals pins) ≡ true → list_all p (cover_inputs (copies_in before outer i pins)) ≡ true
    in-reads [] a = refl
    in-reads (q ∷ qs) a =
        both_and (p (name_in before outer q.actual)) (list_all p (cover_inputs (copies_in before outer i qs))) (and_first (p (name_in before outer q.actual)) (list_all (λ y. p (name_in before outer y)) (actuals qs)) a)
        (in-reads qs (and_second (p (name_in before outer q.actual)) (list_all (λ y. p (name_in before outer y)) (actuals qs)) a))

    out-reads : (pins : List Pin) → list_all (λ y. p (name_in before i y)) (formals pins) ≡ true → list_all p (cover_inputs (copies_out before outer i pins)) ≡ true
    out-reads [] a = refl
    out-reads (q ∷ qs) a =
        both_and (p (name_in before i q.formal)) (list_all p (cover_inputs (copies_out before outer i qs))) (and_first (p (name_in before i q.formal)) (list_all (λ y. p (name_in before i y)) (formals qs)) a)
        (out-reads qs (and_second (p (name_in before i q.formal)) (list_all (λ y. p (name_in before i y)) (formals qs)) a))

-- the test holds of each name that covers and latches of the calls read
pub record AreReadsHeld (p : Word → Bool) (before : Word) (outer i : ℕ) (calls : Calls) : Type 0 where
  pub covers : list_all p (cover_inputs (covers_in before outer i calls)) ≡ true
  pub latches : list_all p (latch_inputs (latches_in before i calls)) ≡ true
  pub controls : list_all p (filter_map control_of (latches_in before i calls)) ≡ true

-- the parts of the names that a model uses
pub record UsesPass (p : Word → Bool) (m : Model) : Type 0 where
  pub outputs : list_all p m.outputs ≡ true
  pub covers : list_all p (cover_inputs m.covers) ≡ true
  pub latches : list_all p (latch_inputs m.latches) ≡ true
  pub controls : list_all p (filter_map control_of m.latches) ≡ true

pub uses-pass : (p : Word → Bool) (m : Model) → list_all p (used_names m) ≡ true → UsesPass p m
uses-pass p m h =
    let a = list_all-parts p ((m.outputs ++ cover_inputs m.covers) ++ latch_inputs m.latches) (filter_map control_of m.latches) h in
    let b = list_all-parts p (m.outputs ++ cover_inputs m.covers) (latch_inputs m.latches) a.0 in
    let d = list_all-parts p m.outputs (cover_inputs m.covers) b.0 in
    record { outputs = d.0; covers = d.1; latches = b.1; controls = a.1 }

pub pass-uses : (p : Word → Bool) (m : Model) → UsesPass p m → list_all p (used_names m) ≡ true
pass-uses p m u =
    list_all-join p ((m.outputs ++ cover_inputs m.covers) ++ latch_inputs m.latches) (filter_map control_of m.latches)
    (list_all-join p (m.outputs ++ cover_inputs m.covers) (latch_inputs m.latches) (list_all-join p m.outputs (cover_inputs m.covers) u.outputs u.covers) u.latches) u.controls

pub reads-held : (p : Word → Bool) (before : Word) (outer i : ℕ) (calls : Calls) → AreDriven calls → AreHeld p before i calls → list_all (λ y. p (name_in before outer y)) (level_ins calls) ≡ true → AreReadsHeld p before outer i calls
reads-held p before outer i Done driven held level = record { covers = refl; latches = refl; controls = refl }
reads-held p before outer i (Then l m inside behind) driven held level =
    let later : ℕ = i + 1 + instance_count inside in
    let n : Word → Word = name_in before i in
    let q : Word → Bool = (λ y. p (name_in before i y)) in
    let levels = list_all-parts (λ y. p (name_in before outer y)) (actuals (input_pins l)) (level_ins behind) level in
    let reads : list_all q (read_names m inside) ≡ true = all-through q (own_names l m inside) (read_names m inside) driven.0.reads held.0 in
    let parts = list_all-parts q (used_names m.model) (level_ins inside) reads in
    let uses : UsesPass q m.model = uses-pass q m.model parts.0 in
    let outs : list_all q (formals (output_pins l)) ≡ true = all-through q m.model.outputs (formals (output_pins l)) driven.0.outward uses.outputs in
    let within = reads-held p before i (i + 1) inside driven.1.0 held.1.0 parts.1 in
    let after = reads-held p before outer later behind driven.1.1 held.1.1 levels.1 in
    let own : List Cover = map (renamed_cover n) m.model.covers in
    let first : List Cover = copies_in before outer i (input_pins l) in
    let last : List Cover = copies_out before outer i (output_pins l) in
    let inner : List Cover = covers_in before i (i + 1) inside in
    let latches : List Latch = map (renamed_latch n) m.model.latches in
    record {
      covers =
          inputs-join p (first ++ ((own ++ inner) ++ last)) (covers_in before outer later behind)
          (inputs-join p first ((own ++ inner) ++ last) (in-reads p before outer i (input_pins l) levels.0)
          (inputs-join p (own ++ inner) last (inputs-join p own inner (renamed-inputs p n m.model.covers uses.covers) within.covers) (out-reads p before outer i (output_pins l) outs)))
          after.covers;
      latches =
          map-join p (λ (a : Latch). a.input) (latches ++ latches_in before (i + 1) inside) (latches_in before later behind)
          (map-join p (λ (a : Latch). a.input) latches (latches_in before (i + 1) inside) (renamed-latch_inputs p n m.model.latches uses.latches) within.latches)
          after.latches;
      controls =
          controls-join p (latches ++ latches_in before (i + 1) inside) (latches_in before later behind)
          (controls-join p latches (latches_in before (i + 1) inside) (renamed-controls p n m.model.latches uses.controls) within.controls)
          after.controls;
    }
