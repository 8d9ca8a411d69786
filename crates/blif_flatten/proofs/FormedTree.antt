-- How often a name is driven in the flat model, by the instances of the tree.
use Rattle.std.proofs.Common.{◌≡◌, ◌≤◌, ◌<◌, ◌+◌, ◌^◌, ℕ, zero, suc, List, [], ◌∷◌, ◌++◌, map, inl, inr, refl, sym, ◌∙◌, arith}
use Rattle.std.specs.Fmt.{decimal}
use Rattle.std.proofs.lemmas.Bool.{cases_lt}
use Rattle.std.proofs.lemmas.List.{append_cancel_left}
use Rattle.rm_base.specs.Words.{Word}
use Rattle.rm_model.specs.Value.{outputs_of}
use Rattle.rm_model.specs.declared.parts.Cover.{Cover}
use Rattle.rm_model.specs.declared.parts.Latch.{Latch}
use Rattle.rm_model.specs.declared.parts.Model.{Model}
use Rattle.blif_flatten.specs.declared.modules.Pin.{Pin}
use Rattle.blif_flatten.specs.declared.modules.Link.{Link}
use Rattle.blif_flatten.specs.declared.modules.Module.{Module}
use Rattle.blif_flatten.specs.Instances.{Calls, Done, Then, instance_count, lead, name_in}
use Rattle.blif_flatten.specs.Flat.{renamed_cover, renamed_latch, input_pins, output_pins, copies_in, copies_out, covers_in, latches_in}
use Rattle.blif_flatten.proofs.FormedCounts.{times, times-found, times-mapped}
use Rattle.blif_flatten.proofs.Names.{inner-apart}

abbrev pub actuals : List Pin → List Word
actuals pins = map (λ (p : Pin). p.actual) pins

abbrev pub formals : List Pin → List Word
formals pins = map (λ (p : Pin). p.formal) pins

abbrev pub latch_outputs : List Latch → List Word
latch_outputs ls = map (λ (l : Latch). l.output) ls

-- the actuals of the output formals of the first calls
abbrev pub level_outs : Calls → List Word
level_outs Done = []
level_outs (Then l m inside behind) = actuals (output_pins l) ++ level_outs behind

abbrev pub level_ins : Calls → List Word
level_ins Done = []
level_ins (Then l m inside behind) = actuals (input_pins l) ++ level_ins behind

-- what latches, covers and calls drive
abbrev pub inner_names : Model → List Word → List Word
inner_names m outs = latch_outputs m.latches ++ (outputs_of m.covers ++ outs)

-- the names that an instance drives, by their names in its module
abbrev pub own_names : Link → Module → Calls → List Word
own_names l m inside = formals (input_pins l) ++ inner_names m.model (level_outs inside)

-- how often the name is driven in these instances, without the outer one
abbrev pub inner_times : Word → Word → ℕ → Calls → ℕ
inner_times before x i Done = 0
inner_times before x i (Then l m inside behind) =
    times x (map (name_in before i) (own_names l m inside))
    + (inner_times before x (i + 1) inside + inner_times before x (i + 1 + instance_count inside) behind)

-- LISTS UNDER A MAP
pub times-both : {A : Type 0} (f : A → Word) (x : Word) (xs ys : List A) → times x (map f (xs ++ ys)) ≡ times x (map f xs) + times x (map f ys)
times-both f x [] ys = omega arith
times-both f x (z ∷ zs) ys = let h : times x (map f (zs ++ ys)) ≡ times x (map f zs) + times x (map f ys) = times-both f x zs ys in omega (arith, h)

module _ (f : Word → Word) (x : Word) where
  renamed-outputs : (cs : List Cover) → times x (outputs_of (map (renamed_cover f) cs)) ≡ times x (map f (outputs_of cs))
  renamed-outputs [] = refl
  renamed-outputs (c ∷ cs) = let h : times x (outputs_of (map (renamed_cover f) cs)) ≡ times x (map f (outputs_of cs)) = renamed-outputs cs in omega (arith, h)

  renamed-latches : (ls : List Latch) → times x (latch_outputs (map (renamed_latch f) ls)) ≡ times x (map f (latch_outputs ls))
  renamed-latches [] = refl
  renamed-latches (l ∷ ls) = let h : times x (latch_outputs (map (renamed_latch f) ls)) ≡ times x (map f (latch_outputs ls)) = renamed-latches ls in omega (arith, h)

module _ (before x : Word) (outer i : ℕ) where
  in-outputs : (pins : List Pin) → times x (outputs_of (copies_in before outer i pins)) ≡ times x (map (name_in before i) (formals pins))
  in-outputs [] = refl
  in-outputs (p ∷ ps) = let h : times x (outputs_of (copies_in before outer i ps)) ≡ times x (map (name_in before i) (formals ps)) = in-outputs ps in omega (arith, h)

  out-outputs : (pins : List Pin) → times x (outputs_of (copies_out before outer i pins)) ≡ times x (map (name_in before outer) (actuals pins))
  out-outputs [] = refl
  out-outputs (p ∷ ps) = let h : times x (outputs_of (copies_out before outer i ps)) ≡ times x (map (name_in before outer) (actuals ps)) = out-outputs ps in omega (arith, h)

  call-outputs : (l : Link) (own inside behind : List Cover)
      → times x (outputs_of ((copies_in before outer i (input_pins l) ++ ((own ++ inside) ++ copies_out before outer i (output_pins l))) ++ behind))
      ≡ (times x (map (name_in before i) (formals (input_pins l))) + times x (outputs_of own))
      + (times x (outputs_of inside) + (times x (map (name_in before outer) (actuals (output_pins l))) + times x (outputs_of behind)))
  call-outputs l own inside behind =
      let ins : List Cover = copies_in before outer i (input_pins l) in
      let outs : List Cover = copies_out before outer i (output_pins l) in
      let output : Cover → Word = (λ c. c.output) in
      let a = times-both output x (ins ++ ((own ++ inside) ++ outs)) behind in
      let b = times-both output x ins ((own ++ inside) ++ outs) in
      let d = times-both output x (own ++ inside) outs in
      let e = times-both output x own inside in
      let f = in-outputs (input_pins l) in
      let g = out-outputs (output_pins l) in
      omega (arith, a, b, d, e, f, g)

  own-times : (l : Link) (m : Module) (inside : Calls)
      → times x (map (name_in before i) (own_names l m inside))
      ≡ times x (map (name_in before i) (formals (input_pins l)))
      + (times x (map (name_in before i) (latch_outputs m.model.latches)) + (times x (map (name_in before i) (outputs_of m.model.covers)) + times x (map (name_in before i) (level_outs inside))))
  own-times l m inside =
      let a = times-both (name_in before i) x (formals (input_pins l)) (inner_names m.model (level_outs inside)) in
      let b = times-both (name_in before i) x (latch_outputs m.model.latches) (outputs_of m.model.covers ++ level_outs inside) in
      let d = times-both (name_in before i) x (outputs_of m.model.covers) (level_outs inside) in
      omega (arith, a, b, d)

-- what covers and latches of the calls drive: names of the outer instance, and those of the instances
pub tree-times : (before x : Word) (outer i : ℕ) (calls : Calls)
    → times x (outputs_of (covers_in before outer i calls)) + times x (latch_outputs (latches_in before i calls))
    ≡ times x (map (name_in before outer) (level_outs calls)) + inner_times before x i calls
tree-times before x outer i Done = refl
tree-times before x outer i (Then l m inside behind) =
    let later : ℕ = i + 1 + instance_count inside in
    let n : Word → Word = name_in before i in
    let covers = call-outputs before x outer i l (map (renamed_cover n) m.model.covers) (covers_in before i (i + 1) inside) (covers_in before outer later behind) in
    let own = renamed-outputs n x m.model.covers in
    let latches = times-both (λ (a : Latch). a.output) x (map (renamed_latch n) m.model.latches ++ latches_in before (i + 1) inside) (latches_in before later behind) in
    let first = times-both (λ (a : Latch). a.output) x (map (renamed_latch n) m.model.latches) (latches_in before (i + 1) inside) in
    let held = renamed-latches n x m.model.latches in
    let level = times-both (name_in before outer) x (actuals (output_pins l)) (level_outs behind) in
    let names = own-times before x outer i l m inside in
    let within = tree-times before x i (i + 1) inside in
    let after = tree-times before x outer later behind in
    omega (arith, covers, own, latches, first, held, level, names, within, after)

-- THE NAMES OF ONE INSTANCE
pub name-own : (before : Word) (i : ℕ) (y z : Word) → name_in before i y ≡ name_in before i z → y ≡ z
name-own before zero y z e = e
name-own before (suc i) y z e =
    let cut : decimal (suc i) ++ 95 ∷ y ≡ decimal (suc i) ++ 95 ∷ z = append_cancel_left before (decimal (suc i) ++ 95 ∷ y) (decimal (suc i) ++ 95 ∷ z) e in
    let last : 95 ∷ y ≡ 95 ∷ z = append_cancel_left (decimal (suc i)) (95 ∷ y) (95 ∷ z) cut in
    cc

name-apart : (t i j : ℕ) (x y z : Word) → 1 ≤ i → 1 ≤ j → i < 2 ^ 64 → j < 2 ^ 64 → x ≡ name_in (lead t) i y → x ≡ name_in (lead t) j z → i ≡ j
name-apart t zero j x y z a b c d e f = absurd (omega (arith, a))
name-apart t (suc i) zero x y z a b c d e f = absurd (omega (arith, b))
name-apart t (suc i) (suc j) x y z a b c d e f = (inner-apart t i j y z c d (sym e ∙ f)).0

-- the name is one of an instance with a number in this range
pub record Stands (t : ℕ) (x : Word) (i n : ℕ) : Type 0 where
  pub number : ℕ
  pub name : Word
  pub least : i ≤ number
  pub below : number < i + n
  pub is : x ≡ name_in (lead t) number name

stands-apart : (t : ℕ) (x : Word) (i n j m : ℕ) → 1 ≤ i → i + n ≤ j → j + m < 2 ^ 64 → Stands t x i n → Stands t x j m → ⊥
stands-apart t x i n j m positive order small a b =
    let la = a.least in
    let ba = a.below in
    let lb = b.least in
    let bb = b.below in
    let same = name-apart t a.number b.number x a.name b.name (omega (arith, positive, la)) (omega (arith, positive, order, lb)) (omega (arith, ba, order, small)) (omega (arith, bb, small)) a.is b.is in
    absurd (omega (arith, ba, lb, order, same))

stands-wider : (t : ℕ) (x : Word) (i n j m : ℕ) → j ≤ i → i + n ≤ j + m → Stands t x i n → Stands t x j m
stands-wider t x i n j m low high a =
    let la = a.least in
    let ba = a.below in
    record { number = a.number; name = a.name; least = omega (arith, la, low); below = omega (arith, ba, high); is = a.is }

-- ONE OF THREE
module _ (a b c : ℕ) where
  one-of-three : a ≤ 1 → b ≤ 1 → c ≤ 1 → (1 ≤ a → 1 ≤ b → ⊥) → (1 ≤ a → 1 ≤ c → ⊥) → (1 ≤ b → 1 ≤ c → ⊥) → a + (b + c) ≤ 1
  one-of-three ha hb hc ab ac bc = elim (cases_lt a 1) [
    | inl na ↦ elim (cases_lt b 1) [ inl nb ↦ omega (arith, na, nb, hc) | inr sb ↦ elim (cases_lt c 1) [ inl nc ↦ omega (arith, na, nc, hb) | inr sc ↦ absurd (bc sb sc) ] ]
    | inr sa ↦ elim (cases_lt b 1) [ inl nb ↦ elim (cases_lt c 1) [ inl nc ↦ omega (arith, nb, nc, ha) | inr sc ↦ absurd (ac sa sc) ] | inr sb ↦ absurd (ab sa sb) ]
  ]

  pub some-of-three : {P : Type 0} → (1 ≤ a → P) → (1 ≤ b → P) → (1 ≤ c → P) → 1 ≤ a + (b + c) → P
  some-of-three fa fb fc h = elim (cases_lt a 1) [
    | inr sa ↦ fa sa
    | inl na ↦ elim (cases_lt b 1) [ inr sb ↦ fb sb | inl nb ↦ fc (omega (arith, na, nb, h)) ]
  ]

-- each instance drives each of its names once
abbrev pub AreOnce : Calls → Type 0
AreOnce Done = Unit {0}
AreOnce (Then l m inside behind) = ((x : Word) → times x (own_names l m inside) ≤ 1) × (AreOnce inside × AreOnce behind)

-- a name is driven once in all instances, and is then a name of one of them
pub inner-once : (t : ℕ) (x : Word) (i : ℕ) (calls : Calls) → AreOnce calls → 1 ≤ i → i + instance_count calls < 2 ^ 64
    → (inner_times (lead t) x i calls ≤ 1) × (1 ≤ inner_times (lead t) x i calls → Stands t x i (instance_count calls))
inner-once t x i Done once positive small = ((omega arith), λ h. absurd (let bad : 1 ≤ 0 = h in omega (arith, bad)))
inner-once t x i (Then l m inside behind) once positive small =
    let n : ℕ = instance_count inside in
    let k : ℕ = instance_count behind in
    let room : i + (1 + (n + k)) < 2 ^ 64 = small in
    let within = inner-once t x (i + 1) inside once.1.0 (omega arith) (omega (arith, room)) in
    let after = inner-once t x (i + 1 + n) behind once.1.1 (omega arith) (omega (arith, room)) in
    let own : times x (map (name_in (lead t) i) (own_names l m inside)) ≤ 1 = times-mapped (name_in (lead t) i) (name-own (lead t) i) x (own_names l m inside) once.0 in (
      one-of-three (times x (map (name_in (lead t) i) (own_names l m inside))) (inner_times (lead t) x (i + 1) inside) (inner_times (lead t) x (i + 1 + n) behind) own within.0 after.0
          (λ a b. stands-apart t x i 1 (i + 1) n positive (omega arith) (omega (arith, room)) (here a) (within.1 b))
          (λ a b. stands-apart t x i 1 (i + 1 + n) k positive (omega arith) (omega (arith, room)) (here a) (after.1 b))
          (λ a b. stands-apart t x (i + 1) n (i + 1 + n) k (omega arith) (omega arith) (omega (arith, room)) (within.1 a) (after.1 b)),
      some-of-three (times x (map (name_in (lead t) i) (own_names l m inside))) (inner_times (lead t) x (i + 1) inside) (inner_times (lead t) x (i + 1 + n) behind)
          (λ a. stands-wider t x i 1 i (1 + (n + k)) (omega arith) (omega arith) (here a))
          (λ a. stands-wider t x (i + 1) n i (1 + (n + k)) (omega arith) (omega arith) (within.1 a))
          (λ a. stands-wider t x (i + 1 + n) k i (1 + (n + k)) (omega arith) (omega arith) (after.1 a)),
    )
  where
    here : 1 ≤ times x (map (name_in (lead t) i) (own_names l m inside)) → Stands t x i 1
    here h = let there = times-found (name_in (lead t) i) x (own_names l m inside) h in record { number = i; name = there.0; least = omega arith; below = omega arith; is = there.1.1 }
