-- A flat model is well formed where its top and its instances are.
use Rattle.std.proofs.Common.{◌≡◌, ◌≢◌, ◌≤◌, ◌<◌, ◌+◌, ◌^◌, ℕ, zero, suc, List, [], ◌∷◌, ◌++◌, length, map, Bool, true, false, not, inl, inr, Option, None, Some, refl, sym, ap, ◌∙◌, subst, arith}
use Rattle.std.specs.Prelude.{All, IfSome, codes, filter, if◌then◌else◌}
use Rattle.std.specs.List.{list_all}
use Rattle.std.proofs.lemmas.Bool.{cases_lt}
use Rattle.std.proofs.lemmas.List.{length-map}
use Rattle.std.proofs.lemmas.List.Elements.{All-nil, All-cons, All-append, All-map, All-weaker}
use Rattle.rm_base.specs.Numbers.{one_if}
use Rattle.rm_base.specs.Words.{Word}
use Rattle.rm_base.proofs.Public.{both_and, list_all-join}
use Rattle.rm_model.specs.Words.{is_word}
use Rattle.rm_model.specs.Value.{control_of, is_among, outputs_of}
use Rattle.rm_model.specs.WellFormed.{driven_names, is_distinct, is_token, used_names, IsWellFormed, IsWellFormedCover}
use Rattle.rm_model.specs.declared.parts.Literal.{Literal}
use Rattle.rm_model.specs.declared.parts.Literal.TheVariants.{One}
use Rattle.rm_model.specs.declared.parts.Cover.{Cover}
use Rattle.rm_model.specs.declared.parts.Latch.{Latch}
use Rattle.rm_model.specs.declared.parts.Timing.{Timing}
use Rattle.rm_model.specs.declared.parts.Model.{Model}
use Rattle.rm_model.proofs.Public.{same_word}
use Rattle.blif_flatten.specs.declared.modules.Pin.{Pin}
use Rattle.blif_flatten.specs.Instances.{Calls, Done, Then, instance_count, is_free, lead, name_in}
use Rattle.blif_flatten.specs.Flat.{renamed_cover, renamed_latch, copy, input_pins, output_pins, copies_in, copies_out, covers_in, latches_in, flat_model}
use Rattle.blif_flatten.proofs.FormedCounts.{times, times-append, times-none, among-times, times-among, all-times, once-distinct}
use Rattle.blif_flatten.proofs.FormedTree.{AreOnce, Stands, inner-once, inner_names, inner_times, latch_outputs, level_ins, level_outs, times-both, tree-times}
use Rattle.blif_flatten.proofs.FormedHeld.{AreDriven, AreHeld, AreReadsHeld, UsesPass, controls-join, held-times, inputs-join, map-join, pass-uses, reads-held, times-held, uses-pass}
use Rattle.blif_flatten.proofs.FormedTokens.{AreOwnTokens, tokens-held}
use Rattle.blif_flatten.proofs.Names.{names-are_own}

-- INIT VALUES AND CONTROLS
abbrev pub HasInit : Latch → Type 0
HasInit l = IfSome l.init (λ n. n ≤ 3)

abbrev pub HasControl : Latch → Type 0
HasControl l = IfSome (control_of l) (λ x. x ≢ codes "NIL")

-- how often a name stands in what the model drives, with its clocks where they are inputs too
abbrev pub all_times : Word → Model → List Word → ℕ
all_times x m outs = times x m.inputs + (times x m.clocks + times x (inner_names m outs))

-- a model with what its calls drive and read
pub record IsSoundModel (m : Model) (outs ins : List Word) : Type 0 where
  pub inputs_once : (x : Word) → times x m.inputs + times x (inner_names m outs) ≤ 1
  pub clocks_once : (x : Word) → times x m.clocks + times x (inner_names m outs) ≤ 1
  pub reads : (x : Word) → 1 ≤ times x (used_names m ++ ins) → 1 ≤ all_times x m outs
  pub tokens : (x : Word) → 1 ≤ all_times x m outs → is_token x ≡ true
  pub name : is_token m.name ≡ true
  pub outputs_once : is_distinct m.outputs ≡ true
  pub covers : All IsWellFormedCover m.covers
  pub inits : All HasInit m.latches
  pub controls : All HasControl m.latches

-- the covers and the latches of each instance have the form
abbrev pub AreShaped : Calls → Type 0
AreShaped Done = Unit {0}
AreShaped (Then l m inside behind) = (All IsWellFormedCover m.model.covers × All HasInit m.model.latches) × (AreShaped inside × AreShaped behind)

-- COVERS
copy-formed : (x y : Word) → IsWellFormedCover (copy x y)
copy-formed x y = record {
  no_rows = λ e. refl;
  row_lengths = All-cons (λ (r : List Literal). length r ≡ length (x ∷ [])) (One ∷ []) [] refl (All-nil (λ (r : List Literal). length r ≡ length (x ∷ [])));
}

renamed-formed : (f : Word → Word) (c : Cover) → IsWellFormedCover c → IsWellFormedCover (renamed_cover f c)
renamed-formed f c h = record {
  no_rows = h.no_rows;
  row_lengths = subst (λ (n : ℕ). All (λ (r : List Literal). length r ≡ n) c.rows) (sym (length-map c.inputs f)) h.row_lengths;
}

all-map-formed : {A : Type 0} (f : A → Cover) (xs : List A) → ((x : A) → IsWellFormedCover (f x)) → All IsWellFormedCover (map f xs)
all-map-formed f [] h = All-nil IsWellFormedCover
all-map-formed f (x ∷ xs) h = All-cons IsWellFormedCover (f x) (map f xs) (h x) (all-map-formed f xs h)

covers-formed : (before : Word) (outer i : ℕ) (calls : Calls) → AreShaped calls → All IsWellFormedCover (covers_in before outer i calls)
covers-formed before outer i Done h = All-nil IsWellFormedCover
covers-formed before outer i (Then l m inside behind) h =
    let first : List Cover = copies_in before outer i (input_pins l) in
    let own : List Cover = map (renamed_cover (name_in before i)) m.model.covers in
    let inner : List Cover = covers_in before i (i + 1) inside in
    let last : List Cover = copies_out before outer i (output_pins l) in
    let later : List Cover = covers_in before outer (i + 1 + instance_count inside) behind in
    All-append IsWellFormedCover (first ++ ((own ++ inner) ++ last)) later
    (All-append IsWellFormedCover first ((own ++ inner) ++ last) (all-map-formed (λ (p : Pin). copy (name_in before outer p.actual) (name_in before i p.formal)) (input_pins l) (λ p. copy-formed (name_in before outer p.actual) (name_in before i p.formal)))
    (All-append IsWellFormedCover (own ++ inner) last
    (All-append IsWellFormedCover own inner
    (All-map IsWellFormedCover (renamed_cover (name_in before i)) m.model.covers (All-weaker IsWellFormedCover (λ (c : Cover). IsWellFormedCover (renamed_cover (name_in before i) c)) (renamed-formed (name_in before i)) m.model.covers h.0.0))
    (covers-formed before i (i + 1) inside h.1.0))
    (all-map-formed (λ (p : Pin). copy (name_in before i p.formal) (name_in before outer p.actual)) (output_pins l) (λ p. copy-formed (name_in before i p.formal) (name_in before outer p.actual)))))
    (covers-formed before outer (i + 1 + instance_count inside) behind h.1.1)

-- LATCHES
inits-formed : (before : Word) (i : ℕ) (calls : Calls) → AreShaped calls → All HasInit (latches_in before i calls)
inits-formed before i Done h = All-nil HasInit
inits-formed before i (Then l m inside behind) h =
    let own : List Latch = map (renamed_latch (name_in before i)) m.model.latches in
    All-append HasInit (own ++ latches_in before (i + 1) inside) (latches_in before (i + 1 + instance_count inside) behind)
    (All-append HasInit own (latches_in before (i + 1) inside)
    (All-map HasInit (renamed_latch (name_in before i)) m.model.latches (All-weaker HasInit (λ (a : Latch). HasInit (renamed_latch (name_in before i) a)) (λ a g. g) m.model.latches h.0.1))
    (inits-formed before (i + 1) inside h.1.0))
    (inits-formed before (i + 1 + instance_count inside) behind h.1.1)

-- a renamed control begins with `s`
renamed-control : (t i : ℕ) (l : Latch) → HasControl (renamed_latch (name_in (lead t) (suc i)) l)
renamed-control t i l = at l.timing refl
  where
    first_or : Word → ℕ
    first_or [] = 0
    first_or (b ∷ bs) = b

    apart : (x : Word) → name_in (lead t) (suc i) x ≢ codes "NIL"
    apart x e = let bad : 115 ≡ 78 = ap first_or e in absurd (omega (arith, bad))

    at : (o : Option Timing) → l.timing ≡ o → HasControl (renamed_latch (name_in (lead t) (suc i)) l)
    at None e = rw e tt
    at (Some d) e = rw e (of d.control refl)
      where
        of : (o : Option Word) → d.control ≡ o → HasControl (renamed_latch (name_in (lead t) (suc i)) (record l { timing = Some d }))
        of None f = rw f tt
        of (Some x) f = rw f (apart x)

controls-formed : (t i : ℕ) (calls : Calls) → 1 ≤ i → All HasControl (latches_in (lead t) i calls)
controls-formed t i Done positive = All-nil HasControl
controls-formed t zero (Then l m inside behind) positive = absurd (omega (arith, positive))
controls-formed t (suc i) (Then l m inside behind) positive =
    let own : List Latch = map (renamed_latch (name_in (lead t) (suc i))) m.model.latches in
    All-append HasControl (own ++ latches_in (lead t) (suc i + 1) inside) (latches_in (lead t) (suc i + 1 + instance_count inside) behind)
    (All-append HasControl own (latches_in (lead t) (suc i + 1) inside) (renamed m.model.latches) (controls-formed t (suc i + 1) inside (omega arith)))
    (controls-formed t (suc i + 1 + instance_count inside) behind (omega arith))
  where
    renamed : (ls : List Latch) → All HasControl (map (renamed_latch (name_in (lead t) (suc i))) ls)
    renamed [] = All-nil HasControl
    renamed (a ∷ ls) = All-cons HasControl (renamed_latch (name_in (lead t) (suc i)) a) (map (renamed_latch (name_in (lead t) (suc i))) ls) (renamed-control t i a) (renamed ls)

-- CLOCKS THAT ARE NO INPUTS
abbrev others : List Word → List Word → List Word
others xs ys = filter (λ y. not (is_among xs y)) ys

other-same : (x : Word) (xs ys : List Word) → is_among xs x ≡ false → times x (others xs ys) ≡ times x ys
other-same x xs [] e = refl
other-same x xs (y ∷ ys) e = at (is_among xs y) refl (other-same x xs ys e)
  where
    at : (b : Bool) → is_among xs y ≡ b → times x (others xs ys) ≡ times x ys → times x (if not b then y ∷ others xs ys else others xs ys) ≡ times x (y ∷ ys)
    at false f h = omega (arith, h)
    at true f h = differ (is_word x y) refl
      where
        differ : (c : Bool) → is_word x y ≡ c → times x (others xs ys) ≡ one_if c + times x ys
        differ false g = omega (arith, h)
        differ true g = let bad : is_among xs x ≡ true = ap (is_among xs) (same_word x y g) ∙ f in absurd cc

other-none : (x : Word) (xs ys : List Word) → is_among xs x ≡ true → times x (others xs ys) ≡ 0
other-none x xs [] e = refl
other-none x xs (y ∷ ys) e = at (is_among xs y) refl (other-none x xs ys e)
  where
    at : (b : Bool) → is_among xs y ≡ b → times x (others xs ys) ≡ 0 → times x (if not b then y ∷ others xs ys else others xs ys) ≡ 0
    at true f h = h
    at false f h = differ (is_word x y) refl
      where
        differ : (c : Bool) → is_word x y ≡ c → one_if c + times x (others xs ys) ≡ 0
        differ false g = omega (arith, h)
        differ true g = let bad : is_among xs x ≡ false = ap (is_among xs) (same_word x y g) ∙ f in absurd cc

module _ (m : Model) (outs : List Word) (x : Word) where
  -- what the model drives, each source once
  abbrev pub top_times : ℕ
  top_times = (times x m.inputs + times x (others m.inputs m.clocks)) + times x (inner_names m outs)

  top-once : times x m.inputs + times x (inner_names m outs) ≤ 1 → times x m.clocks + times x (inner_names m outs) ≤ 1 → top_times ≤ 1
  top-once a b = at (is_among m.inputs x) refl
    where
      at : (c : Bool) → is_among m.inputs x ≡ c → top_times ≤ 1
      at true e = let none = other-none x m.inputs m.clocks e in omega (arith, a, none)
      at false e = let same = other-same x m.inputs m.clocks e in let none = times-none x m.inputs e in omega (arith, b, same, none)

  top-some : 1 ≤ all_times x m outs → 1 ≤ top_times
  top-some a = at (is_among m.inputs x) refl
    where
      at : (c : Bool) → is_among m.inputs x ≡ c → 1 ≤ top_times
      at true e = let some = among-times x m.inputs e in omega (arith, some)
      at false e = let same = other-same x m.inputs m.clocks e in let none = times-none x m.inputs e in omega (arith, a, same, none)

  some-top : 1 ≤ top_times → 1 ≤ all_times x m outs
  some-top a = at (is_among m.inputs x) refl
    where
      at : (c : Bool) → is_among m.inputs x ≡ c → 1 ≤ all_times x m outs
      at true e = let some = among-times x m.inputs e in omega (arith, some)
      at false e = let same = other-same x m.inputs m.clocks e in let none = times-none x m.inputs e in omega (arith, a, same, none)

top-same : (x before : Word) (xs : List Word) → times x (map (name_in before 0) xs) ≡ times x xs
top-same x before [] = refl
top-same x before (y ∷ ys) = let h : times x (map (name_in before 0) ys) ≡ times x ys = top-same x before ys in omega (arith, h)

-- what the flat model drives
flat-times : (before : Word) (top : Model) (calls : Calls) (x : Word) → times x (driven_names (flat_model before top calls)) ≡ top_times top (level_outs calls) x + inner_times before x 1 calls
flat-times before top calls x =
    let latches : List Latch = latches_in before 1 calls in
    let covers : List Cover = covers_in before 0 1 calls in
    let sources : List Word = top.inputs ++ others top.inputs top.clocks in
    let a = times-append x (sources ++ latch_outputs (top.latches ++ latches)) (outputs_of (top.covers ++ covers)) in
    let b = times-append x sources (latch_outputs (top.latches ++ latches)) in
    let d = times-append x top.inputs (others top.inputs top.clocks) in
    let e = times-both (λ (l : Latch). l.output) x top.latches latches in
    let f = times-both (λ (c : Cover). c.output) x top.covers covers in
    let g = tree-times before x 0 1 calls in
    let h = top-same x before (level_outs calls) in
    let i = times-append x (latch_outputs top.latches) (outputs_of top.covers ++ level_outs calls) in
    let j = times-append x (outputs_of top.covers) (level_outs calls) in
    omega (arith, a, b, d, e, f, g, h, i, j)

module _ (t : ℕ) (top : Model) (calls : Calls) (held : List Word) (sound : IsSoundModel top (level_outs calls) (level_ins calls)) (once : AreOnce calls) (driven : AreDriven calls) (shaped : AreShaped calls) (own : AreOwnTokens calls)
    (free : is_free held t ≡ true) (few : t < 2 ^ 64) (small : 1 + instance_count calls < 2 ^ 64) (all_held : (x : Word) → 1 ≤ all_times x top (level_outs calls) → is_among held x ≡ true) where
  flat : Model
  flat = flat_model (lead t) top calls

  abbrev drives : Word → Bool
  drives = is_among (driven_names (flat_model (lead t) top calls))

  driven-once : (x : Word) → times x (driven_names (flat_model (lead t) top calls)) ≤ 1
  driven-once x =
      let all = flat-times (lead t) top calls x in
      let first = top-once top (level_outs calls) x (sound.inputs_once x) (sound.clocks_once x) in
      let rest = inner-once t x 1 calls once (omega arith) small in
      let last = rest.0 in
      elim (cases_lt (top_times top (level_outs calls) x) 1) [
        | inl none ↦ omega (arith, all, none, last)
        | inr some ↦ elim (cases_lt (inner_times (lead t) x 1 calls) 1) [
          | inl none ↦ omega (arith, all, none, first)
          | inr more ↦ absurd (apart (all_held x (some-top top (level_outs calls) x some)) (rest.1 more))
        ]
      ]
    where
      apart : is_among held x ≡ true → Stands t x 1 (instance_count calls) → ⊥
      apart there s = at s.number s.least s.below s.is
        where
          at : (j : ℕ) → 1 ≤ j → j < 1 + instance_count calls → x ≡ name_in (lead t) j s.name → ⊥
          at zero low high is = absurd (omega (arith, low))
          at (suc j) low high is = let same = (names-are_own held t 0 (suc j) x s.name free (omega arith) (omega (arith, high, small)) there tt is).0 in absurd (let bad : 0 ≡ suc j = same in omega (arith, bad))

  -- a name that the top or an instance drives
  top-drives : (x : Word) → 1 ≤ all_times x top (level_outs calls) → drives x ≡ true
  top-drives x h =
      let all = flat-times (lead t) top calls x in
      let some = top-some top (level_outs calls) x h in
      times-among x (driven_names (flat_model (lead t) top calls)) (omega (arith, all, some))

  inner-drives : AreHeld drives (lead t) 1 calls
  inner-drives = times-held drives (lead t) 1 calls (λ x h.
      let all = flat-times (lead t) top calls x in
      times-among x (driven_names (flat_model (lead t) top calls)) (omega (arith, all, h)))

  inner-tokens : AreHeld is_token (lead t) 1 calls
  inner-tokens = tokens-held t 1 calls few small own

  module _ (p : Word → Bool) (inner : AreHeld p (lead t) 1 calls) (outer : (x : Word) → 1 ≤ all_times x top (level_outs calls) → p x ≡ true) where
    used-pass : list_all p (used_names top) ≡ true
    used-pass = all-times p (used_names top) (λ x h. outer x (sound.reads x (let a = times-append x (used_names top) (level_ins calls) in omega (arith, a, h))))

    level-pass : list_all (λ y. p (name_in (lead t) 0 y)) (level_ins calls) ≡ true
    level-pass = all-times p (level_ins calls) (λ x h. outer x (sound.reads x (let a = times-append x (used_names top) (level_ins calls) in omega (arith, a, h))))

    flat-used : list_all p (used_names (flat_model (lead t) top calls)) ≡ true
    flat-used =
        let u : UsesPass p top = uses-pass p top used-pass in
        let r : AreReadsHeld p (lead t) 0 1 calls = reads-held p (lead t) 0 1 calls driven inner level-pass in
        pass-uses p (flat_model (lead t) top calls) record {
          outputs = u.outputs;
          covers = inputs-join p top.covers (covers_in (lead t) 0 1 calls) u.covers r.covers;
          latches = map-join p (λ (a : Latch). a.input) top.latches (latches_in (lead t) 1 calls) u.latches r.latches;
          controls = controls-join p top.latches (latches_in (lead t) 1 calls) u.controls r.controls;
        }

  flat-driven : list_all is_token (driven_names (flat_model (lead t) top calls)) ≡ true
  flat-driven = all-times is_token (driven_names (flat_model (lead t) top calls)) (λ x h.
      let all = flat-times (lead t) top calls x in
      elim (cases_lt (top_times top (level_outs calls) x) 1) [
        | inr some ↦ sound.tokens x (some-top top (level_outs calls) x some)
        | inl none ↦ held-times is_token (lead t) x 1 calls inner-tokens (omega (arith, all, none, h))
      ])

  clocks-tokens : list_all is_token top.clocks ≡ true
  clocks-tokens = all-times is_token top.clocks (λ x h. sound.tokens x (omega (arith, h)))

  pub flat-formed : IsWellFormed (flat_model (lead t) top calls)
  flat-formed = record {
    tokens =
        list_all-join is_token (top.name ∷ driven_names (flat_model (lead t) top calls)) (top.clocks ++ used_names (flat_model (lead t) top calls))
        (both_and (is_token top.name) (list_all is_token (driven_names (flat_model (lead t) top calls))) sound.name flat-driven)
        (list_all-join is_token top.clocks (used_names (flat_model (lead t) top calls)) clocks-tokens (flat-used is_token inner-tokens sound.tokens));
    inputs_once = once-distinct top.inputs (λ x. let a = sound.inputs_once x in omega (arith, a));
    clocks_once = once-distinct top.clocks (λ x. let a = sound.clocks_once x in omega (arith, a));
    driven_once = once-distinct (driven_names (flat_model (lead t) top calls)) driven-once;
    outputs_once = sound.outputs_once;
    all_driven = flat-used drives inner-drives top-drives;
    covers = All-append IsWellFormedCover top.covers (covers_in (lead t) 0 1 calls) sound.covers (covers-formed (lead t) 0 1 calls shaped);
    inits = All-append HasInit top.latches (latches_in (lead t) 1 calls) sound.inits (inits-formed (lead t) 1 calls shaped);
    controls = All-append HasControl top.latches (latches_in (lead t) 1 calls) sound.controls (controls-formed t 1 calls (omega arith));
  }
