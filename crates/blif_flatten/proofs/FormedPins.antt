-- A call without a fault gives each input of the called model once.
use Rattle.std.proofs.Common.{◌≡◌, ◌≤◌, ◌+◌, ℕ, List, [], ◌∷◌, ◌++◌, map, Bool, true, false, not, ◌||◌, Option, None, Some, refl, sym, ap, ◌∙◌, subst, arith}
use Rattle.std.specs.Prelude.{filter, slice_get, if◌then◌else◌}
use Rattle.std.specs.List.{list_all}
use Rattle.rm_base.specs.Numbers.{one_if}
use Rattle.rm_base.specs.Words.{Word}
use Rattle.rm_base.proofs.Public.{and_first, and_second, both_and, neither_first, neither_second, some_same, true_from_not}
use Rattle.rm_model.specs.Words.{is_word}
use Rattle.rm_model.specs.Value.{is_among}
use Rattle.rm_model.specs.declared.parts.Model.{Model}
use Rattle.rm_model.proofs.Public.{same_word}
use Rattle.blif_format.specs.declared.refusal.FaultKind.TheVariants.{BadPin, MissingPin}
use Rattle.blif_format.specs.FirstFault.{fault, fault_if}
use Rattle.blif_flatten.specs.declared.modules.Link.{Link}
use Rattle.blif_flatten.specs.declared.modules.Module.{Module}
use Rattle.blif_flatten.specs.declared.modules.Pin.{Pin}
use Rattle.blif_flatten.specs.Calls.{Call, Connection}
use Rattle.blif_flatten.specs.CallFaults.{call_fault, formals_fault, formals_of, gives_inputs, inward, is_formal, is_inward, module_at, pins_fault, place_named}
use Rattle.blif_flatten.specs.Instances.{link_of, link_with, pin_in}
use Rattle.blif_flatten.proofs.FormedCounts.{times, times-append, times-none, among-times, times-all, times-among}
use Rattle.blif_flatten.proofs.FormedTree.{formals}
use Rattle.blif_flatten.proofs.FormedCalls.{IsSoundLink}
use Rattle.blif_flatten.proofs.FormedBodies.{none-first, none-second}

-- FORMALS
module _ (m : Model) where
  bad-pin : (b : Bool) (p : Connection) → fault_if b BadPin p.place ≡ None → b ≡ false
  bad-pin true p e = absurd cc
  bad-pin false p e = refl

  first-formal : (given : List Word) (p : Connection) (ps : List Connection) → formals_fault m given (p ∷ ps) ≡ None → (is_among given p.formal ≡ false) × (is_formal m p.formal ≡ true)
  first-formal given p ps none =
      let test : (is_among given p.formal || not (is_formal m p.formal)) ≡ false = bad-pin (is_among given p.formal || not (is_formal m p.formal)) p (none-first (fault_if (is_among given p.formal || not (is_formal m p.formal)) BadPin p.place) (formals_fault m (given ++ p.formal ∷ []) ps) none) in
      (neither_first (is_among given p.formal) (not (is_formal m p.formal)) test, true_from_not (is_formal m p.formal) (neither_second (is_among given p.formal) (not (is_formal m p.formal)) test))

  formals-once : (x : Word) (given : List Word) (ps : List Connection) → formals_fault m given ps ≡ None → times x given ≤ 1 → times x given + times x (formals_of ps) ≤ 1
  formals-once x given [] none once = omega (arith, once)
  formals-once x given (p ∷ ps) none once = at (is_word x p.formal) refl (formals-once x (given ++ p.formal ∷ []) ps (none-second (fault_if (is_among given p.formal || not (is_formal m p.formal)) BadPin p.place) (formals_fault m (given ++ p.formal ∷ []) ps) none))
    where
      at : (b : Bool) → is_word x p.formal ≡ b → (times x (given ++ p.formal ∷ []) ≤ 1 → times x (given ++ p.formal ∷ []) + times x (formals_of ps) ≤ 1) → times x given + times x (formals_of (p ∷ ps)) ≤ 1
      at true e rest =
          let a = times-append x given (p.formal ∷ []) in
          let z : one_if (is_word x p.formal) ≡ 1 = ap one_if e in
          let n = times-none x given (ap (is_among given) (same_word x p.formal e) ∙ (first-formal given p ps none).0) in
          let r = rest (omega (arith, a, z, n)) in
          omega (arith, a, r)
      at false e rest =
          let a = times-append x given (p.formal ∷ []) in
          let z : one_if (is_word x p.formal) ≡ 0 = ap one_if e in
          let r = rest (omega (arith, a, z, once)) in
          omega (arith, a, r)

  formals-known : (given : List Word) (ps : List Connection) → formals_fault m given ps ≡ None → list_all (is_formal m) (formals_of ps) ≡ true
  formals-known given [] none = refl
  formals-known given (p ∷ ps) none =
      both_and (is_formal m p.formal) (list_all (is_formal m) (formals_of ps)) (first-formal given p ps none).1
      (formals-known (given ++ p.formal ∷ []) ps (none-second (fault_if (is_among given p.formal || not (is_formal m p.formal)) BadPin p.place) (formals_fault m (given ++ p.formal ∷ []) ps) none))

  -- INPUT PINS AND OUTPUT PINS
  abbrev pins_in : List Connection → List Pin
  pins_in ps = map (pin_in m) ps

  abbrev ins : List Connection → List Word
  ins ps = formals (filter (λ (q : Pin). q.is_input) (pins_in ps))

  abbrev outs : List Connection → List Word
  outs ps = formals (filter (λ (q : Pin). not q.is_input) (pins_in ps))

  ins-few : (x : Word) (ps : List Connection) → times x (ins ps) ≤ times x (formals_of ps)
  ins-few x [] = omega arith
  ins-few x (p ∷ ps) = at (is_inward m p.formal) (ins-few x ps)
    where
      at : (b : Bool) → times x (ins ps) ≤ times x (formals_of ps) → times x (formals (if b then pin_in m p ∷ filter (λ (q : Pin). q.is_input) (pins_in ps) else filter (λ (q : Pin). q.is_input) (pins_in ps))) ≤ one_if (is_word x p.formal) + times x (formals_of ps)
      at true h = omega (arith, h)
      at false h = omega (arith, h)

  ins-inward : (ps : List Connection) → list_all (is_inward m) (ins ps) ≡ true
  ins-inward [] = refl
  ins-inward (p ∷ ps) = at (is_inward m p.formal) refl (ins-inward ps)
    where
      at : (b : Bool) → is_inward m p.formal ≡ b → list_all (is_inward m) (ins ps) ≡ true → list_all (is_inward m) (formals (if b then pin_in m p ∷ filter (λ (q : Pin). q.is_input) (pins_in ps) else filter (λ (q : Pin). q.is_input) (pins_in ps))) ≡ true
      at true e h = both_and (is_inward m p.formal) (list_all (is_inward m) (ins ps)) e h
      at false e h = h

  ins-all : (x : Word) (ps : List Connection) → is_inward m x ≡ true → times x (formals_of ps) ≤ times x (ins ps)
  ins-all x [] in_ = omega arith
  ins-all x (p ∷ ps) in_ = at (is_inward m p.formal) refl (ins-all x ps in_)
    where
      other : (b : Bool) → is_word x p.formal ≡ b → is_inward m p.formal ≡ false → is_word x p.formal ≡ false
      other false e f = e
      other true e f = let bad : true ≡ false = sym in_ ∙ (ap (is_inward m) (same_word x p.formal e) ∙ f) in absurd cc

      at : (b : Bool) → is_inward m p.formal ≡ b → times x (formals_of ps) ≤ times x (ins ps) → one_if (is_word x p.formal) + times x (formals_of ps) ≤ times x (formals (if b then pin_in m p ∷ filter (λ (q : Pin). q.is_input) (pins_in ps) else filter (λ (q : Pin). q.is_input) (pins_in ps)))
      at true e h = omega (arith, h)
      at false e h = let z : one_if (is_word x p.formal) ≡ 0 = ap one_if (other (is_word x p.formal) refl e) in omega (arith, h, z)

  outs-known : (ps : List Connection) → list_all (is_formal m) (formals_of ps) ≡ true → list_all (is_among m.outputs) (outs ps) ≡ true
  outs-known [] h = refl
  outs-known (p ∷ ps) h = at (is_inward m p.formal) (and_first (is_formal m p.formal) (list_all (is_formal m) (formals_of ps)) h) (outs-known ps (and_second (is_formal m p.formal) (list_all (is_formal m) (formals_of ps)) h))
    where
      at : (b : Bool) → (b || is_among m.outputs p.formal) ≡ true → list_all (is_among m.outputs) (outs ps) ≡ true
          → list_all (is_among m.outputs) (formals (if not b then pin_in m p ∷ filter (λ (q : Pin). not q.is_input) (pins_in ps) else filter (λ (q : Pin). not q.is_input) (pins_in ps))) ≡ true
      at true e k = k
      at false e k = both_and (is_among m.outputs p.formal) (list_all (is_among m.outputs) (outs ps)) e k

-- LINKS
pins-sound : (c : Call) (m : Module) (l : Link) → l.pins ≡ map (pin_in m.model) c.pins → pins_fault c (Some m) ≡ None → IsSoundLink l m.model
pins-sound c m l pins none = record {
  once = λ x. subst (λ (ps : List Pin). times x (formals (filter (λ (q : Pin). q.is_input) ps)) ≤ 1) (sym pins)
      (let a = formals-once m.model x [] c.pins first (omega arith) in let b = ins-few m.model x c.pins in omega (arith, a, b));
  inwards = λ x. subst (λ (ps : List Pin). 1 ≤ times x (formals (filter (λ (q : Pin). q.is_input) ps)) → 1 ≤ times x (inward m.model)) (sym pins)
      (λ h. among-times x (inward m.model) (times-all (is_inward m.model) (ins m.model c.pins) x (ins-inward m.model c.pins) h));
  given = λ x. subst (λ (ps : List Pin). 1 ≤ times x (inward m.model) → 1 ≤ times x (formals (filter (λ (q : Pin). q.is_input) ps))) (sym pins)
      (λ h.
      let there : 1 ≤ times x (formals_of c.pins) = among-times x (formals_of c.pins) (times-all (is_among (formals_of c.pins)) (inward m.model) x (whole (gives_inputs m.model c.pins) refl last) h) in
      let all = ins-all m.model x c.pins (times-among x (inward m.model) h) in
      omega (arith, there, all));
  outward = subst (λ (ps : List Pin). list_all (is_among m.model.outputs) (formals (filter (λ (q : Pin). not q.is_input) ps)) ≡ true) (sym pins) (outs-known m.model c.pins (formals-known m.model [] c.pins first));
}
  where
    first : formals_fault m.model [] c.pins ≡ None
    first = none-first (formals_fault m.model [] c.pins) (fault_if (not (gives_inputs m.model c.pins)) MissingPin c.place) none

    last : fault_if (not (gives_inputs m.model c.pins)) MissingPin c.place ≡ None
    last = none-second (formals_fault m.model [] c.pins) (fault_if (not (gives_inputs m.model c.pins)) MissingPin c.place) none

    whole : (b : Bool) → gives_inputs m.model c.pins ≡ b → fault_if (not (gives_inputs m.model c.pins)) MissingPin c.place ≡ None → gives_inputs m.model c.pins ≡ true
    whole true e f = e
    whole false e f = let bad : fault MissingPin c.place ≡ None = ap (λ (b : Bool). fault_if (not b) MissingPin c.place) (sym e) ∙ f in absurd cc

-- the link of a call without a fault
pub link-sound : (plains : List Module) (c : Call) (l : Link) (d : Module) → call_fault plains c ≡ None → link_of plains c ≡ Some l → slice_get plains l.called ≡ Some d → IsSoundLink l d.model
link-sound plains c l d none made there = at (place_named plains c.callee) none made
  where
    of : (k : ℕ) (o : Option Module) → slice_get plains k ≡ o → pins_fault c o ≡ None → link_with c (Some k) o ≡ Some l → IsSoundLink l d.model
    of k None is f e = absurd cc
    of k (Some m) is f e =
        let called : k ≡ l.called = ap (λ (o : Option Link). elim o as (λ _. ℕ) [ None ↦ 0 | Some a ↦ a.called ]) e in
        let pins : map (pin_in m.model) c.pins ≡ l.pins = ap (λ (o : Option Link). elim o as (λ _. List Pin) [ None ↦ [] | Some a ↦ a.pins ]) e in
        let same : m ≡ d = some_same (sym is ∙ (ap (λ (i : ℕ). slice_get plains i) called ∙ there)) in
        subst (λ (x : Module). IsSoundLink l x.model) same (pins-sound c m l (sym pins) f)

    at : (o : Option ℕ) → pins_fault c (module_at plains o) ≡ None → link_with c o (module_at plains o) ≡ Some l → IsSoundLink l d.model
    at None f e = absurd cc
    at (Some k) f e = of k (slice_get plains k) refl f e
