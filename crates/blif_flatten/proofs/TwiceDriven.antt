-- Names that are driven twice, by tables.
use Rattle.std.proofs.Common.{◌≡◌, ℕ, ◌+◌, List, [], ◌∷◌, ◌++◌, map, take, drop, Bool, true, false, ◌||◌, ◌&&◌, Option, None, Some, refl, sym, ap, ◌∙◌, add-one}
use Rattle.std.specs.Prelude.{slice_get, find, if◌then◌else◌}
use Rattle.std.proofs.Math.Bool.{or-true}
use Rattle.rm_base.specs.Words.{Word}
use Rattle.rm_base.proofs.Public.{drop_stands, take_one_more}
use Rattle.rm_model.specs.Words.{is_word}
use Rattle.rm_model.specs.Value.{is_among}
use Rattle.rm_model.proofs.Public.{is_word-same, same_word}
use Rattle.blif_format.specs.declared.words.Role.{Role}
use Rattle.blif_format.specs.declared.words.Role.TheVariants.{Input, ClockInput, Output, CoverInput, CoverOutput, LatchInput, LatchOutput, Control}
use Rattle.blif_format.specs.declared.refusal.FaultKind.TheVariants.{DoubleDriven, Undriven}
use Rattle.blif_format.specs.declared.refusal.ReadRefusal.{ReadRefusal}
use Rattle.blif_format.specs.Uses.{Use, names_in, is_input, is_clock, drives_twice, stands_in}
use Rattle.blif_format.specs.FirstFault.{or_else, fault, fault_if, is_undriven, undriven_fault}
use Rattle.blif_reader.specs.Meant.{IsRefusal}
use Rattle.blif_flatten.specs.CallFaults.{driven_twice_fault}
use Rattle.blif_flatten.specs.declared.uses.NameUse.{NameUse}
use Rattle.blif_flatten.specs.declared.drivers.Drivers.{Drivers}
use Rattle.blif_flatten.specs.Inner.Uses.{names_at, use_at, uses_at, is_inner, clashing, clashes_with, AreDrivers}
use Rattle.blif_flatten.proofs.Refusals.{refused}

abbrev with_name : Bool → Bool → Bool → Bool
with_name t b x = if t then (b || x) else x

-- one name more
step : (r q : Role) (b i c n rest : Bool) → clashing q i c n ≡ rest → clashing q (with_name (is_input r) b i) (with_name (is_clock r) b c) (with_name (is_inner r) b n) ≡ ((drives_twice r q && b) || rest)
step Input Input false i c n rest e = e
step Input Input true i c n rest e = refl
step Input ClockInput false i c n rest e = e
step Input ClockInput true i c n rest e = e
step Input Output false i c n rest e = e
step Input Output true i c n rest e = e
step Input CoverInput false i c n rest e = e
step Input CoverInput true i c n rest e = e
step Input CoverOutput false i c n rest e = e
step Input CoverOutput true i c n rest e = refl
step Input LatchInput false i c n rest e = e
step Input LatchInput true i c n rest e = e
step Input LatchOutput false i c n rest e = e
step Input LatchOutput true i c n rest e = refl
step Input Control false i c n rest e = e
step Input Control true i c n rest e = e
step ClockInput Input false i c n rest e = e
step ClockInput Input true i c n rest e = e
step ClockInput ClockInput false i c n rest e = e
step ClockInput ClockInput true i c n rest e = refl
step ClockInput Output false i c n rest e = e
step ClockInput Output true i c n rest e = e
step ClockInput CoverInput false i c n rest e = e
step ClockInput CoverInput true i c n rest e = e
step ClockInput CoverOutput false i c n rest e = e
step ClockInput CoverOutput true i c n rest e = or-true i
step ClockInput LatchInput false i c n rest e = e
step ClockInput LatchInput true i c n rest e = e
step ClockInput LatchOutput false i c n rest e = e
step ClockInput LatchOutput true i c n rest e = or-true i
step ClockInput Control false i c n rest e = e
step ClockInput Control true i c n rest e = e
step Output Input false i c n rest e = e
step Output Input true i c n rest e = e
step Output ClockInput false i c n rest e = e
step Output ClockInput true i c n rest e = e
step Output Output false i c n rest e = e
step Output Output true i c n rest e = e
step Output CoverInput false i c n rest e = e
step Output CoverInput true i c n rest e = e
step Output CoverOutput false i c n rest e = e
step Output CoverOutput true i c n rest e = e
step Output LatchInput false i c n rest e = e
step Output LatchInput true i c n rest e = e
step Output LatchOutput false i c n rest e = e
step Output LatchOutput true i c n rest e = e
step Output Control false i c n rest e = e
step Output Control true i c n rest e = e
step CoverInput Input false i c n rest e = e
step CoverInput Input true i c n rest e = e
step CoverInput ClockInput false i c n rest e = e
step CoverInput ClockInput true i c n rest e = e
step CoverInput Output false i c n rest e = e
step CoverInput Output true i c n rest e = e
step CoverInput CoverInput false i c n rest e = e
step CoverInput CoverInput true i c n rest e = e
step CoverInput CoverOutput false i c n rest e = e
step CoverInput CoverOutput true i c n rest e = e
step CoverInput LatchInput false i c n rest e = e
step CoverInput LatchInput true i c n rest e = e
step CoverInput LatchOutput false i c n rest e = e
step CoverInput LatchOutput true i c n rest e = e
step CoverInput Control false i c n rest e = e
step CoverInput Control true i c n rest e = e
step CoverOutput Input false i c n rest e = e
step CoverOutput Input true i c n rest e = or-true i
step CoverOutput ClockInput false i c n rest e = e
step CoverOutput ClockInput true i c n rest e = or-true c
step CoverOutput Output false i c n rest e = e
step CoverOutput Output true i c n rest e = e
step CoverOutput CoverInput false i c n rest e = e
step CoverOutput CoverInput true i c n rest e = e
step CoverOutput CoverOutput false i c n rest e = e
step CoverOutput CoverOutput true i c n rest e = ap (λ (t : Bool). i || t) (or-true c) ∙ or-true i
step CoverOutput LatchInput false i c n rest e = e
step CoverOutput LatchInput true i c n rest e = e
step CoverOutput LatchOutput false i c n rest e = e
step CoverOutput LatchOutput true i c n rest e = ap (λ (t : Bool). i || t) (or-true c) ∙ or-true i
step CoverOutput Control false i c n rest e = e
step CoverOutput Control true i c n rest e = e
step LatchInput Input false i c n rest e = e
step LatchInput Input true i c n rest e = e
step LatchInput ClockInput false i c n rest e = e
step LatchInput ClockInput true i c n rest e = e
step LatchInput Output false i c n rest e = e
step LatchInput Output true i c n rest e = e
step LatchInput CoverInput false i c n rest e = e
step LatchInput CoverInput true i c n rest e = e
step LatchInput CoverOutput false i c n rest e = e
step LatchInput CoverOutput true i c n rest e = e
step LatchInput LatchInput false i c n rest e = e
step LatchInput LatchInput true i c n rest e = e
step LatchInput LatchOutput false i c n rest e = e
step LatchInput LatchOutput true i c n rest e = e
step LatchInput Control false i c n rest e = e
step LatchInput Control true i c n rest e = e
step LatchOutput Input false i c n rest e = e
step LatchOutput Input true i c n rest e = or-true i
step LatchOutput ClockInput false i c n rest e = e
step LatchOutput ClockInput true i c n rest e = or-true c
step LatchOutput Output false i c n rest e = e
step LatchOutput Output true i c n rest e = e
step LatchOutput CoverInput false i c n rest e = e
step LatchOutput CoverInput true i c n rest e = e
step LatchOutput CoverOutput false i c n rest e = e
step LatchOutput CoverOutput true i c n rest e = ap (λ (t : Bool). i || t) (or-true c) ∙ or-true i
step LatchOutput LatchInput false i c n rest e = e
step LatchOutput LatchInput true i c n rest e = e
step LatchOutput LatchOutput false i c n rest e = e
step LatchOutput LatchOutput true i c n rest e = ap (λ (t : Bool). i || t) (or-true c) ∙ or-true i
step LatchOutput Control false i c n rest e = e
step LatchOutput Control true i c n rest e = e
step Control Input false i c n rest e = e
step Control Input true i c n rest e = e
step Control ClockInput false i c n rest e = e
step Control ClockInput true i c n rest e = e
step Control Output false i c n rest e = e
step Control Output true i c n rest e = e
step Control CoverInput false i c n rest e = e
step Control CoverInput true i c n rest e = e
step Control CoverOutput false i c n rest e = e
step Control CoverOutput true i c n rest e = e
step Control LatchInput false i c n rest e = e
step Control LatchInput true i c n rest e = e
step Control LatchOutput false i c n rest e = e
step Control LatchOutput true i c n rest e = e
step Control Control false i c n rest e = e
step Control Control true i c n rest e = e

same-words : (x y : Word) → is_word x y ≡ is_word y x
same-words x y = at (is_word x y) refl (is_word y x) refl
  where
    at : (a : Bool) → is_word x y ≡ a → (b : Bool) → is_word y x ≡ b → is_word x y ≡ is_word y x
    at true e b f = e ∙ sym (ap (λ (z : Word). is_word z x) (sym (same_word x y e)) ∙ is_word-same x)
    at false e true f = ap (λ (z : Word). is_word z y) (sym (same_word y x f)) ∙ (is_word-same y ∙ sym f)
    at false e false f = e ∙ sym f

-- the names of one use more
names-one : (t : Role → Bool) (h : Use) (hs : List Use) (x : Word) → is_among (names_in t (h ∷ hs)) x ≡ with_name (t h.role) (is_word x h.name) (is_among (names_in t hs) x)
names-one t h hs x = at (t h.role) refl
  where
    at : (b : Bool) → t h.role ≡ b → is_among (names_in t (h ∷ hs)) x ≡ with_name (t h.role) (is_word x h.name) (is_among (names_in t hs) x)
    at true e = rw e refl
    at false e = rw e refl

clash-names : (had : List Use) (u : Use) → clashing u.role (is_among (names_in is_input had) u.name) (is_among (names_in is_clock had) u.name) (is_among (names_in is_inner had) u.name) ≡ stands_in drives_twice had u
clash-names [] u = none u.role
  where
    none : (r : Role) → clashing r false false false ≡ false
    none Input = refl
    none ClockInput = refl
    none Output = refl
    none CoverInput = refl
    none CoverOutput = refl
    none LatchInput = refl
    none LatchOutput = refl
    none Control = refl
clash-names (h ∷ hs) u =
    ap (λ (i : Bool). clashing u.role i (is_among (names_in is_clock (h ∷ hs)) u.name) (is_among (names_in is_inner (h ∷ hs)) u.name)) (names-one is_input h hs u.name)
    ∙ (ap (λ (c : Bool). clashing u.role (with_name (is_input h.role) (is_word u.name h.name) (is_among (names_in is_input hs) u.name)) c (is_among (names_in is_inner (h ∷ hs)) u.name)) (names-one is_clock h hs u.name)
    ∙ (ap (λ (n : Bool). clashing u.role (with_name (is_input h.role) (is_word u.name h.name) (is_among (names_in is_input hs) u.name)) (with_name (is_clock h.role) (is_word u.name h.name) (is_among (names_in is_clock hs) u.name)) n) (names-one is_inner h hs u.name)
    ∙ (step h.role u.role (is_word u.name h.name) (is_among (names_in is_input hs) u.name) (is_among (names_in is_clock hs) u.name) (is_among (names_in is_inner hs) u.name) (stands_in drives_twice hs u) (clash-names hs u)
    ∙ ap (λ (b : Bool). (drives_twice h.role u.role && b) || stands_in drives_twice hs u) (same-words u.name h.name))))

pub clash : (had : List Use) (d : Drivers) (u : Use) → AreDrivers had d → clashes_with d u ≡ stands_in drives_twice had u
clash had d u are =
    ap (λ (ws : List Word). clashing u.role (is_among ws u.name) (is_among d.clocks u.name) (is_among d.inner u.name)) are.inputs
    ∙ (ap (λ (ws : List Word). clashing u.role (is_among (names_in is_input had) u.name) (is_among ws u.name) (is_among d.inner u.name)) are.clocks
    ∙ (ap (λ (ws : List Word). clashing u.role (is_among (names_in is_input had) u.name) (is_among (names_in is_clock had) u.name) (is_among ws u.name)) are.inner
    ∙ clash-names had u))

-- a use that clashes is the first fault
pub driven-refused : (had : List Use) (u : Use) → stands_in drives_twice had u ≡ true → driven_twice_fault had (u ∷ []) ≡ fault DoubleDriven u.place
driven-refused had u e = ap (λ (b : Bool). or_else (fault_if b DoubleDriven u.place) None) e

-- THE LOOPS
uses-append : (xs ys : List NameUse) → uses_at (xs ++ ys) ≡ uses_at xs ++ uses_at ys
uses-append [] ys = refl
uses-append (x ∷ xs) ys = ap (λ (us : List Use). use_at x ∷ us) (uses-append xs ys)

module _ (uses : List NameUse) (k : ℕ) (u : NameUse) (at : slice_get uses k ≡ Some u) where
  pub uses-to : uses_at (take (k + 1) uses) ≡ uses_at (take k uses) ++ use_at u ∷ []
  uses-to = ap uses_at (take_one_more uses k u at) ∙ uses-append (take k uses) (u ∷ [])

  pub uses-from : uses_at (drop k uses) ≡ use_at u ∷ uses_at (drop (k + 1) uses)
  uses-from = ap uses_at (drop_stands uses k u at ∙ ap (λ (n : ℕ). u ∷ drop n uses) (sym (add-one k)))

  pub twice-refused : (e : ReadRefusal) → driven_twice_fault [] (uses_at uses) ≡ driven_twice_fault (uses_at (take k uses)) (uses_at (drop k uses)) → IsRefusal e (driven_twice_fault (uses_at (take k uses)) (use_at u ∷ [])) → IsRefusal e (driven_twice_fault [] (uses_at uses))
  twice-refused e same h = refused e (driven_twice_fault (uses_at (take k uses)) (use_at u ∷ [])) (driven_twice_fault [] (uses_at uses)) (λ r f. same ∙ (ap (driven_twice_fault (uses_at (take k uses))) uses-from ∙ onward (fault_if (stands_in drives_twice (uses_at (take k uses)) (use_at u)) DoubleDriven u.place) r f)) h
    where
      onward : (o : Option ReadRefusal) (r : ReadRefusal) → or_else o None ≡ Some r → or_else o (driven_twice_fault (uses_at (take k uses) ++ use_at u ∷ []) (uses_at (drop (k + 1) uses))) ≡ Some r
      onward None r f = absurd cc
      onward (Some x) r f = f

  pub twice-go : driven_twice_fault [] (uses_at uses) ≡ driven_twice_fault (uses_at (take k uses)) (uses_at (drop k uses)) → stands_in drives_twice (uses_at (take k uses)) (use_at u) ≡ false → driven_twice_fault [] (uses_at uses) ≡ driven_twice_fault (uses_at (take (k + 1) uses)) (uses_at (drop (k + 1) uses))
  twice-go same none =
      same ∙ (ap (driven_twice_fault (uses_at (take k uses))) uses-from
      ∙ (ap (λ (b : Bool). or_else (fault_if b DoubleDriven u.place) (driven_twice_fault (uses_at (take k uses) ++ use_at u ∷ []) (uses_at (drop (k + 1) uses)))) none
      ∙ ap (λ (had : List Use). driven_twice_fault had (uses_at (drop (k + 1) uses))) (sym uses-to)))

  pub undriven-here : find (is_undriven (uses_at uses)) (uses_at uses) ≡ find (is_undriven (uses_at uses)) (uses_at (drop k uses)) → is_undriven (uses_at uses) (use_at u) ≡ true → undriven_fault (uses_at uses) ≡ fault Undriven u.place
  undriven-here same e =
      ap (λ (o : Option Use). elim o as (λ _. Option ReadRefusal) [ None ↦ None | Some this ↦ fault Undriven this.place ])
      (same ∙ (ap (find (is_undriven (uses_at uses))) uses-from ∙ ap (λ (b : Bool). if b then Some (use_at u) else find (is_undriven (uses_at uses)) (uses_at (drop (k + 1) uses))) e))

  pub undriven-go : find (is_undriven (uses_at uses)) (uses_at uses) ≡ find (is_undriven (uses_at uses)) (uses_at (drop k uses)) → is_undriven (uses_at uses) (use_at u) ≡ false → find (is_undriven (uses_at uses)) (uses_at uses) ≡ find (is_undriven (uses_at uses)) (uses_at (drop (k + 1) uses))
  undriven-go same e = same ∙ (ap (find (is_undriven (uses_at uses))) uses-from ∙ ap (λ (b : Bool). if b then Some (use_at u) else find (is_undriven (uses_at uses)) (uses_at (drop (k + 1) uses))) e)

pub names-of-uses : (us : List NameUse) → map (λ (u : Use). u.name) (uses_at us) ≡ names_at us
names-of-uses [] = refl
names-of-uses (u ∷ us) = ap (λ (ws : List Word). u.name.now ∷ ws) (names-of-uses us)
