-- How often a section uses a name in roles: as often as its model and its calls.
use Rattle.std.proofs.Common.{◌≡◌, ◌≤◌, ◌+◌, ℕ, List, [], ◌∷◌, ◌++◌, map, Bool, true, false, cond, not, ◌&&◌, ◌||◌, Option, None, Some, refl, sym, ap, ◌∙◌, subst, arith}
use Rattle.std.specs.Prelude.{codes, filter, find, if◌then◌else◌}
use Rattle.std.specs.List.{cons_option, filter_map, flat_map}
use Rattle.rm_base.specs.Numbers.{one_if}
use Rattle.rm_base.specs.Words.{Word}
use Rattle.rm_base.proofs.Public.{neither_first, neither_second}
use Rattle.rm_model.specs.Words.{is_word}
use Rattle.rm_model.specs.Value.{control_of, is_among, outputs_of}
use Rattle.rm_model.specs.declared.parts.Cover.{Cover}
use Rattle.rm_model.specs.declared.parts.Latch.{Latch}
use Rattle.rm_model.specs.declared.parts.Model.{Model}
use Rattle.rm_model.proofs.Public.{is_word-same, same_word}
use Rattle.blif_lines.specs.Layout.{Spot}
use Rattle.blif_format.specs.declared.words.Command.{Command}
use Rattle.blif_format.specs.declared.words.Role.{Role}
use Rattle.blif_format.specs.declared.words.Role.TheVariants.{Input, ClockInput, Output, CoverInput, CoverOutput, LatchInput, LatchOutput, Control}
use Rattle.blif_format.specs.declared.refusal.FaultKind.TheVariants.{DoubleDriven, Undriven}
use Rattle.blif_format.specs.declared.refusal.ReadRefusal.{ReadRefusal}
use Rattle.blif_format.specs.Text.{Line}
use Rattle.blif_format.specs.Grammar.{begins_with, words_after, words_of}
use Rattle.blif_format.specs.Uses.{Use, command_of, drives_twice, is_driver, names_in, parts_of, stands_in, use_of, uses_of, wants_driver}
use Rattle.blif_format.specs.FirstFault.{fault, fault_if, is_undriven, or_else, undriven_fault}
use Rattle.blif_flatten.specs.declared.modules.Link.{Link}
use Rattle.blif_flatten.specs.declared.modules.Module.{Module}
use Rattle.blif_flatten.specs.Sections.{cover_on, covers_from, latch_in, model_from, words_in_line}
use Rattle.blif_flatten.specs.Calls.{Call, call_of, connection_of, is_call}
use Rattle.blif_flatten.specs.CallFaults.{driven_twice_fault, line_uses, uses_by}
use Rattle.blif_flatten.specs.Flat.{input_pins, output_pins}
use Rattle.blif_flatten.specs.Instances.{link_of}
use Rattle.blif_flatten.proofs.FormedTree.{actuals, latch_outputs}
use Rattle.blif_flatten.proofs.FormedHeld.{cover_inputs, latch_inputs}
use Rattle.blif_flatten.proofs.FormedCalls.{ins_of, outs_of}
use Rattle.blif_flatten.proofs.FormedLines.{IsFitLine, Tests, call-weight, call_weight, cover-none, cover_weight, latch-none, latch_weight, line-plain, line_weight, link_weight, tally, tally-append, tests, under-clock, under-inputs, under-outputs, weight, weight-append, words_under}

abbrev pub AreFitLines : List (List Spot) → Type 0
AreFitLines [] = Unit {0}
AreFitLines (l ∷ ls) = IsFitLine l × AreFitLines ls

-- the call that a line says
abbrev pub call_made : Spot → Spot → List Spot → Call
call_made s v vs = record { place = s.place; callee = v.word; callee_place = v.place; pins = filter_map connection_of vs }

-- THE MODEL AND THE CALLS
module _ (t : Role → Bool) (x : Word) where
  abbrev pub covers_weight : List Cover → ℕ
  covers_weight cs = tally (t CoverInput) x (cover_inputs cs) + tally (t CoverOutput) x (outputs_of cs)

  abbrev pub latches_weight : List Latch → ℕ
  latches_weight ls = tally (t LatchInput) x (latch_inputs ls) + (tally (t LatchOutput) x (latch_outputs ls) + tally (t Control) x (filter_map control_of ls))

  abbrev pub links_weight : List Link → ℕ
  links_weight ls = tally (t CoverInput) x (ins_of ls) + tally (t CoverOutput) x (outs_of ls)

  abbrev pub whole_weight : Model → List Link → ℕ
  whole_weight m links =
      tally (t Input) x m.inputs
      + (tally (t ClockInput) x m.clocks
      + (tally (t Output) x m.outputs
      + (covers_weight m.covers
      + (latches_weight m.latches
      + links_weight links))))

-- LINES
module _ (t : Role → Bool) (x : Word) (plains : List Module) where
  plain-line : (s : Spot) (ss : List Spot) (ls : List Line) → IsFitLine (s ∷ ss) → call_of (s ∷ ss) ≡ None → weight t x (line_uses plains (s ∷ ss)) ≡ line_weight t x plains (s ∷ ss) ls
  plain-line s ss ls fit none =
      ap (λ (o : Option Call). weight t x (uses_by plains (s ∷ ss) o)) none ∙ at (command_of s.word) refl
    where
      at : (o : Option Command) → command_of s.word ≡ o → weight t x (uses_of (s ∷ ss)) ≡ line_weight t x plains (s ∷ ss) ls
      at None e = ap (λ (o : Option Command). weight t x (elim o as (λ _. List Use) [ None ↦ [] | Some k ↦ filter_map use_of (parts_of k ss) ])) e ∙ line-plain t x plains s ss ls None (tests s.word None e) fit none
      at (Some k) e = ap (λ (o : Option Command). weight t x (elim o as (λ _. List Use) [ None ↦ [] | Some k ↦ filter_map use_of (parts_of k ss) ])) e ∙ line-plain t x plains s ss ls (Some k) (tests s.word (Some k) e) fit none

  call-line : (s v : Spot) (vs : List Spot) (ls : List Line) → IsFitLine (s ∷ v ∷ vs) → is_call s ≡ true → weight t x (line_uses plains (s ∷ v ∷ vs)) ≡ line_weight t x plains (s ∷ v ∷ vs) ls
  call-line s v vs ls fit e =
      let is : Tests s.word None = subst (λ (w : Word). Tests w None) (same_word (codes ".subckt") s.word e) (tests (codes ".subckt") None refl) in
      let some : call_of (s ∷ v ∷ vs) ≡ Some (call_made s v vs) = ap (λ (b : Bool). if b then Some (call_made s v vs) else None) e in
      let a = under-inputs t x plains s (v ∷ vs) ls None is fit in
      let b = under-clock t x plains s (v ∷ vs) ls None is fit in
      let c = under-outputs t x plains s (v ∷ vs) ls None is fit in
      let d = cover-none t x plains s (v ∷ vs) ls None is fit refl in
      let f = latch-none t x plains s (v ∷ vs) ls None is fit refl in
      let g = ap (call_weight t x plains) some in
      let h = ap (λ (o : Option Call). weight t x (uses_by plains (s ∷ v ∷ vs) o)) some in
      let i = call-weight t x plains (call_made s v vs) in
      omega (arith, a, b, c, d, f, g, h, i)

  line-weight : (l : List Spot) (ls : List Line) → IsFitLine l → weight t x (line_uses plains l) ≡ line_weight t x plains l ls
  line-weight [] ls fit = omega arith
  line-weight (s ∷ []) ls fit = plain-line s [] ls fit refl
  line-weight (s ∷ v ∷ vs) ls fit = at (is_call s) refl
    where
      at : (b : Bool) → is_call s ≡ b → weight t x (line_uses plains (s ∷ v ∷ vs)) ≡ line_weight t x plains (s ∷ v ∷ vs) ls
      at true e = call-line s v vs ls fit e
      at false e = plain-line s (v ∷ vs) ls fit (ap (λ (b : Bool). if b then Some (call_made s v vs) else None) e)

  under-more : (b : Bool) (c : Word) (l : Line) (ls : List Line) → tally b x (words_of c (l ∷ ls)) ≡ tally b x (words_under c l) + tally b x (words_of c ls)
  under-more b c l ls = at (begins_with c l)
    where
      at : (d : Bool) → tally b x (flat_map words_after (if d then l ∷ filter (begins_with c) ls else filter (begins_with c) ls)) ≡ tally b x (if d then words_after l else []) + tally b x (words_of c ls)
      at true = tally-append b x (words_after l) (words_of c ls)
      at false = omega arith

  cover-more : (o : Option Cover) (cs : List Cover) → covers_weight t x (cons_option o cs) ≡ cover_weight t x o + covers_weight t x cs
  cover-more None cs = omega arith
  cover-more (Some c) cs = let a = tally-append (t CoverInput) x c.inputs (cover_inputs cs) in omega (arith, a)

  latch-more : (o : Option Latch) (ls : List Latch) → latches_weight t x (cons_option o ls) ≡ latch_weight t x o + latches_weight t x ls
  latch-more None ls = omega arith
  latch-more (Some l) ls = let a = control-more (control_of l) (filter_map control_of ls) in omega (arith, a)
    where
      control-more : (o : Option Word) (ws : List Word) → tally (t Control) x (cons_option o ws) ≡ tally (t Control) x (cons_option o []) + tally (t Control) x ws
      control-more None ws = omega arith
      control-more (Some w) ws = omega arith

  link-more : (o : Option Link) (ls : List Link) → links_weight t x (cons_option o ls) ≡ link_weight t x o + links_weight t x ls
  link-more None ls = omega arith
  link-more (Some l) ls =
      let a = tally-append (t CoverInput) x (actuals (input_pins l)) (ins_of ls) in
      let b = tally-append (t CoverOutput) x (actuals (output_pins l)) (outs_of ls) in
      omega (arith, a, b)

  call-more : (o : Option Call) (cs : List Call) → links_weight t x (filter_map (link_of plains) (cons_option o cs)) ≡ call_weight t x plains o + links_weight t x (filter_map (link_of plains) cs)
  call-more None cs = omega arith
  call-more (Some c) cs = link-more (link_of plains c) (filter_map (link_of plains) cs)

  pub body-weight : (name : Word) (body : List (List Spot)) → AreFitLines body
      → weight t x (flat_map (line_uses plains) body) ≡ whole_weight t x (model_from name (map words_in_line body)) (filter_map (link_of plains) (filter_map call_of body))
  body-weight name [] fit = omega arith
  body-weight name (l ∷ ls) fit =
      let words : List Line = map words_in_line ls in
      let a = weight-append t x (line_uses plains l) (flat_map (line_uses plains) ls) in
      let b = line-weight l words fit.0 in
      let c = body-weight name ls fit.1 in
      let d = under-more (t Input) (codes ".inputs") (words_in_line l) words in
      let e = under-more (t ClockInput) (codes ".clock") (words_in_line l) words in
      let f = under-more (t Output) (codes ".outputs") (words_in_line l) words in
      let g = cover-more (cover_on (words_in_line l) words) (covers_from words) in
      let h = latch-more (latch_in (words_in_line l)) (filter_map latch_in words) in
      let i = call-more (call_of l) (filter_map call_of ls) in
      omega (arith, a, b, c, d, e, f, g, h, i)

-- NAMES THAT ARE DRIVEN TWICE
-- two roles that pass clash
abbrev pub Clash : (Role → Bool) → Type 0
Clash t = (q r : Role) → t q ≡ true → t r ≡ true → drives_twice q r ≡ true

module _ (t : Role → Bool) (clash : Clash t) (x : Word) where
  stands-none : (had : List Use) (u : Use) → stands_in drives_twice had u ≡ false → t u.role ≡ true → x ≡ u.name → weight t x had ≡ 0
  stands-none [] u none e is = refl
  stands-none (h ∷ hs) u none e is = at (t h.role) refl (is_word x h.name) refl (stands-none hs u (neither_second (drives_twice h.role u.role && is_word h.name u.name) (stands_in drives_twice hs u) none) e is)
    where
      at : (a : Bool) → t h.role ≡ a → (b : Bool) → is_word x h.name ≡ b → weight t x hs ≡ 0 → one_if (a && b) + weight t x hs ≡ 0
      at false f b g rest = omega (arith, rest)
      at true f false g rest = omega (arith, rest)
      at true f true g rest =
          let same : h.name ≡ u.name = sym (same_word x h.name g) ∙ is in
          let first : (drives_twice h.role u.role && is_word h.name u.name) ≡ true = ap (λ (b : Bool). b && is_word h.name u.name) (clash h.role u.role f e) ∙ (ap (is_word h.name) (sym same) ∙ is_word-same h.name) in
          let bad : true ≡ false = sym first ∙ neither_first (drives_twice h.role u.role && is_word h.name u.name) (stands_in drives_twice hs u) none in
          absurd cc

  once-more : (had : List Use) (u : Use) → stands_in drives_twice had u ≡ false → weight t x had ≤ 1 → weight t x (had ++ u ∷ []) ≤ 1
  once-more had u none once = at (t u.role) refl (is_word x u.name) refl
    where
      at : (a : Bool) → t u.role ≡ a → (b : Bool) → is_word x u.name ≡ b → weight t x (had ++ u ∷ []) ≤ 1
      at false e b f = let a = weight-append t x had (u ∷ []) in let z : one_if (t u.role && is_word x u.name) ≡ 0 = ap (λ (c : Bool). one_if (c && is_word x u.name)) e in omega (arith, a, z, once)
      at true e false f = let a = weight-append t x had (u ∷ []) in let z : one_if (t u.role && is_word x u.name) ≡ 0 = ap (λ (c : Bool). one_if (c && is_word x u.name)) e ∙ ap one_if f in omega (arith, a, z, once)
      at true e true f = let a = weight-append t x had (u ∷ []) in let z : one_if (t u.role && is_word x u.name) ≡ 1 = ap (λ (c : Bool). one_if (c && is_word x u.name)) e ∙ ap one_if f in let n = stands-none had u none e (same_word x u.name f) in omega (arith, a, z, n)

  pub driven-once : (had us : List Use) → driven_twice_fault had us ≡ None → weight t x had ≤ 1 → weight t x had + weight t x us ≤ 1
  driven-once had [] none once = omega (arith, once)
  driven-once had (u ∷ us) none once = at (stands_in drives_twice had u) refl none (driven-once (had ++ u ∷ []) us)
    where
      at : (b : Bool) → stands_in drives_twice had u ≡ b → or_else (fault_if b DoubleDriven u.place) (driven_twice_fault (had ++ u ∷ []) us) ≡ None
          → (driven_twice_fault (had ++ u ∷ []) us ≡ None → weight t x (had ++ u ∷ []) ≤ 1 → weight t x (had ++ u ∷ []) + weight t x us ≤ 1) → weight t x had + weight t x (u ∷ us) ≤ 1
      at true e f rest = absurd cc
      at false e f rest =
          let more = rest f (once-more had u e once) in
          let a = weight-append t x had (u ∷ []) in
          omega (arith, more, a)

-- NAMES THAT ARE USED
among-weight : (t : Role → Bool) (x : Word) (us : List Use) → is_among (names_in t us) x ≡ true → 1 ≤ weight t x us
among-weight t x [] e = absurd cc
among-weight t x (u ∷ us) e = at (t u.role) e (among-weight t x us)
  where
    word : (b : Bool) → (b || is_among (names_in t us) x) ≡ true → (is_among (names_in t us) x ≡ true → 1 ≤ weight t x us) → 1 ≤ one_if b + weight t x us
    word true f rest = omega arith
    word false f rest = let h = rest f in omega (arith, h)

    at : (a : Bool) → is_among (map (λ (v : Use). v.name) (cond a (u ∷ filter (λ (v : Use). t v.role) us) (filter (λ (v : Use). t v.role) us))) x ≡ true → (is_among (names_in t us) x ≡ true → 1 ≤ weight t x us) → 1 ≤ one_if (a && is_word x u.name) + weight t x us
    at true f rest = word (is_word x u.name) f rest
    at false f rest = let h = rest f in omega (arith, h)

used-driven : (us vs : List Use) (x : Word) → find (is_undriven us) vs ≡ None → 1 ≤ weight wants_driver x vs → is_among (names_in is_driver us) x ≡ true
used-driven us [] x none h = absurd (let bad : 1 ≤ 0 = h in omega (arith, bad))
used-driven us (v ∷ vs) x none h = at (wants_driver v.role) refl (is_word x v.name) refl (is_among (names_in is_driver us) v.name) refl (used-driven us vs x)
  where
    here : (p : Bool) → is_undriven us v ≡ p → find (is_undriven us) vs ≡ None
    here true e = let bad : Some v ≡ None = ap (λ (b : Bool). cond b (Some v) (find (is_undriven us) vs)) (sym e) ∙ none in absurd cc
    here false e = ap (λ (b : Bool). cond b (Some v) (find (is_undriven us) vs)) (sym e) ∙ none

    driven : (p : Bool) → is_undriven us v ≡ p → is_undriven us v ≡ false
    driven true e = let bad : Some v ≡ None = ap (λ (b : Bool). cond b (Some v) (find (is_undriven us) vs)) (sym e) ∙ none in absurd cc
    driven false e = e

    at : (a : Bool) → wants_driver v.role ≡ a → (b : Bool) → is_word x v.name ≡ b → (d : Bool) → is_among (names_in is_driver us) v.name ≡ d → (find (is_undriven us) vs ≡ None → 1 ≤ weight wants_driver x vs → is_among (names_in is_driver us) x ≡ true) → is_among (names_in is_driver us) x ≡ true
    at false e b f d g rest = rest (here (is_undriven us v) refl) (let z : one_if (wants_driver v.role && is_word x v.name) ≡ 0 = ap (λ (c : Bool). one_if (c && is_word x v.name)) e in omega (arith, z, h))
    at true e false f d g rest = rest (here (is_undriven us v) refl) (let z : one_if (wants_driver v.role && is_word x v.name) ≡ 0 = ap (λ (c : Bool). one_if (c && is_word x v.name)) e ∙ ap one_if f in omega (arith, z, h))
    at true e true f true g rest = ap (is_among (names_in is_driver us)) (same_word x v.name f) ∙ g
    at true e true f false g rest =
        let some : is_undriven us v ≡ true = ap (λ (c : Bool). c && not (is_among (names_in is_driver us) v.name)) e ∙ ap not g in
        let bad : true ≡ false = sym some ∙ driven (is_undriven us v) refl in
        absurd cc

pub used-weight : (us : List Use) (x : Word) → undriven_fault us ≡ None → 1 ≤ weight wants_driver x us → 1 ≤ weight is_driver x us
used-weight us x none h = among-weight is_driver x us (used-driven us us x (at (find (is_undriven us) us) none) h)
  where
    at : (o : Option Use) → (elim o as (λ _. Option ReadRefusal) [ None ↦ None | Some this ↦ fault Undriven this.place ]) ≡ None → o ≡ None
    at None e = refl
    at (Some u) e = absurd cc
