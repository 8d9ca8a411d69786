-- How often lines use a name in roles: as often as the model and the calls that they say.
use Rattle.std.proofs.Common.{◌≡◌, ◌+◌, ℕ, List, [], ◌∷◌, ◌++◌, map, Bool, true, false, not, ◌&&◌, Option, None, Some, refl, sym, ap, ◌∙◌, subst, arith}
use Rattle.std.specs.Prelude.{codes, filter, slice_get, if◌then◌else◌}
use Rattle.std.specs.List.{cons_option, filter_map}
use Rattle.rm_base.specs.Numbers.{one_if}
use Rattle.rm_base.specs.Words.{Word}
use Rattle.rm_model.specs.Words.{is_word}
use Rattle.rm_model.specs.Value.{control_of}
use Rattle.rm_model.specs.declared.parts.Cover.{Cover}
use Rattle.rm_model.specs.declared.parts.Latch.{Latch}
use Rattle.rm_model.specs.declared.parts.Model.{Model as CircuitModel}
use Rattle.rm_model.proofs.Public.{same_word}
use Rattle.blif_lines.specs.Layout.{Spot}
use Rattle.blif_format.specs.declared.words.Command.{Command}
use Rattle.blif_format.specs.declared.words.Command.TheVariants.{Model, Inputs, Outputs, Clock, Names, Latch as LatchLine, End}
use Rattle.blif_format.specs.declared.words.Role.{Role}
use Rattle.blif_format.specs.declared.words.Role.TheVariants.{Input, ClockInput, Output, CoverInput, CoverOutput, LatchInput, LatchOutput, Control}
use Rattle.blif_format.specs.declared.words.Part.{Part}
use Rattle.blif_format.specs.declared.words.Part.TheVariants.{Name, Extra}
use Rattle.blif_format.specs.Text.{Line}
use Rattle.blif_format.specs.Grammar.{before, begins_with, is_dotted, words_after}
use Rattle.blif_format.specs.Uses.{Use, all_are, command_in, command_of, command_words, in_parts, names_parts, parts_of, use_of}
use Rattle.blif_format.specs.FirstFault.{cover_names}
use Rattle.blif_reader.specs.Words.{latch_from}
use Rattle.blif_flatten.specs.declared.modules.Link.{Link}
use Rattle.blif_flatten.specs.declared.modules.Module.{Module}
use Rattle.blif_flatten.specs.declared.modules.Pin.{Pin}
use Rattle.blif_flatten.specs.Sections.{cover_from, cover_on, latch_in, words_in_line}
use Rattle.blif_flatten.specs.Calls.{Call, Connection, call_of}
use Rattle.blif_flatten.specs.CallFaults.{is_inward, module_at, pin_use, pin_uses, place_named}
use Rattle.blif_flatten.specs.Flat.{input_pins, output_pins}
use Rattle.blif_flatten.specs.Instances.{link_of, link_with, pin_in}
use Rattle.blif_flatten.proofs.FormedTree.{actuals}

-- COUNTS THAT A TEST SWITCHES
abbrev pub tally : Bool → Word → List Word → ℕ
tally b x [] = 0
tally b x (w ∷ ws) = one_if (b && is_word x w) + tally b x ws

pub tally-append : (b : Bool) (x : Word) (xs ys : List Word) → tally b x (xs ++ ys) ≡ tally b x xs + tally b x ys
tally-append b x [] ys = omega arith
tally-append b x (w ∷ ws) ys = let h : tally b x (ws ++ ys) ≡ tally b x ws + tally b x ys = tally-append b x ws ys in omega (arith, h)

-- how often the uses have the name in roles that pass
abbrev pub weight : (Role → Bool) → Word → List Use → ℕ
weight t x [] = 0
weight t x (u ∷ us) = one_if (t u.role && is_word x u.name) + weight t x us

pub weight-append : (t : Role → Bool) (x : Word) (us vs : List Use) → weight t x (us ++ vs) ≡ weight t x us + weight t x vs
weight-append t x [] vs = omega arith
weight-append t x (u ∷ us) vs = let h : weight t x (us ++ vs) ≡ weight t x us + weight t x vs = weight-append t x us vs in omega (arith, h)

-- COMMANDS
abbrev word_for : Command → Word
word_for Model = codes ".model"
word_for Inputs = codes ".inputs"
word_for Outputs = codes ".outputs"
word_for Clock = codes ".clock"
word_for Names = codes ".names"
word_for LatchLine = codes ".latch"
word_for End = codes ".end"

abbrev AreEntries : List (Word × Command) → Type 0
AreEntries [] = Unit {0}
AreEntries (e ∷ es) = (e.0 ≡ word_for e.1) × AreEntries es

some-word : (w : Word) (es : List (Word × Command)) (k : Command) → AreEntries es → command_in es w ≡ Some k → w ≡ word_for k
some-word w [] k h e = absurd cc
some-word w (x ∷ es) k h e = at (is_word x.0 w) refl e (some-word w es k h.1)
  where
    at : (b : Bool) → is_word x.0 w ≡ b → (if b then Some x.1 else command_in es w) ≡ Some k → (command_in es w ≡ Some k → w ≡ word_for k) → w ≡ word_for k
    at true same f rest = let is : x.1 ≡ k = cc in sym (same_word x.0 w same) ∙ (h.0 ∙ ap word_for is)
    at false same f rest = rest f

abbrev AreNone : Word → List (Word × Command) → Type 0
AreNone w [] = Unit {0}
AreNone w (e ∷ es) = (is_word e.0 w ≡ false) × AreNone w es

none-words : (w : Word) (es : List (Word × Command)) → command_in es w ≡ None → AreNone w es
none-words w [] e = tt
none-words w (x ∷ es) e = at (is_word x.0 w) refl e (none-words w es)
  where
    at : (b : Bool) → is_word x.0 w ≡ b → (if b then Some x.1 else command_in es w) ≡ None → (command_in es w ≡ None → AreNone w es) → AreNone w (x ∷ es)
    at true same f rest = absurd cc
    at false same f rest = (same, rest f)

abbrev pub runs : Command → Option Command → Bool
runs Inputs (Some Inputs) = true
runs Outputs (Some Outputs) = true
runs Clock (Some Clock) = true
runs Names (Some Names) = true
runs LatchLine (Some LatchLine) = true
runs k o = false

-- the tests of a first word, by its command
pub record Tests (w : Word) (o : Option Command) : Type 0 where
  pub inputs : is_word (codes ".inputs") w ≡ runs Inputs o
  pub outputs : is_word (codes ".outputs") w ≡ runs Outputs o
  pub clock : is_word (codes ".clock") w ≡ runs Clock o
  pub names : is_word (codes ".names") w ≡ runs Names o
  pub latch : is_word (codes ".latch") w ≡ runs LatchLine o

tests-at : (k : Command) → Tests (word_for k) (Some k)
tests-at Model = record { inputs = refl; outputs = refl; clock = refl; names = refl; latch = refl }
tests-at Inputs = record { inputs = refl; outputs = refl; clock = refl; names = refl; latch = refl }
tests-at Outputs = record { inputs = refl; outputs = refl; clock = refl; names = refl; latch = refl }
tests-at Clock = record { inputs = refl; outputs = refl; clock = refl; names = refl; latch = refl }
tests-at Names = record { inputs = refl; outputs = refl; clock = refl; names = refl; latch = refl }
tests-at LatchLine = record { inputs = refl; outputs = refl; clock = refl; names = refl; latch = refl }
tests-at End = record { inputs = refl; outputs = refl; clock = refl; names = refl; latch = refl }

pub tests : (w : Word) (o : Option Command) → command_of w ≡ o → Tests w o
tests w (Some k) e = subst (λ (v : Word). Tests v (Some k)) (sym (some-word w command_words k (refl, (refl, (refl, (refl, (refl, (refl, (refl, tt))))))) e)) (tests-at k)
tests w None e = let h = none-words w command_words e in record { inputs = h.1.0; outputs = h.1.1.0; clock = h.1.1.1.0; names = h.1.1.1.1.0; latch = h.1.1.1.1.1.0 }

-- a `.latch` has no word or two at least
abbrev pub IsFitLine : List Spot → Type 0
IsFitLine (s ∷ a ∷ []) = is_word (codes ".latch") s.word ≡ false
IsFitLine ss = Unit {0}

abbrev pub words_under : Word → Line → List Word
words_under c l = if begins_with c l then words_after l else []

-- WORDS IN THEIR PARTS
module _ (t : Role → Bool) (x : Word) where
  all-weight : (r : Role) (ss : List Spot) → ((s : Spot) → use_of (Name r, s) ≡ Some (record { role = r; name = s.word; place = s.place })) → weight t x (filter_map use_of (all_are (Name r) ss)) ≡ tally (t r) x (words_in_line ss)
  all-weight r [] h = refl
  all-weight r (s ∷ ss) h =
      ap (λ (o : Option Use). weight t x (cons_option o (filter_map use_of (all_are (Name r) ss)))) (h s)
      ∙ ap (λ (n : ℕ). one_if (t r && is_word x s.word) + n) (all-weight r ss h)

  names-weight : (s : Spot) (ss : List Spot) → weight t x (filter_map use_of (names_parts (s ∷ ss)))
      ≡ tally (t CoverInput) x (cover_names (words_in_line (s ∷ ss))).inputs + tally (t CoverOutput) x ((cover_names (words_in_line (s ∷ ss))).output ∷ [])
  names-weight s [] = omega arith
  names-weight s (a ∷ ss) = let h = names-weight a ss in omega (arith, h)

  extra-none : (ss : List Spot) → filter_map use_of (in_parts [] ss) ≡ []
  extra-none [] = refl
  extra-none (s ∷ ss) = extra ss
    where
      extra : (ss : List Spot) → filter_map use_of (all_are Extra ss) ≡ []
      extra [] = refl
      extra (a ∷ ss) = extra ss

  abbrev pub latch_weight : Option Latch → ℕ
  latch_weight None = 0
  latch_weight (Some l) = tally (t LatchInput) x (l.input ∷ []) + (tally (t LatchOutput) x (l.output ∷ []) + tally (t Control) x (cons_option (control_of l) []))

  latch-weight : (a b : Spot) (ss : List Spot) → weight t x (filter_map use_of (parts_of LatchLine (a ∷ b ∷ ss))) ≡ latch_weight (Some (latch_from (words_in_line (a ∷ b ∷ ss))))
  latch-weight a b [] = omega arith
  latch-weight a b (c ∷ []) = omega arith
  latch-weight a b (c ∷ d ∷ []) = at (is_word (codes "NIL") d.word)
    where
      at : (n : Bool) → one_if (t LatchInput && is_word x a.word) + (one_if (t LatchOutput && is_word x b.word) + weight t x (cons_option (if n then None else Some (record { role = Control; name = d.word; place = d.place })) []))
          ≡ tally (t LatchInput) x (a.word ∷ []) + (tally (t LatchOutput) x (b.word ∷ []) + tally (t Control) x (cons_option (if n then None else Some d.word) []))
      at true = omega arith
      at false = omega arith
  latch-weight a b (c ∷ d ∷ e ∷ ss) = at (is_word (codes "NIL") d.word)
    where
      at : (n : Bool) → one_if (t LatchInput && is_word x a.word) + (one_if (t LatchOutput && is_word x b.word) + weight t x (cons_option (if n then None else Some (record { role = Control; name = d.word; place = d.place })) (filter_map use_of (in_parts [] ss))))
          ≡ tally (t LatchInput) x (a.word ∷ []) + (tally (t LatchOutput) x (b.word ∷ []) + tally (t Control) x (cons_option (if n then None else Some d.word) []))
      at true = let none = ap (weight t x) (extra-none ss) in omega (arith, none)
      at false = let none = ap (weight t x) (extra-none ss) in omega (arith, none)

  -- PINS
  pins-weight : (m : CircuitModel) (ps : List Connection) → weight t x (map (pin_use m) ps)
      ≡ tally (t CoverInput) x (actuals (filter (λ (p : Pin). p.is_input) (map (pin_in m) ps))) + tally (t CoverOutput) x (actuals (filter (λ (p : Pin). not p.is_input) (map (pin_in m) ps)))
  pins-weight m [] = omega arith
  pins-weight m (p ∷ ps) = at (is_inward m p.formal) (filter (λ (q : Pin). q.is_input) (map (pin_in m) ps)) (filter (λ (q : Pin). not q.is_input) (map (pin_in m) ps)) (pins-weight m ps)
    where
      at : (b : Bool) (ins outs : List Pin) → weight t x (map (pin_use m) ps) ≡ tally (t CoverInput) x (actuals ins) + tally (t CoverOutput) x (actuals outs)
          → one_if (t (if b then CoverInput else CoverOutput) && is_word x p.actual) + weight t x (map (pin_use m) ps)
          ≡ tally (t CoverInput) x (actuals (if b then pin_in m p ∷ ins else ins)) + tally (t CoverOutput) x (actuals (if not b then pin_in m p ∷ outs else outs))
      at true ins outs h = omega (arith, h)
      at false ins outs h = omega (arith, h)

  abbrev pub link_weight : Option Link → ℕ
  link_weight None = 0
  link_weight (Some l) = tally (t CoverInput) x (actuals (input_pins l)) + tally (t CoverOutput) x (actuals (output_pins l))

  abbrev pub cover_weight : Option Cover → ℕ
  cover_weight None = 0
  cover_weight (Some c) = tally (t CoverInput) x c.inputs + tally (t CoverOutput) x (c.output ∷ [])

  module _ (plains : List Module) where
    abbrev pub call_weight : Option Call → ℕ
    call_weight None = 0
    call_weight (Some c) = link_weight (link_of plains c)

    pub call-weight : (c : Call) → weight t x (pin_uses c (module_at plains (place_named plains c.callee))) ≡ link_weight (link_of plains c)
    call-weight c = at (place_named plains c.callee)
      where
        of : (k : ℕ) (o : Option Module) → weight t x (pin_uses c o) ≡ link_weight (link_with c (Some k) o)
        of k None = refl
        of k (Some m) = pins-weight m.model c.pins

        at : (o : Option ℕ) → weight t x (pin_uses c (module_at plains o)) ≡ link_weight (link_with c o (module_at plains o))
        at None = refl
        at (Some k) = of k (slice_get plains k)

    -- LINES
    abbrev pub line_weight : List Spot → List Line → ℕ
    line_weight l ls =
        tally (t Input) x (words_under (codes ".inputs") (words_in_line l))
        + (tally (t ClockInput) x (words_under (codes ".clock") (words_in_line l))
        + (tally (t Output) x (words_under (codes ".outputs") (words_in_line l))
        + (cover_weight (cover_on (words_in_line l) ls)
        + (latch_weight (latch_in (words_in_line l))
        + call_weight (call_of l)))))

    -- the parts of a line that is no call
    module _ (s : Spot) (ss : List Spot) (ls : List Line) (o : Option Command) (is : Tests s.word o) (fit : IsFitLine (s ∷ ss)) where
      pub under-inputs : tally (t Input) x (words_under (codes ".inputs") (words_in_line (s ∷ ss))) ≡ tally (t Input) x (if runs Inputs o then words_in_line ss else [])
      under-inputs = ap (λ (b : Bool). tally (t Input) x (if b then words_in_line ss else [])) is.inputs

      pub under-clock : tally (t ClockInput) x (words_under (codes ".clock") (words_in_line (s ∷ ss))) ≡ tally (t ClockInput) x (if runs Clock o then words_in_line ss else [])
      under-clock = ap (λ (b : Bool). tally (t ClockInput) x (if b then words_in_line ss else [])) is.clock

      pub under-outputs : tally (t Output) x (words_under (codes ".outputs") (words_in_line (s ∷ ss))) ≡ tally (t Output) x (if runs Outputs o then words_in_line ss else [])
      under-outputs = ap (λ (b : Bool). tally (t Output) x (if b then words_in_line ss else [])) is.outputs

      pub cover-none : runs Names o ≡ false → cover_weight (cover_on (words_in_line (s ∷ ss)) ls) ≡ 0
      cover-none e = at ss
        where
          at : (ss : List Spot) → cover_weight (cover_on (words_in_line (s ∷ ss)) ls) ≡ 0
          at [] = refl
          at (a ∷ as_) = ap (λ (b : Bool). cover_weight (if b then Some (cover_from (words_in_line (a ∷ as_), before is_dotted ls)) else None)) (is.names ∙ e)

      pub latch-none : runs LatchLine o ≡ false → latch_weight (latch_in (words_in_line (s ∷ ss))) ≡ 0
      latch-none e = at ss
        where
          at : (ss : List Spot) → latch_weight (latch_in (words_in_line (s ∷ ss))) ≡ 0
          at [] = refl
          at (a ∷ []) = refl
          at (a ∷ b ∷ as_) = ap (λ (is_latch : Bool). latch_weight (if is_latch then Some (latch_from (words_in_line (a ∷ b ∷ as_))) else None)) (is.latch ∙ e)

    abbrev pub uses_under : Option Command → List Spot → List Use
    uses_under None ss = []
    uses_under (Some k) ss = filter_map use_of (parts_of k ss)

    no-use : (part : Part) (ss : List Spot) → ((s : Spot) → use_of (part, s) ≡ None) → filter_map use_of (all_are part ss) ≡ []
    no-use part [] h = refl
    no-use part (s ∷ ss) h = ap (λ (o : Option Use). cons_option o (filter_map use_of (all_are part ss))) (h s) ∙ no-use part ss h

    -- a line that is no call, by its command
    pub line-plain : (s : Spot) (ss : List Spot) (ls : List Line) (o : Option Command) → Tests s.word o → IsFitLine (s ∷ ss) → call_of (s ∷ ss) ≡ None → weight t x (uses_under o ss) ≡ line_weight (s ∷ ss) ls
    line-plain s ss ls None is fit none =
        let a = under-inputs s ss ls None is fit in
        let b = under-clock s ss ls None is fit in
        let c = under-outputs s ss ls None is fit in
        let d = cover-none s ss ls None is fit refl in
        let e = latch-none s ss ls None is fit refl in
        let f = ap call_weight none in
        omega (arith, a, b, c, d, e, f)
    line-plain s ss ls (Some Model) is fit none =
        let a = under-inputs s ss ls (Some Model) is fit in
        let b = under-clock s ss ls (Some Model) is fit in
        let c = under-outputs s ss ls (Some Model) is fit in
        let d = cover-none s ss ls (Some Model) is fit refl in
        let e = latch-none s ss ls (Some Model) is fit refl in
        let f = ap call_weight none in
        let g = ap (weight t x) (title ss) in
        omega (arith, a, b, c, d, e, f, g)
      where
        title : (ss : List Spot) → filter_map use_of (parts_of Model ss) ≡ []
        title [] = refl
        title (v ∷ vs) = extra-none vs
    line-plain s ss ls (Some Inputs) is fit none =
        let a = under-inputs s ss ls (Some Inputs) is fit in
        let b = under-clock s ss ls (Some Inputs) is fit in
        let c = under-outputs s ss ls (Some Inputs) is fit in
        let d = cover-none s ss ls (Some Inputs) is fit refl in
        let e = latch-none s ss ls (Some Inputs) is fit refl in
        let f = ap call_weight none in
        let g = all-weight Input ss (λ v. refl) in
        omega (arith, a, b, c, d, e, f, g)
    line-plain s ss ls (Some Outputs) is fit none =
        let a = under-inputs s ss ls (Some Outputs) is fit in
        let b = under-clock s ss ls (Some Outputs) is fit in
        let c = under-outputs s ss ls (Some Outputs) is fit in
        let d = cover-none s ss ls (Some Outputs) is fit refl in
        let e = latch-none s ss ls (Some Outputs) is fit refl in
        let f = ap call_weight none in
        let g = all-weight Output ss (λ v. refl) in
        omega (arith, a, b, c, d, e, f, g)
    line-plain s ss ls (Some Clock) is fit none =
        let a = under-inputs s ss ls (Some Clock) is fit in
        let b = under-clock s ss ls (Some Clock) is fit in
        let c = under-outputs s ss ls (Some Clock) is fit in
        let d = cover-none s ss ls (Some Clock) is fit refl in
        let e = latch-none s ss ls (Some Clock) is fit refl in
        let f = ap call_weight none in
        let g = all-weight ClockInput ss (λ v. refl) in
        omega (arith, a, b, c, d, e, f, g)
    line-plain s ss ls (Some End) is fit none =
        let a = under-inputs s ss ls (Some End) is fit in
        let b = under-clock s ss ls (Some End) is fit in
        let c = under-outputs s ss ls (Some End) is fit in
        let d = cover-none s ss ls (Some End) is fit refl in
        let e = latch-none s ss ls (Some End) is fit refl in
        let f = ap call_weight none in
        let g = ap (weight t x) (no-use Extra ss (λ v. refl)) in
        omega (arith, a, b, c, d, e, f, g)
    line-plain s [] ls (Some Names) is fit none =
        let a = under-inputs s [] ls (Some Names) is fit in
        let b = under-clock s [] ls (Some Names) is fit in
        let c = under-outputs s [] ls (Some Names) is fit in
        omega (arith, a, b, c)
    line-plain s (v ∷ vs) ls (Some Names) is fit none =
        let a = under-inputs s (v ∷ vs) ls (Some Names) is fit in
        let b = under-clock s (v ∷ vs) ls (Some Names) is fit in
        let c = under-outputs s (v ∷ vs) ls (Some Names) is fit in
        let d : cover_weight (cover_on (words_in_line (s ∷ v ∷ vs)) ls) ≡ cover_weight (Some (cover_from (words_in_line (v ∷ vs), before is_dotted ls))) =
        ap (λ (n : Bool). cover_weight (if n then Some (cover_from (words_in_line (v ∷ vs), before is_dotted ls)) else None)) is.names in
        let e = latch-none s (v ∷ vs) ls (Some Names) is fit refl in
        let f = ap call_weight none in
        let g = names-weight v vs in
        omega (arith, a, b, c, d, e, f, g)
    line-plain s [] ls (Some LatchLine) is fit none =
        let a = under-inputs s [] ls (Some LatchLine) is fit in
        let b = under-clock s [] ls (Some LatchLine) is fit in
        let c = under-outputs s [] ls (Some LatchLine) is fit in
        omega (arith, a, b, c)
    line-plain s (v ∷ []) ls (Some LatchLine) is fit none = absurd (let bad : true ≡ false = sym is.latch ∙ fit in cc)
    line-plain s (v ∷ w ∷ vs) ls (Some LatchLine) is fit none =
        let a = under-inputs s (v ∷ w ∷ vs) ls (Some LatchLine) is fit in
        let b = under-clock s (v ∷ w ∷ vs) ls (Some LatchLine) is fit in
        let c = under-outputs s (v ∷ w ∷ vs) ls (Some LatchLine) is fit in
        let d = cover-none s (v ∷ w ∷ vs) ls (Some LatchLine) is fit refl in
        let e : latch_weight (latch_in (words_in_line (s ∷ v ∷ w ∷ vs))) ≡ latch_weight (Some (latch_from (words_in_line (v ∷ w ∷ vs)))) =
        ap (λ (n : Bool). latch_weight (if n then Some (latch_from (words_in_line (v ∷ w ∷ vs))) else None)) is.latch in
        let f = ap call_weight none in
        let g = latch-weight v w vs in
        omega (arith, a, b, c, d, e, f, g)
