-- The names that lines without a fault use are tokens.
use Rattle.std.proofs.Common.{◌≡◌, ◌≤◌, ◌+◌, List, [], ◌∷◌, ◌++◌, map, Bool, true, false, ◌&&◌, ◌||◌, Option, None, Some, refl, sym, ap, ◌∙◌, arith}
use Rattle.std.specs.Prelude.{codes, if◌then◌else◌}
use Rattle.std.specs.List.{cons_option, filter_map, flat_map, list_all}
use Rattle.std.specs.Option.{option_map}
use Rattle.rm_base.specs.Numbers.{one_if}
use Rattle.rm_base.specs.Words.{Word}
use Rattle.rm_base.proofs.Public.{and_first, and_second, both_and, neither_second}
use Rattle.rm_model.specs.Words.{is_word}
use Rattle.rm_model.specs.Value.{is_among}
use Rattle.rm_model.specs.WellFormed.{is_token}
use Rattle.rm_model.specs.declared.parts.Model.{Model as CircuitModel}
use Rattle.rm_model.proofs.Public.{same_word}
use Rattle.blif_lines.specs.Layout.{Spot}
use Rattle.blif_format.specs.declared.words.Command.{Command}
use Rattle.blif_format.specs.declared.words.Command.TheVariants.{Model, Inputs, Outputs, Clock, Names, Latch, End}
use Rattle.blif_format.specs.declared.words.Role.{Role}
use Rattle.blif_format.specs.declared.words.Role.TheVariants.{Input, ClockInput, Output, CoverInput, CoverOutput, LatchInput, LatchOutput, Control}
use Rattle.blif_format.specs.declared.words.Part.{Part}
use Rattle.blif_format.specs.declared.words.Part.TheVariants.{Title, Name, LatchType, Init, Extra}
use Rattle.blif_format.specs.declared.refusal.FaultKind.TheVariants.{BadPin}
use Rattle.blif_format.specs.Uses.{Use, all_are, command_of, in_parts, latch_parts, names_parts, parts_of, use_of, uses_of}
use Rattle.blif_format.specs.FirstFault.{fault_if, name_limit, or_else}
use Rattle.blif_flatten.specs.declared.modules.Module.{Module}
use Rattle.blif_flatten.specs.Sections.{words_in_line}
use Rattle.blif_flatten.specs.Calls.{Call, Connection, connection_of, is_call, sides_at}
use Rattle.blif_flatten.specs.CallFaults.{line_uses, module_named, pin_use, pin_uses, uses_by}
use Rattle.blif_flatten.specs.LineFaults.{BodySaid, after_line, body_fault, is_empty, line_fault, pins_fault, sides_fault}
use Rattle.blif_flatten.proofs.FormedHeld.{map-join}
use Rattle.blif_flatten.proofs.FormedTokens.{sides-joined, token-last}
use Rattle.blif_flatten.proofs.FormedLines.{weight}
use Rattle.blif_flatten.proofs.FormedUses.{call_made}
use Rattle.blif_flatten.proofs.FormedBodies.{call-line, none-first, none-second}

abbrev pub use_names : List Use → List Word
use_names us = map (λ (u : Use). u.name) us

-- the words of each line are tokens
abbrev pub AreTokenLines : List (List Spot) → Type 0
AreTokenLines [] = Unit {0}
AreTokenLines (l ∷ ls) = (list_all is_token (words_in_line l) ≡ true) × AreTokenLines ls

-- WORDS IN THEIR PARTS
abbrev part_words : List (Part × Spot) → List Word
part_words ps = map (λ (p : Part × Spot). p.1.word) ps

all-words : (part : Part) (ss : List Spot) → part_words (all_are part ss) ≡ words_in_line ss
all-words part [] = refl
all-words part (s ∷ ss) = ap (λ (ws : List Word). s.word ∷ ws) (all-words part ss)

in-words : (parts : List Part) (ss : List Spot) → part_words (in_parts parts ss) ≡ words_in_line ss
in-words parts [] = refl
in-words [] (s ∷ ss) = all-words Extra (s ∷ ss)
in-words (p ∷ ps) (s ∷ ss) = ap (λ (ws : List Word). s.word ∷ ws) (in-words ps ss)

names-words : (ss : List Spot) → part_words (names_parts ss) ≡ words_in_line ss
names-words [] = refl
names-words (s ∷ []) = refl
names-words (s ∷ a ∷ ss) = ap (λ (ws : List Word). s.word ∷ ws) (names-words (a ∷ ss))

parts-words : (k : Command) (ss : List Spot) → part_words (parts_of k ss) ≡ words_in_line ss
parts-words Model ss = in-words (Title ∷ []) ss
parts-words Inputs ss = all-words (Name Input) ss
parts-words Outputs ss = all-words (Name Output) ss
parts-words Clock ss = all-words (Name ClockInput) ss
parts-words Names ss = names-words ss
parts-words Latch ss = in-words (latch_parts ss) ss
parts-words End ss = all-words Extra ss

-- one use more
one-token : (part : Part) (s : Spot) (us : List Use) → is_token s.word ≡ true → list_all is_token (use_names us) ≡ true → list_all is_token (use_names (cons_option (use_of (part, s)) us)) ≡ true
one-token Title s us h k = k
one-token LatchType s us h k = k
one-token Init s us h k = k
one-token Extra s us h k = k
one-token (Name Input) s us h k = both_and (is_token s.word) (list_all is_token (use_names us)) h k
one-token (Name ClockInput) s us h k = both_and (is_token s.word) (list_all is_token (use_names us)) h k
one-token (Name Output) s us h k = both_and (is_token s.word) (list_all is_token (use_names us)) h k
one-token (Name CoverInput) s us h k = both_and (is_token s.word) (list_all is_token (use_names us)) h k
one-token (Name CoverOutput) s us h k = both_and (is_token s.word) (list_all is_token (use_names us)) h k
one-token (Name LatchInput) s us h k = both_and (is_token s.word) (list_all is_token (use_names us)) h k
one-token (Name LatchOutput) s us h k = both_and (is_token s.word) (list_all is_token (use_names us)) h k
one-token (Name Control) s us h k = at (is_word (codes "NIL") s.word)
  where
    at : (b : Bool) → list_all is_token (use_names (cons_option (if b then None else Some (record { role = Control; name = s.word; place = s.place })) us)) ≡ true
    at true = k
    at false = both_and (is_token s.word) (list_all is_token (use_names us)) h k

use-tokens : (ps : List (Part × Spot)) → list_all is_token (part_words ps) ≡ true → list_all is_token (use_names (filter_map use_of ps)) ≡ true
use-tokens [] h = refl
use-tokens ((part, s) ∷ ps) h = one-token part s (filter_map use_of ps) (and_first (is_token s.word) (list_all is_token (part_words ps)) h) (use-tokens ps (and_second (is_token s.word) (list_all is_token (part_words ps)) h))

uses-tokens : (l : List Spot) → list_all is_token (words_in_line l) ≡ true → list_all is_token (use_names (uses_of l)) ≡ true
uses-tokens [] h = refl
uses-tokens (s ∷ ss) h = at (command_of s.word)
  where
    at : (o : Option Command) → list_all is_token (use_names (elim o as (λ _. List Use) [ None ↦ [] | Some k ↦ filter_map use_of (parts_of k ss) ])) ≡ true
    at None = refl
    at (Some k) = use-tokens (parts_of k ss) (ap (list_all is_token) (parts-words k ss) ∙ and_second (is_token s.word) (list_all is_token (words_in_line ss)) h)

-- PINS
pin-token : (s : Spot) → sides_fault s.place (sides_at 61 s.word) ≡ None → is_token s.word ≡ true → (ps : List Connection) → list_all is_token (map (λ (p : Connection). p.actual) ps) ≡ true
    → list_all is_token (map (λ (p : Connection). p.actual) (cons_option (connection_of s) ps)) ≡ true
pin-token s none h ps k = at (sides_at 61 s.word) refl none
  where
    full : (p : Word × Word) → (b : Bool) → (is_empty p.0 || is_empty p.1) ≡ b → fault_if b BadPin s.place ≡ None → (is_empty p.0 || is_empty p.1) ≡ false
    full p true e f = absurd cc
    full p false e f = e

    at : (o : Option (Word × Word)) → sides_at 61 s.word ≡ o → sides_fault s.place o ≡ None
        → list_all is_token (map (λ (p : Connection). p.actual) (cons_option (option_map (λ (p : Word × Word). let c : Connection = record { formal = p.0; actual = p.1; place = s.place } in c) (sides_at 61 s.word)) ps)) ≡ true
    at None e f = absurd cc
    at (Some p) e f =
        let last : fault_if (is_empty p.0 || is_empty p.1) BadPin s.place ≡ None = none-second (name_limit p.1 s.place) (fault_if (is_empty p.0 || is_empty p.1) BadPin s.place) (none-second (name_limit p.0 s.place) (or_else (name_limit p.1 s.place) (fault_if (is_empty p.0 || is_empty p.1) BadPin s.place)) f) in
        let some : is_empty p.1 ≡ false = neither_second (is_empty p.0) (is_empty p.1) (full p (is_empty p.0 || is_empty p.1) refl last) in
        let whole : is_token (p.0 ++ 61 ∷ p.1) ≡ true = ap is_token (sym (sides-joined 61 s.word p e)) ∙ h in
        let behind : is_token (61 ∷ p.1) ≡ true = token-last p.0 (61 ∷ p.1) whole refl in
        let token : is_token p.1 ≡ true = token-last (61 ∷ []) p.1 behind some in
        ap (λ (o : Option (Word × Word)). list_all is_token (map (λ (q : Connection). q.actual) (cons_option (option_map (λ (q : Word × Word). let c : Connection = record { formal = q.0; actual = q.1; place = s.place } in c) o) ps))) e
        ∙ both_and (is_token p.1) (list_all is_token (map (λ (q : Connection). q.actual) ps)) token k

pins-tokens : (ts : List Spot) → pins_fault ts ≡ None → list_all is_token (words_in_line ts) ≡ true → list_all is_token (map (λ (p : Connection). p.actual) (filter_map connection_of ts)) ≡ true
pins-tokens [] none h = refl
pins-tokens (s ∷ ss) none h =
    pin-token s (none-first (sides_fault s.place (sides_at 61 s.word)) (pins_fault ss) none) (and_first (is_token s.word) (list_all is_token (words_in_line ss)) h) (filter_map connection_of ss)
    (pins-tokens ss (none-second (sides_fault s.place (sides_at 61 s.word)) (pins_fault ss) none) (and_second (is_token s.word) (list_all is_token (words_in_line ss)) h))

pin_uses-tokens : (c : Call) (o : Option Module) → list_all is_token (map (λ (p : Connection). p.actual) c.pins) ≡ true → list_all is_token (use_names (pin_uses c o)) ≡ true
pin_uses-tokens c None h = refl
pin_uses-tokens c (Some m) h = go m.model c.pins h
  where
    go : (d : CircuitModel) (ps : List Connection) → list_all is_token (map (λ (p : Connection). p.actual) ps) ≡ true → list_all is_token (use_names (map (pin_use d) ps)) ≡ true
    go d [] h = refl
    go d (p ∷ ps) h = both_and (is_token p.actual) (list_all is_token (use_names (map (pin_use d) ps))) (and_first (is_token p.actual) (list_all is_token (map (λ (p : Connection). p.actual) ps)) h) (go d ps (and_second (is_token p.actual) (list_all is_token (map (λ (p : Connection). p.actual) ps)) h))

-- LINES
module _ (plains : List Module) where
  line-tokens : (said : BodySaid) (l : List Spot) → line_fault said l ≡ None → list_all is_token (words_in_line l) ≡ true → list_all is_token (use_names (line_uses plains l)) ≡ true
  line-tokens said [] none h = refl
  line-tokens said (s ∷ []) none h = uses-tokens (s ∷ []) h
  line-tokens said (s ∷ v ∷ vs) none h = at (is_call s) refl
    where
      at : (b : Bool) → is_call s ≡ b → list_all is_token (use_names (uses_by plains (s ∷ v ∷ vs) (if is_call s then Some (call_made s v vs) else None))) ≡ true
      at true e =
          let pins : pins_fault vs ≡ None = none-second (name_limit v.word v.place) (pins_fault vs) (call-line said s (v ∷ vs) none (sym (same_word (codes ".subckt") s.word e))) in
          let rest : list_all is_token (words_in_line vs) ≡ true = and_second (is_token v.word) (list_all is_token (words_in_line vs)) (and_second (is_token s.word) (list_all is_token (words_in_line (v ∷ vs))) h) in
          ap (λ (b : Bool). list_all is_token (use_names (uses_by plains (s ∷ v ∷ vs) (if b then Some (call_made s v vs) else None)))) e
          ∙ pin_uses-tokens (call_made s v vs) (module_named plains v.word) (pins-tokens vs pins rest)
      at false e = ap (λ (b : Bool). list_all is_token (use_names (uses_by plains (s ∷ v ∷ vs) (if b then Some (call_made s v vs) else None)))) e ∙ uses-tokens (s ∷ v ∷ vs) h

  pub body-tokens : (said : BodySaid) (body : List (List Spot)) → body_fault said body ≡ None → AreTokenLines body → list_all is_token (use_names (flat_map (line_uses plains) body)) ≡ true
  body-tokens said [] none h = refl
  body-tokens said (l ∷ ls) none h =
      map-join is_token (λ (u : Use). u.name) (line_uses plains l) (flat_map (line_uses plains) ls)
      (line-tokens said l (none-first (line_fault said l) (body_fault (after_line said l) ls) none) h.0)
      (body-tokens (after_line said l) ls (none-second (line_fault said l) (body_fault (after_line said l) ls) none) h.1)

-- a name that is counted is a token
pub weight-token : (t : Role → Bool) (x : Word) (us : List Use) → list_all is_token (use_names us) ≡ true → 1 ≤ weight t x us → is_token x ≡ true
weight-token t x [] h some = absurd (let bad : 1 ≤ 0 = some in omega (arith, bad))
weight-token t x (u ∷ us) h some = at (t u.role && is_word x u.name) refl some (weight-token t x us (and_second (is_token u.name) (list_all is_token (use_names us)) h))
  where
    at : (b : Bool) → (t u.role && is_word x u.name) ≡ b → 1 ≤ one_if b + weight t x us → (1 ≤ weight t x us → is_token x ≡ true) → is_token x ≡ true
    at true e k rest = ap is_token (same_word x u.name (and_second (t u.role) (is_word x u.name) e)) ∙ and_first (is_token u.name) (list_all is_token (use_names us)) h
    at false e k rest = rest (omega (arith, k))

-- a name that is counted is one of the uses
pub weight-among : (t : Role → Bool) (x : Word) (us : List Use) → 1 ≤ weight t x us → is_among (use_names us) x ≡ true
weight-among t x [] some = absurd (let bad : 1 ≤ 0 = some in omega (arith, bad))
weight-among t x (u ∷ us) some = at (t u.role) (is_word x u.name) some (weight-among t x us)
  where
    at : (a b : Bool) → 1 ≤ one_if (a && b) + weight t x us → (1 ≤ weight t x us → is_among (use_names us) x ≡ true) → (b || is_among (use_names us) x) ≡ true
    at a true k rest = refl
    at true false k rest = rest (omega (arith, k))
    at false false k rest = rest (omega (arith, k))
