-- The lines that are written for a well-formed model have words, and each word is a token.
use Rattle.std.proofs.Common.{◌≡◌, ◌==◌, ◌+◌, ◌≤◌, ℕ, Bool, true, false, not, List, [], ◌∷◌, ◌++◌, map, filter, refl, ap, subst, arith}
use Rattle.std.specs.Prelude.{All, IfSome, codes, Option, None, Some}
use Rattle.std.specs.List.{cons_option, flat_map, list_all, filter_map}
use Rattle.std.proofs.lemmas.List.Elements.{All-head, All-tail}
use Rattle.std.proofs.lemmas.Bool.Decides.{nat_tests}
use Rattle.std.proofs.lemmas.Bool.{and_parts}
use Rattle.rm_model.specs.Words.{literal_byte, kind_word}
use Rattle.rm_model.specs.Value.{is_among, control_of, source_names}
use Rattle.rm_model.specs.WellFormed.{IsWellFormed, driven_names, used_names, is_token, ends_in_backslash}
use Rattle.rm_model.specs.declared.parts.Literal.{Literal}
use Rattle.rm_model.specs.declared.parts.Literal.TheVariants.{Zero, One, Any}
use Rattle.rm_model.specs.declared.parts.LatchKind.{LatchKind}
use Rattle.rm_model.specs.declared.parts.LatchKind.TheVariants.{Fe, Re, Ah, Al, As}
use Rattle.rm_model.specs.declared.parts.Timing.{Timing}
use Rattle.rm_model.specs.declared.parts.Cover.{Cover}
use Rattle.rm_model.specs.declared.parts.Latch.{Latch}
use Rattle.rm_model.specs.declared.parts.Model.{Model}
use Rattle.blif_format.specs.Text.{clock_lines, control_word, cover_lines, init_words, latch_words, model_lines, on_word, row_words, timing_words}
use Rattle.blif_writer.proofs.LineLaws.{and_true, is_token_line}
use Rattle.rm_base.proofs.Public.{list_all-parts, list_all-join}
use Rattle.rm_base.specs.Words.{Word, is_word_byte}

-- LATCHES

kind_is_token : (k : LatchKind) → is_token (kind_word k) ≡ true
kind_is_token Fe = refl
kind_is_token Re = refl
kind_is_token Ah = refl
kind_is_token Al = refl
kind_is_token As = refl

init_tokens : (init : Option ℕ) → IfSome init (λ n. n ≤ 3) → list_all is_token (init_words init) ≡ true
init_tokens None h = refl
init_tokens (Some n) h =
    let small : n ≤ 3 = h in
    let byte : is_word_byte (48 + n) ≡ true = grind (arith, nat_tests) in
    let end : (48 + n == 92) ≡ false = grind (arith, nat_tests) in
    rw (byte, end) refl

abbrev IsTokenIf : Option Word → Type 0
IsTokenIf None = Unit {0}
IsTokenIf (Some w) = is_token w ≡ true

option_parts : (o : Option Word) (xs : List Word) → list_all is_token (cons_option o xs) ≡ true → IsTokenIf o × (list_all is_token xs ≡ true)
option_parts None xs e = (tt, e)
option_parts (Some w) xs e = and_parts (is_token w) (list_all is_token xs) e

control_token : (c : Option Word) → IsTokenIf c → is_token (control_word c) ≡ true
control_token None h = refl
control_token (Some w) h = h

abbrev control_in : Option Timing → Option Word
control_in None = None
control_in (Some t) = t.control

timing_tokens : (timing : Option Timing) → IsTokenIf (control_in timing) → list_all is_token (timing_words timing) ≡ true
timing_tokens None h = refl
timing_tokens (Some t) h = and_true (kind_is_token t.kind) (and_true (control_token t.control h) refl)

same_control : (timing : Option Timing) (input output : Word) (init : Option ℕ) → control_of (record { input = input; output = output; timing = timing; init = init }) ≡ control_in timing
same_control None input output init = refl
same_control (Some t) input output init = refl

latch_tokens : (l : Latch) → is_token l.input ≡ true → is_token l.output ≡ true → IsTokenIf (control_of l) → IfSome l.init (λ n. n ≤ 3) → list_all is_token (latch_words l) ≡ true
latch_tokens l input output control init =
    let timing = timing_tokens l.timing (subst IsTokenIf (same_control l.timing l.input l.output l.init) control) in
    and_true input (and_true output (list_all-join is_token (timing_words l.timing) (init_words l.init) timing (init_tokens l.init init)))

latches_tokens : (ls : List Latch) → list_all is_token (map (λ (l : Latch). l.input) ls) ≡ true → list_all is_token (map (λ (l : Latch). l.output) ls) ≡ true → list_all is_token (filter_map control_of ls) ≡ true → All (λ (l : Latch). IfSome l.init (λ n. n ≤ 3)) ls → list_all is_token_line (map (λ l. codes ".latch" ∷ latch_words l) ls) ≡ true
latches_tokens [] inputs outputs controls inits = refl
latches_tokens (l ∷ ls) inputs outputs controls inits =
    let i = and_parts (is_token l.input) (list_all is_token (map (λ (l : Latch). l.input) ls)) inputs in
    let o = and_parts (is_token l.output) (list_all is_token (map (λ (l : Latch). l.output) ls)) outputs in
    let c = option_parts (control_of l) (filter_map control_of ls) controls in
    and_true (latch_tokens l i.0 o.0 c.0 (All-head (λ (l : Latch). IfSome l.init (λ n. n ≤ 3)) l ls inits))
    (latches_tokens ls i.1 o.1 c.1 (All-tail (λ (l : Latch). IfSome l.init (λ n. n ≤ 3)) l ls inits))

-- COVERS

literal_bytes : (ls : List Literal) → list_all is_word_byte (map literal_byte ls) ≡ true
literal_bytes [] = refl
literal_bytes (Zero ∷ ls) = literal_bytes ls
literal_bytes (One ∷ ls) = literal_bytes ls
literal_bytes (Any ∷ ls) = literal_bytes ls

literal_ends : (l : Literal) (ls : List Literal) → ends_in_backslash (map literal_byte (l ∷ ls)) ≡ false
literal_ends Zero [] = refl
literal_ends One [] = refl
literal_ends Any [] = refl
literal_ends l (k ∷ ls) = literal_ends k ls

on_is_token : (on : Bool) → is_token (on_word on) ≡ true
on_is_token true = refl
on_is_token false = refl

row_tokens : (on : Bool) (row : List Literal) → is_token_line (row_words on row) ≡ true
row_tokens on [] = and_true (on_is_token on) refl
row_tokens on (l ∷ ls) =
    let no_backslash : not (ends_in_backslash (map literal_byte (l ∷ ls))) ≡ true = ap not (literal_ends l ls) in
    and_true (and_true (literal_bytes (l ∷ ls)) no_backslash) (and_true (on_is_token on) refl)

rows_tokens : (on : Bool) (rows : List (List Literal)) → list_all is_token_line (map (row_words on) rows) ≡ true
rows_tokens on [] = refl
rows_tokens on (r ∷ rs) = and_true (row_tokens on r) (rows_tokens on rs)

covers_tokens : (cs : List Cover) → list_all is_token (flat_map (λ (c : Cover). c.inputs) cs) ≡ true → list_all is_token (map (λ (c : Cover). c.output) cs) ≡ true → list_all is_token_line (flat_map cover_lines cs) ≡ true
covers_tokens [] inputs outputs = refl
covers_tokens (c ∷ cs) inputs outputs =
    let i = list_all-parts is_token c.inputs (flat_map (λ (c : Cover). c.inputs) cs) inputs in
    let o = and_parts (is_token c.output) (list_all is_token (map (λ (c : Cover). c.output) cs)) outputs in
    let names = list_all-join is_token c.inputs (c.output ∷ []) i.0 (and_true o.0 refl) in
    list_all-join is_token_line (cover_lines c) (flat_map cover_lines cs) (and_true names (rows_tokens c.on c.rows)) (covers_tokens cs i.1 o.1)

-- THE WHOLE LIST

clocks_tokens : (xs : List Word) → list_all is_token xs ≡ true → list_all is_token_line (clock_lines xs) ≡ true
clocks_tokens [] e = refl
clocks_tokens (x ∷ xs) e = and_true e refl

pub model_lines_tokens : (m : Model) → IsWellFormed m → list_all is_token_line (model_lines m) ≡ true
model_lines_tokens m good =
    let fresh = filter (λ x. not (is_among m.inputs x)) m.clocks in
    let latch_outputs = map (λ (l : Latch). l.output) m.latches in
    let latch_inputs = map (λ (l : Latch). l.input) m.latches in
    let controls = filter_map control_of m.latches in
    let cover_inputs = flat_map (λ (c : Cover). c.inputs) m.covers in
    let cover_outputs = map (λ (c : Cover). c.output) m.covers in
    let all = list_all-parts is_token (m.name ∷ driven_names m) (m.clocks ++ used_names m) good.tokens in
    let named = and_parts (is_token m.name) (list_all is_token (driven_names m)) all.0 in
    let driven = list_all-parts is_token (source_names m) cover_outputs named.1 in
    let sources = list_all-parts is_token (m.inputs ++ fresh) latch_outputs driven.0 in
    let inputs = list_all-parts is_token m.inputs fresh sources.0 in
    let clocked = list_all-parts is_token m.clocks (used_names m) all.1 in
    let used = list_all-parts is_token ((m.outputs ++ cover_inputs) ++ latch_inputs) controls clocked.1 in
    let read = list_all-parts is_token (m.outputs ++ cover_inputs) latch_inputs used.0 in
    let outputs = list_all-parts is_token m.outputs cover_inputs read.0 in
    let head = (codes ".model" ∷ m.name ∷ []) ∷ (codes ".inputs" ∷ m.inputs) ∷ (codes ".outputs" ∷ m.outputs) ∷ [] in
    let latches = map (λ (l : Latch). codes ".latch" ∷ latch_words l) m.latches in
    let covers = flat_map cover_lines m.covers in
    let first : list_all is_token_line head ≡ true = and_true (and_true named.0 refl) (and_true inputs.0 (and_true outputs.0 refl)) in
    list_all-join is_token_line (((head ++ clock_lines m.clocks) ++ latches) ++ covers) ((codes ".end" ∷ []) ∷ [])
    (list_all-join is_token_line ((head ++ clock_lines m.clocks) ++ latches) covers
    (list_all-join is_token_line (head ++ clock_lines m.clocks) latches
    (list_all-join is_token_line head (clock_lines m.clocks) first (clocks_tokens m.clocks clocked.0))
    (latches_tokens m.latches read.1 sources.1 used.1 good.inits))
    (covers_tokens m.covers outputs.1 driven.1))
    refl
