-- What is escaped is a text for a terminal.
use Rattle.std.proofs.Common.{◌≡◌, ◌∙◌, ◌++◌, ◌∷◌, ◌+◌, ◌/◌, ◌%◌, ◌<◌, [], ℕ, List, Bool, true, false, refl, ap, replicate, length, take, codes, ◌||◌, ◌==◌, nat_lt, zero, suc, if◌then◌else◌, arith}
use Rattle.std.specs.List.{flat_map}
use Rattle.std.proofs.lemmas.Bool.{lt-ltb, ltb-true}
use Rattle.std.proofs.lemmas.List.Sums.{fold-append}
use Rattle.diagnostics.specs.Terminal.{IsTerminalText, Stand, Characters, Escape, Other, behind, stand_after, is_printable}
use Rattle.diagnostics.specs.Escaping.{escape, escape_in_text, escaped, hex_digit, in_lines, shown_word}
use Rattle.diagnostics.specs.Excerpts.{before_column, excerpt, from_column, lower_line, upper_line}
use Rattle.diagnostics.specs.Messages.{coloured, part_text, parts_text}
use Rattle.diagnostics.specs.declared.parts.Part.{Part}
use Rattle.diagnostics.specs.declared.parts.Part.TheVariants.{Text, Word, Number, Red}
use Rattle.std.specs.Fmt.{decimal}

-- two such texts after each other
pub together : (xs ys : List ℕ) → IsTerminalText xs → IsTerminalText ys → IsTerminalText (xs ++ ys)
together xs ys first second = fold-append behind Characters xs ys ∙ (ap (λ (s : Stand). stand_after s ys) first ∙ second)

pub of_each : {X : Type 0} (f : X → List ℕ) → ((x : X) → IsTerminalText (f x)) → (xs : List X) → IsTerminalText (flat_map f xs)
of_each f each [] = refl
of_each f each (x ∷ xs) = together (f x) (flat_map f xs) (each x) (of_each f each xs)

pub blanks : (count : ℕ) → IsTerminalText (replicate count 32)
blanks zero = refl
blanks (suc count) = together (32 ∷ []) (replicate count 32) refl (blanks count)

shown_between : (byte : ℕ) → 31 < byte → byte < 127 → is_printable byte ≡ true
shown_between byte low high =
    let above : nat_lt 31 byte ≡ true = lt-ltb 31 byte low in
    let below : nat_lt byte 127 ≡ true = lt-ltb byte 127 high in
    rw (above, below) refl

stays : (byte : ℕ) → is_printable byte ≡ true → behind Characters byte ≡ Characters
stays byte shown = ap (λ (t : Bool). if t || (byte == 10) then Characters else (if byte == 27 then Escape else Other)) shown

digit_shown : (digit : ℕ) → digit < 16 → is_printable (hex_digit digit) ≡ true
digit_shown digit small = at (nat_lt digit 10) refl
  where
    at : (t : Bool) → nat_lt digit 10 ≡ t → is_printable (hex_digit digit) ≡ true
    at true e = let low : digit < 10 = ltb-true digit 10 e in ap (λ (t : Bool). is_printable (if t then 48 + digit else 87 + digit)) e ∙ shown_between (48 + digit) (omega arith) (omega arith)
    at false e = ap (λ (t : Bool). is_printable (if t then 48 + digit else 87 + digit)) e ∙ shown_between (87 + digit) (omega arith) (omega arith)

code_stays : (high low : ℕ) → high < 16 → low < 16 → IsTerminalText (92 ∷ 120 ∷ hex_digit high ∷ hex_digit low ∷ [])
code_stays high low first second =
    ap (λ (s : Stand). behind s (hex_digit low)) (stays (hex_digit high) (digit_shown high first)) ∙ stays (hex_digit low) (digit_shown low second)

pub of_byte : (byte : ℕ) → IsTerminalText (escape byte)
of_byte byte = at (is_printable byte) refl
  where
    code : List ℕ
    code = 92 ∷ 120 ∷ hex_digit (byte / 16 % 16) ∷ hex_digit (byte % 16) ∷ []

    at : (t : Bool) → is_printable byte ≡ t → IsTerminalText (escape byte)
    at true e = ap (λ (t : Bool). stand_after Characters (if t then byte ∷ [] else code)) e ∙ stays byte e
    at false e = ap (λ (t : Bool). stand_after Characters (if t then byte ∷ [] else code)) e ∙ code_stays (byte / 16 % 16) (byte % 16) (omega arith) (omega arith)

pub of_text_byte : (byte : ℕ) → IsTerminalText (escape_in_text byte)
of_text_byte byte = at (byte == 10) refl
  where
    at : (t : Bool) → (byte == 10) ≡ t → IsTerminalText (escape_in_text byte)
    at true e = ap (λ (t : Bool). stand_after Characters (if t then 10 ∷ [] else escape byte)) e
    at false e = ap (λ (t : Bool). stand_after Characters (if t then 10 ∷ [] else escape byte)) e ∙ of_byte byte

pub of_escaped : (bytes : List ℕ) → IsTerminalText (escaped bytes)
of_escaped bytes = of_each escape of_byte bytes

pub of_lines : (text : List ℕ) → IsTerminalText (in_lines text)
of_lines text = of_each escape_in_text of_text_byte text

of_word : (word : List ℕ) → IsTerminalText (shown_word word)
of_word word = at (nat_lt 60 (length word)) refl
  where
    at : (t : Bool) → nat_lt 60 (length word) ≡ t → IsTerminalText (shown_word word)
    at true e = ap (λ (t : Bool). stand_after Characters (if t then escaped (take 60 word) ++ codes ".." else escaped word)) e
        ∙ together (escaped (take 60 word)) (codes "..") (of_escaped (take 60 word)) refl
    at false e = ap (λ (t : Bool). stand_after Characters (if t then escaped (take 60 word) ++ codes ".." else escaped word)) e ∙ of_escaped word

pub of_coloured : (colours : Bool) (digit : ℕ) (text : List ℕ) → IsTerminalText (27 ∷ 91 ∷ 51 ∷ digit ∷ 109 ∷ []) → IsTerminalText (coloured colours digit text)
of_coloured true digit text begins = together (27 ∷ 91 ∷ 51 ∷ digit ∷ 109 ∷ []) (in_lines text ++ (27 ∷ 91 ∷ 48 ∷ 109 ∷ [])) begins
    (together (in_lines text) (27 ∷ 91 ∷ 48 ∷ 109 ∷ []) (of_lines text) refl)
of_coloured false digit text begins = of_lines text

of_part : (colours : Bool) (part : Part) → IsTerminalText (part_text colours part)
of_part colours (Text text) = of_lines text.now
of_part colours (Word word) = of_word word.now
of_part colours (Number number) = of_escaped (decimal number)
of_part colours (Red text) = of_coloured colours 49 text.now refl

pub of_parts : (colours : Bool) (text : List ℕ) (parts : List Part) → IsTerminalText text → IsTerminalText (text ++ parts_text colours parts)
of_parts colours text parts before = together text (parts_text colours parts) before (of_each (part_text colours) (of_part colours) parts)

of_upper_line : (line : List ℕ) (column : ℕ) → IsTerminalText (upper_line line column)
of_upper_line line column =
    let rest : IsTerminalText (escaped (from_column line column) ++ in_lines (10 ∷ [])) =
    together (escaped (from_column line column)) (in_lines (10 ∷ [])) (of_escaped (from_column line column)) refl in
    let most : IsTerminalText (escaped (before_column line column) ++ (escaped (from_column line column) ++ in_lines (10 ∷ []))) =
    together (escaped (before_column line column)) (escaped (from_column line column) ++ in_lines (10 ∷ [])) (of_escaped (before_column line column)) rest in
    together (in_lines (codes "  ")) (escaped (before_column line column) ++ (escaped (from_column line column) ++ in_lines (10 ∷ []))) refl most

of_lower_line : (colours : Bool) (width : ℕ) → IsTerminalText (lower_line colours width)
of_lower_line colours width =
    let rest : IsTerminalText (coloured colours 50 (codes "^") ++ in_lines (10 ∷ [])) =
    together (coloured colours 50 (codes "^")) (in_lines (10 ∷ [])) (of_coloured colours 50 (codes "^") refl) refl in
    let most : IsTerminalText (replicate width 32 ++ (coloured colours 50 (codes "^") ++ in_lines (10 ∷ []))) =
    together (replicate width 32) (coloured colours 50 (codes "^") ++ in_lines (10 ∷ [])) (blanks width) rest in
    together (in_lines (codes "  ")) (replicate width 32 ++ (coloured colours 50 (codes "^") ++ in_lines (10 ∷ []))) refl most

pub of_excerpt : (colours : Bool) (text line : List ℕ) (column : ℕ) → IsTerminalText text → IsTerminalText (text ++ excerpt colours line column)
of_excerpt colours text line column before =
    together text (excerpt colours line column) before
    (together (upper_line line column) (lower_line colours (length (escaped (before_column line column)))) (of_upper_line line column)
    (of_lower_line colours (length (escaped (before_column line column)))))
