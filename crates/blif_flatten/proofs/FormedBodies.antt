-- Lines without a fault say covers of the right form and outputs that stand once.
use Rattle.std.proofs.Common.{◌≡◌, ◌≢◌, ◌-◌, ◌==◌, ℕ, suc, List, [], ◌∷◌, map, length, Bool, true, false, not, Option, None, Some, inl, inr, refl, sym, ap, ◌∙◌, subst, arith}
use Rattle.std.specs.Prelude.{All, codes, if◌then◌else◌}
use Rattle.std.specs.List.{cons_option}
use Rattle.std.specs.Option.{option_map}
use Rattle.std.proofs.lemmas.Bool.Decides.{eqb_tells}
use Rattle.std.proofs.lemmas.List.{length-map}
use Rattle.std.proofs.lemmas.List.Elements.{All-nil, All-cons}
use Rattle.rm_base.specs.Words.{Word}
use Rattle.rm_model.specs.Words.{is_word}
use Rattle.rm_model.specs.WellFormed.{IsWellFormedCover}
use Rattle.rm_model.specs.declared.parts.Cover.{Cover}
use Rattle.rm_model.specs.declared.parts.Literal.{Literal}
use Rattle.rm_model.proofs.Public.{same_word}
use Rattle.blif_lines.specs.Layout.{Spot}
use Rattle.blif_format.specs.declared.words.Command.{Command}
use Rattle.blif_format.specs.declared.words.Command.TheVariants.{Latch}
use Rattle.blif_format.specs.declared.refusal.FaultKind.TheVariants.{AfterEnd, MissingWord, RowLength}
use Rattle.blif_format.specs.declared.refusal.ReadRefusal.{ReadRefusal}
use Rattle.blif_format.specs.Text.{Line}
use Rattle.blif_format.specs.Grammar.{before, is_dotted as is_dotted_line}
use Rattle.blif_format.specs.Uses.{command_of, parts_of}
use Rattle.blif_format.specs.FirstFault.{OpenCover, character_fault, cover_names, ending_fault, extra_fault, fault, fault_if, is_dotted, or_else, rest_fault, row_fault, row_fault_in, with_row}
use Rattle.blif_reader.specs.Words.{literal_from}
use Rattle.blif_flatten.specs.Sections.{cover_from, cover_on, covers_from, is_on_from, row_from, words_in_line}
use Rattle.blif_flatten.specs.LineFaults.{BodySaid, after_line, body_fault, call_fault, command_fault, dotted_fault, known_fault, line_fault, parts_fault}
use Rattle.blif_flatten.proofs.FormedLines.{IsFitLine}
use Rattle.blif_flatten.proofs.FormedUses.{AreFitLines}

-- NO FAULT OF TWO
pub none-first : (a b : Option ReadRefusal) → or_else a b ≡ None → a ≡ None
none-first None b e = refl
none-first (Some r) b e = absurd cc

pub none-second : (a b : Option ReadRefusal) → or_else a b ≡ None → b ≡ None
none-second None b e = e
none-second (Some r) b e = absurd cc

-- every line has a word
abbrev pub AreSome : List (List Spot) → Type 0
AreSome [] = Unit {0}
AreSome (l ∷ ls) = (l ≢ []) × AreSome ls

-- A LINE
module _ (said : BodySaid) (s : Spot) (ss : List Spot) (none : line_fault said (s ∷ ss) ≡ None) where
  looked : (if is_dotted s.word then dotted_fault said.outputs s ss else row_fault_in said.cover s ss) ≡ None
  looked = at said.ended none
    where
      at : (b : Bool) → (if b then fault AfterEnd s.place else (if is_dotted s.word then dotted_fault said.outputs s ss else row_fault_in said.cover s ss)) ≡ None → (if is_dotted s.word then dotted_fault said.outputs s ss else row_fault_in said.cover s ss) ≡ None
      at true e = absurd cc
      at false e = e

  pub dotted-line : is_dotted s.word ≡ true → dotted_fault said.outputs s ss ≡ None
  dotted-line e = sym (ap (λ (b : Bool). if b then dotted_fault said.outputs s ss else row_fault_in said.cover s ss) e) ∙ looked

  pub row-line : is_dotted s.word ≡ false → row_fault_in said.cover s ss ≡ None
  row-line e = sym (ap (λ (b : Bool). if b then dotted_fault said.outputs s ss else row_fault_in said.cover s ss) e) ∙ looked

  pub call-line : s.word ≡ codes ".subckt" → call_fault s ss ≡ None
  call-line e = sym (ap (λ (b : Bool). if b then call_fault s ss else known_fault said.outputs s ss (command_of s.word)) (ap (is_word (codes ".subckt")) e)) ∙ dotted-line (ap is_dotted e)

  pub command-line : (k : Command) (w : Word) → s.word ≡ w → is_dotted w ≡ true → is_word (codes ".subckt") w ≡ false → command_of w ≡ Some k → command_fault said.outputs s k ss ≡ None
  command-line k w e dotted other is =
      sym (ap (λ (b : Bool). if b then call_fault s ss else known_fault said.outputs s ss (command_of s.word)) (ap (is_word (codes ".subckt")) e ∙ other)
      ∙ ap (known_fault said.outputs s ss) (ap command_of e ∙ is))
      ∙ dotted-line (ap is_dotted e ∙ dotted)

-- LATCHES
latch-fit : (said : BodySaid) (s a : Spot) → line_fault said (s ∷ a ∷ []) ≡ None → (b : Bool) → is_word (codes ".latch") s.word ≡ b → is_word (codes ".latch") s.word ≡ false
latch-fit said s a none false e = e
latch-fit said s a none true e =
    let command : command_fault said.outputs s Latch (a ∷ []) ≡ None = command-line said s (a ∷ []) none Latch (codes ".latch") (sym (same_word (codes ".latch") s.word e)) refl refl refl in
    let last : fault MissingWord s.place ≡ None = none-second (parts_fault said.outputs 0 (parts_of Latch (a ∷ []))) (fault MissingWord s.place) command in
    absurd cc

line-fit : (said : BodySaid) (l : List Spot) → line_fault said l ≡ None → IsFitLine l
line-fit said [] none = tt
line-fit said (s ∷ []) none = tt
line-fit said (s ∷ a ∷ []) none = latch-fit said s a none (is_word (codes ".latch") s.word) refl
line-fit said (s ∷ a ∷ b ∷ ss) none = tt

pub body-fit : (said : BodySaid) (body : List (List Spot)) → body_fault said body ≡ None → AreFitLines body
body-fit said [] none = tt
body-fit said (l ∷ ls) none = (line-fit said l (none-first (line_fault said l) (body_fault (after_line said l) ls) none), body-fit (after_line said l) ls (none-second (line_fault said l) (body_fault (after_line said l) ls) none))

-- ROWS
dotted-same : (w : Word) (ws : List Word) → is_dotted_line (w ∷ ws) ≡ is_dotted w
dotted-same [] ws = refl
dotted-same (b ∷ bs) ws = refl

no-extra : (ss : List Spot) → extra_fault ss ≡ None → ss ≡ []
no-extra [] e = refl
no-extra (s ∷ ss) e = absurd cc

row-length : (cover : OpenCover) (s : Spot) (ss : List Spot) → row_fault cover s ss ≡ None → length (row_from (words_in_line (s ∷ ss))) ≡ cover.inputs
row-length cover s ss none = at (cover.inputs == 0) refl none
  where
    is-so : (a b : ℕ) → (a == b) ≡ true → a ≡ b
    is-so a b e = elim (eqb_tells a b) [ inl same ↦ same.1 | inr other ↦ absurd (let bad = other.0 in cc) ]

    long : (ss : List Spot) → length s.word ≡ cover.inputs → rest_fault cover.ending s.place ss ≡ None → length (row_from (words_in_line (s ∷ ss))) ≡ cover.inputs
    long [] same e = absurd cc
    long (a ∷ as_) same e = length-map s.word literal_from ∙ same

    tested : (b : Bool) → (length s.word == cover.inputs) ≡ b → fault_if (not b) RowLength s.place ≡ None → length s.word ≡ cover.inputs
    tested true e f = is-so (length s.word) cover.inputs e
    tested false e f = absurd cc

    at : (b : Bool) → (cover.inputs == 0) ≡ b → (if b then rest_fault cover.ending s.place (s ∷ ss) else or_else (fault_if (not (length s.word == cover.inputs)) RowLength s.place) (or_else (character_fault s.place s.word) (rest_fault cover.ending s.place ss))) ≡ None
        → length (row_from (words_in_line (s ∷ ss))) ≡ cover.inputs
    at true e f =
        let alone : ss ≡ [] = no-extra ss (none-second (ending_fault cover.ending s) (extra_fault ss) f) in
        ap (λ (vs : List Spot). length (row_from (words_in_line (s ∷ vs)))) alone ∙ sym (is-so cover.inputs 0 e)
    at false e f =
        let first = none-first (fault_if (not (length s.word == cover.inputs)) RowLength s.place) (or_else (character_fault s.place s.word) (rest_fault cover.ending s.place ss)) f in
        let rest = none-second (fault_if (not (length s.word == cover.inputs)) RowLength s.place) (or_else (character_fault s.place s.word) (rest_fault cover.ending s.place ss)) f in
        long ss (tested (length s.word == cover.inputs) refl first) (none-second (character_fault s.place s.word) (rest_fault cover.ending s.place ss) rest)

row-inputs : (spots : List Spot) (cover : OpenCover) → (with_row spots cover).inputs ≡ cover.inputs
row-inputs spots cover = at cover.ending refl
  where
    at : (o : Option Word) → cover.ending ≡ o → (with_row spots cover).inputs ≡ cover.inputs
    at None e = rw e refl
    at (Some w) e = rw e refl

abbrev HasLength : ℕ → List Literal → Type 0
HasLength n r = length r ≡ n

rows-formed : (said : BodySaid) (cover : OpenCover) (n : ℕ) (ls : List (List Spot)) → said.cover ≡ Some cover → cover.inputs ≡ n → body_fault said ls ≡ None → AreSome ls → All (HasLength n) (map row_from (before is_dotted_line (map words_in_line ls)))
rows-formed said cover n [] is same none some = All-nil (HasLength n)
rows-formed said cover n ([] ∷ ls) is same none some = absurd (some.0 refl)
rows-formed said cover n ((s ∷ ss) ∷ ls) is same none some = at (is_dotted s.word) refl (rows-formed (after_line said (s ∷ ss)) (with_row (s ∷ ss) cover) n ls)
  where
    first : line_fault said (s ∷ ss) ≡ None
    first = none-first (line_fault said (s ∷ ss)) (body_fault (after_line said (s ∷ ss)) ls) none

    later : body_fault (after_line said (s ∷ ss)) ls ≡ None
    later = none-second (line_fault said (s ∷ ss)) (body_fault (after_line said (s ∷ ss)) ls) none

    at : (b : Bool) → is_dotted s.word ≡ b → ((after_line said (s ∷ ss)).cover ≡ Some (with_row (s ∷ ss) cover) → (with_row (s ∷ ss) cover).inputs ≡ n → body_fault (after_line said (s ∷ ss)) ls ≡ None → AreSome ls → All (HasLength n) (map row_from (before is_dotted_line (map words_in_line ls))))
        → All (HasLength n) (map row_from (before is_dotted_line (map words_in_line ((s ∷ ss) ∷ ls))))
    at true e rest = subst (λ (b : Bool). All (HasLength n) (map row_from (if b then [] else words_in_line (s ∷ ss) ∷ before is_dotted_line (map words_in_line ls)))) (sym (dotted-same s.word (words_in_line ss) ∙ e)) (All-nil (HasLength n))
    at false e rest =
        let row : row_fault cover s ss ≡ None = sym (ap (λ (o : Option OpenCover). row_fault_in o s ss) is) ∙ row-line said s ss first e in
        let after : (after_line said (s ∷ ss)).cover ≡ Some (with_row (s ∷ ss) cover) =
        ap (λ (b : Bool). if b then (if is_word (codes ".names") s.word then Some (record { inputs = length ss - 1; ending = None }) else None) else option_map (with_row (s ∷ ss)) said.cover) e ∙ ap (option_map (with_row (s ∷ ss))) is in
        subst (λ (b : Bool). All (HasLength n) (map row_from (if b then [] else words_in_line (s ∷ ss) ∷ before is_dotted_line (map words_in_line ls)))) (sym (dotted-same s.word (words_in_line ss) ∙ e))
        (All-cons (HasLength n) (row_from (words_in_line (s ∷ ss))) (map row_from (before is_dotted_line (map words_in_line ls))) (row-length cover s ss row ∙ same)
        (rest after (row-inputs (s ∷ ss) cover ∙ same) later some.1))

-- COVERS
names-length : (w : Word) (ws : List Word) → length (cover_names (w ∷ ws)).inputs ≡ length ws
names-length w [] = refl
names-length w (v ∷ vs) = ap suc (names-length v vs)

-- a cover without rows is on
rows-on : (rows : List Line) → map row_from rows ≡ [] → is_on_from rows ≡ true
rows-on [] e = refl
rows-on (r ∷ rs) e = absurd cc

pub covers-formed : (said : BodySaid) (body : List (List Spot)) → body_fault said body ≡ None → AreSome body → All IsWellFormedCover (covers_from (map words_in_line body))
covers-formed said [] none some = All-nil IsWellFormedCover
covers-formed said (l ∷ ls) none some =
    at l refl (none-first (line_fault said l) (body_fault (after_line said l) ls) none) (none-second (line_fault said l) (body_fault (after_line said l) ls) none) (covers-formed (after_line said l) ls (none-second (line_fault said l) (body_fault (after_line said l) ls) none) some.1)
  where
    at : (k : List Spot) → l ≡ k → line_fault said l ≡ None → body_fault (after_line said l) ls ≡ None → All IsWellFormedCover (covers_from (map words_in_line ls)) → All IsWellFormedCover (cons_option (cover_on (words_in_line l) (map words_in_line ls)) (covers_from (map words_in_line ls)))
    at [] e first later rest = rw e rest
    at (s ∷ []) e first later rest = rw e rest
    at (s ∷ a ∷ as_) e first later rest = subst (λ (k : List Spot). All IsWellFormedCover (cons_option (cover_on (words_in_line k) (map words_in_line ls)) (covers_from (map words_in_line ls)))) (sym e) (by_word (is_word (codes ".names") s.word) refl)
      where
        made : Cover
        made = cover_from (words_in_line (a ∷ as_), before is_dotted_line (map words_in_line ls))

        after : is_word (codes ".names") s.word ≡ true → (after_line said (s ∷ a ∷ as_)).cover ≡ Some (record { inputs = length (a ∷ as_) - 1; ending = None })
        after f =
            ap (λ (b : Bool). if b then (if is_word (codes ".names") s.word then Some (record { inputs = length (a ∷ as_) - 1; ending = None }) else None) else option_map (with_row (s ∷ a ∷ as_)) said.cover) (ap is_dotted (sym (same_word (codes ".names") s.word f)))
            ∙ ap (λ (b : Bool). if b then Some (record { inputs = length (a ∷ as_) - 1; ending = None }) else None) f

        inputs : length (a ∷ as_) - 1 ≡ length (cover_names (words_in_line (a ∷ as_))).inputs
        inputs =
            let n = names-length a.word (words_in_line as_) in
            let m = length-map as_ (λ (v : Spot). v.word) in
            omega (arith, n, m)

        formed : is_word (codes ".names") s.word ≡ true → IsWellFormedCover made
        formed f = record {
          no_rows = rows-on (before is_dotted_line (map words_in_line ls));
          row_lengths = rows-formed (after_line said (s ∷ a ∷ as_)) (record { inputs = length (a ∷ as_) - 1; ending = None }) (length (cover_names (words_in_line (a ∷ as_))).inputs) ls (after f) inputs (subst (λ (k : List Spot). body_fault (after_line said k) ls ≡ None) e later) some.1;
        }

        by_word : (b : Bool) → is_word (codes ".names") s.word ≡ b → All IsWellFormedCover (cons_option (if is_word (codes ".names") s.word then Some made else None) (covers_from (map words_in_line ls)))
        by_word true f = subst (λ (b : Bool). All IsWellFormedCover (cons_option (if b then Some made else None) (covers_from (map words_in_line ls)))) (sym f) (All-cons IsWellFormedCover made (covers_from (map words_in_line ls)) (formed f) rest)
        by_word false f = subst (λ (b : Bool). All IsWellFormedCover (cons_option (if b then Some made else None) (covers_from (map words_in_line ls)))) (sym f) rest
