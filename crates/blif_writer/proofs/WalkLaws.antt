-- The lines of a text that says a model have no fault but a limit.
use Rattle.std.proofs.Common.{◌≡◌, ◌==◌, ◌+◌, ◌-◌, ◌≤◌, ℕ, Bool, true, false, not, List, [], ◌∷◌, ◌++◌, map, length, suc, refl, ap, sym, subst, ◌∙◌, inl, inr, append_assoc, append-nil, arith}
use Rattle.std.specs.Prelude.{◌⊎◌, IfSome, codes, nat_lt, Option, None, Some}
use Rattle.std.specs.List.{filter_map}
use Rattle.std.specs.Option.{option_map}
use Rattle.std.proofs.lemmas.Bool.Decides.{nat_tests}
use Rattle.rm_base.specs.declared.numbers.Place.{Place}
use Rattle.rm_model.specs.Words.{is_word, kind_word, literal_byte}
use Rattle.rm_model.specs.Value.{is_among}
use Rattle.rm_model.specs.declared.parts.Literal.{Literal}
use Rattle.rm_model.specs.declared.parts.Literal.TheVariants.{Zero, One, Any}
use Rattle.rm_model.specs.declared.parts.LatchKind.{LatchKind}
use Rattle.rm_model.specs.declared.parts.LatchKind.TheVariants.{Fe, Re, Ah, Al, As}
use Rattle.rm_model.specs.declared.parts.Timing.{Timing}
use Rattle.rm_model.specs.declared.parts.Cover.{Cover}
use Rattle.rm_model.specs.declared.parts.Latch.{Latch}
use Rattle.blif_lines.specs.Layout.{Spot}
use Rattle.blif_format.specs.Text.{control_word, init_words, latch_words, on_word, row_words, timing_words}
use Rattle.blif_format.specs.Uses.{Use, all_are, in_parts, latch_parts, least_words, names_parts, parts_of, use_of, uses_of}
use Rattle.blif_format.specs.declared.words.Command.{Command}
use Rattle.blif_format.specs.declared.words.Command.TheVariants.{Inputs, Outputs, Clock, Names, Latch as LatchOf}
use Rattle.blif_format.specs.declared.words.Role.{Role}
use Rattle.blif_format.specs.declared.words.Role.TheVariants.{Input, ClockInput, Output}
use Rattle.blif_format.specs.declared.words.Part.{Part}
use Rattle.blif_format.specs.declared.words.Part.TheVariants.{Name}
use Rattle.blif_format.specs.FirstFault.{OpenCover, Said, after_line, character_fault, command_fault, cover_after, ending_fault, init_values, is_dotted, is_ending, is_literal, is_other_ending, last_word, latch_types, or_else, next_column, rest_fault, row_fault, with_row, words_fault}
use Rattle.blif_format.specs.declared.refusal.FaultKind.TheVariants.{MissingWord, MixedCover, RowCharacter, RowLength}
use Rattle.blif_format.specs.declared.refusal.ReadRefusal.{ReadRefusal}
use Rattle.blif_writer.proofs.BodyLaws.{Body, Done, EndLine, ListLine, LatchLine, NamesLine, RowLine, IsInputs, IsOutputs, IsClock, IsGoodLatch, ListWord, Open, Shut, Rows, head_of}
use Rattle.blif_writer.proofs.Counts.{eq_word}
use Rattle.blif_writer.proofs.SpotLaws.{spots_fault, words}
use Rattle.blif_writer.proofs.TallyLaws.{no_more, peel, row_first, row_uses, row_word, uses, with_word}
use Rattle.blif_writer.proofs.UseLaws.{AreFineParts, IsClear, IsFine, no_fault, no_refusal, or_else_fine, parts_are_fine}
use Rattle.rm_base.proofs.Public.{tail_same}
use Rattle.rm_base.specs.Words.{Word}

-- after some lines: the cover to which a row may belong, and the names used
abbrev pub saying : Option OpenCover → List Use → Said
saying cover had = record { began = true; ended = false; cover = cover; uses = had }

-- COMMANDS

all_fine : (role : Role) (ss : List Spot) → AreFineParts (all_are (Name role) ss)
all_fine role [] = tt
all_fine role (s ∷ ss) = (tt, all_fine role ss)

names_fine : (ss : List Spot) → AreFineParts (names_parts ss)
names_fine [] = tt
names_fine (s ∷ []) = (tt, tt)
names_fine (s ∷ t ∷ ss) = (tt, names_fine (t ∷ ss))

kind_listed : (k : LatchKind) → is_among latch_types (kind_word k) ≡ true
kind_listed Fe = refl
kind_listed Re = refl
kind_listed Ah = refl
kind_listed Al = refl
kind_listed As = refl

init_listed : (n : ℕ) → n ≤ 3 → is_among init_values ((48 + n) ∷ []) ≡ true
init_listed n h = grind (arith, nat_tests)

abbrev latch_parts_of : List Spot → List (Part × Spot)
latch_parts_of ss = in_parts (latch_parts ss) ss

latch_fine : (ss : List Spot) (input output : Word) (timing : Option Timing) (init : Option ℕ) → words ss ≡ (input ∷ output ∷ timing_words timing) ++ init_words init → IfSome init (λ n. n ≤ 3) → AreFineParts (latch_parts_of ss) × (nat_lt (length ss) 2 ≡ false)
latch_fine ss input output None None e small =
    let a = peel ss input (output ∷ []) e in
    let b = peel a.rest output [] a.words_left in
    let whole : ss ≡ a.first ∷ b.first ∷ [] = a.whole ∙ ap (λ (r : List Spot). a.first ∷ r) (b.whole ∙ ap (λ (r : List Spot). b.first ∷ r) (no_more b.rest b.words_left)) in
    let P : List Spot → Type 0 = λ r. AreFineParts (latch_parts_of r) × (nat_lt (length r) 2 ≡ false) in
    subst P (sym whole) ((tt, (tt, tt)), refl)
latch_fine ss input output None (Some n) e small =
    let a = peel ss input (output ∷ init_words (Some n)) e in
    let b = peel a.rest output (init_words (Some n)) a.words_left in
    let c = peel b.rest ((48 + n) ∷ []) [] b.words_left in
    let whole : ss ≡ a.first ∷ b.first ∷ c.first ∷ [] =
    a.whole ∙ ap (λ (r : List Spot). a.first ∷ r) (b.whole ∙ ap (λ (r : List Spot). b.first ∷ r) (c.whole ∙ ap (λ (r : List Spot). c.first ∷ r) (no_more c.rest c.words_left))) in
    let P : List Spot → Type 0 = λ r. AreFineParts (latch_parts_of r) × (nat_lt (length r) 2 ≡ false) in
    let init = ap (is_among init_values) c.word ∙ init_listed n small in
    subst P (sym whole) ((tt, (tt, (init, tt))), refl)
latch_fine ss input output (Some t) None e small =
    let a = peel ss input (output ∷ timing_words (Some t)) e in
    let b = peel a.rest output (timing_words (Some t)) a.words_left in
    let c = peel b.rest (kind_word t.kind) (control_word t.control ∷ []) b.words_left in
    let d = peel c.rest (control_word t.control) [] c.words_left in
    let whole : ss ≡ a.first ∷ b.first ∷ c.first ∷ d.first ∷ [] =
    a.whole ∙ ap (λ (r : List Spot). a.first ∷ r) (b.whole ∙ ap (λ (r : List Spot). b.first ∷ r) (c.whole ∙ ap (λ (r : List Spot). c.first ∷ r) (d.whole ∙ ap (λ (r : List Spot). d.first ∷ r) (no_more d.rest d.words_left)))) in
    let P : List Spot → Type 0 = λ r. AreFineParts (latch_parts_of r) × (nat_lt (length r) 2 ≡ false) in
    let kind = ap (is_among latch_types) c.word ∙ kind_listed t.kind in
    subst P (sym whole) ((tt, (tt, (kind, (tt, tt)))), refl)
latch_fine ss input output (Some t) (Some n) e small =
    let a = peel ss input (output ∷ timing_words (Some t) ++ init_words (Some n)) e in
    let b = peel a.rest output (timing_words (Some t) ++ init_words (Some n)) a.words_left in
    let c = peel b.rest (kind_word t.kind) (control_word t.control ∷ init_words (Some n)) b.words_left in
    let d = peel c.rest (control_word t.control) (init_words (Some n)) c.words_left in
    let f = peel d.rest ((48 + n) ∷ []) [] d.words_left in
    let whole : ss ≡ a.first ∷ b.first ∷ c.first ∷ d.first ∷ f.first ∷ [] =
    a.whole ∙ ap (λ (r : List Spot). a.first ∷ r) (b.whole ∙ ap (λ (r : List Spot). b.first ∷ r) (c.whole ∙ ap (λ (r : List Spot). c.first ∷ r) (d.whole ∙ ap (λ (r : List Spot). d.first ∷ r) (f.whole ∙ ap (λ (r : List Spot). f.first ∷ r) (no_more f.rest f.words_left))))) in
    let P : List Spot → Type 0 = λ r. AreFineParts (latch_parts_of r) × (nat_lt (length r) 2 ≡ false) in
    let kind = ap (is_among latch_types) c.word ∙ kind_listed t.kind in
    let init = ap (is_among init_values) f.word ∙ init_listed n small in
    subst P (sym whole) ((tt, (tt, (kind, (tt, (init, tt))))), refl)

-- ROWS

-- the cover that is opened, and the ending of its first row
pub record CoverIs (c : Cover) (cover : Option OpenCover) : Type 0 where
  pub ending : Option Word
  pub is : cover ≡ Some (record { inputs = length c.inputs; ending = ending })
  pub told : (ending ≡ None) ⊎ (ending ≡ Some (on_word c.on))

abbrev pub IsOpenAs : Open → Option OpenCover → Type 0
IsOpenAs Shut cover = Unit {0}
IsOpenAs (Rows c rs) cover = CoverIs c cover

on_is_ending : (on : Bool) → is_ending (on_word on) ≡ true
on_is_ending true = refl
on_is_ending false = refl

same_ending : (ending : Option Word) (on : Bool) → (ending ≡ None) ⊎ (ending ≡ Some (on_word on)) → is_other_ending ending (on_word on) ≡ false
same_ending ending on (inl e) = ap (λ (o : Option Word). is_other_ending o (on_word on)) e
same_ending ending on (inr e) = ap (λ (o : Option Word). is_other_ending o (on_word on)) e ∙ ap not (eq_word (on_word on) (on_word on) refl)

ending_fine : (ending : Option Word) (on : Bool) (s : Spot) → s.word ≡ on_word on → (ending ≡ None) ⊎ (ending ≡ Some (on_word on)) → IsFine (ending_fault ending s)
ending_fine ending on s e told =
    or_else_fine (no_fault (not (is_ending s.word)) RowCharacter s.place (ap (λ (w : Word). not (is_ending w)) e ∙ ap not (on_is_ending on)))
    (no_fault (is_other_ending ending s.word) MixedCover s.place (ap (is_other_ending ending) e ∙ same_ending ending on told))

literal_fine : (l : Literal) → is_literal (literal_byte l) ≡ true
literal_fine Zero = refl
literal_fine One = refl
literal_fine Any = refl

characters_fine : (place : Place) (ls : List Literal) → IsFine (character_fault place (map literal_byte ls))
characters_fine place [] = no_refusal
characters_fine place (l ∷ ls) = or_else_fine (no_fault (not (is_literal (literal_byte l))) RowCharacter place (ap not (literal_fine l))) (characters_fine (next_column place) ls)

length-literals : (ls : List Literal) → length (map literal_byte ls) ≡ length ls
length-literals [] = refl
length-literals (l ∷ ls) = ap (λ n. suc n) (length-literals ls)

eq_test : (m n : ℕ) → m ≡ n → not (m == n) ≡ false
eq_test m n e = grind (arith, nat_tests)

row_is_fine : (on : Bool) (r : List Literal) (n : ℕ) (ending : Option Word) (s : Spot) (ss : List Spot) → words (s ∷ ss) ≡ row_words on r → length r ≡ n → (ending ≡ None) ⊎ (ending ≡ Some (on_word on)) → IsFine (row_fault (record { inputs = n; ending = ending }) s ss)
row_is_fine on [] n ending s ss e size told =
    let none : (n == 0) ≡ true = grind (arith, nat_tests) in
    let alone : ss ≡ [] = no_more ss (tail_same e) in
    rw (none, alone) (or_else_fine (ending_fine ending on s (head_of e) told) no_refusal)
row_is_fine on (l ∷ ls) n ending s ss e size told =
    let some : (n == 0) ≡ false = grind (arith, nat_tests) in
    let word : s.word ≡ map literal_byte (l ∷ ls) = head_of e in
    let last = peel ss (on_word on) [] (tail_same e) in
    let two : ss ≡ last.first ∷ [] = last.whole ∙ ap (λ (r : List Spot). last.first ∷ r) (no_more last.rest last.words_left) in
    let long : length s.word ≡ n = ap length word ∙ (length-literals (l ∷ ls) ∙ size) in
    let characters : IsFine (character_fault s.place s.word) = subst (λ (w : Word). IsFine (character_fault s.place w)) (sym word) (characters_fine s.place (l ∷ ls)) in
    let rest : IsFine (rest_fault ending s.place ss) = subst (λ (r : List Spot). IsFine (rest_fault ending s.place r)) (sym two) (or_else_fine (ending_fine ending on last.first last.word told) no_refusal) in
    rw some (or_else_fine (no_fault (not (length s.word == n)) RowLength s.place (eq_test (length s.word) n long)) (or_else_fine characters rest))

-- WHAT IS SAID BEHIND A ROW

pub record IsRowWord (w : Word) : Type 0 where
  pub no_dot : is_dotted w ≡ false
  pub no_end : is_word (codes ".end") w ≡ false
  pub no_names : is_word (codes ".names") w ≡ false

pub row_word_is : (on : Bool) (r : List Literal) → IsRowWord (row_first on r)
row_word_is true [] = record { no_dot = refl; no_end = refl; no_names = refl }
row_word_is false [] = record { no_dot = refl; no_end = refl; no_names = refl }
row_word_is on (Zero ∷ ls) = record { no_dot = refl; no_end = refl; no_names = refl }
row_word_is on (One ∷ ls) = record { no_dot = refl; no_end = refl; no_names = refl }
row_word_is on (Any ∷ ls) = record { no_dot = refl; no_end = refl; no_names = refl }

abbrev IsSaid : Bool → Option OpenCover → List Use → Said → Type 0
IsSaid ended cover us said = record { began = true; ended = ended; cover = cover; uses = us } ≡ said

same_said : (ended : Bool) (cover after : Option OpenCover) (us vs : List Use) → ended ≡ false → cover ≡ after → us ≡ vs → IsSaid ended cover us (saying after vs)
same_said ended cover after us vs e f g = subst (λ (b : Bool). IsSaid b cover us (saying after vs)) (sym e) (subst (λ (c : Option OpenCover). IsSaid false c us (saying after vs)) (sym f) (subst (λ (xs : List Use). IsSaid false after xs (saying after vs)) (sym g) refl))

after_row : (cover : Option OpenCover) (had : List Use) (s : Spot) (ss : List Spot) (on : Bool) (r : List Literal) → words (s ∷ ss) ≡ row_words on r → after_line (saying cover had) (s ∷ ss) ≡ saying (option_map (with_row (s ∷ ss)) cover) had
after_row cover had s ss on r e =
    let is : IsRowWord s.word = subst IsRowWord (sym (row_word s ss on r e)) (row_word_is on r) in
    let after : cover_after cover s ss ≡ option_map (with_row (s ∷ ss)) cover = rw is.no_dot refl in
    same_said (is_word (codes ".end") s.word) (cover_after cover s ss) (option_map (with_row (s ∷ ss)) cover) (had ++ uses_of (s ∷ ss)) had is.no_end after
    (ap (λ us. had ++ us) (row_uses s ss on r e) ∙ append-nil had)

last_of_row : (on : Bool) (r : List Literal) (s : Spot) (ss : List Spot) → words (s ∷ ss) ≡ row_words on r → last_word (s ∷ ss) ≡ Some (on_word on)
last_of_row on [] s ss e = let alone : ss ≡ [] = no_more ss (tail_same e) in let word : s.word ≡ on_word on = head_of e in rw alone (ap Some word)
last_of_row on (l ∷ ls) s ss e =
    let last = peel ss (on_word on) [] (tail_same e) in
    let two : ss ≡ last.first ∷ [] = last.whole ∙ ap (λ (r : List Spot). last.first ∷ r) (no_more last.rest last.words_left) in
    rw two (ap Some last.word)

row_kept : (c : Cover) (cover : Option OpenCover) (r : List Literal) (s : Spot) (ss : List Spot) → words (s ∷ ss) ≡ row_words c.on r → CoverIs c cover → CoverIs c (option_map (with_row (s ∷ ss)) cover)
row_kept c cover r s ss e h = subst (λ (o : Option OpenCover). CoverIs c (option_map (with_row (s ∷ ss)) o)) (sym h.is) (kept h.ending h.told)
  where
    kept : (ending : Option Word) → (ending ≡ None) ⊎ (ending ≡ Some (on_word c.on)) → CoverIs c (Some (with_row (s ∷ ss) (record { inputs = length c.inputs; ending = ending })))
    kept None told = record { ending = last_word (s ∷ ss); is = refl; told = inr (last_of_row c.on r s ss e) }
    kept (Some w) told = record { ending = Some w; is = refl; told = told }

-- LINE BY LINE

-- a command's words, and then the lines behind it
command_step : (had : List Use) (command : Command) (s : Spot) (ss : List Spot) (ts : List (List Spot)) (rest : Option ReadRefusal) → AreFineParts (parts_of command ss) → nat_lt (length ss) (least_words command) ≡ false → IsClear (had ++ (filter_map use_of (parts_of command ss) ++ uses ts)) → IsFine rest → IsFine (or_else (command_fault had s command ss) rest)
command_step had command s ss ts rest fine enough clear h =
    or_else_fine (or_else_fine (parts_are_fine had 0 (parts_of command ss) (uses ts) fine clear) (no_fault (nat_lt (length ss) (least_words command)) MissingWord s.place enough)) h

never_less : (n : ℕ) → nat_lt n 0 ≡ false
never_less n = grind (arith, nat_tests)

abbrev pub GoesOn : Open → List (List Spot) → Type 0
GoesOn p ts = (had : List Use) (cover : Option OpenCover) → IsOpenAs p cover → IsClear (had ++ uses ts) → IsFine (spots_fault (saying cover had) ts)

moved : (had us vs : List Use) → IsClear (had ++ (us ++ vs)) → IsClear ((had ++ us) ++ vs)
moved had us vs clear = subst IsClear (sym (append_assoc had us vs)) clear

inputs_go : (s : Spot) (ss : List Spot) (ts : List (List Spot)) (had : List Use) (cover : Option OpenCover) → GoesOn Shut ts → IsClear (had ++ uses ((with_word s (codes ".inputs") ∷ ss) ∷ ts)) → IsFine (spots_fault (saying cover had) ((with_word s (codes ".inputs") ∷ ss) ∷ ts))
inputs_go s ss ts had cover go clear =
    let here = filter_map use_of (all_are (Name Input) ss) in
    command_step had Inputs (with_word s (codes ".inputs")) ss ts (spots_fault (saying None (had ++ here)) ts) (all_fine Input ss) (never_less (length ss)) clear
    (go (had ++ here) None tt (moved had here (uses ts) clear))

outputs_go : (s : Spot) (ss : List Spot) (ts : List (List Spot)) (had : List Use) (cover : Option OpenCover) → GoesOn Shut ts → IsClear (had ++ uses ((with_word s (codes ".outputs") ∷ ss) ∷ ts)) → IsFine (spots_fault (saying cover had) ((with_word s (codes ".outputs") ∷ ss) ∷ ts))
outputs_go s ss ts had cover go clear =
    let here = filter_map use_of (all_are (Name Output) ss) in
    command_step had Outputs (with_word s (codes ".outputs")) ss ts (spots_fault (saying None (had ++ here)) ts) (all_fine Output ss) (never_less (length ss)) clear
    (go (had ++ here) None tt (moved had here (uses ts) clear))

clocks_go : (s : Spot) (ss : List Spot) (ts : List (List Spot)) (had : List Use) (cover : Option OpenCover) → GoesOn Shut ts → IsClear (had ++ uses ((with_word s (codes ".clock") ∷ ss) ∷ ts)) → IsFine (spots_fault (saying cover had) ((with_word s (codes ".clock") ∷ ss) ∷ ts))
clocks_go s ss ts had cover go clear =
    let here = filter_map use_of (all_are (Name ClockInput) ss) in
    command_step had Clock (with_word s (codes ".clock")) ss ts (spots_fault (saying None (had ++ here)) ts) (all_fine ClockInput ss) (never_less (length ss)) clear
    (go (had ++ here) None tt (moved had here (uses ts) clear))

abbrev Steps : Spot → List Spot → List (List Spot) → List Use → Option OpenCover → Word → Type 0
Steps s ss ts had cover w = IsClear (had ++ uses ((with_word s w ∷ ss) ∷ ts)) → IsFine (spots_fault (saying cover had) ((with_word s w ∷ ss) ∷ ts))

list_goes : (s : Spot) (ss : List Spot) (ts : List (List Spot)) (had : List Use) (cover : Option OpenCover) → ListWord s.word → GoesOn Shut ts → Steps s ss ts had cover s.word
list_goes s ss ts had cover (IsInputs e) go = subst (Steps s ss ts had cover) (sym e) (inputs_go s ss ts had cover go)
list_goes s ss ts had cover (IsOutputs e) go = subst (Steps s ss ts had cover) (sym e) (outputs_go s ss ts had cover go)
list_goes s ss ts had cover (IsClock e) go = subst (Steps s ss ts had cover) (sym e) (clocks_go s ss ts had cover go)

latch_goes : (s : Spot) (ss : List Spot) (ts : List (List Spot)) (had : List Use) (cover : Option OpenCover) (l : Latch) → words ss ≡ latch_words l → IsGoodLatch l → GoesOn Shut ts → Steps s ss ts had cover (codes ".latch")
latch_goes s ss ts had cover l e good go clear =
    let here = filter_map use_of (latch_parts_of ss) in
    let fine = latch_fine ss l.input l.output l.timing l.init e good.init in
    command_step had LatchOf (with_word s (codes ".latch")) ss ts (spots_fault (saying None (had ++ here)) ts) fine.0 fine.1 clear
    (go (had ++ here) None tt (moved had here (uses ts) clear))

names_count : (ss : List Spot) (xs : List Word) (y : Word) → words ss ≡ xs ++ y ∷ [] → (length ss - 1 ≡ length xs) × (nat_lt (length ss) 1 ≡ false)
names_count ss xs y e =
    let size : length ss ≡ length xs + 1 = sym (length-words ss) ∙ (ap length e ∙ length-push xs y) in
    (omega arith, grind (arith, nat_tests))
  where
    length-words : (ss : List Spot) → length (words ss) ≡ length ss
    length-words [] = refl
    length-words (s ∷ ss) = ap (λ n. suc n) (length-words ss)

    length-push : (xs : List Word) (y : Word) → length (xs ++ y ∷ []) ≡ length xs + 1
    length-push [] y = refl
    length-push (x ∷ xs) y = omega (arith, length-push xs y)

names_go : (s : Spot) (ss : List Spot) (ts : List (List Spot)) (had : List Use) (cover : Option OpenCover) (c : Cover) → words ss ≡ c.inputs ++ c.output ∷ [] → GoesOn (Rows c c.rows) ts → Steps s ss ts had cover (codes ".names")
names_go s ss ts had cover c e go clear =
    let here = filter_map use_of (names_parts ss) in
    let count = names_count ss c.inputs c.output e in
    let opened : CoverIs c (Some (record { inputs = length ss - 1; ending = None })) = record { ending = None; is = ap (λ n. Some (record { inputs = n; ending = None })) count.0; told = inl refl } in
    command_step had Names (with_word s (codes ".names")) ss ts (spots_fault (saying (Some (record { inputs = length ss - 1; ending = None })) (had ++ here)) ts) (names_fine ss) count.1 clear
    (go (had ++ here) (Some (record { inputs = length ss - 1; ending = None })) opened (moved had here (uses ts) clear))

row_goes : (s : Spot) (ss : List Spot) (ts : List (List Spot)) (had : List Use) (cover : Option OpenCover) (c : Cover) (r : List Literal) (rs : List (List Literal)) → words (s ∷ ss) ≡ row_words c.on r → length r ≡ length c.inputs → CoverIs c cover → GoesOn (Rows c rs) ts → IsClear (had ++ uses ((s ∷ ss) ∷ ts)) → IsFine (spots_fault (saying cover had) ((s ∷ ss) ∷ ts))
row_goes s ss ts had cover c r rs e size opened go clear =
    let is : IsRowWord s.word = subst IsRowWord (sym (row_word s ss c.on r e)) (row_word_is c.on r) in
    let fine : IsFine (row_fault (record { inputs = length c.inputs; ending = opened.ending }) s ss) = row_is_fine c.on r (length c.inputs) opened.ending s ss e size opened.told in
    let here : IsFine (words_fault (saying cover had) (s ∷ ss)) =
    subst (λ (o : Option OpenCover). IsFine (words_fault (saying o had) (s ∷ ss))) (sym opened.is) (rw is.no_dot fine) in
    let same : IsClear (had ++ uses ts) = subst (λ (us : List Use). IsClear (had ++ (us ++ uses ts))) (row_uses s ss c.on r e) clear in
    let rest = go had (option_map (with_row (s ∷ ss)) cover) (row_kept c cover r s ss e opened) same in
    or_else_fine here (subst (λ (said : Said). IsFine (spots_fault said ts)) (sym (after_row cover had s ss c.on r e)) rest)

end_goes : (s : Spot) (had : List Use) (cover : Option OpenCover) → Steps s [] [] had cover (codes ".end")
end_goes s had cover clear = no_refusal

pub body_goes : (p : Open) (ts : List (List Spot)) (ls : List Latch) (cs : List Cover) → Body p ts ls cs → GoesOn p ts
body_goes p ts ls cs (Done q n) had cover opened clear = no_refusal
body_goes p ts ls cs (EndLine q s e n) had cover opened clear = subst (Steps s [] [] had cover) (sym e) (end_goes s had cover) clear
body_goes p ts ls cs (ListLine q s ss us ks ds e n b) had cover opened clear = list_goes s ss us had cover e (body_goes Shut us ks ds b) clear
body_goes p ts ls cs (LatchLine q s ss us l ks ds e w good n b) had cover opened clear = subst (Steps s ss us had cover) (sym e) (latch_goes s ss us had cover l w good (body_goes Shut us ks ds b)) clear
body_goes p ts ls cs (NamesLine q s ss us ks c ds e w n b) had cover opened clear = subst (Steps s ss us had cover) (sym e) (names_go s ss us had cover c w (body_goes (Rows c c.rows) us ks ds b)) clear
body_goes p ts ls cs (RowLine s ss us ks c r rs ds w n b) had cover opened clear = row_goes s ss us had cover c r rs w n opened (body_goes (Rows c rs) us ks ds b) clear
