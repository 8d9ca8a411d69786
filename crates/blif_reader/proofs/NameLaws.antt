-- The names that a text uses, by the words of its lines.
use Rattle.std.proofs.Common.{◌≡◌, List, [], ◌∷◌, ◌++◌, map, filter, Bool, true, false, inl, inr, refl, sym, ◌∙◌, ap, append_assoc, Option, None, Some}
use Rattle.std.specs.Prelude.{if◌then◌else◌, codes}
use Rattle.std.specs.List.{cons_option, filter_map, flat_map}
use Rattle.std.proofs.lemmas.List.{append-nil}
use Rattle.blif_reader.proofs.TokenLaws.{spelled}
use Rattle.rm_model.specs.Words.{is_word}
use Rattle.blif_lines.specs.Layout.{Spot, Logical, words_in, has_words}
use Rattle.blif_format.specs.Text.{Line}
use Rattle.blif_format.specs.Grammar.{begins_with, words_after}
use Rattle.blif_format.specs.Uses.{command_of, all_are, in_parts, names_parts, parts_of, Use, use_of, uses_of, names_in, is_clock, is_input, is_output}
use Rattle.blif_format.specs.declared.words.Command.{Command}
use Rattle.blif_format.specs.declared.words.Command.TheVariants.{Model, Inputs, Outputs, Clock, Names, Latch, End}
use Rattle.blif_format.specs.declared.words.Role.{Role}
use Rattle.blif_format.specs.declared.words.Role.TheVariants.{Input, ClockInput, Output, CoverInput, CoverOutput, LatchInput, LatchOutput, Control}
use Rattle.blif_format.specs.declared.words.Part.TheVariants.{Name, Init, Extra}
use Rattle.blif_format.specs.FirstFault.{Said, after_line, said_by, is_cover_input}
use Rattle.blif_reader.specs.Inner.Tally.{is_latch, is_cover}
use Rattle.blif_reader.proofs.Compared.{word_tells}
use Rattle.blif_reader.proofs.LineLaws.{word_for, command_word}
use Rattle.rm_base.specs.Words.{Word}

abbrev pub is_latch_input : Role → Bool
is_latch_input LatchInput = true
is_latch_input role = false

abbrev pub is_control : Role → Bool
is_control Control = true
is_control role = false

-- THE USES OF A TEXT
abbrev pub all_uses : List Logical → List Use
all_uses ls = flat_map (λ (l : Logical). uses_of l.tokens) ls

pub line_uses : (said : Said) (ts : List Spot) → (after_line said ts).uses ≡ said.uses ++ uses_of ts
line_uses said [] = sym (append-nil said.uses)
line_uses said (s ∷ ss) = refl

pub said_uses : (said : Said) (ls : List Logical) → (said_by said ls).uses ≡ said.uses ++ all_uses ls
said_uses said [] = sym (append-nil said.uses)
said_uses said (l ∷ ls) = said_uses (after_line said l.tokens) ls ∙ ap (λ us. us ++ all_uses ls) (line_uses said l.tokens) ∙ append_assoc said.uses (uses_of l.tokens) (all_uses ls)

-- NAMES OF USES
abbrev pub word_if : Bool → Word → List Word
word_if t w = if t then w ∷ [] else []

names_cons : (t : Role → Bool) (u : Use) (us : List Use) → names_in t (u ∷ us) ≡ word_if (t u.role) u.name ++ names_in t us
names_cons t u us = at (t u.role) refl
  where
    at : (b : Bool) → t u.role ≡ b → names_in t (u ∷ us) ≡ word_if (t u.role) u.name ++ names_in t us
    at true e = rw e refl
    at false e = rw e refl

pub names_append : (t : Role → Bool) (us vs : List Use) → names_in t (us ++ vs) ≡ names_in t us ++ names_in t vs
names_append t [] vs = refl
names_append t (u ∷ us) vs = names_cons t u (us ++ vs) ∙ ap (λ xs. word_if (t u.role) u.name ++ xs) (names_append t us vs) ∙ sym (append_assoc (word_if (t u.role) u.name) (names_in t us) (names_in t vs)) ∙ ap (λ xs. xs ++ names_in t vs) (sym (names_cons t u us))

-- WORDS OF A COMMAND, BY THE ROLES THAT PASS
abbrev pub list_picks : Bool → List Word → List Word
list_picks t ws = if t then ws else []

abbrev pub cover_picks : (Role → Bool) → List Word → List Word
cover_picks t [] = []
cover_picks t (w ∷ []) = word_if (t CoverOutput) w
cover_picks t (w ∷ v ∷ ws) = word_if (t CoverInput) w ++ cover_picks t (v ∷ ws)

abbrev pub control_if : (Role → Bool) → Word → List Word
control_if t w = if is_word (codes "NIL") w then [] else word_if (t Control) w

abbrev pub latch_picks : (Role → Bool) → List Word → List Word
latch_picks t [] = []
latch_picks t (a ∷ []) = word_if (t LatchInput) a
latch_picks t (a ∷ b ∷ []) = word_if (t LatchInput) a ++ word_if (t LatchOutput) b
latch_picks t (a ∷ b ∷ c ∷ []) = word_if (t LatchInput) a ++ word_if (t LatchOutput) b
latch_picks t (a ∷ b ∷ c ∷ d ∷ ws) = word_if (t LatchInput) a ++ (word_if (t LatchOutput) b ++ control_if t d)

abbrev pub picks : (Role → Bool) → Command → List Word → List Word
picks t Model ws = []
picks t Inputs ws = list_picks (t Input) ws
picks t Outputs ws = list_picks (t Output) ws
picks t Clock ws = list_picks (t ClockInput) ws
picks t Names ws = cover_picks t ws
picks t Latch ws = latch_picks t ws
picks t End ws = []

extras_none : (ss : List Spot) → filter_map use_of (all_are Extra ss) ≡ []
extras_none [] = refl
extras_none (s ∷ ss) = extras_none ss

-- the words of `.model` use no name
pub model_none : (ss : List Spot) → filter_map use_of (parts_of Model ss) ≡ []
model_none [] = refl
model_none (s ∷ []) = refl
model_none (s ∷ t ∷ ss) = extras_none ss

input_list : (t : Role → Bool) (ss : List Spot) → names_in t (filter_map use_of (all_are (Name Input) ss)) ≡ list_picks (t Input) (spelled ss)
input_list t [] = at (t Input)
  where
    at : (b : Bool) → [] ≡ list_picks b []
    at true = refl
    at false = refl
input_list t (s ∷ ss) = names_cons t (record { role = Input; name = s.word; place = s.place }) (filter_map use_of (all_are (Name Input) ss)) ∙ ap (λ xs. word_if (t Input) s.word ++ xs) (input_list t ss) ∙ at (t Input)
  where
    at : (b : Bool) → word_if b s.word ++ list_picks b (spelled ss) ≡ list_picks b (s.word ∷ spelled ss)
    at true = refl
    at false = refl

output_list : (t : Role → Bool) (ss : List Spot) → names_in t (filter_map use_of (all_are (Name Output) ss)) ≡ list_picks (t Output) (spelled ss)
output_list t [] = at (t Output)
  where
    at : (b : Bool) → [] ≡ list_picks b []
    at true = refl
    at false = refl
output_list t (s ∷ ss) = names_cons t (record { role = Output; name = s.word; place = s.place }) (filter_map use_of (all_are (Name Output) ss)) ∙ ap (λ xs. word_if (t Output) s.word ++ xs) (output_list t ss) ∙ at (t Output)
  where
    at : (b : Bool) → word_if b s.word ++ list_picks b (spelled ss) ≡ list_picks b (s.word ∷ spelled ss)
    at true = refl
    at false = refl

clockinput_list : (t : Role → Bool) (ss : List Spot) → names_in t (filter_map use_of (all_are (Name ClockInput) ss)) ≡ list_picks (t ClockInput) (spelled ss)
clockinput_list t [] = at (t ClockInput)
  where
    at : (b : Bool) → [] ≡ list_picks b []
    at true = refl
    at false = refl
clockinput_list t (s ∷ ss) = names_cons t (record { role = ClockInput; name = s.word; place = s.place }) (filter_map use_of (all_are (Name ClockInput) ss)) ∙ ap (λ xs. word_if (t ClockInput) s.word ++ xs) (clockinput_list t ss) ∙ at (t ClockInput)
  where
    at : (b : Bool) → word_if b s.word ++ list_picks b (spelled ss) ≡ list_picks b (s.word ∷ spelled ss)
    at true = refl
    at false = refl

cover_list : (t : Role → Bool) (ss : List Spot) → names_in t (filter_map use_of (names_parts ss)) ≡ cover_picks t (spelled ss)
cover_list t [] = refl
cover_list t (s ∷ []) = names_cons t (record { role = CoverOutput; name = s.word; place = s.place }) [] ∙ append-nil (word_if (t CoverOutput) s.word)
cover_list t (s ∷ r ∷ ss) = names_cons t (record { role = CoverInput; name = s.word; place = s.place }) (filter_map use_of (names_parts (r ∷ ss))) ∙ ap (λ xs. word_if (t CoverInput) s.word ++ xs) (cover_list t (r ∷ ss))

control_list : (t : Role → Bool) (s : Spot) (us : List Use) → us ≡ [] → names_in t (cons_option (use_of (Name Control, s)) us) ≡ control_if t s.word
control_list t s us n = at (is_word (codes "NIL") s.word) refl
  where
    at : (b : Bool) → is_word (codes "NIL") s.word ≡ b → names_in t (cons_option (use_of (Name Control, s)) us) ≡ control_if t s.word
    at true e = rw e (ap (names_in t) n)
    at false e = rw e (names_cons t (record { role = Control; name = s.word; place = s.place }) us ∙ ap (λ vs. word_if (t Control) s.word ++ names_in t vs) n ∙ append-nil (word_if (t Control) s.word))

latch_two : (t : Role → Bool) (a b : Spot) (us : List Use) (ws : List Word) → names_in t us ≡ ws → names_in t (record { role = LatchInput; name = a.word; place = a.place } ∷ record { role = LatchOutput; name = b.word; place = b.place } ∷ us) ≡ word_if (t LatchInput) a.word ++ (word_if (t LatchOutput) b.word ++ ws)
latch_two t a b us ws e =
    names_cons t (record { role = LatchInput; name = a.word; place = a.place }) (record { role = LatchOutput; name = b.word; place = b.place } ∷ us)
    ∙ ap (λ xs. word_if (t LatchInput) a.word ++ xs) (names_cons t (record { role = LatchOutput; name = b.word; place = b.place }) us ∙ ap (λ xs. word_if (t LatchOutput) b.word ++ xs) e)

latch_list : (t : Role → Bool) (ss : List Spot) → names_in t (filter_map use_of (parts_of Latch ss)) ≡ latch_picks t (spelled ss)
latch_list t [] = refl
latch_list t (a ∷ []) = names_cons t (record { role = LatchInput; name = a.word; place = a.place }) [] ∙ append-nil (word_if (t LatchInput) a.word)
latch_list t (a ∷ b ∷ []) = latch_two t a b [] [] refl ∙ ap (λ xs. word_if (t LatchInput) a.word ++ xs) (append-nil (word_if (t LatchOutput) b.word))
latch_list t (a ∷ b ∷ c ∷ []) = latch_two t a b [] [] refl ∙ ap (λ xs. word_if (t LatchInput) a.word ++ xs) (append-nil (word_if (t LatchOutput) b.word))
latch_list t (a ∷ b ∷ c ∷ d ∷ []) = latch_two t a b (cons_option (use_of (Name Control, d)) []) (control_if t d.word) (control_list t d [] refl)
latch_list t (a ∷ b ∷ c ∷ d ∷ e ∷ ss) = latch_two t a b (cons_option (use_of (Name Control, d)) (filter_map use_of (in_parts (Init ∷ []) (e ∷ ss)))) (control_if t d.word) (control_list t d (filter_map use_of (in_parts (Init ∷ []) (e ∷ ss))) (after ss))
  where
    after : (ss : List Spot) → filter_map use_of (in_parts [] ss) ≡ []
    after [] = refl
    after (s ∷ ss) = extras_none ss

command_list : (t : Role → Bool) (k : Command) (ss : List Spot) → names_in t (filter_map use_of (parts_of k ss)) ≡ picks t k (spelled ss)
command_list t Model ss = ap (names_in t) (model_none ss)
command_list t Inputs ss = input_list t ss
command_list t Outputs ss = output_list t ss
command_list t Clock ss = clockinput_list t ss
command_list t Names ss = cover_list t ss
command_list t Latch ss = latch_list t ss
command_list t End ss = ap (names_in t) (extras_none ss)

-- THE WORDS OF A LINE
abbrev pub picks_if : (Role → Bool) → Option Command → List Word → List Word
picks_if t None ws = []
picks_if t (Some k) ws = picks t k ws

abbrev pub line_picks : (Role → Bool) → Line → List Word
line_picks t [] = []
line_picks t (w ∷ ws) = picks_if t (command_of w) ws

line_list : (t : Role → Bool) (ts : List Spot) → names_in t (uses_of ts) ≡ line_picks t (spelled ts)
line_list t [] = refl
line_list t (s ∷ ss) = at (command_of s.word)
  where
    at : (o : Option Command) → names_in t (elim o as (λ _. List Use) [ None ↦ [] | Some k ↦ filter_map use_of (parts_of k ss) ]) ≡ picks_if t o (spelled ss)
    at None = refl
    at (Some k) = command_list t k ss

pub uses_list : (t : Role → Bool) (ls : List Logical) → names_in t (all_uses ls) ≡ flat_map (line_picks t) (filter has_words (map words_in ls))
uses_list t [] = refl
uses_list t (l ∷ ls) = names_append t (uses_of l.tokens) (all_uses ls) ∙ ap (λ xs. xs ++ names_in t (all_uses ls)) (line_list t l.tokens) ∙ ap (λ xs. line_picks t (spelled l.tokens) ++ xs) (uses_list t ls) ∙ at (spelled l.tokens)
  where
    at : (ws : Line) → line_picks t ws ++ flat_map (line_picks t) (filter has_words (map words_in ls)) ≡ flat_map (line_picks t) (filter has_words (ws ∷ map words_in ls))
    at [] = refl
    at (w ∷ ws) = refl

-- ROLES THAT STAND IN ONE COMMAND
abbrev Only : (Role → Bool) → Command → Type 0
Only t k = (j : Command) (ws : List Word) → picks t j ws ≡ (if is_word (word_for k) (word_for j) then picks t k ws else [])

begins_not : (k : Command) (w : Word) → command_of w ≡ None → command_of (word_for k) ≡ Some k → is_word (word_for k) w ≡ false
begins_not k w n s = elim (word_tells (word_for k) w) [
  | inl h ↦ let wrong : None ≡ Some k = sym n ∙ ap command_of (sym h.1) ∙ s in cc
  | inr h ↦ h.0
]

word_known : (k : Command) → command_of (word_for k) ≡ Some k
word_known Model = refl
word_known Inputs = refl
word_known Outputs = refl
word_known Clock = refl
word_known Names = refl
word_known Latch = refl
word_known End = refl

line_only : (t : Role → Bool) (k : Command) → Only t k → (l : Line) → line_picks t l ≡ (if begins_with (word_for k) l then picks t k (words_after l) else [])
line_only t k only [] = refl
line_only t k only (w ∷ ws) = at (command_of w) refl
  where
    at : (o : Option Command) → command_of w ≡ o → picks_if t o ws ≡ (if is_word (word_for k) w then picks t k ws else [])
    at None e = ap (λ (b : Bool). if b then picks t k ws else []) (sym (begins_not k w e (word_known k)))
    at (Some j) e = only j ws ∙ ap (λ x. if is_word (word_for k) x then picks t k ws else []) (sym (command_word w j e))

pub only_lines : (t : Role → Bool) (k : Command) → Only t k → (ls : List Line) → flat_map (line_picks t) ls ≡ flat_map (picks t k) (map words_after (filter (begins_with (word_for k)) ls))
only_lines t k only [] = refl
only_lines t k only (l ∷ ls) = ap (λ xs. xs ++ flat_map (line_picks t) ls) (line_only t k only l) ∙ ap (λ xs. (if begins_with (word_for k) l then picks t k (words_after l) else []) ++ xs) (only_lines t k only ls) ∙ at (begins_with (word_for k) l)
  where
    at : (b : Bool) → (if b then picks t k (words_after l) else []) ++ flat_map (picks t k) (map words_after (filter (begins_with (word_for k)) ls)) ≡ flat_map (picks t k) (map words_after (if b then l ∷ filter (begins_with (word_for k)) ls else filter (begins_with (word_for k)) ls))
    at true = refl
    at false = refl

no_cover : (t : Role → Bool) → t CoverInput ≡ false → t CoverOutput ≡ false → (ws : List Word) → cover_picks t ws ≡ []
no_cover t i o [] = refl
no_cover t i o (w ∷ []) = ap (λ b. word_if b w) o
no_cover t i o (w ∷ v ∷ ws) = ap (λ b. word_if b w ++ cover_picks t (v ∷ ws)) i ∙ no_cover t i o (v ∷ ws)

no_control : (t : Role → Bool) → t Control ≡ false → (w : Word) → control_if t w ≡ []
no_control t c w = at (is_word (codes "NIL") w)
  where
    at : (b : Bool) → (if b then [] else word_if (t Control) w) ≡ []
    at true = refl
    at false = ap (λ b. word_if b w) c

no_latch : (t : Role → Bool) → t LatchInput ≡ false → t LatchOutput ≡ false → t Control ≡ false → (ws : List Word) → latch_picks t ws ≡ []
no_latch t i o c [] = refl
no_latch t i o c (a ∷ []) = ap (λ b. word_if b a) i
no_latch t i o c (a ∷ b ∷ []) = ap (λ z. word_if z a ++ word_if (t LatchOutput) b) i ∙ ap (λ z. word_if z b) o
no_latch t i o c (a ∷ b ∷ d ∷ []) = ap (λ z. word_if z a ++ word_if (t LatchOutput) b) i ∙ ap (λ z. word_if z b) o
no_latch t i o c (a ∷ b ∷ d ∷ e ∷ ws) = ap (λ z. word_if z a ++ (word_if (t LatchOutput) b ++ control_if t e)) i ∙ ap (λ z. word_if z b ++ control_if t e) o ∙ no_control t c e

pub only_input : Only is_input Inputs
only_input Model ws = refl
only_input Inputs ws = refl
only_input Outputs ws = refl
only_input Clock ws = refl
only_input Names ws = no_cover is_input refl refl ws
only_input Latch ws = no_latch is_input refl refl refl ws
only_input End ws = refl

pub only_clock : Only is_clock Clock
only_clock Model ws = refl
only_clock Inputs ws = refl
only_clock Outputs ws = refl
only_clock Clock ws = refl
only_clock Names ws = no_cover is_clock refl refl ws
only_clock Latch ws = no_latch is_clock refl refl refl ws
only_clock End ws = refl

pub only_output : Only is_output Outputs
only_output Model ws = refl
only_output Inputs ws = refl
only_output Outputs ws = refl
only_output Clock ws = refl
only_output Names ws = no_cover is_output refl refl ws
only_output Latch ws = no_latch is_output refl refl refl ws
only_output End ws = refl

pub only_cover : Only is_cover Names
only_cover Model ws = refl
only_cover Inputs ws = refl
only_cover Outputs ws = refl
only_cover Clock ws = refl
only_cover Names ws = refl
only_cover Latch ws = no_latch is_cover refl refl refl ws
only_cover End ws = refl

pub only_cover_input : Only is_cover_input Names
only_cover_input Model ws = refl
only_cover_input Inputs ws = refl
only_cover_input Outputs ws = refl
only_cover_input Clock ws = refl
only_cover_input Names ws = refl
only_cover_input Latch ws = no_latch is_cover_input refl refl refl ws
only_cover_input End ws = refl

pub only_latch : Only is_latch Latch
only_latch Model ws = refl
only_latch Inputs ws = refl
only_latch Outputs ws = refl
only_latch Clock ws = refl
only_latch Names ws = no_cover is_latch refl refl ws
only_latch Latch ws = refl
only_latch End ws = refl

pub only_latch_input : Only is_latch_input Latch
only_latch_input Model ws = refl
only_latch_input Inputs ws = refl
only_latch_input Outputs ws = refl
only_latch_input Clock ws = refl
only_latch_input Names ws = no_cover is_latch_input refl refl ws
only_latch_input Latch ws = refl
only_latch_input End ws = refl

pub only_control : Only is_control Latch
only_control Model ws = refl
only_control Inputs ws = refl
only_control Outputs ws = refl
only_control Clock ws = refl
only_control Names ws = no_cover is_control refl refl ws
only_control Latch ws = refl
only_control End ws = refl
