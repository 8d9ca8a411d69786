-- The names of a model's parts, by the words of its lines.
use Rattle.std.proofs.Common.{◌≡◌, ℕ, List, [], ◌∷◌, ◌++◌, map, filter, Bool, true, false, inl, inr, refl, sym, ◌∙◌, ap, Option, None, Some}
use Rattle.std.specs.Prelude.{if◌then◌else◌, codes}
use Rattle.std.specs.List.{cons_option, filter_map, flat_map}
use Rattle.std.proofs.lemmas.List.{append-nil}
use Rattle.rm_model.specs.Value.{control_of}
use Rattle.rm_model.specs.declared.parts.Timing.{Timing}
use Rattle.rm_model.specs.declared.parts.Cover.{Cover}
use Rattle.rm_model.specs.declared.parts.Latch.{Latch as LatchPart}
use Rattle.blif_format.specs.Text.{Line, control_word, timing_words, init_words, latch_words, cover_words}
use Rattle.blif_format.specs.Inner.Text.{IsControlName}
use Rattle.blif_format.specs.Grammar.{begins_with, words_after, words_of, names_lines}
use Rattle.blif_format.specs.declared.words.Role.{Role}
use Rattle.blif_format.specs.declared.words.Role.TheVariants.{CoverInput, CoverOutput, LatchInput, LatchOutput, Control}
use Rattle.blif_reader.proofs.Compared.{word_tells}
use Rattle.blif_reader.proofs.NameLaws.{word_if, control_if, list_picks, cover_picks, latch_picks}
use Rattle.rm_base.specs.Words.{Word}

pub list_words : (x : Word) (ls : List Line) → flat_map (λ (ws : List Word). ws) (map words_after (filter (begins_with x) ls)) ≡ words_of x ls
list_words x ls = go (filter (begins_with x) ls)
  where
    go : (ls : List Line) → flat_map (λ (ws : List Word). ws) (map words_after ls) ≡ flat_map words_after ls
    go [] = refl
    go (l ∷ ls) = ap (λ xs. words_after l ++ xs) (go ls)

pub names_words : (f : List Word → List Word) (ls : List Line) → flat_map f (map words_after (filter (begins_with (codes ".names")) ls)) ≡ flat_map (λ (x : Line × List Line). f x.0) (names_lines ls)
names_words f [] = refl
names_words f (l ∷ ls) = at (begins_with (codes ".names") l) refl (names_words f ls)
  where
    at : (b : Bool) → begins_with (codes ".names") l ≡ b → flat_map f (map words_after (filter (begins_with (codes ".names")) ls)) ≡ flat_map (λ (x : Line × List Line). f x.0) (names_lines ls) → flat_map f (map words_after (filter (begins_with (codes ".names")) (l ∷ ls))) ≡ flat_map (λ (x : Line × List Line). f x.0) (names_lines (l ∷ ls))
    at true e ih = rw e (ap (λ xs. f (words_after l) ++ xs) ih)
    at false e ih = rw e ih

last_picks : (t : Role → Bool) (xs : List Word) (y : Word) → cover_picks t (xs ++ y ∷ []) ≡ list_picks (t CoverInput) xs ++ word_if (t CoverOutput) y
last_picks t [] y = at (t CoverInput)
  where
    at : (b : Bool) → word_if (t CoverOutput) y ≡ list_picks b [] ++ word_if (t CoverOutput) y
    at true = refl
    at false = refl
last_picks t (x ∷ []) y = at (t CoverInput)
  where
    at : (b : Bool) → word_if b x ++ word_if (t CoverOutput) y ≡ list_picks b (x ∷ []) ++ word_if (t CoverOutput) y
    at true = refl
    at false = refl
last_picks t (x ∷ z ∷ zs) y = ap (λ xs. word_if (t CoverInput) x ++ xs) (last_picks t (z ∷ zs) y) ∙ at (t CoverInput)
  where
    at : (b : Bool) → word_if b x ++ (list_picks b (z ∷ zs) ++ word_if (t CoverOutput) y) ≡ list_picks b (x ∷ z ∷ zs) ++ word_if (t CoverOutput) y
    at true = refl
    at false = refl

pub cover_names_in : (t : Role → Bool) (cs : List Cover) → flat_map (λ (x : Line × List Line). cover_picks t x.0) (map cover_words cs) ≡ flat_map (λ (c : Cover). list_picks (t CoverInput) c.inputs ++ word_if (t CoverOutput) c.output) cs
cover_names_in t [] = refl
cover_names_in t (c ∷ cs) = ap (λ xs. xs ++ flat_map (λ (x : Line × List Line). cover_picks t x.0) (map cover_words cs)) (last_picks t c.inputs c.output) ∙ ap (λ xs. (list_picks (t CoverInput) c.inputs ++ word_if (t CoverOutput) c.output) ++ xs) (cover_names_in t cs)

control_words : (t : Role → Bool) (o : Option Word) → IsControlName o → control_if t (control_word o) ≡ list_picks (t Control) (cons_option o [])
control_words t None n = at (t Control)
  where
    at : (b : Bool) → [] ≡ list_picks b []
    at true = refl
    at false = refl
control_words t (Some x) n = elim (word_tells (codes "NIL") x) [ inl h ↦ absurd (n (sym h.1)) | inr h ↦ ap (λ (b : Bool). if b then [] else word_if (t Control) x) h.0 ]

latch_words_in : (t : Role → Bool) (l : LatchPart) → IsControlName (control_of l) → latch_picks t (latch_words l) ≡ word_if (t LatchInput) l.input ++ (word_if (t LatchOutput) l.output ++ list_picks (t Control) (cons_option (control_of l) []))
latch_words_in t l = at l.timing l.init
  where
    none : (b : Bool) → [] ≡ list_picks b []
    none true = refl
    none false = refl

    without : (b : Bool) → word_if (t LatchInput) l.input ++ word_if (t LatchOutput) l.output ≡ word_if (t LatchInput) l.input ++ (word_if (t LatchOutput) l.output ++ list_picks b [])
    without b = ap (λ xs. word_if (t LatchInput) l.input ++ xs) (sym (append-nil (word_if (t LatchOutput) l.output)) ∙ ap (λ xs. word_if (t LatchOutput) l.output ++ xs) (none b))

    at : (o : Option Timing) (i : Option ℕ) → IsControlName (elim o [ None ↦ None | Some u ↦ u.control ]) → latch_picks t ((l.input ∷ l.output ∷ timing_words o) ++ init_words i) ≡ word_if (t LatchInput) l.input ++ (word_if (t LatchOutput) l.output ++ list_picks (t Control) (cons_option (elim o [ None ↦ None | Some u ↦ u.control ]) []))
    at None None n = without (t Control)
    at None (Some k) n = without (t Control)
    at (Some u) None n = ap (λ xs. word_if (t LatchInput) l.input ++ (word_if (t LatchOutput) l.output ++ xs)) (control_words t u.control n)
    at (Some u) (Some k) n = ap (λ xs. word_if (t LatchInput) l.input ++ (word_if (t LatchOutput) l.output ++ xs)) (control_words t u.control n)

abbrev pub AreNames : List LatchPart → Type 0
AreNames [] = Unit {0}
AreNames (l ∷ ls) = IsControlName (control_of l) × AreNames ls

pub latch_names_in : (t : Role → Bool) (ls : List LatchPart) → AreNames ls → flat_map (latch_picks t) (map latch_words ls) ≡ flat_map (λ (l : LatchPart). word_if (t LatchInput) l.input ++ (word_if (t LatchOutput) l.output ++ list_picks (t Control) (cons_option (control_of l) []))) ls
latch_names_in t [] n = refl
latch_names_in t (l ∷ ls) n = ap (λ xs. xs ++ flat_map (latch_picks t) (map latch_words ls)) (latch_words_in t l n.0) ∙ ap (λ xs. (word_if (t LatchInput) l.input ++ (word_if (t LatchOutput) l.output ++ list_picks (t Control) (cons_option (control_of l) []))) ++ xs) (latch_names_in t ls n.1)

pub singles : {A : Type 0} (f : A → Word) (xs : List A) → flat_map (λ (x : A). f x ∷ []) xs ≡ map f xs
singles f [] = refl
singles f (x ∷ xs) = ap (λ ys. f x ∷ ys) (singles f xs)

pub options : {A : Type 0} (f : A → Option Word) (xs : List A) → flat_map (λ (x : A). cons_option (f x) []) xs ≡ filter_map f xs
options f [] = refl
options f (x ∷ xs) = at (f x) ∙ ap (cons_option (f x)) (options f xs)
  where
    at : (o : Option Word) → cons_option o [] ++ flat_map (λ y. cons_option (f y) []) xs ≡ cons_option o (flat_map (λ y. cons_option (f y) []) xs)
    at None = refl
    at (Some y) = refl
