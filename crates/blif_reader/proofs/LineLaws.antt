-- What a line adds to what is said.
use Rattle.std.proofs.Common.{◌≡◌, ℕ, ◌-◌, List, [], ◌∷◌, ◌++◌, length, Bool, true, ◌||◌, inl, inr, refl, sym, ◌∙◌, ap, subst, Option, None, Some, Result, Ok, Err}
use Rattle.std.specs.Prelude.{if◌then◌else◌, OnOk, IfErr, codes}
use Rattle.std.specs.List.{filter_map}
use Rattle.std.specs.Option.{option_map}
use Rattle.rm_model.specs.Words.{is_word}
use Rattle.blif_lines.specs.Layout.{Spot}
use Rattle.blif_format.specs.Uses.{command_in, command_words, command_of, parts_of, Use, use_of, uses_of}
use Rattle.blif_format.specs.declared.words.Command.{Command}
use Rattle.blif_format.specs.declared.words.Command.TheVariants.{Model, Inputs, Outputs, Clock, Names, Latch, End}
use Rattle.blif_format.specs.FirstFault.{command_fault, first_line_fault, Said, OpenCover as SaidCover, is_dotted, with_row, after_line, fault}
use Rattle.blif_format.specs.declared.refusal.ReadRefusal.{ReadRefusal}
use Rattle.blif_format.specs.declared.refusal.FaultKind.TheVariants.{NoModel}
use Rattle.blif_reader.specs.Meant.{IsRefusal}
use Rattle.blif_reader.specs.Inner.Tally.{IsTally}
use Rattle.blif_reader.specs.Rows.{cover_for, ends}
use Rattle.blif_reader.specs.Inner.Said.{IsSaid}
use Rattle.blif_reader.specs.Rows.{said_cover}
use Rattle.blif_reader.specs.declared.check.Checker.{Checker}
use Rattle.blif_reader.proofs.Compared.{word_tells}
use Rattle.rm_base.specs.Words.{Word}

abbrev pub word_for : Command → Word
word_for Model = codes ".model"
word_for Inputs = codes ".inputs"
word_for Outputs = codes ".outputs"
word_for Clock = codes ".clock"
word_for Names = codes ".names"
word_for Latch = codes ".latch"
word_for End = codes ".end"

abbrev AreNamed : List (Word × Command) → Type 0
AreNamed [] = Unit {0}
AreNamed (e ∷ es) = (e.0 ≡ word_for e.1) × AreNamed es

looked : (es : List (Word × Command)) (w : Word) (k : Command) → AreNamed es → command_in es w ≡ Some k → w ≡ word_for k
looked [] w k n h = cc
looked (e ∷ es) w k n h = elim (word_tells e.0 w) [
  | inl t ↦ let same : Some e.1 ≡ Some k = ap (λ (b : Bool). if b then Some e.1 else command_in es w) (sym t.0) ∙ h in let is : e.1 ≡ k = cc in sym t.1 ∙ n.0 ∙ ap word_for is
  | inr t ↦ looked es w k n.1 (ap (λ (b : Bool). if b then Some e.1 else command_in es w) (sym t.0) ∙ h)
]

pub command_word : (w : Word) (k : Command) → command_of w ≡ Some k → w ≡ word_for k
command_word w k h = looked command_words w k (refl, (refl, (refl, (refl, (refl, (refl, (refl, tt))))))) h

end_case : (k : Command) → is_word (codes ".end") (word_for k) ≡ ends k
end_case Model = refl
end_case Inputs = refl
end_case Outputs = refl
end_case Clock = refl
end_case Names = refl
end_case Latch = refl
end_case End = refl

cover_case : (k : Command) (n : ℕ) (o : Option SaidCover) → (if is_dotted (word_for k) then (if is_word (codes ".names") (word_for k) then Some (record { inputs = n - 1; ending = None }) else None) else o) ≡ cover_for k n
cover_case Model n o = refl
cover_case Inputs n o = refl
cover_case Outputs n o = refl
cover_case Clock n o = refl
cover_case Names n o = refl
cover_case Latch n o = refl
cover_case End n o = refl

pub uses_case : (s : Spot) (ss : List Spot) (k : Command) → command_of s.word ≡ Some k → uses_of (s ∷ ss) ≡ filter_map use_of (parts_of k ss)
uses_case s ss k h = at (command_of s.word) h
  where
    at : (o : Option Command) → o ≡ Some k → elim o as (λ _. List Use) [ None ↦ [] | Some command ↦ filter_map use_of (parts_of command ss) ] ≡ filter_map use_of (parts_of k ss)
    at None e = cc
    at (Some j) e = let same : j ≡ k = cc in ap (λ (c : Command). filter_map use_of (parts_of c ss)) same

pub after_ended : (said : Said) (k : Command) (s : Spot) (ss : List Spot) → command_of s.word ≡ Some k → (after_line said (s ∷ ss)).ended ≡ (said.ended || ends k)
after_ended said k s ss h = ap (λ (x : Word). said.ended || is_word (codes ".end") x) (command_word s.word k h) ∙ ap (λ (b : Bool). said.ended || b) (end_case k)

pub after_cover : (said : Said) (k : Command) (s : Spot) (ss : List Spot) → command_of s.word ≡ Some k → (after_line said (s ∷ ss)).cover ≡ cover_for k (length ss)
after_cover said k s ss h = ap (λ (x : Word). if is_dotted x then (if is_word (codes ".names") x then Some (record { inputs = length ss - 1; ending = None }) else None) else option_map (with_row (s ∷ ss)) said.cover) (command_word s.word k h) ∙ cover_case k (length ss) (option_map (with_row (s ∷ ss)) said.cover)

pub said_command_line : (said : Said) (c d : Checker) (k : Command) (s : Spot) (ss : List Spot) → IsSaid said c → command_of s.word ≡ Some k → d.began ≡ true → d.ended ≡ (c.ended || ends k) → option_map said_cover d.cover ≡ cover_for k (length ss) → IsTally (said.uses ++ filter_map use_of (parts_of k ss)) d.names → IsSaid (after_line said (s ∷ ss)) d
said_command_line said c d k s ss is h began ended cover tally = record {
  began = sym began;
  ended = after_ended said k s ss h ∙ ap (λ (b : Bool). b || ends k) is.ended ∙ sym ended;
  cover = after_cover said k s ss h ∙ sym cover;
  tally = subst (λ (us : List Use). IsTally (said.uses ++ us) d.names) (sym (uses_case s ss k h)) tally;
}

title_any : (had : List Use) (s : Spot) (ss : List Spot) → command_fault had s Model ss ≡ command_fault [] s Model ss
title_any had s [] = refl
title_any had s (t ∷ []) = refl
title_any had s (t ∷ u ∷ ss) = refl

pub first_is : (had : List Use) (s : Spot) (ss : List Spot) → is_word (codes ".model") s.word ≡ true → command_fault had s Model ss ≡ first_line_fault s ss
first_is had s ss h = title_any had s ss ∙ ap (λ (b : Bool). if b then command_fault [] s Model ss else fault NoModel s.place) (sym h)

pub on_ok : (r : Result (Unit {0}) ReadRefusal) (P Q : Type 0) → (P → Q) → OnOk r P → OnOk r Q
on_ok (Ok u) P Q f h = f h
on_ok (Err e) P Q f h = tt

pub if_err : (r : Result (Unit {0}) ReadRefusal) (f g : Option ReadRefusal) → f ≡ g → IfErr r (λ e. IsRefusal e f) → IfErr r (λ e. IsRefusal e g)
if_err r f g e h = subst (λ (o : Option ReadRefusal). IfErr r (λ e. IsRefusal e o)) e h
