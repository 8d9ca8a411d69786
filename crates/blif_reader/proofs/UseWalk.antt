-- What holds of the names used so far and stays with each use that has no fault holds of all names that lines without fault use.
use Rattle.std.proofs.Common.{◌≡◌, ℕ, ◌+◌, List, [], ◌∷◌, ◌++◌, length, Bool, true, false, refl, sym, ◌∙◌, ap, subst, append_assoc, Option, None, Some}
use Rattle.std.specs.Prelude.{if◌then◌else◌, nat_lt, codes}
use Rattle.std.specs.List.{cons_option, filter_map}
use Rattle.std.proofs.lemmas.List.{append-nil}
use Rattle.rm_model.specs.Words.{is_word}
use Rattle.blif_lines.specs.Layout.{Spot, Logical}
use Rattle.blif_format.specs.Uses.{command_of, parts_of, least_words, Use, use_of, uses_of}
use Rattle.blif_format.specs.declared.words.Command.{Command}
use Rattle.blif_format.specs.declared.words.Command.TheVariants.{Model}
use Rattle.blif_format.specs.declared.words.Part.{Part}
use Rattle.blif_format.specs.declared.words.Part.TheVariants.{Title, Name, LatchType, Init, Extra}
use Rattle.blif_format.specs.FirstFault.{or_else, fault_if, use_fault, use_fault_if, part_fault, parts_fault, command_fault, is_dotted, dotted_fault, row_fault_in, words_fault, Said, after_line, said_by, flaw_fault, lines_fault}
use Rattle.blif_format.specs.declared.refusal.FaultKind.TheVariants.{MissingWord}
use Rattle.blif_reader.proofs.LineLaws.{command_word, uses_case}
use Rattle.blif_reader.proofs.NameLaws.{model_none}
use Rattle.blif_reader.proofs.RowLaws.{first_none, second_none}
use Rattle.blif_reader.proofs.KnownLaws.{first_goes, later_goes, dotted_goes, dotted_case}
use Rattle.rm_model.proofs.Public.{same_word}

module _ (P : List Use → Type 0) (more : (had : List Use) (earlier : ℕ) (u : Use) → use_fault had earlier u ≡ None → P had → P (had ++ u ∷ [])) where
  part_use : (had : List Use) (earlier : ℕ) (p : Part × Spot) → part_fault had earlier p ≡ None → use_fault_if had earlier (use_of p) ≡ None
  part_use had earlier (Title, s) e = refl
  part_use had earlier (LatchType, s) e = refl
  part_use had earlier (Init, s) e = refl
  part_use had earlier (Extra, s) e = refl
  part_use had earlier (Name role, s) e = e

  walked_parts : (had : List Use) (earlier : ℕ) (ps : List (Part × Spot)) → parts_fault had earlier ps ≡ None → P had → P (had ++ filter_map use_of ps)
  walked_parts had earlier [] e c = subst P (sym (append-nil had)) c
  walked_parts had earlier (p ∷ ps) e c =
      let here : use_fault_if had earlier (use_of p) ≡ None = part_use had earlier p (first_none (part_fault had earlier p) (parts_fault (had ++ filter_map use_of (p ∷ [])) (earlier + 1) ps) e) in
      let rest : P ((had ++ filter_map use_of (p ∷ [])) ++ filter_map use_of ps) = walked_parts (had ++ filter_map use_of (p ∷ [])) (earlier + 1) ps (second_none (part_fault had earlier p) (parts_fault (had ++ filter_map use_of (p ∷ [])) (earlier + 1) ps) e) (at (use_of p) refl here) in
      subst P (append_assoc had (filter_map use_of (p ∷ [])) (filter_map use_of ps) ∙ ap (λ us. had ++ us) (onto (use_of p) (filter_map use_of ps))) rest
    where
      onto : (o : Option Use) (us : List Use) → cons_option o [] ++ us ≡ cons_option o us
      onto None us = refl
      onto (Some u) us = refl

      at : (o : Option Use) → use_of p ≡ o → use_fault_if had earlier o ≡ None → P (had ++ cons_option (use_of p) [])
      at None q n = subst (λ o. P (had ++ cons_option o [])) (sym q) (subst P (sym (append-nil had)) c)
      at (Some u) q n = subst (λ o. P (had ++ cons_option o [])) (sym q) (more had earlier u n c)

  walked_command : (had : List Use) (s : Spot) (k : Command) (ss : List Spot) → command_fault had s k ss ≡ None → P had → P (had ++ filter_map use_of (parts_of k ss))
  walked_command had s k ss e c = walked_parts had 0 (parts_of k ss) (first_none (parts_fault had 0 (parts_of k ss)) (fault_if (nat_lt (length ss) (least_words k)) MissingWord s.place) e) c

  walked_line : (said : Said) (ts : List Spot) → words_fault said ts ≡ None → P said.uses → P (after_line said ts).uses
  walked_line said [] e c = c
  walked_line said (s ∷ ss) e c = at (command_of s.word) refl
    where
      none_used : uses_of (s ∷ ss) ≡ [] → P (said.uses ++ uses_of (s ∷ ss))
      none_used n = subst P (sym (ap (λ us. said.uses ++ us) n ∙ append-nil said.uses)) c

      without : (o : Option Command) → o ≡ None → elim o as (λ _. List Use) [ None ↦ [] | Some k ↦ filter_map use_of (parts_of k ss) ] ≡ []
      without None n = refl
      without (Some k) n = cc

      is_model_word : (k : Command) → command_of s.word ≡ Some k → is_word (codes ".model") s.word ≡ true → k ≡ Model
      is_model_word k h m = some_same k Model (sym h ∙ ap command_of (sym (same_word (codes ".model") s.word m)))
        where
          some_same : (a b : Command) → Some a ≡ Some b → a ≡ b
          some_same a b e = cc

      at : (o : Option Command) → command_of s.word ≡ o → P (said.uses ++ uses_of (s ∷ ss))
      at None h = none_used (without (command_of s.word) h)
      at (Some k) h = by said.began refl
        where
          by : (t : Bool) → said.began ≡ t → P (said.uses ++ uses_of (s ∷ ss))
          by false b =
              let same : k ≡ Model = is_model_word k h (first_goes said s ss e b).0 in
              none_used (uses_case s ss k h ∙ ap (λ j. filter_map use_of (parts_of j ss)) same ∙ model_none ss)
          by true b =
              let dot : is_dotted s.word ≡ true = ap is_dotted (command_word s.word k h) ∙ dotted_case k in
              let n : dotted_fault said.uses s ss (command_of s.word) ≡ None = ap (λ (t : Bool). if t then dotted_fault said.uses s ss (command_of s.word) else row_fault_in said.cover s ss) (sym dot) ∙ later_goes said s ss e b in
              let g = dotted_goes said.uses s ss k (ap (dotted_fault said.uses s ss) (sym h) ∙ n) in
              subst (λ us. P (said.uses ++ us)) (sym (uses_case s ss k h)) (walked_command said.uses s k ss g.1 c)

  pub walked_lines : (said : Said) (ls : List Logical) → lines_fault said ls ≡ None → P said.uses → P (said_by said ls).uses
  walked_lines said [] e c = c
  walked_lines said (l ∷ ls) e c =
      let n : or_else (words_fault said l.tokens) (lines_fault (after_line said l.tokens) ls) ≡ None = second_none (flaw_fault l.flaw) (or_else (words_fault said l.tokens) (lines_fault (after_line said l.tokens) ls)) e in
      walked_lines (after_line said l.tokens) ls (second_none (words_fault said l.tokens) (lines_fault (after_line said l.tokens) ls) n) (walked_line said l.tokens (first_none (words_fault said l.tokens) (lines_fault (after_line said l.tokens) ls) n) c)
