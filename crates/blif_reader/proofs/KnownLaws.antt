-- A line without fault has what its command wants.
use Rattle.std.proofs.Common.{◌≡◌, ℕ, ◌<◌, ◌+◌, List, [], ◌∷◌, ◌++◌, map, length, Bool, true, false, not, ◌||◌, refl, sym, ◌∙◌, ap, subst, arith, Option, None, Some}
use Rattle.std.specs.Prelude.{if◌then◌else◌, codes, nat_lt}
use Rattle.std.specs.Option.{option_map}
use Rattle.std.specs.List.{filter_map}
use Rattle.std.proofs.lemmas.List.{length-map}
use Rattle.rm_model.specs.Words.{is_word}
use Rattle.rm_model.specs.Value.{is_among}
use Rattle.blif_lines.specs.Layout.{Spot}
use Rattle.blif_format.specs.Text.{Line}
use Rattle.blif_format.specs.Unsupported.{unsupported_words}
use Rattle.blif_format.specs.Uses.{command_of, parts_of, least_words, Use, use_of}
use Rattle.blif_format.specs.declared.words.Command.{Command}
use Rattle.blif_format.specs.declared.words.Command.TheVariants.{Model, Inputs, Outputs, Clock, Names, Latch, End}
use Rattle.blif_format.specs.declared.words.Part.{Part}
use Rattle.blif_format.specs.declared.words.Part.TheVariants.{Title, Name, LatchType, Init, Extra}
use Rattle.blif_format.specs.FirstFault.{fault, fault_if, parts_fault, part_fault, command_fault, first_line_fault, dotted_fault, row_fault, row_fault_in, words_fault, Said, OpenCover as SaidCover, is_dotted, with_row, after_line, latch_types, init_values}
use Rattle.blif_format.specs.declared.refusal.FaultKind.TheVariants.{BadLatchWord, MissingWord, ExtraWord, AfterEnd, NoModel, Unsupported, UnknownCommand, RowOutsideCover}
use Rattle.blif_reader.specs.Rows.{cover_for, ends}
use Rattle.blif_reader.specs.Inner.Drafts.{IsDraft, Changes, IsKnown, CurrentIs, AddsRow}
use Rattle.blif_reader.specs.declared.draft.Draft.{Draft}
use Rattle.blif_reader.proofs.LineLaws.{word_for, command_word, after_ended, after_cover}
use Rattle.blif_reader.proofs.RowLaws.{first_none, second_none, not_fault}
use Rattle.blif_reader.proofs.DraftLaws.{is_model, command_body, command_end, command_first, row_line}
use Rattle.rm_base.proofs.Public.{true_from_not}
use Rattle.rm_base.specs.Words.{Word}
use Rattle.rm_model.proofs.Public.{same_word}

abbrev spelled : List Spot → List Word
spelled ss = map (λ (t : Spot). t.word) ss

bad_word : (names : List Word) (w : Word) (s : Spot) → fault_if (not (is_among names w)) BadLatchWord s.place ≡ None → is_among names w ≡ true
bad_word names w s e = true_from_not (is_among names w) (not_fault (not (is_among names w)) BadLatchWord s.place e)

abbrev Fine : Part → Spot → Type 0
Fine LatchType s = is_among latch_types s.word ≡ true
Fine Init s = is_among init_values s.word ≡ true
Fine Extra s = ⊥
Fine Title s = Unit {0}
Fine (Name role) s = Unit {0}

abbrev AreFine : List (Part × Spot) → Type 0
AreFine [] = Unit {0}
AreFine (p ∷ ps) = Fine p.0 p.1 × AreFine ps

fine_word : (had : List Use) (i : ℕ) (part : Part) (s : Spot) → part_fault had i (part, s) ≡ None → Fine part s
fine_word had i Title s e = tt
fine_word had i (Name role) s e = tt
fine_word had i LatchType s e = bad_word latch_types s.word s e
fine_word had i Init s e = bad_word init_values s.word s e
fine_word had i Extra s e = let wrong : fault ExtraWord s.place ≡ None = e in cc

fine_words : (had : List Use) (i : ℕ) (ps : List (Part × Spot)) → parts_fault had i ps ≡ None → AreFine ps
fine_words had i [] e = tt
fine_words had i (p ∷ ps) e = (fine_word had i p.0 p.1 (first_none (part_fault had i p) (parts_fault (had ++ filter_map use_of (p ∷ [])) (i + 1) ps) e), fine_words (had ++ filter_map use_of (p ∷ [])) (i + 1) ps (second_none (part_fault had i p) (parts_fault (had ++ filter_map use_of (p ∷ [])) (i + 1) ps) e))

latch_fine : (s : Spot) (ss : List Spot) → AreFine (parts_of Latch ss) → fault_if (nat_lt (length ss) 2) MissingWord s.place ≡ None → IsKnown Latch (spelled ss)
latch_fine s [] f e = let wrong : fault MissingWord s.place ≡ None = e in cc
latch_fine s (a ∷ []) f e = let wrong : fault MissingWord s.place ≡ None = e in cc
latch_fine s (a ∷ b ∷ []) f e = tt
latch_fine s (a ∷ b ∷ c ∷ []) f e = f.1.1.0
latch_fine s (a ∷ b ∷ c ∷ d ∷ []) f e = f.1.1.0
latch_fine s (a ∷ b ∷ c ∷ d ∷ g ∷ []) f e = (f.1.1.0, f.1.1.1.1.0)
latch_fine s (a ∷ b ∷ c ∷ d ∷ g ∷ h ∷ hs) f e = absurd f.1.1.1.1.1.0

title_fine : (s : Spot) (ss : List Spot) → AreFine (parts_of Model ss) → fault_if (nat_lt (length ss) 1) MissingWord s.place ≡ None → length (spelled ss) ≡ 1
title_fine s [] f e = let wrong : fault MissingWord s.place ≡ None = e in cc
title_fine s (a ∷ []) f e = refl
title_fine s (a ∷ b ∷ bs) f e = absurd f.1.0

names_fine : (s : Spot) (ss : List Spot) → fault_if (nat_lt (length ss) 1) MissingWord s.place ≡ None → 0 < length (spelled ss)
names_fine s [] e = let wrong : fault MissingWord s.place ≡ None = e in cc
names_fine s (a ∷ bs) e = omega arith

end_fine : (ss : List Spot) → AreFine (parts_of End ss) → spelled ss ≡ []
end_fine [] f = refl
end_fine (a ∷ bs) f = absurd f.0

pub known_of : (had : List Use) (s : Spot) (k : Command) (ss : List Spot) → command_fault had s k ss ≡ None → IsKnown k (spelled ss)
known_of had s k ss e = at k (fine_words had 0 (parts_of k ss) (first_none (parts_fault had 0 (parts_of k ss)) (fault_if (nat_lt (length ss) (least_words k)) MissingWord s.place) e)) (second_none (parts_fault had 0 (parts_of k ss)) (fault_if (nat_lt (length ss) (least_words k)) MissingWord s.place) e)
  where
    at : (k : Command) → AreFine (parts_of k ss) → fault_if (nat_lt (length ss) (least_words k)) MissingWord s.place ≡ None → IsKnown k (spelled ss)
    at Model f e = title_fine s ss f e
    at Inputs f e = tt
    at Outputs f e = tt
    at Clock f e = tt
    at Names f e = names_fine s ss e
    at Latch f e = latch_fine s ss f e
    at End f e = end_fine ss f

pub goes_on : (said : Said) (s : Spot) (ss : List Spot) → words_fault said (s ∷ ss) ≡ None → said.ended ≡ false
goes_on said s ss e = at said.ended refl
  where
    at : (t : Bool) → said.ended ≡ t → said.ended ≡ false
    at true i = let wrong : fault AfterEnd s.place ≡ None = rw i at e in cc
    at false i = i

pub first_goes : (said : Said) (s : Spot) (ss : List Spot) → words_fault said (s ∷ ss) ≡ None → said.began ≡ false → (is_word (codes ".model") s.word ≡ true) × (command_fault [] s Model ss ≡ None)
first_goes said s ss e b =
    let n : first_line_fault s ss ≡ None = rw (goes_on said s ss e, b) at e in
    at (is_word (codes ".model") s.word) refl n
  where
    at : (t : Bool) → is_word (codes ".model") s.word ≡ t → first_line_fault s ss ≡ None → (is_word (codes ".model") s.word ≡ true) × (command_fault [] s Model ss ≡ None)
    at true i n = (i, rw i at n)
    at false i n = let wrong : fault NoModel s.place ≡ None = rw i at n in cc

pub later_goes : (said : Said) (s : Spot) (ss : List Spot) → words_fault said (s ∷ ss) ≡ None → said.began ≡ true → (if is_dotted s.word then dotted_fault said.uses s ss (command_of s.word) else row_fault_in said.cover s ss) ≡ None
later_goes said s ss e b = rw (goes_on said s ss e, b) at e

pub dotted_case : (k : Command) → is_dotted (word_for k) ≡ true
dotted_case Model = refl
dotted_case Inputs = refl
dotted_case Outputs = refl
dotted_case Clock = refl
dotted_case Names = refl
dotted_case Latch = refl
dotted_case End = refl

pub dotted_goes : (had : List Use) (s : Spot) (ss : List Spot) (k : Command) → dotted_fault had s ss (Some k) ≡ None → (is_model k ≡ false) × (command_fault had s k ss ≡ None)
dotted_goes had s ss Model e = cc
dotted_goes had s ss Inputs e = (refl, e)
dotted_goes had s ss Outputs e = (refl, e)
dotted_goes had s ss Clock e = (refl, e)
dotted_goes had s ss Names e = (refl, e)
dotted_goes had s ss Latch e = (refl, e)
dotted_goes had s ss End e = (refl, e)

end_is : (k : Command) → ends k ≡ true → k ≡ End
end_is Model e = cc
end_is Inputs e = cc
end_is Outputs e = cc
end_is Clock e = cc
end_is Names e = cc
end_is Latch e = cc
end_is End e = refl

one_word : (ws : List Word) → length ws ≡ 1 → (x : Word) × (ws ≡ x ∷ [])
one_word [] e = absurd (omega arith)
one_word (x ∷ []) e = (x, refl)
one_word (x ∷ y ∷ ys) e = absurd (omega arith)

-- a command's line
pub command_added : (said : Said) (lines : List Line) (d e : Draft) (s : Spot) (ss : List Spot) (k : Command) → IsDraft said lines d → words_fault said (s ∷ ss) ≡ None → command_of s.word ≡ Some k → (IsKnown k (spelled ss) → Changes k (spelled ss) d e) → IsDraft (after_line said (s ∷ ss)) (lines ++ (s.word ∷ spelled ss) ∷ []) e
command_added said lines d e s ss k is none h ch = at said.began refl
  where
    w : s.word ≡ word_for k
    w = command_word s.word k h

    long : (after_line said (s ∷ ss)).cover ≡ cover_for k (length (spelled ss))
    long = after_cover said k s ss h ∙ ap (λ (n : ℕ). cover_for k n) (sym (length-map ss (λ (t : Spot). t.word)))

    by_end : (t : Bool) → ends k ≡ t → said.began ≡ true → is_model k ≡ false → IsKnown k (spelled ss) → IsDraft (after_line said (s ∷ ss)) (lines ++ (s.word ∷ spelled ss) ∷ []) e
    by_end false f b m known = command_body said lines d e s ss k (spelled ss) is b (goes_on said s ss none) m f w (after_ended said k s ss h) long (ch known)
    by_end true f b m known =
        let same : k ≡ End = end_is k f in
        let empty : spelled ss ≡ [] = subst (λ (j : Command). IsKnown j (spelled ss)) same known in
        let c : Changes End (spelled ss) d e = subst (λ (j : Command). Changes j (spelled ss) d e) same (ch known) in
        subst (λ (ws : List Word). IsDraft (after_line said (s ∷ ss)) (lines ++ (s.word ∷ ws) ∷ []) e) (sym empty)
        (command_end said lines d e s ss is b (goes_on said s ss none) (w ∙ ap word_for same) (after_ended said k s ss h ∙ ap (λ (t : Bool). said.ended || t) f) (after_cover said k s ss h ∙ ap (λ (j : Command). cover_for j (length ss)) same) (subst (λ (ws : List Word). Changes End ws d e) empty c))

    model_is : (j : Command) → s.word ≡ codes ".model" → k ≡ Model
    model_is j m = some_same k Model (sym h ∙ ap command_of m)
      where
        some_same : (a b : Command) → Some a ≡ Some b → a ≡ b
        some_same a b e = cc

    at : (t : Bool) → said.began ≡ t → IsDraft (after_line said (s ∷ ss)) (lines ++ (s.word ∷ spelled ss) ∷ []) e
    at true b =
        let n : dotted_fault said.uses s ss (command_of s.word) ≡ None = ap (λ (t : Bool). if t then dotted_fault said.uses s ss (command_of s.word) else row_fault_in said.cover s ss) (sym (ap is_dotted w ∙ dotted_case k)) ∙ later_goes said s ss none b in
        let g = dotted_goes said.uses s ss k (ap (dotted_fault said.uses s ss) (sym h) ∙ n) in
        by_end (ends k) refl b g.0 (known_of said.uses s k ss g.1)
    at false b =
        let f = first_goes said s ss none b in
        let same : k ≡ Model = model_is k (sym (same_word (codes ".model") s.word f.0)) in
        let known : IsKnown Model (spelled ss) = known_of [] s Model ss f.1 in
        let one = one_word (spelled ss) known in
        let c : Changes Model (spelled ss) d e = subst (λ (j : Command). Changes j (spelled ss) d e) same (ch (subst (λ (j : Command). IsKnown j (spelled ss)) (sym same) known)) in
        subst (λ (ws : List Word). IsDraft (after_line said (s ∷ ss)) (lines ++ (s.word ∷ ws) ∷ []) e) (sym one.1)
        (command_first said lines d e s ss one.0 is b (goes_on said s ss none) (sym (same_word (codes ".model") s.word f.0)) (after_ended said k s ss h ∙ ap (λ (j : Command). said.ended || ends j) same) (after_cover said k s ss h ∙ ap (λ (j : Command). cover_for j (length ss)) same) (subst (λ (ws : List Word). Changes Model ws d e) one.1 c))

-- a row's line
pub row_added : (said : Said) (lines : List Line) (d e : Draft) (s : Spot) (ss : List Spot) → IsDraft said lines d → words_fault said (s ∷ ss) ≡ None → command_of s.word ≡ None → ((o : SaidCover) → CurrentIs (Some o) d.current → row_fault o s ss ≡ None → AddsRow s ss o d e) → IsDraft (after_line said (s ∷ ss)) (lines ++ (s.word ∷ spelled ss) ∷ []) e
row_added said lines d e s ss is none h add = at said.began refl
  where
    at : (t : Bool) → said.began ≡ t → IsDraft (after_line said (s ∷ ss)) (lines ++ (s.word ∷ spelled ss) ∷ []) e
    at false b =
        let f = first_goes said s ss none b in
        let wrong : command_of s.word ≡ Some Model = ap command_of (sym (same_word (codes ".model") s.word f.0)) in
        let bad : None ≡ Some Model = sym h ∙ wrong in cc
    at true b = by (is_dotted s.word) refl (later_goes said s ss none b)
      where
        by : (t : Bool) → is_dotted s.word ≡ t → (if is_dotted s.word then dotted_fault said.uses s ss (command_of s.word) else row_fault_in said.cover s ss) ≡ None → IsDraft (after_line said (s ∷ ss)) (lines ++ (s.word ∷ spelled ss) ∷ []) e
        by true i n =
            let m : dotted_fault said.uses s ss None ≡ None = ap (dotted_fault said.uses s ss) (sym h) ∙ rw i at n in
            let wrong : (if is_among unsupported_words s.word then fault Unsupported s.place else fault UnknownCommand s.place) ≡ None = m in
            absurd (never (is_among unsupported_words s.word) wrong)
          where
            never : (t : Bool) → (if t then fault Unsupported s.place else fault UnknownCommand s.place) ≡ None → ⊥
            never true e = cc
            never false e = cc
        by false i n = over said.cover refl (rw i at n)
          where
            ended : (after_line said (s ∷ ss)).ended ≡ false
            ended = ap (λ (t : Bool). t || is_word (codes ".end") s.word) (goes_on said s ss none) ∙ not_end (is_word (codes ".end") s.word) refl
              where
                not_end : (t : Bool) → is_word (codes ".end") s.word ≡ t → (false || is_word (codes ".end") s.word) ≡ false
                not_end true j = let wrong : true ≡ false = ap is_dotted (same_word (codes ".end") s.word j) ∙ i in cc
                not_end false j = j

            over : (o : Option SaidCover) → said.cover ≡ o → row_fault_in said.cover s ss ≡ None → IsDraft (after_line said (s ∷ ss)) (lines ++ (s.word ∷ spelled ss) ∷ []) e
            over None c m = let wrong : fault RowOutsideCover s.place ≡ None = ap (λ (x : Option SaidCover). row_fault_in x s ss) (sym c) ∙ m in cc
            over (Some o) c m =
                let here : row_fault o s ss ≡ None = ap (λ (x : Option SaidCover). row_fault_in x s ss) (sym c) ∙ m in
                let now : CurrentIs (Some o) d.current = subst (λ (x : Option SaidCover). CurrentIs x d.current) c is.current in
                let after : (after_line said (s ∷ ss)).cover ≡ Some (with_row (s ∷ ss) o) = rw i (ap (option_map (with_row (s ∷ ss))) c) in
                row_line said lines d e s ss o (spelled ss) is b (goes_on said s ss none) c i ended after refl (add o now here)
