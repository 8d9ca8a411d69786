-- The lines of a text that have words, with the places of their words.
use Rattle.std.proofs.Common.{◌≡◌, List, [], ◌∷◌, map, filter, refl, ap}
use Rattle.std.specs.Prelude.{Option, None}
use Rattle.std.specs.List.{cons_option, filter_map}
use Rattle.rm_base.specs.declared.numbers.Place.{Place}
use Rattle.rm_model.specs.declared.parts.Cover.{Cover}
use Rattle.blif_lines.specs.Layout.{Logical, Spot, has_words, words_in}
use Rattle.blif_format.specs.Text.{Line}
use Rattle.blif_format.specs.FirstFault.{Said, after_line, cover_in, lines_fault, or_else, said_by, words_fault}
use Rattle.blif_format.specs.Laws.{AreFlawless}
use Rattle.blif_format.specs.declared.refusal.ReadRefusal.{ReadRefusal}

abbrev pub words : List Spot → Line
words spots = map (λ (s : Spot). s.word) spots

abbrev pub keep : List Spot → List (List Spot) → List (List Spot)
keep [] ts = ts
keep (s ∷ ss) ts = (s ∷ ss) ∷ ts

abbrev pub spots_in : List Logical → List (List Spot)
spots_in [] = []
spots_in (l ∷ ls) = keep l.tokens (spots_in ls)

abbrev pub not_begun : Said → Option ReadRefusal
not_begun said = lines_fault said []

-- the first fault of words, line by line
abbrev pub spots_fault : Said → List (List Spot) → Option ReadRefusal
spots_fault said [] = not_begun said
spots_fault said (t ∷ ts) = or_else (words_fault said t) (spots_fault (after_line said t) ts)

abbrev pub said_after : Said → List (List Spot) → Said
said_after said [] = said
said_after said (t ∷ ts) = said_after (after_line said t) ts

abbrev pub cover_at : List Spot → Option (Place × Cover)
cover_at t = cover_in (record { tokens = t; flaw = None })

fault_kept : (said : Said) (t : List Spot) (ls : List Logical) → ((said : Said) → lines_fault said ls ≡ spots_fault said (spots_in ls)) → or_else (words_fault said t) (lines_fault (after_line said t) ls) ≡ spots_fault said (keep t (spots_in ls))
fault_kept said [] ls rest = rest said
fault_kept said (s ∷ ss) ls rest = ap (or_else (words_fault said (s ∷ ss))) (rest (after_line said (s ∷ ss)))

pub lines_fault-spots : (ls : List Logical) → AreFlawless ls → (said : Said) → lines_fault said ls ≡ spots_fault said (spots_in ls)
lines_fault-spots [] h said = refl
lines_fault-spots (l ∷ ls) h said = rw (h.0) (fault_kept said l.tokens ls (lines_fault-spots ls h.1))

said_kept : (said : Said) (t : List Spot) (ls : List Logical) → ((said : Said) → said_by said ls ≡ said_after said (spots_in ls)) → said_by (after_line said t) ls ≡ said_after said (keep t (spots_in ls))
said_kept said [] ls rest = rest said
said_kept said (s ∷ ss) ls rest = rest (after_line said (s ∷ ss))

pub said_by-spots : (ls : List Logical) (said : Said) → said_by said ls ≡ said_after said (spots_in ls)
said_by-spots [] said = refl
said_by-spots (l ∷ ls) said = said_kept said l.tokens ls (said_by-spots ls)

words_kept : (t : List Spot) (ls : List Logical) → filter has_words (map words_in ls) ≡ map words (spots_in ls) → filter has_words (words t ∷ map words_in ls) ≡ map words (keep t (spots_in ls))
words_kept [] ls rest = rest
words_kept (s ∷ ss) ls rest = ap (λ lines. words (s ∷ ss) ∷ lines) rest

pub lines-spots : (ls : List Logical) → filter has_words (map words_in ls) ≡ map words (spots_in ls)
lines-spots [] = refl
lines-spots (l ∷ ls) = words_kept l.tokens ls (lines-spots ls)

covers_kept : (t : List Spot) (found : List (Place × Cover)) (ts : List (List Spot)) → found ≡ filter_map cover_at ts → cons_option (cover_at t) found ≡ filter_map cover_at (keep t ts)
covers_kept [] found ts rest = rest
covers_kept (s ∷ ss) found ts rest = ap (cons_option (cover_at (s ∷ ss))) rest

pub covers-spots : (ls : List Logical) → filter_map cover_in ls ≡ filter_map cover_at (spots_in ls)
covers-spots [] = refl
covers-spots (l ∷ ls) = covers_kept l.tokens (filter_map cover_in ls) (spots_in ls) (covers-spots ls)
