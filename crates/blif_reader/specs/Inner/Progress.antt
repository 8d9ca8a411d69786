-- How far a text is read.
use Rattle.std.specs.Prelude.{◌≡◌, ℕ, List, [], ◌∷◌, ◌++◌, map, filter, codes, if◌then◌else◌}
use Rattle.blif_lines.specs.Reading.{spot_of}
use Rattle.blif_lines.specs.declared.line.Token.{Token}
use Rattle.std.specs.List.{filter_map}
use Rattle.rm_base.specs.declared.numbers.Place.{Place}
use Rattle.rm_model.specs.Words.{is_word}
use Rattle.rm_model.specs.declared.parts.Cover.{Cover}
use Rattle.blif_lines.specs.Layout.{Logical, layout, lines_of, words_in, has_words}
use Rattle.blif_format.specs.Text.{Line}
use Rattle.blif_format.specs.Grammar.{names_lines}
use Rattle.blif_format.specs.FirstFault.{Said, nothing_said, lines_fault, said_by, cover_in, cover_names}
use Rattle.blif_reader.specs.Inner.Said.{IsSaid}
use Rattle.blif_reader.specs.Inner.Drafts.{IsDraft}
use Rattle.blif_reader.specs.declared.check.Checker.{Checker}
use Rattle.blif_reader.specs.declared.draft.Draft.{Draft}
use Rattle.blif_reader.specs.declared.read.Lines.{Lines}

-- a cover by the words of its `.names` alone
abbrev pub bare_cover : Line × List Line → Cover
bare_cover x = cover_names x.0

-- the lines that are taken, and what is still to come
pub record Progress (text : List ℕ) (rest : List Logical) (c : Checker) (d : Draft) (places : List Place) : Type 0 where
  pub said : Said
  pub lines : List Line
  pub named : List (Place × Cover)
  pub faults : lines_fault nothing_said (layout text) ≡ lines_fault said rest
  pub uses : said_by nothing_said (layout text) ≡ said_by said rest
  pub words : lines_of text ≡ lines ++ filter has_words (map words_in rest)
  pub covers : filter_map cover_in (layout text) ≡ named ++ filter_map cover_in rest
  pub places_are : map (λ (e : Place × Cover). e.0) named ≡ places
  pub covers_are : map (λ (e : Place × Cover). e.1) named ≡ map bare_cover (names_lines lines)
  pub checked : IsSaid said c
  pub drafted : IsDraft said lines d

-- all lines but the rest are taken
abbrev pub AreReadTo : List ℕ → List Logical → Lines → Type 0
AreReadTo text rest lines = Progress text rest lines.checker lines.draft lines.places.items

-- what is known at the end of the text
pub record IsRead (text : List ℕ) (said : Said) (c : Checker) (d : Draft) (places : List Place) : Type 0 where
  pub uses : said_by nothing_said (layout text) ≡ said
  pub checked : IsSaid said c
  pub drafted : IsDraft said (lines_of text) d
  pub places_are : map (λ (e : Place × Cover). e.0) (filter_map cover_in (layout text)) ≡ places
  pub covers_are : map (λ (e : Place × Cover). e.1) (filter_map cover_in (layout text)) ≡ map bare_cover (names_lines (lines_of text))

-- the places with that of a `.names` line
abbrev pub places_with : List ℕ → Token → List Place → List Place
places_with text first places = if is_word (codes ".names") (spot_of text first).word then places ++ first.place ∷ [] else places
