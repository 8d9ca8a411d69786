-- Sections as the code has them: by the tokens of their lines.
use Rattle.std.specs.Prelude.{◌≡◌, ◌≢◌, ◌≤◌, ◌^◌, ◌+◌, ℕ, List, [], ◌∷◌, map, fold, length, All, None, Some, if◌then◌else◌}
use Rattle.rm_base.specs.Words.{Word}
use Rattle.blif_lines.specs.Layout.{Spot, Logical, layout}
use Rattle.blif_lines.specs.Reading.{spot_of, IsWithin, pending}
use Rattle.blif_lines.specs.declared.line.Token.{Token}
use Rattle.blif_reader.specs.Lines.{spots_at, words_at}
use Rattle.blif_format.specs.Grammar.{begins_with, words_after}
use Rattle.blif_flatten.specs.declared.modules.Link.{Link}
use Rattle.blif_flatten.specs.declared.modules.Module.{Module}
use Rattle.blif_flatten.specs.declared.sections.Section.{Section as TokenSection}
use Rattle.blif_flatten.specs.declared.sections.Step.{Step}
use Rattle.blif_flatten.specs.declared.sections.Step.TheVariants.{Line, Flaw, End}
use Rattle.blif_flatten.specs.Sections.{Section, with_line, sound_lines, layout_fault, token_count}
use Rattle.blif_reader.specs.Fit.{token_sum}
use Rattle.blif_flatten.specs.LineFaults.{head_fault, empty_fault}

abbrev pub lines_at : Word → List (List Token) → List (List Spot)
lines_at text lines = map (spots_at text) lines

-- the words of the lines
abbrev pub words_in : Word → List (List Token) → List (List Word)
words_in text lines = map (words_at text) lines

-- the words behind a command's name, where the line is one
abbrev pub words_behind : Word → List Word → List Word
words_behind command line = if begins_with command line then words_after line else []

-- the module with its calls
abbrev pub with_links : Module → List Link → Module
with_links m links = record m { links = links }

abbrev pub section_at : Word → TokenSection → Section
section_at text s = record { title = spots_at text s.title; body = lines_at text s.body }

abbrev pub sections_at : Word → List TokenSection → List Section
sections_at text sections = map (section_at text) sections

abbrev pub IsLineWithin : Word → List Token → Type 0
IsLineWithin text line = All (IsWithin text) line × (length line ≤ 2 ^ 32)

pub record IsSectionWithin (text : Word) (s : TokenSection) : Type 0 where
  pub some : s.title ≢ []
  pub title : IsLineWithin text s.title
  pub body : All (IsLineWithin text) s.body
  pub few : length s.title + token_count (lines_at text s.body) ≤ 2 ^ 32

-- but for the number of its tokens
pub record IsBareSectionWithin (text : Word) (s : TokenSection) : Type 0 where
  pub some : s.title ≢ []
  pub title : IsLineWithin text s.title
  pub body : All (IsLineWithin text) s.body

abbrev pub AreWithin : Word → List TokenSection → Type 0
AreWithin text sections = All (IsSectionWithin text) sections

abbrev pub section_tokens : Section → ℕ
section_tokens s = length s.title + token_count s.body

-- the tokens of all sections
abbrev pub all_tokens : List Section → ℕ
all_tokens [] = 0
all_tokens (s ∷ ss) = section_tokens s + all_tokens ss

-- what a reader that had these lines before it gives, and the lines that it leaves
abbrev pub IsStep : Word → List Logical → List Logical → Step → Type 0
IsStep text rest left (Line tokens) = (pending rest ≡ record { tokens = map (spot_of text) tokens; flaw = None } ∷ left) × ((tokens ≢ []) × All (IsWithin text) tokens)
IsStep text rest left (Flaw refusal) = (layout_fault rest ≡ Some refusal) × (sound_lines rest ≡ [])
IsStep text rest left End = (layout_fault rest ≡ None) × (sound_lines rest ≡ [])

-- all lines but the rest are in the sections
pub record AreReadTo (text : Word) (rest : List Logical) (sections : List TokenSection) : Type 0 where
  pub sections_are : fold with_line [] (sound_lines (layout text)) ≡ fold with_line (sections_at text sections) (sound_lines rest)
  pub flaw : layout_fault (layout text) ≡ layout_fault rest
  pub none_yet : sections ≡ [] → sound_lines (layout text) ≡ sound_lines rest
  pub head : sections ≢ [] → head_fault (sound_lines (layout text)) ≡ None
  pub some : sections ≢ [] → empty_fault (sound_lines (layout text)) ≡ None
  pub within : All (IsBareSectionWithin text) sections
  pub count : all_tokens (sections_at text sections) + token_sum rest ≤ length text
