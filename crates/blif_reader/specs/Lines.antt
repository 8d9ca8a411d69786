-- Words of lines, as the model takes them.
use Rattle.std.specs.Prelude.{◌≡◌, ℕ, Bool, true, List, [], ◌∷◌, map, Option}
use Rattle.std.specs.List.{list_all}
use Rattle.rm_model.specs.Value.{is_among}
use Rattle.blif_lines.specs.Layout.{Spot}
use Rattle.blif_lines.specs.Reading.{spot_of}
use Rattle.blif_lines.specs.declared.line.Token.{Token}
use Rattle.blif_format.specs.Uses.{Use, command_of}
use Rattle.blif_format.specs.declared.refusal.ReadRefusal.{ReadRefusal}
use Rattle.blif_format.specs.FirstFault.{dotted_fault, latch_types, init_values, is_literal}
use Rattle.rm_base.specs.Words.{Word}

abbrev pub words_at : List ℕ → List Token → List Word
words_at text words = map (λ (t : Token). (spot_of text t).word) words

-- the words of tokens, each with its place
abbrev pub spots_at : List ℕ → List Token → List Spot
spots_at text words = map (spot_of text) words

-- those of a line, by its first token and the others
abbrev pub line_at : List ℕ → Token → List Token → List Spot
line_at text first rest = spot_of text first ∷ spots_at text rest

-- the first fault of a line that begins with a dot
abbrev pub dotted_line_fault : List Use → List ℕ → Token → List Token → Option ReadRefusal
dotted_line_fault uses text first rest = dotted_fault uses (spot_of text first) (spots_at text rest) (command_of (spot_of text first).word)

-- the words behind `.latch`
abbrev pub IsLatchLine : List Word → Type 0
IsLatchLine (a ∷ b ∷ []) = Unit {0}
IsLatchLine (a ∷ b ∷ c ∷ []) = is_among init_values c ≡ true
IsLatchLine (a ∷ b ∷ c ∷ d ∷ []) = is_among latch_types c ≡ true
IsLatchLine (a ∷ b ∷ c ∷ d ∷ e ∷ []) = (is_among latch_types c ≡ true) × (is_among init_values e ≡ true)
IsLatchLine words = ⊥

abbrev pub are_literals : Word → Bool
are_literals word = list_all is_literal word

abbrev pub init_part : List Word → List Word
init_part (a ∷ b ∷ c ∷ []) = c ∷ []
init_part (a ∷ b ∷ c ∷ d ∷ e ∷ []) = e ∷ []
init_part words = []

abbrev pub timing_part : List Word → List Word
timing_part (a ∷ b ∷ c ∷ d ∷ []) = c ∷ d ∷ []
timing_part (a ∷ b ∷ c ∷ d ∷ e ∷ []) = c ∷ d ∷ []
timing_part words = []
