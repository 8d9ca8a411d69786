-- What a model means: sources, observed points, the value of a cover, consistent valuations.
use Rattle.std.specs.Prelude.{◌≡◌, ◌<◌, ℕ, Bool, true, false, not, List, [], ◌∷◌, ◌++◌, map, filter, All, Option, None, Some}
use Rattle.std.specs.Prelude.{if◌then◌else◌}
use Rattle.std.specs.List.{list_any, list_all, filter_map, zip}
use Rattle.rm_model.specs.Words.{is_word}
use Rattle.rm_model.specs.declared.parts.Literal.{Literal}
use Rattle.rm_model.specs.declared.parts.Literal.TheVariants.{Zero, One, Any}
use Rattle.rm_model.specs.declared.parts.Cover.{Cover}
use Rattle.rm_model.specs.declared.parts.Latch.{Latch}
use Rattle.rm_model.specs.declared.parts.Model.{Model}
use Rattle.rm_base.specs.Words.{Word}

abbrev pub is_among : List Word → Word → Bool
is_among names x = list_any (is_word x) names

-- the inputs, the clocks that aren't inputs, the latch outputs
abbrev pub source_names : Model → List Word
source_names m = (m.inputs ++ filter (λ x. not (is_among m.inputs x)) m.clocks) ++ map (λ l. l.output) m.latches

abbrev pub control_of : Latch → Option Word
control_of l = elim l.timing [ None ↦ None | Some t ↦ t.control ]

-- the outputs, the latch inputs, the latch controls
abbrev pub observed_names : Model → List Word
observed_names m = (m.outputs ++ map (λ l. l.input) m.latches) ++ filter_map control_of m.latches

abbrev pub literal_holds : Literal → Bool → Bool
literal_holds Zero b = not b
literal_holds One b = b
literal_holds Any b = true

-- each literal is met by the boolean at its place
abbrev pub row_matches : List Literal → List Bool → Bool
row_matches ls bs = list_all (λ p. literal_holds p.0 p.1) (zip ls bs)

abbrev pub value_of_rows : List (List Literal) → Bool → List Bool → Bool
value_of_rows [] on bs = false
value_of_rows (r ∷ rs) on bs = if list_any (λ row. row_matches row bs) (r ∷ rs) then on else not on

abbrev pub value_of : Cover → List Bool → Bool
value_of c bs = value_of_rows c.rows c.on bs

-- each cover's output has the cover's value of its inputs
abbrev pub IsConsistent : Model → (Word → Bool) → Type 0
IsConsistent m v = All (λ (c : Cover). v c.output ≡ value_of c (map v c.inputs)) m.covers

abbrev pub is_cover_output : Model → Word → Bool
is_cover_output m x = list_any (λ (c : Cover). is_word x c.output) m.covers

-- the outputs of covers, in order
abbrev pub outputs_of : List Cover → List Word
outputs_of cs = map (λ (c : Cover). c.output) cs

-- each cover has a greater number than the covers that it reads
abbrev pub IsRanked : Model → Type 0
IsRanked m = (rank : Word → ℕ) × All (λ (c : Cover). All (λ x. is_cover_output m x ≡ true → rank x < rank c.output) c.inputs) m.covers

pub record Equivalent (m n : Model) : Type 0 where
  pub name : m.name ≡ n.name
  pub inputs : m.inputs ≡ n.inputs
  pub outputs : m.outputs ≡ n.outputs
  pub clocks : m.clocks ≡ n.clocks
  pub latches : m.latches ≡ n.latches
  pub ranked : IsRanked m
  pub other_ranked : IsRanked n
  pub agree : (v w : Word → Bool) → IsConsistent m v → IsConsistent n w → map v (source_names m) ≡ map w (source_names n) → map v (observed_names m) ≡ map w (observed_names n)
