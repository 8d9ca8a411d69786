-- What a message holds, and what each part adds to it.
use Rattle.std.specs.Prelude.{ℕ, Bool, List, ◌++◌, ◌∷◌, [], if◌then◌else◌, refl}
use Rattle.std.specs.Coded.{Coded, code_by, coded×, coded_list, coded_ℕ, coded_bool}
use Rattle.std.specs.Fmt.{decimal}
use Rattle.std.specs.List.{flat_map}
use Rattle.diagnostics.specs.Escaping.{escaped, in_lines, shown_word}
use Rattle.diagnostics.specs.declared.parts.Part.{Part}
use Rattle.diagnostics.specs.declared.parts.Part.TheVariants.{Text, Word, Number, Red}

pub record Written : Type 0 where
  pub colours : Bool
  pub text : List ℕ

abbrev pub written_code : Coded Written
written_code = code_by (Bool × List ℕ) (coded× coded_bool (coded_list coded_ℕ)) (λ s. (s.colours, s.text)) (λ p. record { colours = p.0; text = p.1 }) (λ _. refl)

-- the digits of the colours red and green
abbrev pub red : ℕ
red = 49

abbrev pub green : ℕ
green = 50

-- ESC [ 3 digit m, the text, and ESC [ 0 m, where there are colours
abbrev pub coloured : Bool → ℕ → List ℕ → List ℕ
coloured colours digit text = if colours then 27 ∷ 91 ∷ 51 ∷ digit ∷ 109 ∷ (in_lines text ++ (27 ∷ 91 ∷ 48 ∷ 109 ∷ [])) else in_lines text

abbrev pub part_text : Bool → Part → List ℕ
part_text colours (Text text) = in_lines text.now
part_text colours (Word word) = shown_word word.now
part_text colours (Number number) = escaped (decimal number)
part_text colours (Red text) = coloured colours red text.now

abbrev pub parts_text : Bool → List Part → List ℕ
parts_text colours parts = flat_map (part_text colours) parts
