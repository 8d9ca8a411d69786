-- The calls of a section, by the names of the models that they call.
use Rattle.std.specs.Prelude.{◌==◌, ℕ, Bool, List, [], ◌∷◌, Option, None, Some, codes, if◌then◌else◌}
use Rattle.std.specs.List.{filter_map}
use Rattle.std.specs.Option.{option_map}
use Rattle.rm_base.specs.declared.numbers.Place.{Place}
use Rattle.rm_base.specs.Words.{Word}
use Rattle.rm_model.specs.Words.{is_word}
use Rattle.blif_lines.specs.Layout.{Spot}
use Rattle.blif_flatten.specs.Sections.{Section}

-- the two sides of the first byte of that value
abbrev pub sides_at : ℕ → Word → Option (Word × Word)
sides_at b [] = None
sides_at b (c ∷ cs) = if c == b then Some ([], cs) else option_map (λ (p : Word × Word). (c ∷ p.0, p.1)) (sides_at b cs)

-- a word `formal=actual`
pub record Connection : Type 0 where
  pub formal : Word
  pub actual : Word
  pub place : Place

abbrev pub connection_of : Spot → Option Connection
connection_of s = option_map (λ (p : Word × Word). record { formal = p.0; actual = p.1; place = s.place }) (sides_at 61 s.word)

-- a `.subckt` line: its place, the model that it calls and its pins
pub record Call : Type 0 where
  pub place : Place
  pub callee : Word
  pub callee_place : Place
  pub pins : List Connection

abbrev pub is_call : Spot → Bool
is_call s = is_word (codes ".subckt") s.word

abbrev pub call_of : List Spot → Option Call
call_of (s ∷ t ∷ ts) = if is_call s then Some (record { place = s.place; callee = t.word; callee_place = t.place; pins = filter_map connection_of ts }) else None
call_of ss = None

abbrev pub calls_of : Section → List Call
calls_of s = filter_map call_of s.body
