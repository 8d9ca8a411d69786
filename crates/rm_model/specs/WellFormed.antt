-- Which models a text can have: names are tokens, each name has one driver, each used name has one, and covers, init values and controls are of the right form.
use Rattle.std.specs.Prelude.{◌≡◌, ◌≢◌, ◌==◌, ◌≤◌, Bool, true, false, not, ◌&&◌, List, [], ◌∷◌, ◌++◌, map, length, All, codes, IfSome}
use Rattle.std.specs.List.{flat_map, list_all, filter_map}
use Rattle.rm_model.specs.Value.{is_among, source_names, control_of, outputs_of}
use Rattle.rm_model.specs.declared.parts.Literal.{Literal}
use Rattle.rm_model.specs.declared.parts.Cover.{Cover}
use Rattle.rm_model.specs.declared.parts.Latch.{Latch}
use Rattle.rm_model.specs.declared.parts.Model.{Model}
use Rattle.rm_base.specs.Words.{Word, is_word_byte}

abbrev pub ends_in_backslash : Word → Bool
ends_in_backslash [] = false
ends_in_backslash (b ∷ []) = b == 92
ends_in_backslash (b ∷ c ∷ cs) = ends_in_backslash (c ∷ cs)

-- what may stand as a word of a text: at its last byte no line is joined to the next
abbrev pub is_token : Word → Bool
is_token [] = false
is_token (b ∷ bs) = list_all is_word_byte (b ∷ bs) && not (ends_in_backslash (b ∷ bs))

abbrev pub is_distinct : List Word → Bool
is_distinct [] = true
is_distinct (x ∷ xs) = not (is_among xs x) && is_distinct xs

-- the names that the model drives: its sources and the outputs of its covers
abbrev pub driven_names : Model → List Word
driven_names m = source_names m ++ outputs_of m.covers

-- the names that the model reads: outputs, cover inputs, latch inputs and latch controls
abbrev pub used_names : Model → List Word
used_names m = ((m.outputs ++ flat_map (λ (c : Cover). c.inputs) m.covers) ++ map (λ (l : Latch). l.input) m.latches) ++ filter_map control_of m.latches

-- every name that the model holds
abbrev pub names_of : Model → List Word
names_of m = (m.name ∷ driven_names m) ++ (m.clocks ++ used_names m)

pub record IsWellFormedCover (c : Cover) : Type 0 where
  pub no_rows : c.rows ≡ [] → c.on ≡ true
  pub row_lengths : All (λ (r : List Literal). length r ≡ length c.inputs) c.rows

pub record IsWellFormed (m : Model) : Type 0 where
  pub tokens : list_all is_token (names_of m) ≡ true
  pub inputs_once : is_distinct m.inputs ≡ true
  pub clocks_once : is_distinct m.clocks ≡ true
  pub driven_once : is_distinct (driven_names m) ≡ true
  pub outputs_once : is_distinct m.outputs ≡ true
  pub all_driven : list_all (is_among (driven_names m)) (used_names m) ≡ true
  pub covers : All IsWellFormedCover m.covers
  pub inits : All (λ (l : Latch). IfSome l.init (λ n. n ≤ 3)) m.latches
  pub controls : All (λ (l : Latch). IfSome (control_of l) (λ x. x ≢ codes "NIL")) m.latches
