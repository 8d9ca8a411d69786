-- Parity covers: two inputs of different names and exactly two rows, `10` and `01`, or `11` and `00`, in either order.
use Rattle.std.specs.Prelude.{◌&&◌, Bool, true, false, not, List, [], ◌∷◌, Option, None, Some, if◌then◌else◌}
use Rattle.std.specs.Option.{option_map}
use Rattle.rm_model.specs.Words.{is_word}
use Rattle.rm_model.specs.declared.parts.Literal.{Literal}
use Rattle.rm_model.specs.declared.parts.Literal.TheVariants.{Zero, One}
use Rattle.rm_model.specs.declared.parts.Cover.{Cover}
use Rattle.rm_base.specs.Words.{Word}

-- whether one is `0` and the other `1`
abbrev pub is_opposed : Literal → Literal → Bool
is_opposed Zero One = true
is_opposed One Zero = true
is_opposed _ _ = false

-- whether these are two names, and different ones
abbrev pub are_two : List Word → Bool
are_two (x ∷ y ∷ []) = not (is_word x y)
are_two _ = false

-- two rows with opposed literals at both places: whether the literals of each are opposed too, as in `10` and `01`, or not, as in `11` and `00`
abbrev pub differ_in : List Literal → List Literal → Option Bool
differ_in (a ∷ b ∷ []) (c ∷ d ∷ []) = if is_opposed a c && is_opposed b d then Some (is_opposed a b) else None
differ_in _ _ = None

abbrev pub differ_in_rows : List (List Literal) → Option Bool
differ_in_rows (r ∷ s ∷ []) = differ_in r s
differ_in_rows _ = None

-- for a parity cover, the ending of the Xor of its inputs: 1 where `10` and `01` end in 1, and where `11` and `00` end in 0
abbrev pub parity_ending : Cover → Option Bool
parity_ending c = if are_two c.inputs then option_map (λ differ. if differ then c.on else not c.on) (differ_in_rows c.rows) else None
