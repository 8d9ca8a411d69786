-- Names numbered by their place in a list.
use Rattle.std.specs.Prelude.{ℕ, suc, List, [], ◌∷◌, Option, None, Some, if◌then◌else◌}
use Rattle.std.specs.Option.{option_map}
use Rattle.rm_model.specs.Words.{is_word}
use Rattle.rm_base.specs.Words.{Word}

-- the first place of a name
abbrev pub place_of : List Word → Word → Option ℕ
place_of [] x = None
place_of (y ∷ ys) x = if is_word x y then Some 0 else option_map (λ k. suc k) (place_of ys x)
