-- The splits that aren't done.
use Rattle.std.specs.Prelude.{Bool, List, [], false, not, true, ◌||◌, ◌∷◌}
use Rattle.podem.specs.declared.choosing.Goal.{Goal}
use Rattle.podem.specs.declared.splits.OpenSplit.{OpenSplit}

-- the value that a split's source has in its first branch, and in its second one
abbrev pub value_of : Bool → Goal → Bool
value_of false choice = choice.value
value_of true choice = not choice.value

-- a second branch of some split is still to be entered: the last one's, or one of those above it
abbrev pub waits : List OpenSplit → Bool
waits [] = false
waits (s ∷ rest) = not s.second || s.waiting
