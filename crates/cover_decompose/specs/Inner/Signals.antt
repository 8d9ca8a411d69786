-- Signals by number: the place of a name among the driven names.
use Rattle.std.specs.Prelude.{ℕ, List, Option}
use Rattle.rm_model.specs.Numbers.{place_of}
use Rattle.rm_base.specs.Words.{Word}

-- a signal is the place of its name
abbrev pub signal_of : List Word → Word → Option ℕ
signal_of names x = place_of names x
