-- Which modules lead to one, and how many stand behind one, by rounds.
use Rattle.std.specs.Prelude.{◌≡◌, ◌==◌, ◌+◌, ◌||◌, Bool, false, ℕ, zero, suc, List, [], ◌∷◌, get_or, length, map, max, min}
use Rattle.std.specs.List.{list_any}
use Rattle.blif_flatten.specs.declared.modules.Link.{Link}
use Rattle.blif_flatten.specs.declared.modules.Module.{Module}
use Rattle.blif_flatten.specs.Recursion.{leads}
use Rattle.blif_flatten.specs.Inner.Ranks.{number_of}

-- one of the calls goes to a module, or to one that leads to it
abbrev pub leads_on : List Bool → ℕ → List Link → Bool
leads_on leading to links = list_any (λ (l : Link). (l.called == to) || get_or leading l.called false) links

abbrev pub leads_after : List Bool → ℕ → List Module → List Bool
leads_after leading to modules = map (λ (m : Module). leads_on leading to m.links) modules

-- exactly the modules that lead to one
abbrev pub AreLeading : List Module → ℕ → List Bool → Type 0
AreLeading modules to leading = (j : ℕ) → get_or leading j false ≡ leads (length modules) modules j to

abbrev pub most : List ℕ → List Link → ℕ
most all [] = 0
most all (l ∷ ls) = max (number_of all l.called) (most all ls)

-- one more than the greatest that is called, up to a bound
abbrev pub height_of : ℕ → List ℕ → List Module → List ℕ
height_of cap all modules = map (λ (m : Module). min cap (most all m.links + 1)) modules

abbrev pub heights : ℕ → ℕ → List Module → List ℕ
heights cap zero modules = []
heights cap (suc n) modules = height_of cap (heights cap n modules) modules
