-- Numbers of modules, and the modules that lead to one.
use Rattle.std.specs.Prelude.{◌≡◌, ◌<◌, ◌≤◌, ◌==◌, ◌&&◌, ℕ, Bool, true, List, [], ◌∷◌, get_or, length, slice_get, Some}
use Rattle.std.specs.List.{list_any}
use Rattle.blif_flatten.specs.declared.modules.Link.{Link}
use Rattle.blif_flatten.specs.declared.modules.Module.{Module}
use Rattle.blif_flatten.specs.Recursion.{links_of}

abbrev pub number_of : List ℕ → ℕ → ℕ
number_of numbers k = get_or numbers k 0

-- the number falls along each call of the module
pub record Falls (numbers : List ℕ) (count k : ℕ) (m : Module) : Type 0 where
  pub positive : 1 ≤ number_of numbers k
  pub small : number_of numbers k ≤ count
  pub lower : (j : ℕ) (l : Link) → slice_get m.links j ≡ Some l → number_of numbers l.called < number_of numbers k

abbrev pub AreFalling : List ℕ → List Module → Type 0
AreFalling numbers modules = (k : ℕ) (m : Module) → slice_get modules k ≡ Some m → Falls numbers (length modules) k m

-- each call goes to a module of the list
abbrev pub AreKnownCalls : List Module → Type 0
AreKnownCalls modules = (k j : ℕ) (m : Module) (l : Link) → slice_get modules k ≡ Some m → slice_get m.links j ≡ Some l → l.called < length modules

-- the numbers rise along no call
abbrev pub DoNotRise : List ℕ → List Module → Type 0
DoNotRise numbers modules = (k j : ℕ) (m : Module) (l : Link) → slice_get modules k ≡ Some m → slice_get m.links j ≡ Some l → number_of numbers l.called ≤ number_of numbers k

-- the links are those of the module at that place
pub record HasLinks (modules : List Module) (holder : ℕ) (links : List Link) : Type 0 where
  pub module_is : Module
  pub there : slice_get modules holder ≡ Some module_is
  pub links_are : module_is.links ≡ links

abbrev pub calls_one : List Module → ℕ → ℕ → Bool
calls_one modules caller called = list_any (λ (l : Link). l.called == called) (links_of modules caller)

abbrev pub head_or : ℕ → List ℕ → ℕ
head_or to [] = to
head_or to (a ∷ rest) = a

-- each module calls the next, and the last one this
abbrev pub goes_along : List Module → ℕ → List ℕ → Bool
goes_along modules to [] = true
goes_along modules to (a ∷ rest) = calls_one modules a (head_or to rest) && goes_along modules to rest
