-- Which calls are recursive.
use Rattle.std.specs.Prelude.{◌==◌, ℕ, zero, suc, Bool, ◌||◌, List, [], ◌∷◌, length, slice_get, Option, None, Some}
use Rattle.std.specs.List.{list_any}
use Rattle.blif_format.specs.declared.refusal.FaultKind.TheVariants.{Recursive}
use Rattle.blif_format.specs.declared.refusal.ReadRefusal.{ReadRefusal}
use Rattle.blif_format.specs.FirstFault.{or_else, fault_if}
use Rattle.blif_flatten.specs.declared.modules.Link.{Link}
use Rattle.blif_flatten.specs.declared.modules.Module.{Module}
use Rattle.blif_flatten.specs.CallFaults.{first_of}

abbrev pub links_in : Option Module → List Link
links_in None = []
links_in (Some m) = m.links

-- the calls of the module at that place
abbrev pub links_of : List Module → ℕ → List Link
links_of modules k = links_in (slice_get modules k)

-- the first module calls the second, directly or through at most so many others
abbrev pub leads : ℕ → List Module → ℕ → ℕ → Bool
leads zero modules j k = list_any (λ (l : Link). l.called == k) (links_of modules j)
leads (suc n) modules j k = list_any (λ (l : Link). (l.called == k) || leads n modules l.called k) (links_of modules j)

-- the call goes to the module that has it, or to one that calls that
abbrev pub is_recursive_call : List Module → ℕ → ℕ → Bool
is_recursive_call modules holder called = (called == holder) || leads (length modules) modules called holder

abbrev pub recursion_at : List Module → ℕ → Link → Option ReadRefusal
recursion_at modules holder l = fault_if (is_recursive_call modules holder l.called) Recursive l.place

abbrev pub recursion_from : List Module → ℕ → List Module → Option ReadRefusal
recursion_from modules k [] = None
recursion_from modules k (m ∷ ms) = or_else (first_of (recursion_at modules k) m.links) (recursion_from modules (suc k) ms)

-- the first recursive call in the order of the text
abbrev pub recursion_fault : List Module → Option ReadRefusal
recursion_fault modules = recursion_from modules 0 modules
