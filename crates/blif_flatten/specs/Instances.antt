-- The instances of a hierarchy, their numbers and their names.
use Rattle.std.specs.Prelude.{◌+◌, ℕ, zero, suc, Bool, not, List, [], ◌∷◌, ◌++◌, map, length, Option, None, Some, slice_get, if◌then◌else◌}
use Rattle.std.specs.List.{list_any, filter_map, starts_with}
use Rattle.std.specs.Bool.{nat_eq}
use Rattle.std.specs.Fmt.{decimal}
use Rattle.rm_base.specs.Words.{Word}
use Rattle.rm_model.specs.declared.parts.Model.{Model}
use Rattle.blif_format.specs.Uses.{Use}
use Rattle.blif_flatten.specs.declared.modules.Pin.{Pin}
use Rattle.blif_flatten.specs.declared.modules.Link.{Link}
use Rattle.blif_flatten.specs.declared.modules.Module.{Module}
use Rattle.blif_flatten.specs.Sections.{Section, plain_module}
use Rattle.blif_flatten.specs.Calls.{Connection, Call, calls_of}
use Rattle.blif_flatten.specs.CallFaults.{plain_modules, place_named, module_at, section_uses, is_inward}

-- MODULES: the models of a text, whose calls name the called one by its place

abbrev pub pin_in : Model → Connection → Pin
pin_in m p = record { formal = p.formal; actual = p.actual; is_input = is_inward m p.formal }

abbrev pub link_with : Call → Option ℕ → Option Module → Option Link
link_with c None m = None
link_with c (Some k) None = None
link_with c (Some k) (Some m) = Some (record { place = c.place; called = k; pins = map (pin_in m.model) c.pins })

abbrev pub link_of : List Module → Call → Option Link
link_of modules c = link_with c (place_named modules c.callee) (module_at modules (place_named modules c.callee))

abbrev pub module_of : List Module → Section → Module
module_of modules s = let m = plain_module s in record m { links = filter_map (link_of modules) (calls_of s) }

abbrev pub modules_of : List Section → List Module
modules_of sections = map (module_of (plain_modules sections)) sections

-- THE TREE

-- the calls of an instance in order: each with its module, the calls inside that, and the calls behind it
pub data Calls : Type 0 where
  Done : Calls
  Then : Link → Module → Calls → Calls → Calls

abbrev pub then_call : Link → (List Link → Calls) → Option Module → Calls → Calls
then_call l inside None behind = behind
then_call l inside (Some m) behind = Then l m (inside m.links) behind

abbrev pub all_calls : (List Link → Calls) → List Module → List Link → Calls
all_calls inside modules [] = Done
all_calls inside modules (l ∷ ls) = then_call l inside (slice_get modules l.called) (all_calls inside modules ls)

-- the calls of these links, nested at most so deep
abbrev pub calls_in : ℕ → List Module → List Link → Calls
calls_in zero modules links = Done
calls_in (suc n) modules links = all_calls (calls_in n modules) modules links

-- a hierarchy is nested less deep than it has models
abbrev pub whole : List Module → List Link → Calls
whole modules links = calls_in (length modules) modules links

-- how many instances there are
abbrev pub instance_count : Calls → ℕ
instance_count Done = 0
instance_count (Then l m inside behind) = 1 + (instance_count inside + instance_count behind)

-- the tokens of all instances
abbrev pub tokens_in : Calls → ℕ
tokens_in Done = 0
tokens_in (Then l m inside behind) = m.tokens + (tokens_in inside + tokens_in behind)

-- NAMES

-- `s`, a number and `_`
abbrev pub lead : ℕ → Word
lead t = 115 ∷ (decimal t ++ 95 ∷ [])

-- no name begins with that number's lead
abbrev pub is_free : List Word → ℕ → Bool
is_free names t = not (list_any (λ x. starts_with nat_eq x (lead t)) names)

-- the least free number from t on, among so many
abbrev pub free_from : ℕ → List Word → ℕ → ℕ
free_from zero names t = t
free_from (suc n) names t = if is_free names t then t else free_from n names (t + 1)

-- the least free number: each name begins with one lead at most
abbrev pub free_number : List Word → ℕ
free_number names = free_from (length names) names 0

-- names of the top stay, and a name of another instance gets the lead, the instance's number and `_` before it
abbrev pub name_in : Word → ℕ → Word → Word
name_in lead zero x = x
name_in lead (suc i) x = lead ++ (decimal (suc i) ++ 95 ∷ x)

-- every name that a section holds, but for those of models
abbrev pub names_held : List Module → Section → List Word
names_held modules s = map (λ (u : Use). u.name) (section_uses modules s)

-- what the names of the instances begin with
abbrev pub lead_of : List Section → Section → Word
lead_of sections top = lead (free_number (names_held (plain_modules sections) top))
