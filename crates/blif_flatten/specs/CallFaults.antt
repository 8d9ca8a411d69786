-- The first fault of calls, and then of names, where every line is without fault.
use Rattle.std.specs.Prelude.{ℕ, Bool, not, ◌||◌, List, [], ◌∷◌, ◌++◌, map, slice_get, Option, None, Some, if◌then◌else◌}
use Rattle.std.specs.List.{list_all, flat_map}
use Rattle.rm_base.specs.Words.{Word}
use Rattle.rm_model.specs.Numbers.{place_of}
use Rattle.rm_model.specs.Value.{is_among}
use Rattle.rm_model.specs.declared.parts.Model.{Model}
use Rattle.blif_lines.specs.Layout.{Spot}
use Rattle.blif_format.specs.declared.words.Role.TheVariants.{CoverInput, CoverOutput}
use Rattle.blif_format.specs.declared.refusal.FaultKind.TheVariants.{BadPin, MissingPin, UnknownModel, DoubleDriven}
use Rattle.blif_format.specs.declared.refusal.ReadRefusal.{ReadRefusal}
use Rattle.blif_format.specs.Uses.{Use, uses_of, stands_in, drives_twice}
use Rattle.blif_format.specs.FirstFault.{or_else, fault, fault_if, undriven_fault}
use Rattle.blif_flatten.specs.declared.modules.Module.{Module}
use Rattle.blif_flatten.specs.Sections.{Section, plain_module}
use Rattle.blif_flatten.specs.Calls.{Connection, Call, call_of, calls_of}

abbrev pub first_of : {A : Type 0} → (A → Option ReadRefusal) → List A → Option ReadRefusal
first_of test [] = None
first_of test (x ∷ xs) = or_else (test x) (first_of test xs)

-- THE MODELS OF THE SECTIONS

abbrev pub plain_modules : List Section → List Module
plain_modules sections = map plain_module sections

abbrev pub module_name : Module → Word
module_name m = m.model.name

-- the first model of that name
abbrev pub place_named : List Module → Word → Option ℕ
place_named modules name = place_of (map module_name modules) name

abbrev pub module_at : List Module → Option ℕ → Option Module
module_at modules None = None
module_at modules (Some k) = slice_get modules k

abbrev pub module_named : List Module → Word → Option Module
module_named modules name = module_at modules (place_named modules name)

-- THE FORMALS OF A CALLED MODEL

-- the inputs and the clocks; a formal that is one of these counts as an input alone
abbrev pub inward : Model → List Word
inward m = m.inputs ++ m.clocks

abbrev pub is_inward : Model → Word → Bool
is_inward m x = is_among (inward m) x

abbrev pub is_formal : Model → Word → Bool
is_formal m x = is_inward m x || is_among m.outputs x

-- PINS

-- each formal is one of the model's, and stands once
abbrev pub formals_fault : Model → List Word → List Connection → Option ReadRefusal
formals_fault m given [] = None
formals_fault m given (p ∷ ps) =
    or_else (fault_if (is_among given p.formal || not (is_formal m p.formal)) BadPin p.place) (formals_fault m (given ++ p.formal ∷ []) ps)

abbrev pub formals_of : List Connection → List Word
formals_of pins = map (λ (p : Connection). p.formal) pins

-- every input is given
abbrev pub gives_inputs : Model → List Connection → Bool
gives_inputs m pins = list_all (is_among (formals_of pins)) (inward m)

abbrev pub pins_fault : Call → Option Module → Option ReadRefusal
pins_fault c None = fault UnknownModel c.callee_place
pins_fault c (Some m) = or_else (formals_fault m.model [] c.pins) (fault_if (not (gives_inputs m.model c.pins)) MissingPin c.place)

abbrev pub call_fault : List Module → Call → Option ReadRefusal
call_fault modules c = pins_fault c (module_named modules c.callee)

abbrev pub section_calls_fault : List Module → Section → Option ReadRefusal
section_calls_fault modules s = first_of (call_fault modules) (calls_of s)

abbrev pub calls_fault : List Section → Option ReadRefusal
calls_fault sections = first_of (section_calls_fault (plain_modules sections)) sections

-- NAMES

-- the actual of an input formal is used as a cover's input is, and that of an output formal driven as a cover's output
abbrev pub pin_use : Model → Connection → Use
pin_use m p = record { role = if is_inward m p.formal then CoverInput else CoverOutput; name = p.actual; place = p.place }

abbrev pub pin_uses : Call → Option Module → List Use
pin_uses c None = []
pin_uses c (Some m) = map (pin_use m.model) c.pins

abbrev pub uses_by : List Module → List Spot → Option Call → List Use
uses_by modules line None = uses_of line
uses_by modules line (Some c) = pin_uses c (module_named modules c.callee)

abbrev pub line_uses : List Module → List Spot → List Use
line_uses modules line = uses_by modules line (call_of line)

-- the names that a section uses, in the order of the text
abbrev pub section_uses : List Module → Section → List Use
section_uses modules s = flat_map (line_uses modules) s.body

abbrev pub driven_twice_fault : List Use → List Use → Option ReadRefusal
driven_twice_fault had [] = None
driven_twice_fault had (u ∷ us) = or_else (fault_if (stands_in drives_twice had u) DoubleDriven u.place) (driven_twice_fault (had ++ u ∷ []) us)

abbrev pub section_drivers_fault : List Module → Section → Option ReadRefusal
section_drivers_fault modules s = driven_twice_fault [] (section_uses modules s)

abbrev pub drivers_fault : List Section → Option ReadRefusal
drivers_fault sections = first_of (section_drivers_fault (plain_modules sections)) sections

abbrev pub section_users_fault : List Module → Section → Option ReadRefusal
section_users_fault modules s = undriven_fault (section_uses modules s)

abbrev pub users_fault : List Section → Option ReadRefusal
users_fault sections = first_of (section_users_fault (plain_modules sections)) sections
