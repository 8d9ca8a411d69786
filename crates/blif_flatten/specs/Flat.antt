-- The flat model of a hierarchy: the covers and the latches of its instances, with copies from actuals to input formals and from output formals to actuals.
use Rattle.std.specs.Prelude.{◌+◌, ℕ, true, not, List, [], ◌∷◌, ◌++◌, map, filter}
use Rattle.std.specs.Option.{option_map}
use Rattle.rm_base.specs.declared.numbers.Place.{Place}
use Rattle.rm_base.specs.Words.{Word}
use Rattle.rm_model.specs.declared.parts.Literal.TheVariants.{One}
use Rattle.rm_model.specs.declared.parts.Timing.{Timing}
use Rattle.rm_model.specs.declared.parts.Cover.{Cover}
use Rattle.rm_model.specs.declared.parts.Latch.{Latch}
use Rattle.rm_model.specs.declared.parts.Model.{Model}
use Rattle.blif_flatten.specs.declared.modules.Pin.{Pin}
use Rattle.blif_flatten.specs.declared.modules.Link.{Link}
use Rattle.blif_flatten.specs.declared.modules.Module.{Module}
use Rattle.blif_flatten.specs.Instances.{Calls, Done, Then, instance_count, name_in}

abbrev pub renamed_cover : (Word → Word) → Cover → Cover
renamed_cover f c = record c { inputs = map f c.inputs; output = f c.output }

abbrev pub renamed_timing : (Word → Word) → Timing → Timing
renamed_timing f t = record t { control = option_map f t.control }

abbrev pub renamed_latch : (Word → Word) → Latch → Latch
renamed_latch f l = record l { input = f l.input; output = f l.output; timing = option_map (renamed_timing f) l.timing }

-- a cover with the row `1 1`
abbrev pub copy : Word → Word → Cover
copy from to = record { inputs = from ∷ []; output = to; on = true; rows = (One ∷ []) ∷ [] }

abbrev pub input_pins : Link → List Pin
input_pins l = filter (λ (p : Pin). p.is_input) l.pins

abbrev pub output_pins : Link → List Pin
output_pins l = filter (λ (p : Pin). not p.is_input) l.pins

-- the input actuals of the caller's instance are copied to the formals of the called one
abbrev pub copies_in : Word → ℕ → ℕ → List Pin → List Cover
copies_in before outer i pins = map (λ (p : Pin). copy (name_in before outer p.actual) (name_in before i p.formal)) pins

-- the output formals of the called instance are copied to the actuals of the caller's
abbrev pub copies_out : Word → ℕ → ℕ → List Pin → List Cover
copies_out before outer i pins = map (λ (p : Pin). copy (name_in before i p.formal) (name_in before outer p.actual)) pins

-- the covers of the calls of instance `outer`, of which the first called one has the number i
abbrev pub covers_in : Word → ℕ → ℕ → Calls → List Cover
covers_in before outer i Done = []
covers_in before outer i (Then l m inside behind) =
    (copies_in before outer i (input_pins l)
    ++ ((map (renamed_cover (name_in before i)) m.model.covers ++ covers_in before i (i + 1) inside)
    ++ copies_out before outer i (output_pins l)))
    ++ covers_in before outer (i + 1 + instance_count inside) behind

-- the place of each of these covers: that of its `.names`, or of the `.subckt` that has the copy
abbrev pub places_in : Calls → List Place
places_in Done = []
places_in (Then l m inside behind) =
    (map (λ (p : Pin). l.place) (input_pins l)
    ++ ((m.places ++ places_in inside)
    ++ map (λ (p : Pin). l.place) (output_pins l)))
    ++ places_in behind

abbrev pub latches_in : Word → ℕ → Calls → List Latch
latches_in before i Done = []
latches_in before i (Then l m inside behind) =
    (map (renamed_latch (name_in before i)) m.model.latches ++ latches_in before (i + 1) inside)
    ++ latches_in before (i + 1 + instance_count inside) behind

-- the top's model, with all that its calls bring
abbrev pub flat_model : Word → Model → Calls → Model
flat_model before top calls = record top { latches = top.latches ++ latches_in before 1 calls; covers = top.covers ++ covers_in before 0 1 calls }

abbrev pub flat_places : Module → Calls → List Place
flat_places top calls = top.places ++ places_in calls
