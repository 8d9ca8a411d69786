-- What each word of a command has to be, and the names that a text uses.
use Rattle.std.specs.Prelude.{◌+◌, ℕ, Bool, true, false, ◌&&◌, List, [], ◌∷◌, map, filter, Option, None, Some, codes, if◌then◌else◌}
use Rattle.std.specs.List.{list_any, filter_map}
use Rattle.rm_base.specs.declared.numbers.Place.{Place}
use Rattle.rm_model.specs.Words.{is_word}
use Rattle.rm_model.specs.Value.{is_among}
use Rattle.blif_lines.specs.Layout.{Spot}
use Rattle.blif_format.specs.declared.words.Command.{Command}
use Rattle.blif_format.specs.declared.words.Command.TheVariants.{Model, Inputs, Outputs, Clock, Names, Latch, End}
use Rattle.blif_format.specs.declared.words.Role.{Role}
use Rattle.blif_format.specs.declared.words.Role.TheVariants.{Input, ClockInput, Output, CoverInput, CoverOutput, LatchInput, LatchOutput, Control}
use Rattle.blif_format.specs.declared.words.Part.{Part}
use Rattle.blif_format.specs.declared.words.Part.TheVariants.{Title, Name, LatchType, Init, Extra}
use Rattle.rm_base.specs.Words.{Word}

abbrev pub command_words : List (Word × Command)
command_words =
    (codes ".model", Model) ∷ (codes ".inputs", Inputs) ∷ (codes ".outputs", Outputs) ∷ (codes ".clock", Clock)
    ∷ (codes ".names", Names) ∷ (codes ".latch", Latch) ∷ (codes ".end", End) ∷ []

abbrev pub command_in : List (Word × Command) → Word → Option Command
command_in [] word = None
command_in (e ∷ es) word = if is_word e.0 word then Some e.1 else command_in es word

abbrev pub command_of : Word → Option Command
command_of word = command_in command_words word

abbrev pub all_are : Part → List Spot → List (Part × Spot)
all_are part spots = map (λ (s : Spot). (part, s)) spots

-- words in these parts, and words too many
abbrev pub in_parts : List Part → List Spot → List (Part × Spot)
in_parts parts [] = []
in_parts [] (s ∷ ss) = all_are Extra (s ∷ ss)
in_parts (p ∷ ps) (s ∷ ss) = (p, s) ∷ in_parts ps ss

-- the last name is the cover's output
abbrev pub names_parts : List Spot → List (Part × Spot)
names_parts [] = []
names_parts (s ∷ []) = (Name CoverOutput, s) ∷ []
names_parts (s ∷ t ∷ ss) = (Name CoverInput, s) ∷ names_parts (t ∷ ss)

-- by the number of the words behind `.latch`
abbrev pub latch_parts : List Spot → List Part
latch_parts (a ∷ b ∷ []) = Name LatchInput ∷ Name LatchOutput ∷ []
latch_parts (a ∷ b ∷ c ∷ []) = Name LatchInput ∷ Name LatchOutput ∷ Init ∷ []
latch_parts (a ∷ b ∷ c ∷ d ∷ []) = Name LatchInput ∷ Name LatchOutput ∷ LatchType ∷ Name Control ∷ []
latch_parts spots = Name LatchInput ∷ Name LatchOutput ∷ LatchType ∷ Name Control ∷ Init ∷ []

abbrev pub parts_of : Command → List Spot → List (Part × Spot)
parts_of Model spots = in_parts (Title ∷ []) spots
parts_of Inputs spots = all_are (Name Input) spots
parts_of Outputs spots = all_are (Name Output) spots
parts_of Clock spots = all_are (Name ClockInput) spots
parts_of Names spots = names_parts spots
parts_of Latch spots = in_parts (latch_parts spots) spots
parts_of End spots = all_are Extra spots

-- how many words a command has at the least
abbrev pub least_words : Command → ℕ
least_words Model = 1
least_words Names = 1
least_words Latch = 2
least_words command = 0

-- a name where it is used
pub record Use : Type 0 where
  pub role : Role
  pub name : Word
  pub place : Place

-- a control that is `NIL` is no name
abbrev pub use_of : Part × Spot → Option Use
use_of (Name Control, s) = if is_word (codes "NIL") s.word then None else Some (record { role = Control; name = s.word; place = s.place })
use_of (Name role, s) = Some (record { role = role; name = s.word; place = s.place })
use_of (part, s) = None

-- the names that a line uses, in order
abbrev pub uses_of : List Spot → List Use
uses_of [] = []
uses_of (s ∷ ss) = elim (command_of s.word) [ None ↦ [] | Some command ↦ filter_map use_of (parts_of command ss) ]

abbrev pub is_source_role : Role → Bool
is_source_role Input = true
is_source_role ClockInput = true
is_source_role LatchOutput = true
is_source_role role = false

abbrev pub is_driver : Role → Bool
is_driver CoverOutput = true
is_driver role = is_source_role role

abbrev pub is_observed_role : Role → Bool
is_observed_role Output = true
is_observed_role LatchInput = true
is_observed_role Control = true
is_observed_role role = false

-- a name in this role wants a driver
abbrev pub wants_driver : Role → Bool
wants_driver CoverInput = true
wants_driver role = is_observed_role role

-- whether one name may not stand in both roles; a clock may be an input
abbrev pub drives_twice : Role → Role → Bool
drives_twice Input ClockInput = false
drives_twice ClockInput Input = false
drives_twice role other = is_driver role && is_driver other

abbrev pub lists_twice : Role → Role → Bool
lists_twice Output Output = true
lists_twice role other = false

-- whether the name stands in some role that clashes with its new one
abbrev pub stands_in : (Role → Role → Bool) → List Use → Use → Bool
stands_in clashes had this = list_any (λ (u : Use). clashes u.role this.role && is_word u.name this.name) had

abbrev pub names_in : (Role → Bool) → List Use → List Word
names_in test uses = map (λ (u : Use). u.name) (filter (λ (u : Use). test u.role) uses)

abbrev pub distinct_count : List Word → ℕ
distinct_count [] = 0
distinct_count (x ∷ xs) = if is_among xs x then distinct_count xs else 1 + distinct_count xs

-- a name of these roles is an input, a clock, an output
abbrev pub is_input : Role → Bool
is_input Input = true
is_input role = false

abbrev pub is_clock : Role → Bool
is_clock ClockInput = true
is_clock role = false

abbrev pub is_output : Role → Bool
is_output Output = true
is_output role = false
