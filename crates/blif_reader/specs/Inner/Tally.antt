-- A table of the names that are used so far, and what it stands for.
use Rattle.std.specs.Prelude.{◌≡◌, ◌+◌, ℕ, Bool, true, false, not, ◌&&◌, ◌||◌, nat_lt, is_some, List, [], ◌∷◌, ◌++◌, map, length, fold, Option, None, Some, if◌then◌else◌}
use Rattle.std.specs.List.{filter_map, list_any}
use Rattle.rm_base.specs.declared.numbers.Place.{Place}
use Rattle.rm_model.specs.Words.{is_word}
use Rattle.rm_model.specs.Value.{is_among}
use Rattle.blif_lines.specs.Layout.{Spot}
use Rattle.blif_format.specs.Uses.{Use, use_of, is_source_role, is_observed_role, names_in, distinct_count, is_clock, is_input, is_output}
use Rattle.blif_format.specs.declared.words.Part.{Part}
use Rattle.blif_format.specs.declared.words.Role.{Role}
use Rattle.blif_format.specs.declared.words.Role.TheVariants.{Input, ClockInput, Output, CoverOutput, LatchOutput}
use Rattle.blif_format.specs.FirstFault.{or_else, use_fault, fault_if, limit_if, name_limit, is_cover_input, is_over}
use Rattle.blif_format.specs.declared.refusal.FaultKind.TheVariants.{DoubleDriven, DoubleOutput}
use Rattle.blif_format.specs.declared.refusal.Quantity.TheVariants.{Inputs, Sources, Observed, Signals}
use Rattle.blif_format.specs.declared.refusal.ReadRefusal.{ReadRefusal}
use Rattle.blif_reader.specs.declared.names.Flags.{Flags}
use Rattle.blif_reader.specs.declared.names.NameUse.{NameUse}
use Rattle.blif_reader.specs.declared.names.Counts.{Counts}
use Rattle.rm_base.specs.Words.{Word}

-- each name with its entry, by first appearance
pub record Tally : Type 0 where
  pub entries : List (Word × NameUse)
  pub sources : ℕ
  pub observed : ℕ

abbrev pub entry_of : List (Word × NameUse) → Word → Option NameUse
entry_of [] x = None
entry_of (e ∷ es) x = if is_word x e.0 then Some e.1 else entry_of es x

abbrev pub no_flags : Flags
no_flags = record { input = false; clock = false; latch = false; cover = false; output = false }

abbrev pub flags_or_none : Option NameUse → Flags
flags_or_none None = no_flags
flags_or_none (Some e) = e.flags

abbrev pub flags_at : List (Word × NameUse) → Word → Flags
flags_at es x = flags_or_none (entry_of es x)

abbrev pub has_source : Flags → Bool
has_source f = f.input || (f.clock || f.latch)

abbrev pub has_driver : Flags → Bool
has_driver f = has_source f || f.cover

abbrev pub is_driven_twice : Flags → Role → Bool
is_driven_twice f Input = f.input || (f.latch || f.cover)
is_driven_twice f ClockInput = f.clock || (f.latch || f.cover)
is_driven_twice f LatchOutput = has_driver f
is_driven_twice f CoverOutput = has_driver f
is_driven_twice f role = false

abbrev pub is_listed_twice : Flags → Role → Bool
is_listed_twice f Output = f.output
is_listed_twice f role = false

abbrev pub with_role : Flags → Role → Flags
with_role f Input = record f { input = true }
with_role f ClockInput = record f { clock = true }
with_role f LatchOutput = record f { latch = true }
with_role f CoverOutput = record f { cover = true }
with_role f Output = record f { output = true }
with_role f role = f

-- the entry under that name, in its place or at the end
abbrev pub put_entry : List (Word × NameUse) → Word → NameUse → List (Word × NameUse)
put_entry [] x e = (x, e) ∷ []
put_entry (y ∷ ys) x e = if is_word x y.0 then (y.0, e) ∷ ys else y ∷ put_entry ys x e

abbrev pub more_if : Bool → ℕ → ℕ
more_if b n = if b then n + 1 else n

abbrev pub sources_after : Tally → Use → ℕ
sources_after t this = more_if (is_source_role this.role && not (has_source (flags_at t.entries this.name))) t.sources

abbrev pub observed_after : Tally → Use → ℕ
observed_after t this = more_if (is_observed_role this.role) t.observed

abbrev pub signals_after : Tally → Use → ℕ
signals_after t this = more_if (not (is_some (entry_of t.entries this.name))) (length t.entries)

abbrev pub place_or : Option NameUse → Place → Place
place_or None place = place
place_or (Some e) place = e.place

abbrev pub with_use : Tally → Use → Tally
with_use t this = record {
  entries = put_entry t.entries this.name (record { flags = with_role (flags_at t.entries this.name) this.role; place = place_or (entry_of t.entries this.name) this.place });
  sources = sources_after t this;
  observed = observed_after t this;
}

abbrev pub flags_check : Flags → Role → Place → Option ReadRefusal
flags_check f role place = or_else (fault_if (is_driven_twice f role) DoubleDriven place) (fault_if (is_listed_twice f role) DoubleOutput place)

abbrev pub inputs_check : Role → ℕ → Place → Option ReadRefusal
inputs_check role earlier place = limit_if (is_cover_input role && nat_lt 65535 earlier) Inputs (earlier + 1) place

abbrev pub counts_check : Counts → Place → Option ReadRefusal
counts_check c place =
    or_else (limit_if (is_over 1024 c.sources) Sources c.sources place)
    (or_else (limit_if (is_over 4096 c.observed) Observed c.observed place) (limit_if (is_over 131072 c.signals) Signals c.signals place))

-- the fault of a use, by the flags of its name and the counts with it
abbrev pub use_check : Flags → Counts → Role → Word → ℕ → Place → Option ReadRefusal
use_check f c role name earlier place =
    or_else (flags_check f role place) (or_else (name_limit name place) (or_else (inputs_check role earlier place) (counts_check c place)))

abbrev pub counts_after : Tally → Use → Counts
counts_after t this = record { sources = sources_after t this; observed = observed_after t this; signals = signals_after t this }

abbrev pub tally_fault : Tally → ℕ → Use → Option ReadRefusal
tally_fault t earlier this = use_check (flags_at t.entries this.name) (counts_after t this) this.role this.name earlier this.place

-- as what a name stands in some uses
abbrev pub plays : (Role → Bool) → List Use → Word → Bool
plays test uses x = list_any (λ (u : Use). test u.role && is_word u.name x) uses

abbrev pub is_latch : Role → Bool
is_latch LatchOutput = true
is_latch role = false

abbrev pub is_cover : Role → Bool
is_cover CoverOutput = true
is_cover role = false

abbrev pub flags_in : List Use → Word → Flags
flags_in uses x = record {
  input = plays is_input uses x;
  clock = plays is_clock uses x;
  latch = plays is_latch uses x;
  cover = plays is_cover uses x;
  output = plays is_output uses x;
}

abbrev pub any_role : Role → Bool
any_role role = true

-- the first use of each name
abbrev pub with_first : List (Word × Place) → Use → List (Word × Place)
with_first fs u = if is_among (map (λ (f : Word × Place). f.0) fs) u.name then fs else fs ++ (u.name, u.place) ∷ []

abbrev pub firsts : List Use → List (Word × Place)
firsts uses = fold with_first [] uses

abbrev pub first_of : Word × NameUse → Word × Place
first_of e = (e.0, e.1.place)

-- the place of a name without a driver
abbrev pub free_of : Option (Word × NameUse) → Option Place
free_of None = None
free_of (Some e) = if has_driver e.1.flags then None else Some e.1.place

-- the place of the first one
abbrev pub first_free : List (Word × NameUse) → Option Place
first_free [] = None
first_free (e ∷ es) = if has_driver e.1.flags then first_free es else Some e.1.place

-- the table stands for these uses
pub record IsTally (uses : List Use) (t : Tally) : Type 0 where
  pub flags : (x : Word) → flags_at t.entries x ≡ flags_in uses x
  pub firsts_are : map first_of t.entries ≡ firsts uses
  pub known : (x : Word) → is_some (entry_of t.entries x) ≡ is_among (names_in any_role uses) x
  pub signals : length t.entries ≡ distinct_count (names_in any_role uses)
  pub sources : t.sources ≡ distinct_count (names_in is_source_role uses)
  pub observed : t.observed ≡ length (names_in is_observed_role uses)

-- the use has no fault after those before it, and the table stands for it too
pub record TakesUse (had : List Use) (earlier : ℕ) (this : Use) (t : Tally) : Type 0 where
  pub faultless : use_fault had earlier this ≡ None
  pub tallied : IsTally (had ++ this ∷ []) t

-- the parts of a line have no fault, and the table stands for their uses too
pub record TakesParts (had : List Use) (parts : List (Part × Spot)) (fault : Option ReadRefusal) (t : Tally) : Type 0 where
  pub faultless : fault ≡ None
  pub tallied : IsTally (had ++ filter_map use_of parts) t
