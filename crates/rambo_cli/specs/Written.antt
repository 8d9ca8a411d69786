-- What a text is read as, and what keeps it from being optimised.
use Rattle.std.specs.Prelude.{◌≡◌, ◌⊎◌, ℕ, ◌+◌, ◌<◌, ◌≤◌, List, length, None, Some}
use Rattle.rm_base.specs.declared.numbers.Place.{Place}
use Rattle.rm_model.specs.declared.parts.Model.{Model}
use Rattle.blif_lines.specs.Layout.{lines_of}
use Rattle.blif_format.specs.Grammar.{Reads}
use Rattle.blif_format.specs.FirstFault.{first_fault}
use Rattle.blif_format.specs.declared.refusal.FaultKind.{FaultKind}
use Rattle.blif_format.specs.declared.refusal.Quantity.{Quantity}
use Rattle.blif_format.specs.declared.refusal.Quantity.TheVariants.{Text, Pins}
use Rattle.blif_format.specs.declared.refusal.ReadRefusal.TheVariants.{Fault, Limit}
use Rattle.cover_decompose.specs.Count.{decomposed}
pub use Rattle.cover_decompose.specs.Limits.{most_pins}

-- how long a text may be
abbrev pub most_bytes : ℕ
most_bytes = 16777216

-- the text has no fault and says the model
pub record IsSaid (text : List ℕ) (model : Model) : Type 0 where
  pub short : length text ≤ most_bytes
  pub faultless : first_fault text ≡ None
  pub reads : Reads (lines_of text) model

-- the first fault of the text
pub record HasFault (text : List ℕ) (kind : FaultKind) (place : Place) : Type 0 where
  pub short : length text ≤ most_bytes
  pub fault : first_fault text ≡ Some (Fault kind place)

-- a quantity of the text is over its limit: its length, one of its first fault, or the wires of the decomposition, which are counted so
pub record IsLong (text : List ℕ) (quantity : Quantity) (count : ℕ) : Type 0 where
  pub long : most_bytes < length text
  pub named : quantity ≡ Text
  pub counted : count ≡ most_bytes + 1

pub record ExceedsAt (text : List ℕ) (quantity : Quantity) (count : ℕ) : Type 0 where
  pub short : length text ≤ most_bytes
  pub place : Place
  pub fault : first_fault text ≡ Some (Limit quantity count place)

pub record HasManyPins (wires : Model → ℕ) (text : List ℕ) (quantity : Quantity) (count : ℕ) : Type 0 where
  pub short : length text ≤ most_bytes
  pub model : Model
  pub faultless : first_fault text ≡ None
  pub reads : Reads (lines_of text) model
  pub many : most_pins < wires model
  pub named : quantity ≡ Pins
  pub counted : count ≡ wires model

abbrev pub ExceedsBy : (Model → ℕ) → List ℕ → Quantity → ℕ → Type 0
ExceedsBy wires text quantity count = IsLong text quantity count ⊎ (ExceedsAt text quantity count ⊎ HasManyPins wires text quantity count)

abbrev pub Exceeds : List ℕ → Quantity → ℕ → Type 0
Exceeds = ExceedsBy decomposed
