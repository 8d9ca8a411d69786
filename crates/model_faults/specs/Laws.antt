-- The faults of a tidy net are those of its model.
use Rattle.std.specs.Prelude.{◌≡◌, ◌<◌, ℕ, Bool, List, length, Some, slice_get}
use Rattle.rm_model.specs.WellFormed.{IsWellFormed}
use Rattle.rm_model.specs.declared.parts.Cover.{Cover}
use Rattle.rm_model.specs.declared.parts.Model.{Model}
use Rattle.rm_base.specs.declared.numbers.Fault.{Fault}
use Rattle.gate_net.specs.Net.{Net, drivers_of, source_count, IsGate, IsWellFormed as IsNet}
use Rattle.gate_net.specs.Values.{Detects}
use Rattle.wire_edit.specs.Order.{IsTidy}
use Rattle.graph_to_model.specs.NetModel.{model_of_net}
use Rattle.graph_to_model.specs.Fits.{Fits}
use Rattle.graph_to_model.specs.Laws.{AreFew}
use Rattle.model_faults.specs.ModelFaults.{DetectsIn, ModelFault, faults_of_model, gate_covers_of}
use Rattle.gate_net.specs.Faults.{gates_of, faults_of, fault_at, assigned, Gives}

-- the gate has as many pins as the cover has inputs, and the same vectors detect their faults
pub record HasSameFaults (net : Net) (m : Model) (gate : ℕ) (cover : Cover) : Type 0 where
  pub pins : length cover.inputs ≡ length (drivers_of net gate)
  pub to_model : (position : ℕ) (value : Bool) (a : ℕ → Bool) (vector : List Bool) → length vector ≡ source_count net → Gives a vector → Detects net (fault_at gate position value) a → DetectsIn m vector cover position value
  pub to_net : (position : ℕ) (value : Bool) (a : ℕ → Bool) (vector : List Bool) → Gives a vector → DetectsIn m vector cover position value → Detects net (fault_at gate position value) a

-- the fault is in the list of all faults
abbrev pub IsListed : Net → Fault → Type 0
IsListed net fault = (j : ℕ) × (slice_get (faults_of net) j ≡ Some fault)

-- the k-th gate of the net is the k-th gate cover of the model, and each fault of the cover is one of the list
pub record HasModelFaults (net : Net) (m : Model) : Type 0 where
  pub count : length (gate_covers_of m) ≡ length (gates_of net)
  pub each : (k gate : ℕ) (cover : Cover) → slice_get (gates_of net) k ≡ Some gate → slice_get (gate_covers_of m) k ≡ Some cover → HasSameFaults net m gate cover
  pub listed : (k position : ℕ) (value : Bool) (cover : Cover) → slice_get (gate_covers_of m) k ≡ Some cover → position < length cover.inputs → (gate : ℕ) × ((slice_get (gates_of net) k ≡ Some gate) × IsListed net (fault_at gate position value))

-- the gates of a net ascend, and are all its gates; each fault of a net stands once in its list
pub record AreListedOnce (net : Net) : Type 0 where
  pub ascend : (i j x y : ℕ) → i < j → slice_get (gates_of net) i ≡ Some x → slice_get (gates_of net) j ≡ Some y → x < y
  pub all : (x : ℕ) → IsGate net x → (k : ℕ) × (slice_get (gates_of net) k ≡ Some x)
  pub gates : (k x : ℕ) → slice_get (gates_of net) k ≡ Some x → IsGate net x
  pub once : (i j : ℕ) (fault : Fault) → slice_get (faults_of net) i ≡ Some fault → slice_get (faults_of net) j ≡ Some fault → i ≡ j

abbrev pub NetsListOnce : Type 0
NetsListOnce = (net : Net) → AreListedOnce net

-- a vector is given by its own assignment
abbrev pub VectorsGive : Type 0
VectorsGive = (vector : List Bool) → Gives (assigned vector) vector

-- the faults of a tidy net are those of its model
abbrev pub TidyNetsHaveModelFaults : Type 0
TidyNetsHaveModelFaults =
    (net : Net) (m : Model) → IsNet net → IsTidy net → IsWellFormed m → Fits net m → AreFew net m → HasModelFaults net (model_of_net m net)

-- the same vectors detect the fault of the net and that of the model
pub record IsSameFault (net : Net) (m : Model) (fault : Fault) (own : ModelFault) : Type 0 where
  pub to_model : (a : ℕ → Bool) (vector : List Bool) → length vector ≡ source_count net → Gives a vector → Detects net fault a → DetectsIn m vector own.cover own.position own.value
  pub to_net : (a : ℕ → Bool) (vector : List Bool) → Gives a vector → DetectsIn m vector own.cover own.position own.value → Detects net fault a

-- the net and the model have as many faults, and the same ones in the same order
pub record ListAlike (net : Net) (m : Model) : Type 0 where
  pub count : length (faults_of_model m) ≡ length (faults_of net)
  pub each : (j : ℕ) (fault : Fault) (own : ModelFault) → slice_get (faults_of net) j ≡ Some fault → slice_get (faults_of_model m) j ≡ Some own → IsSameFault net m fault own

-- a tidy net and its model list their faults alike
abbrev pub TidyNetsListAlike : Type 0
TidyNetsListAlike = (net : Net) (m : Model) → IsNet net → IsTidy net → IsWellFormed m → Fits net m → AreFew net m → ListAlike net (model_of_net m net)
