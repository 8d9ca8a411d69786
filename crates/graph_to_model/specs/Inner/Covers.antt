-- What the covers of the model of a net are: one for each gate, and then copies and constants.
use Rattle.std.specs.Prelude.{◌≡◌, ◌≢◌, ◌≤◌, ◌+◌, ℕ, Bool, false, List, map, length, Option, Some, slice_get}
use Rattle.rm_base.specs.Words.{Word}
use Rattle.rm_model.specs.Value.{is_among, value_of}
use Rattle.rm_model.specs.WellFormed.{IsWellFormedCover}
use Rattle.rm_model.specs.declared.parts.Cover.{Cover}
use Rattle.rm_model.specs.declared.parts.Model.{Model}
use Rattle.gate_net.specs.declared.Kind.{Kind}
use Rattle.gate_net.specs.declared.Kind.TheVariants.{Not, Xor}
use Rattle.gate_net.specs.Net.{Node, Net, node_at, IsGateKind}
use Rattle.gate_net.specs.Values.{gate_value}
use Rattle.graph_to_model.specs.Names.{node_name}
use Rattle.graph_to_model.specs.NetModel.{copy_cover}
use Rattle.graph_to_model.specs.Wires.{is_copy}

-- these are the nodes of the net from that number on
abbrev pub AreNodesFrom : Net → ℕ → List (Option Node) → Type 0
AreNodesFrom net n os = (k : ℕ) (o : Option Node) → slice_get os k ≡ Some o → node_at net (n + k) ≡ o

-- a Not has one pin, and an Xor two
pub record HasPins (kind : Kind) (count : ℕ) : Type 0 where
  pub one : kind ≡ Not → count ≡ 1
  pub two : kind ≡ Xor → count ≡ 2

-- what holds of the cover of a gate of that kind
pub record CoverOf (kind : Kind) (inputs : List Word) (output : Word) (c : Cover) : Type 0 where
  pub gate : IsGateKind kind
  pub in_is : c.inputs ≡ inputs
  pub out_is : c.output ≡ output
  pub formed : HasPins kind (length inputs) → IsWellFormedCover c
  pub value : (bs : List Bool) → length bs ≡ length inputs → HasPins kind (length inputs) → value_of c bs ≡ gate_value kind false bs
  pub no_copy : HasPins kind (length inputs) → (kind ≢ Not → 2 ≤ length inputs) → is_copy c ≡ false

-- the cover of the gate of that number
pub record IsGateCover (m : Model) (net : Net) (n : ℕ) (c : Cover) : Type 0 where
  pub node : Node
  pub at : node_at net n ≡ Some node
  pub cover : CoverOf node.kind (map (node_name m net) node.drivers) (node_name m net n) c

-- a node and a name stand at one place of their lists
abbrev pub StandAtOnePlace : List ℕ → List Word → ℕ → Word → Type 0
StandAtOnePlace ns xs n x = (k : ℕ) × ((slice_get ns k ≡ Some n) × (slice_get xs k ≡ Some x))

-- the copy or constant for an observed name of the node, where no cover has that name yet
pub record IsCopyCover (m : Model) (net : Net) (had : List Word) (ns : List ℕ) (xs : List Word) (c : Cover) : Type 0 where
  pub node : ℕ
  pub name : Word
  pub at : StandAtOnePlace ns xs node name
  pub is : c ≡ copy_cover m net node name
  pub fresh : is_among had name ≡ false
