-- Beside Fronts.antt: items by what stands behind their byte.
use Rattle.std.specs.Prelude.{ℕ, List, Option, Some, None}
use Rattle.rm_base.specs.declared.numbers.NodeId.{NodeId}
use Rattle.refutation.specs.declared.items.Item.{Item}
use Rattle.refutation.specs.declared.items.Item.TheVariants as item
use Rattle.refutation.specs.declared.reasoning.Line.TheVariants as line
use Rattle.journal_binary.specs.Fronts.{Front, bad, got, with_bit, with_node, with_pin}
use Rattle.journal_binary.specs.declared.items.Kind.{Kind}
use Rattle.journal_binary.specs.declared.items.Kind.TheVariants as kind
use Rattle.journal_binary.specs.declared.items.NodeKind.{NodeKind}
use Rattle.journal_binary.specs.declared.items.NodeKind.TheVariants as of_node
use Rattle.journal_binary.specs.declared.items.PinKind.{PinKind}
use Rattle.journal_binary.specs.declared.items.PinKind.TheVariants as of_pin

abbrev pub node_item : NodeKind → NodeId → Item
node_item of_node.Chain x = item.Line (line.Chain x)
node_item of_node.Out x = item.Line (line.Out x)
node_item of_node.Constant x = item.Line (line.Constant x)
node_item of_node.GoodForward x = item.Line (line.GoodForward x)
node_item of_node.FaultyForward x = item.Line (line.FaultyForward x)
node_item of_node.Compare x = item.Line (line.Compare x)
node_item of_node.ToFaulty x = item.Line (line.ToFaulty x)
node_item of_node.ToGood x = item.Line (line.ToGood x)
node_item of_node.EqualForward x = item.Line (line.EqualForward x)
node_item of_node.NotDiffers x = item.Line (line.NotDiffers x)
node_item of_node.NotEqual x = item.Line (line.NotEqual x)
node_item of_node.Clash x = item.Clash x

abbrev pub pin_item : PinKind → NodeId → ℕ → Item
pin_item of_pin.GoodBack x q = item.Line (line.GoodBack x q)
pin_item of_pin.FaultyBack x q = item.Line (line.FaultyBack x q)
pin_item of_pin.DiffersBack x q = item.Line (line.DiffersBack x q)
pin_item of_pin.Side x q = item.Line (line.Side x q)

-- what is read behind the byte of an item
abbrev pub read_kind : Kind → List ℕ → Front Item
read_kind (kind.Bare i) bytes = got i bytes
read_kind (kind.Node k) bytes = with_node (λ x. node_item k x) bytes
read_kind (kind.Pin k) bytes = with_pin (λ x q. pin_item k x q) bytes
read_kind kind.Split bytes = with_bit (λ x first. item.Split x first) bytes

abbrev pub read_kinds : Option Kind → List ℕ → Front Item
read_kinds None bytes = bad
read_kinds (Some k) bytes = read_kind k bytes
