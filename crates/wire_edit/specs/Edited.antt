-- Changes of a net as edits of a graph.
use Rattle.gate_net.specs.Edits.{constant_node}
use Rattle.gate_graph.specs.declared.editing.Edit.{Edit}
use Rattle.gate_graph.specs.declared.editing.Edit.TheVariants.{Append, Remove, Redrive, Readers, NewNot, Retire, ToNot}
use Rattle.wire_edit.specs.Changes.{Change, append, remove, fix, readers, new_not, retire, to_not}
use Rattle.wire_edit.specs.Order.{node}

-- the edit that makes the change
abbrev pub edit_of : Change → Edit
edit_of (append gate driver) = Append (node gate) (node driver)
edit_of (remove gate position) = Remove (node gate) position
edit_of (fix gate position value) = Redrive (node gate) position (node (constant_node value))
edit_of (readers from to) = Readers (node from) (node to)
edit_of (new_not driver) = NewNot (node driver)
edit_of (retire gate) = Retire (node gate)
edit_of (to_not gate position) = ToNot (node gate) position

-- the change makes a Not
abbrev pub IsNewNot : Change → Type 0
IsNewNot (new_not driver) = Unit {0}
IsNewNot _ = ⊥
