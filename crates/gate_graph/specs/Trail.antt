-- What a contract sees of `Undos`.
use Rattle.std.specs.Prelude.{ℕ, List}
use Rattle.gate_graph.specs.declared.undo_list.Undo.{Undo}

-- the entries, the newest first, and how many more have room
pub record Trail : Type 0 where
  pub entries : List Undo
  pub spare : ℕ
