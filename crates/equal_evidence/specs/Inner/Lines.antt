-- The lines of evidence, as lines of a journal.
use Rattle.std.specs.Prelude.{List, codes, map, ℕ, ◌++◌, ◌∷◌}
use Rattle.equal_miter.specs.Proof.{values_behind}
use Rattle.equal_miter.specs.declared.likeness.Likeness.{Likeness}
use Rattle.equal_miter.specs.declared.likeness.Likeness.TheVariants.{Differ, Same, Undecided}
use Rattle.gate_net.specs.Faults.{fault_at}
use Rattle.journal_text.specs.Pieces.{behind}
use Rattle.journal_text.specs.Text.{item_word}
use Rattle.journal_text.specs.declared.record.Record.{Record}
use Rattle.journal_text.specs.declared.record.Record.TheVariants as kept
use Rattle.refutation.specs.declared.items.Item.{Item}
use Rattle.rm_base.specs.declared.numbers.Fault.{Fault}
use Rattle.std.specs.Prelude.{Bool, false}
use Rattle.wire_edit.specs.Order.{node}
use Rattle.wire_edit.specs.declared.steps.Step.TheVariants as step

-- the line of a likeness, without the LF that ends it
abbrev pub spelled : Likeness → List ℕ
spelled (Same items) = codes "same" ++ behind 32 (map item_word items)
spelled (Differ bits) = codes "differ" ++ values_behind bits
spelled (Undecided items) = codes "spent" ++ behind 32 (map item_word items)

-- the fault of no pin, by which a tree or a vector is read as that of a record
abbrev pub no_fault : Fault
no_fault = fault_at 0 0 false

abbrev pub fixed : List Item → Record
fixed items = kept.Step (step.Fix (node 0) 0 false) items

abbrev pub hit : List Bool → Record
hit bits = kept.Hit no_fault bits

abbrev pub spent : List Item → Record
spent items = kept.Spent no_fault items

-- a journal that has these bytes between its version and its end
abbrev pub journal_with : List ℕ → List ℕ
journal_with lines = codes "rambo 1 " ++ (lines ++ codes "end\n")
