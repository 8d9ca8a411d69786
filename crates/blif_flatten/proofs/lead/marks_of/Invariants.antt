use Rattle.std.proofs.Common.{◌≡◌, ◌||◌, ℕ, Bool, length, drop}
use Rattle.std.specs.Prelude.{slice_get, Some}
use Rattle.std.specs.List.{list_any}
use Rattle.blif_flatten.specs.Inner.Leads.{has_number}
use Rattle.blif_flatten.specs.Inner.Uses.{names_at}
use Rattle.blif_flatten.proofs.lead.marks_of.Given as goal

abbrev pub invariant-loop-this : goal.invariant-loop-this
invariant-loop-this l = record {
  marks : (t : ℕ) (b : Bool) → slice_get l.marks.items t ≡ Some b → list_any (has_number t) (names_at l.uses) ≡ (b || list_any (has_number t) (names_at (drop l.this-index l.uses)));
  count : length l.marks.items ≡ length l.uses;
}
