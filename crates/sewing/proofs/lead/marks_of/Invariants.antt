use Rattle.std.proofs.Common.{◌≡◌, ◌||◌, ℕ, Bool, length, drop}
use Rattle.std.specs.Prelude.{slice_get, Some}
use Rattle.std.specs.List.{list_any}
use Rattle.sewing.specs.Inner.Making.{has_lead}
use Rattle.sewing.proofs.lead.marks_of.Given as goal

abbrev pub invariant-loop-name : goal.invariant-loop-name
invariant-loop-name l = record {
  marks : (t : ℕ) (b : Bool) → slice_get l.marks.items t ≡ Some b → list_any (has_lead t) l.names ≡ (b || list_any (has_lead t) (drop l.name-index l.names));
  count : length l.marks.items ≡ length l.names;
}
