use Rattle.std.proofs.Common.{◌≡◌, drop}
use Rattle.std.specs.List.{list_all}
use Rattle.rm_model.specs.Value.{is_among}
use Rattle.rm_model.proofs.form.all_among.Given as goal

abbrev pub invariant-loop-name : goal.invariant-loop-name
invariant-loop-name l = list_all (is_among l.table) l.names ≡ list_all (is_among l.table) (drop l.name-index l.names)
