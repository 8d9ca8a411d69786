use Rattle.std.proofs.Common.{◌≡◌, take, true}
use Rattle.rm_model.specs.WellFormed.{is_distinct}
use Rattle.rm_model.proofs.form.all_distinct.Given as goal

abbrev pub invariant-loop-name : goal.invariant-loop-name
invariant-loop-name l = (l.seen ≡ take l.name-index l.names) × (is_distinct (take l.name-index l.names) ≡ true)
