use Rattle.wire_edit.proofs.Conditions.{applies_changes}
use Rattle.wire_edit.proofs.Formed.{changes_keep_form}
use Rattle.wire_edit.proofs.Observing.{changes_keep_observed}
use Rattle.wire_edit.proofs.Keeping.{steps_keep_values}
use Rattle.wire_edit.proofs.Sources.{changes_keep_sources}
use Rattle.wire_edit.proofs.laws.steps_keep.Goals as goal
use Rattle.wire_edit.specs.Steps.{change_of}

pub returns-clause-form : goal.returns-clause-form
returns-clause-form c = λ net step well applies. changes_keep_form net (change_of net step) well (applies_changes net step well applies)

pub returns-clause-observed : goal.returns-clause-observed
returns-clause-observed c = λ net step well applies. changes_keep_observed net (change_of net step) (applies_changes net step well applies)

pub returns-clause-values : goal.returns-clause-values
returns-clause-values c = steps_keep_values

pub returns-clause-sources : goal.returns-clause-sources
returns-clause-sources c = λ net step well applies. changes_keep_sources net (change_of net step) (applies_changes net step well applies)
