use Rattle.blif_reader.proofs.Within.{faultless_are_within, limits_are_kept}
use Rattle.blif_reader.proofs.laws.texts_keep_limits.Goals as goal

pub returns-clause-within : goal.returns-clause-within
returns-clause-within c = faultless_are_within

pub returns-clause-kept : goal.returns-clause-kept
returns-clause-kept c = limits_are_kept
