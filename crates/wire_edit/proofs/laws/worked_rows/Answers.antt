use Rattle.std.proofs.Common.{refl}
use Rattle.wire_edit.specs.Order.{rule_at}
use Rattle.wire_edit.proofs.laws.worked_rows.Goals as goal

pub returns-clause-tidy : goal.returns-clause-tidy
unfolding rule_at
returns-clause-tidy c = refl

pub returns-clause-zero_first : goal.returns-clause-zero_first
unfolding rule_at
returns-clause-zero_first c = refl

pub returns-clause-zero_second : goal.returns-clause-zero_second
unfolding rule_at
returns-clause-zero_second c = refl

pub returns-clause-zero_tidy : goal.returns-clause-zero_tidy
unfolding rule_at
returns-clause-zero_tidy c = refl

pub returns-clause-buffer_first : goal.returns-clause-buffer_first
unfolding rule_at
returns-clause-buffer_first c = refl

pub returns-clause-buffer_second : goal.returns-clause-buffer_second
unfolding rule_at
returns-clause-buffer_second c = refl

pub returns-clause-buffer_third : goal.returns-clause-buffer_third
unfolding rule_at
returns-clause-buffer_third c = refl

pub returns-clause-turn_first : goal.returns-clause-turn_first
unfolding rule_at
returns-clause-turn_first c = refl

pub returns-clause-turn_tidy : goal.returns-clause-turn_tidy
unfolding rule_at
returns-clause-turn_tidy c = refl

pub returns-clause-pass_first : goal.returns-clause-pass_first
unfolding rule_at
returns-clause-pass_first c = refl

pub returns-clause-pass_second : goal.returns-clause-pass_second
unfolding rule_at
returns-clause-pass_second c = refl

pub returns-clause-even_first : goal.returns-clause-even_first
unfolding rule_at
returns-clause-even_first c = refl

pub returns-clause-even_second : goal.returns-clause-even_second
unfolding rule_at
returns-clause-even_second c = refl
