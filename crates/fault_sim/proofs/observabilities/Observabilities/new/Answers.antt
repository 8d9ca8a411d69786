use Rattle.fault_sim.proofs.Noting.{new_notes, none_is_right}
use Rattle.fault_sim.proofs.observabilities.Observabilities.new.Goals as goal

pub returns-clause-none : goal.returns-clause-none
returns-clause-none c = new_notes _ c.args.numbers (c.in_ok-notes.ensures.items_if_clones_equal (λ y e. e))

pub returns-clause-right : goal.returns-clause-right
returns-clause-right c = none_is_right _ c.args.numbers (new_notes _ c.args.numbers (c.in_ok-notes.ensures.items_if_clones_equal (λ y e. e)))
