use Rattle.window_parts.proofs.Windows.{few_of, ready_found}
use Rattle.window_parts.proofs.limits.within_run.Goals as goal

pub returns-clause-ready : goal.returns-clause-ready
returns-clause-ready c =
    ready_found c.args.window.now c.few_wires.result c.requires.standalone ((c.ranks_exist.ensures.ranked c.args.window.now c.requires.standalone.formed.driven_once).0 c.requires.standalone.ranked)
    c.few_wires.ensures.same c.few_wires.ensures.within

pub returns-then-not-has_few_signals-clause-over : goal.returns-then-not-has_few_signals-clause-over
returns-then-not-has_few_signals-clause-over c = λ e within. let bad = c.if-not-has_few_signals.ensures.1 (few_of c.args.window.now within) in absurd cc
