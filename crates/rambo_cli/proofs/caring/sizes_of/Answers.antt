use Rattle.std.proofs.Common.{ap, ◌∙◌}
use Rattle.gate_net.specs.Net.{Net, gate_count, wire_count}
use Rattle.rambo_cli.proofs.caring.sizes_of.Goals as goal

pub returns-in-Ok-clause-wires : goal.returns-in-Ok-clause-wires
returns-in-Ok-clause-wires c = c.wire_count.ensures ∙ (ap (λ (n : Net). wire_count n) c.in-Ok.ensures.net ∙ c.decompositions_stand.ensures.wires c.args.model.now c.requires.usable.formed c.requires.usable.ranks)

pub returns-in-Ok-clause-gates : goal.returns-in-Ok-clause-gates
returns-in-Ok-clause-gates c = c.gate_count.ensures ∙ ap (λ (n : Net). gate_count n) c.in-Ok.ensures.net
