use Rattle.std.proofs.Common.{ap, arith, ◌≡◌}
use Rattle.gate_graph.specs.Circuit.{net_of}
use Rattle.gate_net.specs.Net.{Net}
use Rattle.wire_edit.specs.Work.{work}
use Rattle.care_opt.proofs.optimising.begin.Goals as goal

pub returns-in-Ok-clause-space : goal.returns-in-Ok-clause-space
returns-in-Ok-clause-space c =
    let most = c.tidying_ends.ensures.bounded (net_of c.args.graph) in
    let steps = c.enough-room.ensures.steps in
    let same : work (net_of c.in-Ok.trial.graph) ≡ work (net_of c.args.graph) = ap (λ (n : Net). work n) c.in-Ok.ensures.net in
    let first = ap (λ (r : _). r.steps) c.in-Ok.ensures.first in
    omega (arith, most, steps, same, first)

pub returns-in-Ok-clause-few : goal.returns-in-Ok-clause-few
returns-in-Ok-clause-few c =
    let most = c.tidying_ends.ensures.bounded (net_of c.args.graph) in
    let same : work (net_of c.in-Ok.trial.graph) ≡ work (net_of c.args.graph) = ap (λ (n : Net). work n) c.in-Ok.ensures.net in
    let pins = c.well_formed-2.ensures.pins in
    let live = c.live_counted.ensures in
    let few = c.requires in
    omega (arith, most, same, pins, live, few)
