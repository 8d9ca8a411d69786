use Rattle.std.proofs.Common.{map}
use Rattle.gate_graph.specs.Circuit.{net_of}
use Rattle.gate_net.specs.Net.{drivers_of}
use Rattle.joined_nets.proofs.Public.{moved_step}
use Rattle.care_opt.specs.Inner.Looking.{looked}
use Rattle.care_opt.proofs.extracting.new_drivers.Goals as goal

pub loop-driver-preserved : goal.loop-driver-preserved
loop-driver-preserved c =
    moved_step (looked c.args.numbers.now) c.loop-driver.drivers.items c.push.new.self.items c.loop-driver.driver-iterator c.next.new.self (map (looked c.args.numbers.now) (drivers_of (net_of c.args.graph.now) c.args.node.0)) c.in-Some.driver c.look.result
    c.in_ok-push.ensures.items c.in-Some.ensures.steps c.look.ensures c.loop-driver.invariant
