use Rattle.std.proofs.Common.{sym, refl}
use Rattle.gate_graph.specs.Circuit.{net_of}
use Rattle.rar_loop.proofs.Filtering.{pin_of, zero_has_none}
use Rattle.rar_loop.proofs.vectors.turned_by.Goals as goal

pub invariant_of-detect_sharing : goal.invariant_of-detect_sharing
invariant_of-detect_sharing c = record { pin = pin_of (net_of c.args.graph.now) c.args.gate c.in-Some-driver._driver c.in-Some.control c.in-Some-driver.ensures }

pub returns-in_default-clause-turned : goal.returns-in_default-clause-turned
returns-in_default-clause-turned c i h t = absurd (zero_has_none i 0 refl t)

pub returns-in_default-driver-clause-turned : goal.returns-in_default-driver-clause-turned
returns-in_default-driver-clause-turned c i h t = absurd (zero_has_none i 0 refl t)

pub returns-clause-turned : goal.returns-clause-turned
returns-clause-turned c i h t = record {
  control = c.in-Some.control;
  controls = sym c.in-Some.ensures;
  pin = pin_of (net_of c.args.graph.now) c.args.gate c.in-Some-driver._driver c.in-Some.control c.in-Some-driver.ensures;
  detected = (c.detect_sharing.ensures.detects i h).0 t;
}
