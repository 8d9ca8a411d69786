use Rattle.std.proofs.Common.{subst, sym}
use Rattle.gate_graph.specs.Circuit.{net_of}
use Rattle.implications.proofs.Refitting.{pinless_all}
use Rattle.implications.proofs.basis.Basis.follow.Goals as goal
use Rattle.implications.specs.Bases.{ArePinless}

pub returns-clause-fitted : goal.returns-clause-fitted
returns-clause-fitted c =
    let b = c.requires.before in
    record {
      rest = c.refit_nodes.ensures.rest b.0 b.1.0.rest b.1.1;
      none = b.1.0.none;
      pinless = pinless_all b.0 (net_of c.args.graph.now) c.args.nodes.now c.deref.result.now c.list_pinless.new.pinless.items c.list_pinless-2.new.pinless.items b.1.1 (subst (ArePinless b.0) (sym c.deref.ensures.value) b.1.0.pinless) c.in_ok-list_pinless.ensures.all c.in_ok-list_pinless-2.ensures.kept c.in_ok-list_pinless-2.ensures.all c.in_ok-list_pinless-2.ensures.below;
    }
