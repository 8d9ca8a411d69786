use Rattle.std.proofs.Common.{arith}
use Rattle.gate_graph.specs.Circuit.{net_of}
use Rattle.recursive_learning.proofs.Servings.{fitted_serves}
use Rattle.recursive_learning.proofs.refuter.Refuter.fit.Goals as goal

pub returns : goal.returns
returns c = record {
  serves = record {
    serves = fitted_serves (net_of c.args.graph.now) c.forget.new.self c.fit.new.self (omega (arith, c.forget.ensures.numbers, c.in_ok-make_room.ensures.engine)) c.forget.ensures.trail c.in_ok-fit.ensures.room c.in_ok-fit.ensures.fitted;
    room = c.in_ok-make_room.ensures.watch;
    shortener = c.in_ok-make_room.ensures.shortener;
  };
}
