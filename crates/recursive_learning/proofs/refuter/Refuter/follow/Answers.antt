use Rattle.std.proofs.Common.{arith}
use Rattle.gate_graph.specs.Circuit.{net_of}
use Rattle.recursive_learning.proofs.Servings.{fitted_serves}
use Rattle.recursive_learning.proofs.refuter.Refuter.follow.Goals as goal

pub returns : goal.returns
returns c =
    let room = c.has_room.ensures c.if-not-has_room.false in
    record {
      serves = record {
        serves = fitted_serves (net_of c.args.graph.now) c.rest.new.self c.follow.new.self (omega (arith, c.rest.ensures.numbers, room.engine)) c.rest.ensures.trail c.in_ok-follow.ensures.room c.in_ok-follow.ensures.fitted;
        room = room.watch;
        shortener = room.shortener;
      };
    }
