use Rattle.gate_graph.specs.Circuit.{net_of}
use Rattle.fault_sim.specs.BlockStates.{AreSimulated}
use Rattle.rar_loop.proofs.Filtering.{on_ok}
use Rattle.rar_loop.proofs.vectors.Vectors.follow.Goals as goal

pub returns : goal.returns
returns c =
    on_ok c.follow-2.result (AreSimulated c.follow-2.new.self (net_of c.args.graph.now)) _ (λ found. record {
      fits = c.in_ok-follow.ensures.fits;
      simulated = c.in_ok-follow.ensures.simulated;
      noted = c.forget.ensures.right (net_of c.args.graph.now) c.follow.new.self.words;
      turned = λ gate word e i h t. absurd (c.forget-2.ensures.none gate word (c.lengthen.ensures gate word e));
      listed = λ gate word e. absurd (c.forget-2.ensures.none gate word (c.lengthen.ensures gate word e));
      found = found;
      seeks = tt;
    }) c.follow-2.ensures.simulated
