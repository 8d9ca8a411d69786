-- A searcher serves the nets that its tracker suits.
use Rattle.std.proofs.Common.{length}
use Rattle.gate_net.specs.Net.{Net}
use Rattle.podem.specs.Searchers.{Serves}
use Rattle.ternary_sim.specs.Tracking.{Suits, TrackerState}

pub suits_of : (t : TrackerState) (net : Net) → Serves (record { numbers = length t.now; base = t.base; watched = t.watched }) net → Suits t net
suits_of t net s = record { size = s.size; base = s.base; watched = s.watched }

pub serves_of : (t : TrackerState) (net : Net) → Suits t net → Serves (record { numbers = length t.now; base = t.base; watched = t.watched }) net
serves_of t net s = record { size = s.size; base = s.base; watched = s.watched }
