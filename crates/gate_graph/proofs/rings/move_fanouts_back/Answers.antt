use Rattle.gate_graph.proofs.rings.move_fanouts_back.Goals as goal

pub move_back-requires : goal.move_back-requires
move_back-requires c = record { from = c.requires.from; to = c.requires.to; apart = c.requires.apart; empty = c.requires.empty; enough = c.requires.enough }
