use Rattle.std.proofs.Common.{false, refl, sym, true, ◌∙◌, ◌≡◌}
use Rattle.gate_graph.specs.Circuit.{net_of}
use Rattle.gate_net.proofs.Public.{is_known_true}
use Rattle.implications.proofs.Sweeps.{driver_below, faulty_awaited, gate_below, good_awaited, side_awaited}
use Rattle.implications.proofs.pin_line.pin_line.Goals as goal

pub is_awaited-requires-clause-driver : goal.is_awaited-requires-clause-driver
is_awaited-requires-clause-driver c = driver_below (net_of c.args.question.now.graph.now) c.args.question.now.fault c.args.facts.now c.requires.ready c.requires.free c.args.node c.args.c c.requires.kind c.args.position c.args.driver c.requires.reads

pub is_awaited-requires-2-clause-node : goal.is_awaited-requires-2-clause-node
is_awaited-requires-2-clause-node c = gate_below (net_of c.args.question.now.graph.now) c.args.question.now.fault c.args.facts.now c.requires.ready c.requires.free c.args.node c.args.c c.requires.kind c.args.position c.args.driver c.requires.reads

pub is_awaited-requires-2-clause-driver : goal.is_awaited-requires-2-clause-driver
is_awaited-requires-2-clause-driver c = driver_below (net_of c.args.question.now.graph.now) c.args.question.now.fault c.args.facts.now c.requires.ready c.requires.free c.args.node c.args.c c.requires.kind c.args.position c.args.driver c.requires.reads

pub known_of-requires : goal.known_of-requires
known_of-requires c = gate_below (net_of c.args.question.now.graph.now) c.args.question.now.fault c.args.facts.now c.requires.ready c.requires.free c.args.node c.args.c c.requires.kind c.args.position c.args.driver c.requires.reads

pub is_open_side-requires : goal.is_open_side-requires
is_open_side-requires c = driver_below (net_of c.args.question.now.graph.now) c.args.question.now.fault c.args.facts.now c.requires.ready c.requires.free c.args.node c.args.c c.requires.kind c.args.position c.args.driver c.requires.reads

pub returns-then-is_awaited : goal.returns-then-is_awaited
returns-then-is_awaited c =
    let both = c.is_awaited.ensures.0 c.if-is_awaited.true in
    good_awaited (net_of c.args.question.now.graph.now) c.args.question.now.fault c.args.facts.now c.requires.ready c.requires.free c.args.node c.args.c c.requires.kind c.args.position c.args.driver c.requires.reads both.0 both.1

pub returns-then-is_awaited-2 : goal.returns-then-is_awaited-2
returns-then-is_awaited-2 c =
    let both = c.is_awaited-2.ensures.0 c.if-is_awaited-2.true in
    faulty_awaited (net_of c.args.question.now.graph.now) c.args.question.now.fault c.args.facts.now c.requires.ready c.requires.free c.args.node c.args.c c.requires.kind c.args.position c.args.driver c.requires.reads
    (λ s. let wrong : false ≡ true = sym c.if-is_stuck.false ∙ c.is_stuck.ensures.1 s in cc) both.0 both.1

pub returns : goal.returns
returns c =
    side_awaited (net_of c.args.question.now.graph.now) c.args.question.now.fault c.args.facts.now c.requires.ready c.requires.free c.args.node c.args.c c.requires.kind c.args.position c.args.driver c.requires.reads
    (λ s. let wrong : false ≡ true = sym c.if-is_stuck.false ∙ c.is_stuck.ensures.1 s in cc) (sym c.known_of.ensures ∙ is_known_true false c.known_of.result (sym c.if-not-is_value.ensures)) (c.if-not-is_open_side.ensures.0 refl)
