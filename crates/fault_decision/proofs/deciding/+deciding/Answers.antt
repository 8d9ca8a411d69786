use Rattle.std.proofs.Common.{rules, ◌≡◌}
use Rattle.gate_graph.specs.Circuit.{net_of}
use Rattle.fault_decision.proofs.Keeping.{keeps_on, taken_keeps, taken_same}
use Rattle.fault_decision.proofs.deciding.+deciding.Goals as goal

pub decide_with-returns-clause-keeps : goal.decide_with-returns-clause-keeps
decide_with-returns-clause-keeps t c = keeps_on c.args.engine.now c.tell.new.engine c.decide_open.new.engine c.args.facts.now c.tell.new.facts c.decide_open.new.facts c.decide_open.result c.in_ok-tell.ensures.keeps c.decide_open.ensures.keeps

pub split-take_back-requires : goal.split-take_back-requires
split-take_back-requires t c = (c.in_ok-first.ensures.keeps.back c.mark-mark.result c.args.facts.now (c.mark-mark.ensures.back c.args.facts.now)).order

pub split-decide_with-requires-2 : goal.split-decide_with-requires-2
split-decide_with-requires-2 t c =
    let same : c.take_back.new.facts ≡ c.args.facts.now = taken_same c.args.engine.now c.decide_with.new.engine c.mark-mark.result c.args.facts.now c.decide_with.new.facts c.take_back.new.facts c.mark-mark.ensures.back c.in_ok-first.ensures.keeps c.take_back.ensures.back in (
      search rules,
      (
        rw (c.take_back.ensures.numbers, c.in_ok-first.ensures.keeps.numbers) c.requires.numbers,
        (rw same c.requires.ready, (rw same c.requires.goal, (c.in_ok-first.ensures.fits (net_of c.args.question.now.graph.now) c.requires.fits, c.in_ok-first.ensures.reads))),
      ),
    )

pub split-returns-clause-keeps : goal.split-returns-clause-keeps
split-returns-clause-keeps t c =
    keeps_on c.args.engine.now c.take_back.new.self c.decide_with-2.new.engine c.args.facts.now c.take_back.new.facts c.decide_with-2.new.facts c.decide_with-2.result
    (taken_keeps c.args.engine.now c.decide_with.new.engine c.take_back.new.self c.mark-mark.result c.args.facts.now c.decide_with.new.facts c.take_back.new.facts c.mark-mark.ensures.mark c.in_ok-first.ensures.keeps c.take_back.ensures.earlier c.take_back.ensures.numbers c.take_back.ensures.size) c.decide_with-2.ensures.keeps
