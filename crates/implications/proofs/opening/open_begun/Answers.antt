use Rattle.std.proofs.Common.{arith, length, ◌≤◌}
use Rattle.gate_graph.specs.Circuit.{net_of}
use Rattle.implications.proofs.Bases.{leads_first, opened_ok}
use Rattle.implications.proofs.Steps.{tallied_none}
use Rattle.implications.proofs.opening.open_begun.Goals as goal
use Rattle.refutation.specs.FactSets.{held_by}

pub add_all_lines-requires-clause-pending : goal.add_all_lines-requires-clause-pending
add_all_lines-requires-clause-pending c = c.list_unsettled.ensures.pending c.args.basis.now.facts c.requires.begun.outside

pub add_all_lines-requires-clause-tallied : goal.add_all_lines-requires-clause-tallied
add_all_lines-requires-clause-tallied c = tallied_none (net_of c.args.question.now.graph.now) (held_by c.args.basis.now.facts) c.args.question.now.fault.position c.args.tallies.now c.requires.uncounted

pub returns-clause-opened : goal.returns-clause-opened
returns-clause-opened c =
    let room : length (net_of c.args.question.now.graph.now).nodes ≤ length c.args.basis.now.facts = omega (arith, c.requires.room.nodes, c.requires.room.facts) in
    opened_ok (net_of c.args.question.now.graph.now) c.args.question.now.fault c.args.basis.now.facts c.add_all_lines.new.facts c.args.log.now.lines.items c.add_all_lines.new.log.lines.items c.add_all_lines.result c.requires.begun.outside c.requires.lines c.add_all_lines.ensures.works c.add_all_lines.ensures.keeps.more c.add_all_lines.ensures.keeps.size room c.add_all_lines.ensures.closes

pub returns-clause-rest : goal.returns-clause-rest
returns-clause-rest c = record {
  start = c.args.basis.now.facts;
  leads = c.add_all_lines.ensures.keeps.back 0 c.args.basis.now.facts (leads_first c.args.log.now.trail.items c.args.basis.now.facts c.requires.trail);
  rest = c.requires.begun.rest;
}
