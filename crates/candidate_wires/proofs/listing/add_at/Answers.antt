use Rattle.std.proofs.Common.{[], append-nil, length, sym, ◌∙◌}
use Rattle.gate_graph.specs.Circuit.{net_of}
use Rattle.candidate_wires.proofs.Choices.{junction_from, no_junction, none_at, on_ok}
use Rattle.candidate_wires.proofs.listing.add_at.Goals as goal

pub returns-in_default-clause-more : goal.returns-in_default-clause-more
returns-in_default-clause-more c = record {
  more = [];
  added = sym (append-nil c.args.found.now.items);
  among = λ held _. none_at (net_of c.args.graph.now) held c.args.at.0 (length (net_of c.args.graph.now).nodes) (no_junction (net_of c.args.graph.now) c.args.at.0 (sym c.in_default.is ∙ c.control_of.ensures));
}

pub mark_drivers-requires-clause-live : goal.mark_drivers-requires-clause-live
mark_drivers-requires-clause-live c = let j = junction_from (net_of c.args.graph.now) c.args.at.0 c.in-Some.control (sym c.control_of.ensures ∙ c.in-Some.is) in (j.0, j.1.0)

pub returns-clause-more : goal.returns-clause-more
returns-clause-more c =
    let junction = junction_from (net_of c.args.graph.now) c.args.at.0 c.in-Some.control (sym c.control_of.ensures ∙ c.in-Some.is) in
    on_ok _ _ c.add_choices.result c.add_choices.ensures (λ m. record { more = m.more; added = m.added; among = λ held known. m.among (net_of c.args.graph.now) held junction c.requires.reached c.mark_drivers.ensures.marks known })
