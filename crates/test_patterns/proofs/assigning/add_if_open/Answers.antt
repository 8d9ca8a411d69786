use Rattle.std.proofs.Common.{List, Bool, Some, ◌≡◌, ◌∙◌, length, subst, sym, ap}
use Rattle.std.proofs.lemmas.Option.{slice_get-get_or}
use Rattle.rm_base.proofs.Public.{some_is}
use Rattle.gate_graph.specs.Circuit.{net_of}
use Rattle.gate_net.specs.Net.{source_count}
use Rattle.test_patterns.proofs.Assigned.{closed, on_ok}
use Rattle.test_patterns.proofs.assigning.add_if_open.Goals as goal

pub add_alone-requires-clause-long : goal.add_alone-requires-clause-long
add_alone-requires-clause-long c = λ v is.
    let known = c.requires.known c.args.at c.in-Some.number (slice_get-get_or c.args.known.now.numbers.now c.args.at _ c.requires.at ∙ ap Some c.in-Some.is) in
    subst (λ (u : List Bool). length u ≡ source_count (net_of c.args.known.now.graph.now)) (some_is known.vector v (sym known.vector_is ∙ is)) known.test.size

pub returns-clause-closed : goal.returns-clause-closed
returns-clause-closed c =
    let known = c.requires.known c.args.at c.in-Some.number (slice_get-get_or c.args.known.now.numbers.now c.args.at _ c.requires.at ∙ ap Some c.in-Some.is) in
    on_ok c.add_alone.result
    (λ x. (let e = x known.vector known.vector_is in record {
      draft = e.draft;
      fewer = e.fewer;
      closed = closed (net_of c.args.known.now.graph.now) c.args.known.now.faults.now c.args.known.now.vectors.now c.args.known.now.numbers.now c.add_alone.new.set.patterns.items c.args.set.now.firsts.items c.add_alone.new.set.firsts.items known.vector c.args.at c.in-Some.number e known known.vector_is;
    }))
    c.add_alone.ensures.extended
