use Rattle.std.proofs.Common.{List, false, refl, subst, sym}
use Rattle.gate_graph.specs.Circuit.{net_of}
use Rattle.implications.specs.Outcomes.{IsExtended, IsOpenFrom}
use Rattle.recursive_learning.proofs.Tells.{told_clash, told_open}
use Rattle.recursive_learning.specs.Inner.Telling.{Ends, IsTold}
use Rattle.refutation.specs.FactSets.{held_by}
use Rattle.refutation.specs.Facts.{with_fact}
use Rattle.refutation.proofs.Public.{with_there}
use Rattle.refutation.specs.declared.items.Item.{Item}
use Rattle.refutation.specs.declared.reasoning.Fact.TheVariants.{Good}
use Rattle.recursive_learning.proofs.telling.tell.Goals as goal

pub returns-in_default-clause-told : goal.returns-in_default-clause-told
returns-in_default-clause-told c =
    subst (λ (items : List Item). IsTold (net_of c.args.question.now.graph.now) c.args.question.now.fault (with_fact (held_by c.args.facts.now) c.args.node.0 (Good c.args.value)) c.args.tree.now false (held_by c.extend.new.facts) items) (rw c.lines.ensures at (sym c.in_ok-push_lines.ensures))
    (told_open (net_of c.args.question.now.graph.now) c.args.question.now.fault (with_fact (held_by c.args.facts.now) c.args.node.0 (Good c.args.value)) c.extend.new.self.lines c.extend.new.facts c.args.tree.now c.well_formed-2.ensures.net c.args.question.now.pin c.args.node.0 c.args.value (held_by c.args.facts.now) refl c.requires.settled c.requires.node
    (subst (IsExtended (net_of c.args.question.now.graph.now) c.args.question.now.fault (with_fact (held_by c.args.facts.now) c.args.node.0 (Good c.args.value)) c.extend.new.self.lines c.extend.new.facts) c.in_default.is c.in_ok-clash.ensures.extended))

pub returns-clause-told : goal.returns-clause-told
returns-clause-told c =
    subst (λ (items : List Item). Ends (net_of c.args.question.now.graph.now) c.args.question.now.fault (with_fact (held_by c.args.facts.now) c.args.node.0 (Good c.args.value)) c.args.tree.now items) (rw (c.in_ok-push_lines.ensures, c.lines.ensures) at (sym c.in_ok-push.ensures.ok))
    (told_clash (net_of c.args.question.now.graph.now) c.args.question.now.fault (with_fact (held_by c.args.facts.now) c.args.node.0 (Good c.args.value)) c.extend.new.self.lines (held_by c.extend.new.facts) c.in-Some.opposed c.args.tree.now
    (subst (IsExtended (net_of c.args.question.now.graph.now) c.args.question.now.fault (with_fact (held_by c.args.facts.now) c.args.node.0 (Good c.args.value)) c.extend.new.self.lines c.extend.new.facts) c.in-Some.is c.in_ok-clash.ensures.extended))

pub returns-in_default-clause-there : goal.returns-in_default-clause-there
returns-in_default-clause-there c none =
    let o : IsOpenFrom (net_of c.args.question.now.graph.now) c.args.question.now.fault (with_fact (held_by c.args.facts.now) c.args.node.0 (Good c.args.value)) c.extend.new.self.lines c.extend.new.facts =
    subst (IsExtended (net_of c.args.question.now.graph.now) c.args.question.now.fault (with_fact (held_by c.args.facts.now) c.args.node.0 (Good c.args.value)) c.extend.new.self.lines c.extend.new.facts) c.in_default.is c.in_ok-clash.ensures.extended in
    o.within c.args.node.0 (Good c.args.value) (with_there (held_by c.args.facts.now) c.args.node.0 (Good c.args.value))
