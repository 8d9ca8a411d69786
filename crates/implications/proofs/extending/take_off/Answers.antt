use Rattle.std.proofs.Common.{List, ap, arith, length, length-append, [], ◌++◌, ◌+◌, ◌∙◌, ◌∷◌, ◌≡◌}
use Rattle.implications.proofs.Trails.{back_one}
use Rattle.implications.proofs.extending.take_off.Goals as goal
use Rattle.refutation.specs.declared.reasoning.Fact.{Fact}
use Rattle.rm_base.specs.declared.numbers.NodeId.{NodeId}

pub loop-trail-preserved : goal.loop-trail-preserved
loop-trail-preserved c =
    let e : c.loop-trail.trail.items ≡ c.pop.new.self.items ++ (c.in-Some.node, c.in-Some.fact) ∷ [] = c.in-Some.ensures.items in
    let one : List (NodeId × Fact) = (c.in-Some.node, c.in-Some.fact) ∷ [] in
    let long : length c.loop-trail.trail.items ≡ length c.pop.new.self.items + 1 = ap (λ xs. length xs) e ∙ length-append c.pop.new.self.items one in
    record {
      long = omega arith;
      back = back_one c.args.trail.now.items c.args.facts.now c.loop-trail.trail.items c.loop-trail.facts (c.in-Some.node, c.in-Some.fact) c.pop.new.self.items c.take_away.new.facts c.loop-trail.invariant.back e c.take_away.ensures;
    }
