use Rattle.std.proofs.Common.{◌≡◌, sym, ap, subst}
use Rattle.std.specs.Prelude.{Some, None, Ok}
use Rattle.gate_net.specs.Net.{Net}
use Rattle.gate_graph.specs.Circuit.{net_of}
use Rattle.wire_edit.specs.Tidying.{TidiesTo, tidy, then}
use Rattle.wire_edit.specs.Tried.{Tidies, Tried}
use Rattle.step_replay.proofs.tidying.tidy.Goals as goal

pub loop-step-preserved-in-Some-1 : goal.loop-step-preserved-in-Some-1
loop-step-preserved-in-Some-1 c =
    let made : Tidies c.loop-step.trial c.tidy_one.new.self (Ok (Some c.in-Ok-Some._step)) = rw c.in-Ok-Some.field-0-is at c.in-Ok-Some.ensures.tidies in
    λ last more. c.loop-step.invariant last (then c.in-Ok-Some._step made.0 (subst (λ (n : Net). TidiesTo n last) made.1.0 more))

pub returns-in-Ok-None : goal.returns-in-Ok-None
returns-in-Ok-None c =
    let none : Tidies c.loop-step.trial c.tidy_one.new.self (Ok None) = rw c.in-Ok-None.field-0-is at c.in-Ok-None.ensures.tidies in
    let same : net_of c.tidy_one.new.self.graph ≡ net_of c.loop-step.trial.graph = ap (λ (t : Tried). net_of t.graph) none.1 in
    subst (λ (n : Net). TidiesTo (net_of c.args.trial.now.graph) n) (sym same) (c.loop-step.invariant (net_of c.loop-step.trial.graph) (tidy none.0))
