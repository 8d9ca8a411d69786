use Rattle.std.proofs.Common.{false, length, sym, ◌<◌, ◌∙◌, ◌≡◌}
use Rattle.refutation.specs.FactSets.{held_by}
use Rattle.refutation_check.proofs.Trails.{held_of-push, trail_more}
use Rattle.refutation_check.proofs.trail.Trail.hold.Goals as goal

pub invariant_of-self-2 : goal.invariant_of-self-2
invariant_of-self-2 c =
    let missing : held_by c.self.inside.facts c.args.node.0 c.args.fact ≡ false = sym c.holds.ensures ∙ c.if-holds.false in
    let within : c.args.node.0 < length c.self.inside.facts = rw (← c.self.view_is) at c.requires in
    rw c.in_ok-push.ensures.items (trail_more _ _ _ (record { node = c.args.node; fact = c.args.fact }) c.insert.ensures.facts missing within c.self.invariant)

pub returns-clause-held : goal.returns-clause-held
returns-clause-held c = rw (c.in_ok-push.ensures.items, ← c.self.view_is) (held_of-push c.self.inside.entries.items (record { node = c.args.node; fact = c.args.fact }))
