use Rattle.std.proofs.Common.{rules, ◌≡◌, ℕ, List, subst, sym, length}
use Rattle.test_patterns.specs.Inner.Drafts.{IsExtended}
use Rattle.test_patterns.specs.Inner.Groups.{AreMarked}
use Rattle.test_patterns.proofs.Extended.{extended_none, extended_some}
use Rattle.test_patterns.proofs.marking.add_lane_pattern.Goals as goal

pub returns-in_ok-push : goal.returns-in_ok-push
returns-in_ok-push c = λ net faults vectors numbers words vector draft gathered of size there.
    let count : c.len-pattern.result ≡ length c.args.set.now.patterns.items = search (c.len-pattern.ensures, rules) in
    let marked = subst (λ (n : ℕ). AreMarked c.args.caught.now (length c.args.caught.now) c.args.lane n c.args.set.now.firsts.items c.mark.new.firsts.items c.mark.result) count c.mark.ensures in
    subst (λ (ps : List ℕ). IsExtended net faults vectors numbers ps c.args.set.now.firsts.items c.mark.new.firsts.items vector) (sym c.in_ok-push.ensures.items)
    (extended_some net faults vectors numbers c.args.set.now.patterns.items c.args.set.now.firsts.items c.mark.new.firsts.items words c.args.caught.now c.args.lane c.args.number vector c.mark.result c.requires draft gathered of size there marked c.if-mark.true)

pub returns-else-mark : goal.returns-else-mark
returns-else-mark c = λ net faults vectors numbers words vector draft gathered of size there.
    let count : c.len-pattern.result ≡ length c.args.set.now.patterns.items = search (c.len-pattern.ensures, rules) in
    let marked = subst (λ (n : ℕ). AreMarked c.args.caught.now (length c.args.caught.now) c.args.lane n c.args.set.now.firsts.items c.mark.new.firsts.items c.mark.result) count c.mark.ensures in
    extended_none net faults vectors numbers c.args.set.now.patterns.items c.args.set.now.firsts.items c.mark.new.firsts.items words c.args.caught.now c.args.lane c.args.number vector c.mark.result c.requires draft gathered of size there marked c.if-mark.false
