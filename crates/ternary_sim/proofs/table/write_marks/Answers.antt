use Rattle.std.proofs.Common.{Bool, List, ap, arith, length, not, refl, sym, ◌&&◌, ◌<◌, ◌∙◌, ◌≡◌, ◌≤◌}
use Rattle.ternary_sim.proofs.Counts.{count_within, counted, recounted}
use Rattle.ternary_sim.proofs.table.write_marks.Goals as goal
use Rattle.ternary_sim.specs.Marks.{mark_at}
use Rattle.ternary_sim.specs.Inner.ValueTables.{is_different, is_open, watched_at, watched_count}
use Rattle.ternary_sim.specs.declared.marks.NodeMarks.{NodeMarks}

pub recount-different_now-requires-clause-some : goal.recount-different_now-requires-clause-some
recount-different_now-requires-clause-some c is =
    let was : c.is_both.result ≡ (watched_at c.args.watched.now c.args.node.0 && is_different (mark_at c.args.marks.now.items c.args.node.0)) = (c.is_both.ensures ∙ ap (λ (b : Bool). b && c.differs.result) c.has_mark-seen.ensures ∙ ap (λ (b : Bool). watched_at c.args.watched.now c.args.node.0 && b) (c.differs.ensures ∙ ap is_different (c.mark_of-had.ensures ∙ ap (λ (ms : List NodeMarks). mark_at ms c.args.node.0) c.as_slice.ensures.value))) in
    let some : 0 < watched_count is_different c.args.watched.now c.args.marks.now.items = counted is_different refl c.args.watched.now c.args.marks.now.items c.args.node.0 (sym was ∙ is) in
    omega (arith, some, c.requires.different)

pub recount-different_now-requires-clause-room : goal.recount-different_now-requires-clause-room
recount-different_now-requires-clause-room c =
    let few : watched_count is_different c.args.watched.now c.args.marks.now.items ≤ length c.args.marks.now.items = count_within is_different c.args.watched.now c.args.marks.now.items in
    omega (arith, few, c.requires.different, c.args.marks.now.ok)

pub returns-clause-different : goal.returns-clause-different
returns-clause-different c =
    let was : c.is_both.result ≡ (watched_at c.args.watched.now c.args.node.0 && is_different (mark_at c.args.marks.now.items c.args.node.0)) = (c.is_both.ensures ∙ ap (λ (b : Bool). b && c.differs.result) c.has_mark-seen.ensures ∙ ap (λ (b : Bool). watched_at c.args.watched.now c.args.node.0 && b) (c.differs.ensures ∙ ap is_different (c.mark_of-had.ensures ∙ ap (λ (ms : List NodeMarks). mark_at ms c.args.node.0) c.as_slice.ensures.value))) in
    let is : c.is_both-2.result ≡ (watched_at c.args.watched.now c.args.node.0 && is_different c.args.read) = (c.is_both-2.ensures ∙ ap (λ (b : Bool). b && c.differs-2.result) c.has_mark-seen.ensures ∙ ap (λ (b : Bool). watched_at c.args.watched.now c.args.node.0 && b) (c.differs-2.ensures)) in
    recounted is_different c.args.watched.now c.args.marks.now.items c.args.node.0 c.args.different.now c.recount-different_now.result c.args.read c.is_both.result c.is_both-2.result c.requires.node c.requires.different was is c.recount-different_now.ensures

pub recount-unequal_now-requires-clause-some : goal.recount-unequal_now-requires-clause-some
recount-unequal_now-requires-clause-some c is =
    let was : c.is_both-3.result ≡ (watched_at c.args.watched.now c.args.node.0 && is_open (mark_at c.args.marks.now.items c.args.node.0)) = (c.is_both-3.ensures ∙ ap (λ (b : Bool). b && not c.mark_of-had.result.equal) c.has_mark-seen.ensures ∙ ap (λ (b : Bool). watched_at c.args.watched.now c.args.node.0 && b) (ap is_open (c.mark_of-had.ensures ∙ ap (λ (ms : List NodeMarks). mark_at ms c.args.node.0) c.as_slice.ensures.value))) in
    let some : 0 < watched_count is_open c.args.watched.now c.args.marks.now.items = counted is_open refl c.args.watched.now c.args.marks.now.items c.args.node.0 (sym was ∙ is) in
    omega (arith, some, c.requires.unequal)

pub recount-unequal_now-requires-clause-room : goal.recount-unequal_now-requires-clause-room
recount-unequal_now-requires-clause-room c =
    let few : watched_count is_open c.args.watched.now c.args.marks.now.items ≤ length c.args.marks.now.items = count_within is_open c.args.watched.now c.args.marks.now.items in
    omega (arith, few, c.requires.unequal, c.args.marks.now.ok)

pub returns-clause-unequal : goal.returns-clause-unequal
returns-clause-unequal c =
    let was : c.is_both-3.result ≡ (watched_at c.args.watched.now c.args.node.0 && is_open (mark_at c.args.marks.now.items c.args.node.0)) = (c.is_both-3.ensures ∙ ap (λ (b : Bool). b && not c.mark_of-had.result.equal) c.has_mark-seen.ensures ∙ ap (λ (b : Bool). watched_at c.args.watched.now c.args.node.0 && b) (ap is_open (c.mark_of-had.ensures ∙ ap (λ (ms : List NodeMarks). mark_at ms c.args.node.0) c.as_slice.ensures.value))) in
    let is : c.is_both-4.result ≡ (watched_at c.args.watched.now c.args.node.0 && is_open c.args.read) = (c.is_both-4.ensures ∙ ap (λ (b : Bool). b && not c.args.read.equal) c.has_mark-seen.ensures ∙ ap (λ (b : Bool). watched_at c.args.watched.now c.args.node.0 && b) (refl)) in
    recounted is_open c.args.watched.now c.args.marks.now.items c.args.node.0 c.args.unequal.now c.recount-unequal_now.result c.args.read c.is_both-3.result c.is_both-4.result c.requires.node c.requires.unequal was is c.recount-unequal_now.ensures
