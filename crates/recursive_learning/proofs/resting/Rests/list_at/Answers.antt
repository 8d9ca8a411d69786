use Rattle.std.proofs.Common.{ap, arith, get_or, length, length-set, refl, subst, suc, true, ◌-◌, ◌<◌, ◌∙◌, ◌≡◌, ◌≤◌, ℕ}
use Rattle.std.specs.Prelude.{slice_index}
use Rattle.gate_graph.proofs.Public.{seen_kept, seen_new}
use Rattle.gate_graph.specs.Search.{IsSeen}
use Rattle.refutation.proofs.Public.{read_is}
use Rattle.recursive_learning.proofs.Indexes.{SeesFrom, entry_read, entry_within, last_itself, sees_first, sees_next}
use Rattle.recursive_learning.proofs.resting.Rests.list_at.Goals as goal
use Rattle.recursive_learning.specs.Resting.{RestsState}
use Rattle.recursive_learning.specs.Inner.Resting.{IsLast}

pub loop-number-init : goal.loop-number-init
loop-number-init c =
    let inside : c.args.place.0 < length c.self.inside.last.items = rw (← c.self.view_is) at c.requires.place in
    let is : get_or c.self.inside.last.items c.args.place.0 0 ≡ c.index-number.result.now = read_is c.self.inside.last.items c.args.place.0 c.index-number.result.now inside c.index-number.ensures in
    record {
      kept = λ y seen. seen;
      sees = rw (← c.self.view_is) (subst (λ (n : ℕ). SeesFrom c.self.inside.entries.items c.args.place.0 n (IsSeen c.args.listed.now)) is (sees_first c.self.inside.entries.items c.self.inside.last.items c.args.place.0 (IsSeen c.args.listed.now) c.self.invariant inside));
      size = refl;
      last = rw (← c.self.view_is) (subst (λ (n : ℕ). IsLast c.self.inside.entries.items c.args.place.0 n n) is (last_itself c.self.inside.entries.items c.args.place.0 (length c.self.inside.entries.items) (slice_index c.self.inside.last.items c.args.place.0) (c.self.invariant.lasts c.args.place.0 inside)));
    }

pub index-entry-requires : goal.index-entry-requires
index-entry-requires c =
    let low : c.loop-number.number - 1 < length c.self.inside.entries.items = entry_within c.self.inside.entries.items c.args.place.0 c.loop-number.number (omega arith) (rw (← c.self.view_is) at c.loop-number.invariant.last) in
    omega (arith, c.self.inside.entries.ok)

pub add-requires : goal.add-requires
add-requires c =
    let e = entry_read c.self.inside.entries.items c.args.place.0 c.loop-number.number c.index-entry.result.now (omega arith) (rw (← c.self.view_is) at c.loop-number.invariant.last) c.index-entry.ensures in
    let gate : c.index-entry.result.now.gate < length c.self.inside.last.items = c.self.invariant.gates (c.loop-number.number - 1) c.index-entry.result.now e.0 in
    let numbers : length c.self.inside.last.items ≡ c.args.self.now.numbers = ap (λ (r : RestsState). r.numbers) c.self.view_is in
    omega (arith, c.requires.room, c.loop-number.invariant.size)

pub loop-number-smaller : goal.loop-number-smaller
loop-number-smaller c =
    let e = entry_read c.self.inside.entries.items c.args.place.0 c.loop-number.number c.index-entry.result.now (omega arith) (rw (← c.self.view_is) at c.loop-number.invariant.last) c.index-entry.ensures in
    let low : c.index-entry.result.now.before ≤ c.loop-number.number - 1 = (c.self.invariant.befores (c.loop-number.number - 1) c.index-entry.result.now e.0).within in
    omega arith

pub loop-number-preserved : goal.loop-number-preserved
loop-number-preserved c =
    let e = entry_read c.self.inside.entries.items c.args.place.0 c.loop-number.number c.index-entry.result.now (omega arith) (rw (← c.self.view_is) at c.loop-number.invariant.last) c.index-entry.ensures in
    let gate : c.index-entry.result.now.gate < length c.self.inside.last.items = c.self.invariant.gates (c.loop-number.number - 1) c.index-entry.result.now e.0 in
    let numbers : length c.self.inside.last.items ≡ c.args.self.now.numbers = ap (λ (r : RestsState). r.numbers) c.self.view_is in
    let low : c.index-entry.result.now.gate < length c.loop-number.listed = omega (arith, c.requires.room, c.loop-number.invariant.size) in
    let is : c.loop-number.number ≡ suc (c.loop-number.number - 1) = omega arith in
    let before : SeesFrom c.self.inside.entries.items c.args.place.0 (suc (c.loop-number.number - 1)) (IsSeen c.add.new.self) =
    λ k a there le place. rw c.add.ensures (seen_kept c.loop-number.listed c.index-entry.result.now.gate a.gate (c.loop-number.invariant.sees k a (rw (ap (λ (r : RestsState). r.entries) c.self.view_is) at there) (omega arith) place)) in
    let seen : IsSeen c.add.new.self c.index-entry.result.now.gate = rw c.add.ensures (seen_new c.loop-number.listed c.index-entry.result.now.gate low) in
    let prior = c.self.invariant.befores (c.loop-number.number - 1) c.index-entry.result.now e.0 in
    record {
      kept = λ y was. rw c.add.ensures (seen_kept c.loop-number.listed c.index-entry.result.now.gate y (c.loop-number.invariant.kept y was));
      sees = rw (← c.self.view_is) (sees_next c.self.inside.entries.items c.self.inside.last.items c.args.place.0 (c.loop-number.number - 1) c.index-entry.result.now (IsSeen c.add.new.self) c.self.invariant e.0 e.1 before seen);
      size = rw c.add.ensures (length-set c.loop-number.listed c.index-entry.result.now.gate true) ∙ c.loop-number.invariant.size;
      last = rw (← c.self.view_is) (subst (λ (z : ℕ). IsLast c.self.inside.entries.items z c.index-entry.result.now.before c.index-entry.result.now.before) e.1 (last_itself c.self.inside.entries.items c.index-entry.result.now.place (c.loop-number.number - 1) c.index-entry.result.now.before prior));
    }
