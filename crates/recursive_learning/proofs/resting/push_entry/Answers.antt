use Rattle.std.proofs.Common.{arith, get_or, length, ◌≡◌}
use Rattle.refutation.proofs.Public.{read_is}
use Rattle.recursive_learning.proofs.Indexes.{index_push, watched_push}
use Rattle.recursive_learning.proofs.resting.push_entry.Goals as goal

pub returns-clause-index : goal.returns-clause-index
returns-clause-index c =
    let before : get_or c.args.last.now.items c.args.place 0 ≡ c.index-before.result.now = read_is c.args.last.now.items c.args.place c.index-before.result.now c.requires.place c.index-before.ensures in
    let long : length c.args.entries.now.items ≡ c.len-count.result = omega (arith, c.args.entries.now.ok) in
    let h = index_push c.args.entries.now.items c.args.last.now.items c.args.place c.args.gate c.requires.index c.requires.place c.requires.gate in
    rw c.in_ok-push.ensures.items (rw (long, before) at h)

pub returns-clause-watched : goal.returns-clause-watched
returns-clause-watched c =
    let before : get_or c.args.last.now.items c.args.place 0 ≡ c.index-before.result.now = read_is c.args.last.now.items c.args.place c.index-before.result.now c.requires.place c.index-before.ensures in
    let h = watched_push c.args.entries.now.items c.args.last.now.items c.args.place c.args.gate c.requires.index c.requires.place c.requires.gate in
    rw c.in_ok-push.ensures.items (rw before at h)
