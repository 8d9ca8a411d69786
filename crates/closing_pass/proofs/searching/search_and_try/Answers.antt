use Rattle.std.proofs.Common.{◌≡◌, ℕ, None, length, subst, arith}
use Rattle.gate_graph.specs.Circuit.{net_of}
use Rattle.closing_pass.specs.Inner.Searching.{IsSearched}
use Rattle.closing_pass.specs.Inner.Trying.{HasTried}
use Rattle.closing_pass.proofs.Tries.{come_tried}
use Rattle.closing_pass.proofs.searching.search_and_try.Goals as goal

pub returns-clause-searched : goal.returns-clause-searched
returns-clause-searched g c =
    let s : IsSearched (net_of c.args.graph.now) c.args.settings.now.budget c.search_next.new.kept.items (length c.args.kept.now.items) c.args.faults.now c.search_next.new.found.items c.args.next.now c.search_next.new.next None =
    subst (IsSearched (net_of c.args.graph.now) c.args.settings.now.budget c.search_next.new.kept.items (length c.args.kept.now.items) c.args.faults.now c.search_next.new.found.items c.args.next.now c.search_next.new.next) c.in_default.is c.in_ok-refuted.ensures.searched in
    let same : c.len-tried.result ≡ length c.args.kept.now.items = omega (arith, c.len-tried.ensures, c.args.kept.now.ok) in
    let t : HasTried (net_of c.args.graph.now) c.search_next.new.kept.items c.len-tried.result (length c.search_next.new.kept.items) c.args.faults.now c.search_next.new.found.items c.try_kept.new.found.items = rw c.as_slice.ensures.value at c.in_ok-try_kept.ensures.tried in
    let u : HasTried (net_of c.args.graph.now) c.search_next.new.kept.items (length c.args.kept.now.items) (length c.search_next.new.kept.items) c.args.faults.now c.search_next.new.found.items c.try_kept.new.found.items =
    subst (λ (n : ℕ). HasTried (net_of c.args.graph.now) c.search_next.new.kept.items n (length c.search_next.new.kept.items) c.args.faults.now c.search_next.new.found.items c.try_kept.new.found.items) same t in
    (come_tried (net_of c.args.graph.now) c.args.settings.now.budget c.search_next.new.kept.items (length c.args.kept.now.items) (length c.search_next.new.kept.items) c.args.faults.now c.search_next.new.found.items c.try_kept.new.found.items c.search_next.new.next s.0 u, s.1)
