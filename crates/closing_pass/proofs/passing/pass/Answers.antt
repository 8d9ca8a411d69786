use Rattle.std.proofs.Common.{◌≡◌, ◌∙◌, ℕ, Bool, List, Some, slice_get, length, sym, subst}
use Rattle.gate_graph.specs.Circuit.{net_of}
use Rattle.gate_net.specs.Faults.{faults_of}
use Rattle.gate_net.specs.Net.{source_count}
use Rattle.gate_net.specs.Values.{HasPin}
use Rattle.rm_base.specs.declared.numbers.Fault.{Fault}
use Rattle.closing_pass.specs.declared.finding.Finding.{Finding}
use Rattle.closing_pass.specs.Inner.Findings.{AreVerdictsOf, HasCome, IsNumbered}
use Rattle.closing_pass.specs.Inner.Trying.{HasTried}
use Rattle.closing_pass.specs.Inner.Used.{AreUsed}
use Rattle.closing_pass.specs.Verdicts.{HavePins}
use Rattle.closing_pass.proofs.LastOnes.{closed_is, numbered}
use Rattle.closing_pass.proofs.Standing.{from_recursion}
use Rattle.closing_pass.proofs.Taking.{come_first}
use Rattle.closing_pass.proofs.Tries.{come_tried}
use Rattle.closing_pass.proofs.UsedVectors.{used_kept, used_long}
use Rattle.closing_pass.proofs.passing.pass.Goals as goal

pub try_kept-requires-clause-pins : goal.try_kept-requires-clause-pins
try_kept-requires-clause-pins g c = subst (HavePins (net_of c.args.graph.now)) (sym c.as_slice-faults.ensures.value) (from_recursion (HasPin (net_of c.args.graph.now)) c.in_ok-all.all.items c.in_ok-all.ensures.pins)

pub loop-next-init : goal.loop-next-init
loop-next-init g c =
    let tried : HasTried (net_of c.args.graph.now) c.args.kept.now.items 0 (length c.args.kept.now.items) c.as_slice-faults.result.now c.in_ok-found.found.items c.try_kept.new.found.items = rw c.as_slice.ensures.value at c.in_ok-try_kept.ensures.tried in
    let first : HasCome (net_of c.args.graph.now) c.args.settings.now.budget c.args.kept.now.items 0 c.as_slice-faults.result.now c.in_ok-found.found.items 0 =
    come_first (net_of c.args.graph.now) c.args.settings.now.budget c.args.kept.now.items c.as_slice-faults.result.now c.in_ok-found.found.items c.requires.long c.in_ok-found.ensures in
    record {
      come = come_tried (net_of c.args.graph.now) c.args.settings.now.budget c.args.kept.now.items 0 (length c.args.kept.now.items) c.as_slice-faults.result.now c.in_ok-found.found.items c.try_kept.new.found.items 0 first tried;
      fits = c.in_ok-try_kept.ensures.fits;
    }

pub search_and_try-requires-clause-pins : goal.search_and_try-requires-clause-pins
search_and_try-requires-clause-pins g c κs within = subst (HavePins (net_of c.args.graph.now)) (sym c.as_slice-faults.ensures.value) (from_recursion (HasPin (net_of c.args.graph.now)) c.in_ok-all.all.items c.in_ok-all.ensures.pins)

pub used_vectors-requires : goal.used_vectors-requires
used_vectors-requires g c = record {
  numbered =
      rw (c.as_slice-2.ensures.value, c.as_slice-3.ensures.value)
      (numbered (net_of c.args.graph.now) c.args.settings.now.budget c.loop-next.kept.items (length c.loop-next.kept.items) c.as_slice-faults.result.now c.loop-next.found.items c.loop-next.next c.loop-next.invariant.come c.loop-next-test.false);
}

pub verdicts_of-requires-clause-numbered : goal.verdicts_of-requires-clause-numbered
verdicts_of-requires-clause-numbered g c =
    subst (λ (kept : List (List Bool)). (j : ℕ) (finding : Finding) → slice_get c.loop-next.found.items j ≡ Some finding → IsNumbered (length kept) finding) (sym c.as_slice-4.ensures.value)
    (numbered (net_of c.args.graph.now) c.args.settings.now.budget c.loop-next.kept.items (length c.loop-next.kept.items) c.as_slice-faults.result.now c.loop-next.found.items c.loop-next.next c.loop-next.invariant.come c.loop-next-test.false)

pub returns-clause-passed : goal.returns-clause-passed
returns-clause-passed g c =
    let all : c.as_slice-faults.result.now ≡ faults_of (net_of c.args.graph.now) = c.as_slice-faults.ensures.value ∙ c.in_ok-all.ensures.faults in
    let come : HasCome (net_of c.args.graph.now) c.args.settings.now.budget c.loop-next.kept.items (length c.loop-next.kept.items) (faults_of (net_of c.args.graph.now)) c.loop-next.found.items c.loop-next.next =
    subst (λ (fs : List Fault). HasCome (net_of c.args.graph.now) c.args.settings.now.budget c.loop-next.kept.items (length c.loop-next.kept.items) fs c.loop-next.found.items c.loop-next.next) all c.loop-next.invariant.come in
    let of : AreVerdictsOf c.loop-next.kept.items (faults_of (net_of c.args.graph.now)) c.loop-next.found.items c.in_ok-verdicts.verdicts.items =
    subst (λ (fs : List Fault). AreVerdictsOf c.loop-next.kept.items fs c.loop-next.found.items c.in_ok-verdicts.verdicts.items) all (rw c.as_slice-4.ensures.value at c.in_ok-verdicts.ensures) in
    closed_is (net_of c.args.graph.now) c.args.settings.now.budget c.loop-next.kept.items c.loop-next.found.items c.loop-next.next c.in_ok-verdicts.verdicts.items come of

pub returns-clause-kept : goal.returns-clause-kept
returns-clause-kept g c =
    let used : AreUsed c.loop-next.kept.items c.loop-next.found.items c.in_ok-used.used.items = rw (c.as_slice-2.ensures.value, c.as_slice-3.ensures.value) at c.in_ok-used.ensures in
    used_kept c.loop-next.kept.items c.in_ok-used.used.items c.as_slice-faults.result.now c.loop-next.found.items c.in_ok-verdicts.verdicts.items (rw c.as_slice-4.ensures.value at c.in_ok-verdicts.ensures) used

pub returns-clause-long : goal.returns-clause-long
returns-clause-long g c =
    let used : AreUsed c.loop-next.kept.items c.loop-next.found.items c.in_ok-used.used.items = rw (c.as_slice-2.ensures.value, c.as_slice-3.ensures.value) at c.in_ok-used.ensures in
    used_long c.loop-next.kept.items c.in_ok-used.used.items c.loop-next.found.items (source_count (net_of c.args.graph.now)) used c.loop-next.invariant.come.long
