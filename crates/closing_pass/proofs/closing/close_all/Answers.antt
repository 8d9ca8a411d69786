use Rattle.std.proofs.Common.{◌∙◌, refl, sym, subst, arith}
use Rattle.gate_graph.specs.Circuit.{Circuit, net_of}
use Rattle.gate_net.specs.Net.{source_count}
use Rattle.closing_pass.specs.Inner.Findings.{AreLong}
use Rattle.closing_pass.specs.Inner.Passing.{AreKeptOf}
use Rattle.closing_pass.proofs.BlockLaws.{blocks_have_all}
use Rattle.closing_pass.proofs.Recorded.{gone_closed, gone_then, stopped_later}
use Rattle.closing_pass.proofs.Sizes.{went_then}
use Rattle.closing_pass.proofs.closing.close_all.Goals as goal
use Rattle.rm_base.proofs.Public.{on_err}

pub pass_twice-requires-clause-long : goal.pass_twice-requires-clause-long
pass_twice-requires-clause-long g c κs within = subst (λ (v : Circuit). AreLong c.loop-kept.kept.items (source_count (net_of v))) (sym c.graph.ensures) c.loop-kept.invariant.long

pub returns-in-Closed-clause-closed : goal.returns-in-Closed-clause-closed
returns-in-Closed-clause-closed g c =
    gone_closed c.runs_join.ensures (net_of c.args.trial.now.graph) (net_of c.loop-kept.trial.graph) c.loop-kept.made (record { fixed = c.loop-kept.made.fixes; local = c.loop-kept.made.local; verdicts = c.in-Closed.verdicts; found = c.in_ok-found-in-Closed.found }) (g.S.Shelf.files c.args.shelf.now) (g.S.Shelf.files c.loop-kept.shelf) c.args.journal.now
    c.loop-kept.invariant.gone refl refl

pub loop-kept-preserved : goal.loop-kept-preserved
loop-kept-preserved g c =
    let long : AreLong c.pass_twice.new.kept.items (source_count (net_of c.loop-kept.trial.graph)) = subst (λ (v : Circuit). AreLong c.pass_twice.new.kept.items (source_count (net_of v))) c.graph.ensures c.in_ok-verdicts.ensures.long in
    record {
      gone = gone_then c.texts_append.ensures c.runs_join.ensures (net_of c.args.trial.now.graph) (net_of c.loop-kept.trial.graph) (net_of c.record_fix.new.trial.graph) c.loop-kept.made c.record_fix.new.made (g.S.Shelf.files c.args.shelf.now) (g.S.Shelf.files c.loop-kept.shelf) (g.S.Shelf.files c.record_fix.new.shelf) c.args.journal.now
          c.loop-kept.invariant.gone c.in_ok-record_fix-in-Refuted.ensures.recorded c.in_ok-record_fix-in-Refuted.ensures.fewer;
      went = went_then c.args.trial.now c.loop-kept.trial c.record_fix.new.trial c.loop-kept.invariant.went c.in_ok-record_fix-in-Refuted.ensures.went;
      tidy = c.in_ok-record_fix-in-Refuted.ensures.tidy;
      room = c.in_ok-record_fix-in-Refuted.ensures.went.room c.loop-kept.invariant.room;
      long = λ k v is. long k v is ∙ sym c.in_ok-record_fix-in-Refuted.ensures.went.no_larger.sources;
      there = c.in_ok-record_fix-in-Refuted.ensures.there;
      later = omega (arith, c.loop-kept.invariant.later, c.in_ok-record_fix-in-Refuted.ensures.later);
    }

pub returns-in_err-record_fix-in-Refuted-clause-stopped : goal.returns-in_err-record_fix-in-Refuted-clause-stopped
returns-in_err-record_fix-in-Refuted-clause-stopped g c =
    on_err c.from_residual-in_err-record_fix-in-Refuted.result (stopped_later c.texts_append.ensures c.runs_join.ensures (net_of c.args.trial.now.graph) (net_of c.loop-kept.trial.graph) c.loop-kept.made (g.S.Shelf.files c.args.shelf.now) (g.S.Shelf.files c.loop-kept.shelf) (g.S.Shelf.files c.record_fix.new.shelf) c.args.journal.now
    c.loop-kept.invariant.gone c.in_err-record_fix-in-Refuted.ensures.stopped)

pub returns-in-Closed-clause-found : goal.returns-in-Closed-clause-found
returns-in-Closed-clause-found g c =
    blocks_have_all c.pass_twice.new.kept.items _ c.in-Closed.verdicts.items (rw c.as_slice.ensures.value at c.in_ok-found-in-Closed.ensures) (subst (AreKeptOf c.pass_twice.new.kept.items) c.in-Closed.is c.in_ok-verdicts.ensures.kept)
