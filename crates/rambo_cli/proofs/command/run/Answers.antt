use Rattle.std.proofs.Common.{Global, arith, inl, inr, map, string_bytes}
use Rattle.word_reading.specs.Words.{asked}
use Rattle.rambo_cli.specs.Commands.{contract_of}
use Rattle.rambo_cli.specs.Problems.{done_status, done_text}
use Rattle.rambo_cli.proofs.Comparisons.{ended_compared, reported_compared}
use Rattle.rambo_cli.proofs.Complete.{ended_done, ended_judged, reported_done, reported_judged}
use Rattle.rambo_cli.proofs.Reports.{ended_by, ended_line, faulty, refused, reported_by, reported_line}
use Rattle.rambo_cli.proofs.command.run.Goals as goal

pub returns-in-Err-clause-unread : goal.returns-in-Err-clause-unread
returns-in-Err-clause-unread g c = λ e.
    reported_by 1 (λ q. omega (arith, q)) (λ q. omega (arith, q)) g.O.Sink.may_want c.in-Err.problem c.report.result (contract_of (asked (map (string_bytes {Z = Global}) c.args.words.now))) (g.S.Shelf.files c.args.shelf.now) (g.S.Shelf.faults c.args.shelf.now) (g.S.Shelf.faults c.work.new.shelf)
    (g.O.Sink.written c.args.out.now) (g.O.Sink.written c.report.new.out) (g.O.Sink.faults c.args.out.now) (g.O.Sink.faults c.report.new.out) c.report.ensures.reported c.in-Err.ensures.cause e

pub returns-in-Err-clause-over : goal.returns-in-Err-clause-over
returns-in-Err-clause-over g c = λ e.
    reported_by 5 (λ q. omega (arith, q)) (λ q. omega (arith, q)) g.O.Sink.may_want c.in-Err.problem c.report.result (contract_of (asked (map (string_bytes {Z = Global}) c.args.words.now))) (g.S.Shelf.files c.args.shelf.now) (g.S.Shelf.faults c.args.shelf.now) (g.S.Shelf.faults c.work.new.shelf)
    (g.O.Sink.written c.args.out.now) (g.O.Sink.written c.report.new.out) (g.O.Sink.faults c.args.out.now) (g.O.Sink.faults c.report.new.out) c.report.ensures.reported c.in-Err.ensures.cause e

pub returns-in-Err-clause-rejected : goal.returns-in-Err-clause-rejected
returns-in-Err-clause-rejected g c = λ e.
    reported_by 6 (λ q. omega (arith, q)) (λ q. omega (arith, q)) g.O.Sink.may_want c.in-Err.problem c.report.result (contract_of (asked (map (string_bytes {Z = Global}) c.args.words.now))) (g.S.Shelf.files c.args.shelf.now) (g.S.Shelf.faults c.args.shelf.now) (g.S.Shelf.faults c.work.new.shelf)
    (g.O.Sink.written c.args.out.now) (g.O.Sink.written c.report.new.out) (g.O.Sink.faults c.args.out.now) (g.O.Sink.faults c.report.new.out) c.report.ensures.reported c.in-Err.ensures.cause e

pub returns-in-Err-clause-unlike : goal.returns-in-Err-clause-unlike
returns-in-Err-clause-unlike g c = λ e.
    reported_by 9 (λ q. omega (arith, q)) (λ q. omega (arith, q)) g.O.Sink.may_want c.in-Err.problem c.report.result (contract_of (asked (map (string_bytes {Z = Global}) c.args.words.now))) (g.S.Shelf.files c.args.shelf.now) (g.S.Shelf.faults c.args.shelf.now) (g.S.Shelf.faults c.work.new.shelf)
    (g.O.Sink.written c.args.out.now) (g.O.Sink.written c.report.new.out) (g.O.Sink.faults c.args.out.now) (g.O.Sink.faults c.report.new.out) c.report.ensures.reported c.in-Err.ensures.cause e

pub returns-in-Err-clause-refused : goal.returns-in-Err-clause-refused
returns-in-Err-clause-refused g c = λ e.
    refused g.O.Sink.may_want c.in-Err.problem c.report.result (asked (map (string_bytes {Z = Global}) c.args.words.now)) (g.S.Shelf.files c.args.shelf.now) (g.S.Shelf.faults c.args.shelf.now) (g.S.Shelf.faults c.work.new.shelf)
    (g.O.Sink.written c.args.out.now) (g.O.Sink.written c.report.new.out) (g.O.Sink.faults c.args.out.now) (g.O.Sink.faults c.report.new.out) c.report.ensures.reported c.in-Err.ensures.cause e

pub returns-in-Err-clause-faulty : goal.returns-in-Err-clause-faulty
returns-in-Err-clause-faulty g c = λ e.
    faulty g.O.Sink.may_want c.in-Err.problem c.report.result (contract_of (asked (map (string_bytes {Z = Global}) c.args.words.now))) (g.S.Shelf.files c.args.shelf.now) (g.S.Shelf.faults c.args.shelf.now) (g.S.Shelf.faults c.work.new.shelf)
    (g.O.Sink.written c.args.out.now) (g.O.Sink.written c.report.new.out) (g.O.Sink.faults c.args.out.now) (g.O.Sink.faults c.report.new.out) c.report.ensures.reported c.in-Err.ensures.cause e

pub returns-in-Err-clause-faulty_line : goal.returns-in-Err-clause-faulty_line
returns-in-Err-clause-faulty_line g c = λ e.
    reported_line g.O.Sink.may_want c.in-Err.problem c.report.result (contract_of (asked (map (string_bytes {Z = Global}) c.args.words.now))) (g.S.Shelf.files c.args.shelf.now) (g.S.Shelf.files c.work.new.shelf) (g.S.Shelf.faults c.args.shelf.now) (g.S.Shelf.faults c.work.new.shelf)
    (g.O.Sink.written c.args.out.now) (g.O.Sink.written c.report.new.out) (g.O.Sink.faults c.args.out.now) (g.O.Sink.faults c.report.new.out) c.report.ensures.reported c.in-Err.ensures.cause c.in-Err.ensures.unchanged e

pub returns-in-Ok-clause-faulty_line : goal.returns-in-Ok-clause-faulty_line
returns-in-Ok-clause-faulty_line g c = λ e.
    ended_line g.O.Sink.may_want c.in-Ok.done c.finish.result (contract_of (asked (map (string_bytes {Z = Global}) c.args.words.now))) (g.S.Shelf.files c.args.shelf.now) (g.S.Shelf.files c.work.new.shelf) (g.S.Shelf.faults c.args.shelf.now) (g.S.Shelf.faults c.work.new.shelf)
    (g.O.Sink.written c.args.out.now) (g.O.Sink.written c.finish.new.out) (g.O.Sink.faults c.args.out.now) (g.O.Sink.faults c.finish.new.out) c.finish.ensures.ended c.in-Ok.ensures.done e

pub returns-in-Err-clause-complete : goal.returns-in-Err-clause-complete
returns-in-Err-clause-complete g c = λ good shelf_stands sink_stands.
    reported_done c.good_runs_are_done.ensures g.O.Sink.may_want c.in-Err.problem c.report.result (asked (map (string_bytes {Z = Global}) c.args.words.now)) (g.S.Shelf.files c.args.shelf.now) (g.S.Shelf.faults c.args.shelf.now) (g.S.Shelf.faults c.work.new.shelf)
    (g.O.Sink.written c.args.out.now) (g.O.Sink.written c.report.new.out) (g.O.Sink.faults c.args.out.now) (g.O.Sink.faults c.report.new.out) c.report.ensures.reported c.in-Err.ensures.cause good shelf_stands sink_stands

pub returns-in-Ok-clause-complete : goal.returns-in-Ok-clause-complete
returns-in-Ok-clause-complete g c = λ good shelf_stands sink_stands.
    ended_done g.O.Sink.may_want (done_status c.in-Ok.done) (done_text c.in-Ok.done) c.finish.result (g.O.Sink.written c.args.out.now) (g.O.Sink.written c.finish.new.out) (g.O.Sink.faults c.args.out.now) (g.O.Sink.faults c.finish.new.out) (c.others_end_with_0.ensures (asked (map (string_bytes {Z = Global}) c.args.words.now)) (g.S.Shelf.files c.args.shelf.now) (g.S.Shelf.files c.work.new.shelf) c.in-Ok.done (inl good) c.in-Ok.ensures.done) c.finish.ensures.ended sink_stands

pub returns-in-Err-clause-judged : goal.returns-in-Err-clause-judged
returns-in-Err-clause-judged g c = λ there shelf_stands sink_stands.
    reported_judged c.judged_runs_are_told.ensures g.O.Sink.may_want c.in-Err.problem c.report.result (asked (map (string_bytes {Z = Global}) c.args.words.now)) (g.S.Shelf.files c.args.shelf.now) (g.S.Shelf.faults c.args.shelf.now) (g.S.Shelf.faults c.work.new.shelf)
    (g.O.Sink.written c.args.out.now) (g.O.Sink.written c.report.new.out) (g.O.Sink.faults c.args.out.now) (g.O.Sink.faults c.report.new.out) c.report.ensures.reported c.in-Err.ensures.cause there shelf_stands sink_stands

pub returns-in-Ok-clause-judged : goal.returns-in-Ok-clause-judged
returns-in-Ok-clause-judged g c = λ there shelf_stands sink_stands.
    ended_judged g.O.Sink.may_want (done_status c.in-Ok.done) (done_text c.in-Ok.done) c.finish.result (g.O.Sink.written c.args.out.now) (g.O.Sink.written c.finish.new.out) (g.O.Sink.faults c.args.out.now) (g.O.Sink.faults c.finish.new.out) (c.others_end_with_0.ensures (asked (map (string_bytes {Z = Global}) c.args.words.now)) (g.S.Shelf.files c.args.shelf.now) (g.S.Shelf.files c.work.new.shelf) c.in-Ok.done (inr there) c.in-Ok.ensures.done) c.finish.ensures.ended sink_stands

pub returns-in-Ok-clause-done : goal.returns-in-Ok-clause-done
returns-in-Ok-clause-done g c = λ e.
    ended_by 0 (λ q. omega (arith, q)) (λ q. omega (arith, q)) g.O.Sink.may_want c.in-Ok.done c.finish.result (contract_of (asked (map (string_bytes {Z = Global}) c.args.words.now))) (g.S.Shelf.files c.args.shelf.now) (g.S.Shelf.files c.work.new.shelf)
    (g.O.Sink.written c.args.out.now) (g.O.Sink.written c.finish.new.out) (g.O.Sink.faults c.args.out.now) (g.O.Sink.faults c.finish.new.out) c.finish.ensures.ended c.in-Ok.ensures.done e

pub returns-in-Ok-clause-differ : goal.returns-in-Ok-clause-differ
returns-in-Ok-clause-differ g c = λ e.
    ended_by 7 (λ q. omega (arith, q)) (λ q. omega (arith, q)) g.O.Sink.may_want c.in-Ok.done c.finish.result (contract_of (asked (map (string_bytes {Z = Global}) c.args.words.now))) (g.S.Shelf.files c.args.shelf.now) (g.S.Shelf.files c.work.new.shelf)
    (g.O.Sink.written c.args.out.now) (g.O.Sink.written c.finish.new.out) (g.O.Sink.faults c.args.out.now) (g.O.Sink.faults c.finish.new.out) c.finish.ensures.ended c.in-Ok.ensures.done e

pub returns-in-Ok-clause-undecided : goal.returns-in-Ok-clause-undecided
returns-in-Ok-clause-undecided g c = λ e.
    ended_by 8 (λ q. omega (arith, q)) (λ q. omega (arith, q)) g.O.Sink.may_want c.in-Ok.done c.finish.result (contract_of (asked (map (string_bytes {Z = Global}) c.args.words.now))) (g.S.Shelf.files c.args.shelf.now) (g.S.Shelf.files c.work.new.shelf)
    (g.O.Sink.written c.args.out.now) (g.O.Sink.written c.finish.new.out) (g.O.Sink.faults c.args.out.now) (g.O.Sink.faults c.finish.new.out) c.finish.ensures.ended c.in-Ok.ensures.done e

pub returns-in-Err-clause-compared : goal.returns-in-Err-clause-compared
returns-in-Err-clause-compared g c = λ there shelf_stands sink_stands.
    reported_compared c.compared_runs_are_told.ensures g.O.Sink.may_want c.in-Err.problem c.report.result (asked (map (string_bytes {Z = Global}) c.args.words.now)) (g.S.Shelf.files c.args.shelf.now) (g.S.Shelf.faults c.args.shelf.now) (g.S.Shelf.faults c.work.new.shelf)
    (g.O.Sink.written c.args.out.now) (g.O.Sink.written c.report.new.out) (g.O.Sink.faults c.args.out.now) (g.O.Sink.faults c.report.new.out) c.report.ensures.reported c.in-Err.ensures.cause there shelf_stands sink_stands

pub returns-in-Ok-clause-compared : goal.returns-in-Ok-clause-compared
returns-in-Ok-clause-compared g c = λ there shelf_stands sink_stands.
    ended_compared g.O.Sink.may_want c.in-Ok.done (done_text c.in-Ok.done) c.finish.result (g.O.Sink.written c.args.out.now) (g.O.Sink.written c.finish.new.out) (g.O.Sink.faults c.args.out.now) (g.O.Sink.faults c.finish.new.out) c.finish.ensures.ended sink_stands
