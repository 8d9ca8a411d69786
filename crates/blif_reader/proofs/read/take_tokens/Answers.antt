use Rattle.blif_reader.specs.Inner.Progress.{Progress}
use Rattle.blif_reader.proofs.LineLaws.{on_ok}
use Rattle.blif_reader.proofs.ReadLaws.{progress_step, progress_fault}
use Rattle.blif_reader.proofs.read.take_tokens.Goals as goal

pub returns-in-Err-clause-err : goal.returns-in-Err-clause-err
returns-in-Err-clause-err c ls ms p is = progress_fault c.args.text.now ls ms c.args.lines.now.checker c.args.lines.now.draft c.args.lines.now.places.items c.args.first.now c.args.rest.now c.in-Err.refusal p is (c.in-Err.ensures.err p.said p.checked)

pub returns-clause-ok : goal.returns-clause-ok
returns-clause-ok c ls ms p is =
    let t = c.in-Ok.ensures.ok p.said p.checked in
    on_ok c.push_place.result _ (Progress c.args.text.now ms c.take_line.new.checker c.add_line.new.draft c.push_place.new.places.items) (λ far. progress_step c.args.text.now ls ms c.args.lines.now.checker c.take_line.new.checker c.args.lines.now.draft c.add_line.new.draft c.args.lines.now.places.items c.push_place.new.places.items c.args.first.now c.args.rest.now p is t.faultless t.taken (c.in-Ok-add_line.ensures p.said p.lines p.drafted t.faultless) far) c.push_place.ensures.ok
