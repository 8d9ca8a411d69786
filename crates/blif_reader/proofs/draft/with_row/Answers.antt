use Rattle.std.proofs.Common.{◌∙◌, ap, map, refl}
use Rattle.blif_lines.specs.Reading.{spot_of}
use Rattle.blif_reader.specs.Lines.{are_literals}
use Rattle.blif_reader.specs.Inner.Drafts.{inputs_in}
use Rattle.blif_reader.proofs.RowLaws.{IsRow, row_passes, has_row}
use Rattle.blif_reader.proofs.draft.with_row.Goals as goal

pub returns : goal.returns
returns c o are none =
    let r : IsRow o (spot_of c.args.text.now c.args.first.now) (map (spot_of c.args.text.now) c.args.rest.now) (inputs_in (spot_of c.args.text.now c.args.first.now).word c.args.rest.now) c.last_of-on.result = row_passes c.args.text.now o c.args.first.now c.args.rest.now c.last_of-on.result c.last_of-on.ensures none in
    has_row o (spot_of c.args.text.now c.args.first.now) (map (spot_of c.args.text.now) c.args.rest.now) (inputs_in (spot_of c.args.text.now c.args.first.now).word c.args.rest.now) c.last_of-on.result c.args.cover (record { inputs = c.args.cover.inputs; output = c.args.cover.output; on = c.last_of-on.result; rows = c.push.new.self }) c.in_ok-row.row r are (c.in_ok-row.ensures.bytes (ap are_literals c.inputs_of.ensures ∙ r.literals) ∙ c.inputs_of.ensures) refl refl refl c.in_ok-push.ensures.ok
