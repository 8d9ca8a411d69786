use Rattle.std.proofs.Common.{◌≡◌, sym, map, refl, Some}
use Rattle.blif_lines.specs.Reading.{spot_of}
use Rattle.blif_reader.proofs.RowLaws.{adds_row, current_rows}
use Rattle.blif_reader.proofs.draft.add_row.Goals as goal

pub returns-in_ok-cover-in-Some : goal.returns-in_ok-cover-in-Some
returns-in_ok-cover-in-Some c o are none =
    let is : c.args.draft.now.current ≡ Some c.in-Some.cover = sym c.in-Some.ensures.value in
    adds_row (spot_of c.args.text.now c.args.first.now) (map (spot_of c.args.text.now) c.args.rest.now) o c.in-Some.cover c.in_ok-cover-in-Some.cover c.args.draft.now (record c.args.draft.now { current = Some c.in_ok-cover-in-Some.cover }) (c.in_ok-cover-in-Some.ensures o (current_rows o c.args.draft.now.current c.in-Some.cover is are) none) is refl
