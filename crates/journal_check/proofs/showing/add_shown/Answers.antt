use Rattle.std.proofs.Common.{◌<◌, ◌≡◌, arith, length, rules, sym}
use Rattle.std.proofs.lemmas.Option.{get_or_from_slice_get}
use Rattle.std.specs.Prelude.{slice_index}
use Rattle.rm_base.proofs.Public.{read_stands}
use Rattle.journal_check.proofs.TracingLaws.{adds_shown}
use Rattle.journal_check.proofs.showing.add_shown.Goals as goal

pub returns-then-number-len : goal.returns-then-number-len
returns-then-number-len c =
    let within : c.args.node.0 < length c.args.shown.now.items = grind (arith, rules) in
    let before : slice_index c.args.shown.now.items c.args.node.0 ≡ c.index.result.now =
    get_or_from_slice_get c.args.shown.now.items c.args.node.0 c.index.result.now 0 (read_stands c.args.shown.now.items c.args.node.0 c.index.result.now within c.index.ensures) in
    rw (sym before) (adds_shown c.args.shown.now.items c.args.node.0 c.args.lanes within)
