use Rattle.std.proofs.Common.{◌≤◌, ℕ, get_or, sym, subst}
use Rattle.std.proofs.lemmas.List.{length-map}
use Rattle.blif_lines.specs.Reading.{spot_of}
use Rattle.blif_reader.specs.Lines.{spots_at}
use Rattle.blif_reader.proofs.Public.{map_at, part_there}
use Rattle.blif_flatten.specs.Inner.Interfaces.{no_token}
use Rattle.blif_flatten.specs.Inner.Uses.{uses_at}
use Rattle.blif_flatten.proofs.Lines.{parts-go, parts-all}
use Rattle.blif_flatten.proofs.uses.push_command.Goals as goal

pub loop-i-preserved : goal.loop-i-preserved
loop-i-preserved c =
    parts-go c.args.command (spots_at c.args.text.now c.args.words.now) c.loop-i.i c.part_at.result (spot_of c.args.text.now (get_or c.args.words.now c.loop-i.i no_token)) (uses_at c.args.uses.now.items) (uses_at c.loop-i.uses.items) (uses_at c.push_part.new.uses.items)
    (map_at (spot_of c.args.text.now) c.args.words.now c.loop-i.i no_token c.loop-i-test.true) (part_there c.args.command c.args.text.now c.args.words.now c.loop-i.i c.part_at.result c.part_at.ensures) c.loop-i.invariant c.in_ok-push_part.ensures

pub returns : goal.returns
returns c = parts-all c.args.command (spots_at c.args.text.now c.args.words.now) c.loop-i.i (uses_at c.args.uses.now.items) (uses_at c.loop-i.uses.items) (subst (λ (n : ℕ). n ≤ c.loop-i.i) (sym (length-map c.args.words.now (spot_of c.args.text.now))) c.loop-i-test.false) c.loop-i.invariant
