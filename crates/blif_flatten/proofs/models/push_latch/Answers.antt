use Rattle.blif_flatten.proofs.Lines.{latch-added}
use Rattle.std.proofs.Common.{◌≡◌, ◌∷◌, ◌∙◌, sym, rules}
use Rattle.blif_flatten.proofs.models.push_latch.Goals as goal

pub returns-in_ok-push-in-Some : goal.returns-in_ok-push-in-Some
returns-in_ok-push-in-Some c =
    let is : c.args.line.now ≡ c.in-Some.field-0-0.now ∷ c.in-Some.rest.now = first_of (search (rules, c.in-Some.ensures.cases), grind (c.in-Some.ensures.cases), cc) in
    latch-added c.args.text.now c.args.line.now c.in-Some.field-0-0.now c.in-Some.rest.now c.args.latches.now c.push.new.self c.in_ok-latch_of-in-Some.field-0 is (sym c.begins_with.ensures ∙ c.if-not-begins_with.false) c.if-rest-lt2.false c.in_ok-latch_of-in-Some.ensures.read c.in_ok-push-in-Some.ensures.ok
