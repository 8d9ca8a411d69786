use Rattle.blif_flatten.proofs.Lines.{cover-added}
use Rattle.std.proofs.Common.{◌≡◌, ◌≢◌, ◌∷◌, ◌∙◌, [], sym, refl, rules}
use Rattle.blif_flatten.proofs.models.push_cover.Goals as goal

pub returns-in_ok-push-in-Some : goal.returns-in_ok-push-in-Some
returns-in_ok-push-in-Some c =
    let is : c.args.line.now ≡ c.in-Some.field-0-0.now ∷ c.in-Some.words.now = first_of (search (rules, c.in-Some.ensures.cases), grind (c.in-Some.ensures.cases), cc) in
    let some : c.in-Some.words.now ≢ [] = first_of (search (rules, c.is_empty.ensures, c.if-is_empty.false), grind (c.is_empty.ensures, c.if-is_empty.false)) in
    cover-added c.args.text.now c.args.line.now c.in-Some.field-0-0.now c.in-Some.words.now _ c.args.behind.now c.row_count.result c.args.covers.now c.push.new.self c.in_ok-cover_with-in-Some.field-0 is (sym c.begins_with.ensures ∙ c.if-not-begins_with.false) some refl c.row_count.ensures.rows c.in_ok-cover_with-in-Some.ensures c.in_ok-push-in-Some.ensures.ok
