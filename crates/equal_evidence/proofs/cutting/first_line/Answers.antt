use Rattle.std.proofs.Common.{List, ap, length, take, ℕ, ◌++◌, ◌+◌, ◌∙◌, ◌∷◌, ◌≡◌}
use Rattle.equal_evidence.proofs.Cuts.{cut_there, none_there, rest_whole, whole_there}
use Rattle.equal_evidence.proofs.cutting.first_line.Goals as goal

pub returns-then-end-text-clause-none : goal.returns-then-end-text-clause-none
returns-then-end-text-clause-none c = λ e. none_there c.args.text.now c.line_end-end.result c.line_end-end.ensures c.if-end-text.true

pub returns-clause-cut : goal.returns-clause-cut
returns-clause-cut c =
    cut_there c.args.text.now c.line_end-end.result c.line_end-end.ensures c.if-end-text.false
    ∙ ap (λ (l : List ℕ). take c.line_end-end.result c.args.text.now ++ 10 ∷ l) (rest_whole c.args.text.now (c.line_end-end.result + 1))

pub returns-clause-whole : goal.returns-clause-whole
returns-clause-whole c = whole_there c.args.text.now c.line_end-end.result c.line_end-end.ensures
