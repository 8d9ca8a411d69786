use Rattle.std.proofs.Common.{◌∙◌, ap, ◌++◌, ◌∷◌, [], List, subst, sym}
use Rattle.std.specs.Prelude.{All}
use Rattle.blif_lines.specs.declared.line.Token.{Token}
use Rattle.blif_reader.specs.Lines.{spots_at}
use Rattle.blif_flatten.specs.declared.sections.Section.{Section}
use Rattle.blif_flatten.specs.Sections.{onto_last}
use Rattle.blif_flatten.specs.Inner.Tokens.{IsBareSectionWithin, sections_at}
use Rattle.blif_flatten.proofs.Layouts.{last-longer, within-longer}
use Rattle.blif_flatten.proofs.sections.push_to_last.Goals as goal

pub returns-in_ok-push-in-Some-2-clause-lines : goal.returns-in_ok-push-in-Some-2-clause-lines
returns-in_ok-push-in-Some-2-clause-lines c = λ text.
    ap (sections_at text) (c.in_ok-push-in-Some-2.ensures.items ∙ ap (λ (b : List (List Token)). let r : Section = record { title = c.in-Some.section.title; body = b } in c.pop.new.self.items ++ r ∷ []) c.in_ok-push-in-Some.ensures.ok)
    ∙ (last-longer text c.pop.new.self.items c.in-Some.section c.args.line ∙ ap (λ (ss : List Section). onto_last (spots_at text c.args.line) (sections_at text ss)) (sym c.in-Some.ensures.items))

pub returns-in_ok-push-in-Some-2-clause-within : goal.returns-in_ok-push-in-Some-2-clause-within
returns-in_ok-push-in-Some-2-clause-within c = λ text all one.
    subst (λ (ss : List Section). All (IsBareSectionWithin text) ss) (sym (c.in_ok-push-in-Some-2.ensures.items ∙ ap (λ (b : List (List Token)). let r : Section = record { title = c.in-Some.section.title; body = b } in c.pop.new.self.items ++ r ∷ []) c.in_ok-push-in-Some.ensures.ok))
    (within-longer text c.pop.new.self.items c.in-Some.section c.args.line (subst (λ (ss : List Section). All (IsBareSectionWithin text) ss) c.in-Some.ensures.items all) one)
