use Rattle.std.proofs.Common.{◌+◌, ◌∙◌, List, Option, Some, ap, length, subst, sym, ℕ}
use Rattle.std.specs.Option.{option_map}
use Rattle.rm_base.specs.Shelves.{GivesPiece}
use Rattle.journal_audit.proofs.Differing.{compared_says}
use Rattle.journal_audit.proofs.auditing.compare_output.Goals as goal

pub returns-clause-says : goal.returns-clause-says
returns-clause-says g c =
    let gives = subst (λ (o : Option (List ℕ)). GivesPiece (g.S.Shelf.files c.args.shelf.now) c.args.output.now 0 (length c.args.text.now + 1) o) (ap (λ o. option_map (λ v. v.items) o) c.in-Some.is ∙ ap (λ (xs : List ℕ). Some xs) (sym c.as_slice.ensures.value)) c.in_ok-found.ensures.gives in
    compared_says (g.S.Shelf.files c.args.shelf.now) c.args.output.now c.args.text.now c.as_slice.result.now c.difference.result gives c.difference.ensures.same c.difference.ensures.differ
