use Rattle.std.proofs.Common.{◌≡◌, ◌+◌, List, ℕ, sym, subst, take}
use Rattle.std.specs.Prelude.{IfSome}
use Rattle.rambo_cli.specs.Files.{Holds}
use Rattle.rambo_cli.proofs.FlatTexts.{flat_cause, flat_read}
use Rattle.rambo_cli.proofs.input_model.model_within.Goals as goal

pub returns-clause-flat : goal.returns-clause-flat
returns-clause-flat g c =
    flat_read c.args.limits c.as_slice.result.now (g.S.Shelf.files c.args.shelf.now) c.args.input.now
    (subst (λ (t : List ℕ). IfSome (g.S.Shelf.files c.args.shelf.now) (λ told. Holds told c.args.input.now (λ bytes. t ≡ take (c.args.limits.bytes + 1) bytes))) (sym c.as_slice.ensures.value) c.in_ok-text.ensures.found)
    c.model_of_text.result c.model_of_text.ensures.flat

pub returns-clause-cause : goal.returns-clause-cause
returns-clause-cause g c =
    flat_cause c.args.limits c.as_slice.result.now (g.S.Shelf.files c.args.shelf.now) c.args.input.now
    (subst (λ (t : List ℕ). IfSome (g.S.Shelf.files c.args.shelf.now) (λ told. Holds told c.args.input.now (λ bytes. t ≡ take (c.args.limits.bytes + 1) bytes))) (sym c.as_slice.ensures.value) c.in_ok-text.ensures.found)
    c.model_of_text.result (g.S.Shelf.faults c.args.shelf.now) (g.S.Shelf.faults c.bytes_of.new.shelf) c.model_of_text.ensures.cause
