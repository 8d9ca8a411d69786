use Rattle.std.proofs.Common.{◌≡◌, List, ℕ, sym, subst, take}
use Rattle.std.specs.Prelude.{IfSome}
use Rattle.cover_decompose.specs.Count.{decomposed}
use Rattle.cover_decompose.specs.Spelled.{plain_decomposed}
use Rattle.rambo_cli.specs.Files.{Holds}
use Rattle.rambo_cli.proofs.Pieces.{read_cause, read_said}
use Rattle.rambo_cli.proofs.reading.read_input.Goals as goal

pub returns-clause-said : goal.returns-clause-said
returns-clause-said g c =
    read_said c.model_of_text.result c.as_slice.result.now (g.S.Shelf.files c.args.shelf.now) c.args.input.now
    (subst (λ (t : List ℕ). IfSome (g.S.Shelf.files c.args.shelf.now) (λ told. Holds told c.args.input.now (λ bytes. t ≡ take 16777217 bytes))) (sym c.as_slice.ensures.value) c.in_ok-text.ensures.found)
    c.model_of_text.ensures.said

pub returns-clause-cause : goal.returns-clause-cause
returns-clause-cause g c =
    read_cause decomposed c.model_of_text.result c.as_slice.result.now (g.S.Shelf.files c.args.shelf.now) c.args.input.now (g.S.Shelf.faults c.args.shelf.now) (g.S.Shelf.faults c.bytes_of.new.shelf)
    (subst (λ (t : List ℕ). IfSome (g.S.Shelf.files c.args.shelf.now) (λ told. Holds told c.args.input.now (λ bytes. t ≡ take 16777217 bytes))) (sym c.as_slice.ensures.value) c.in_ok-text.ensures.found)
    c.model_of_text.ensures.cause

pub returns-clause-plain_cause : goal.returns-clause-plain_cause
returns-clause-plain_cause g c =
    read_cause plain_decomposed c.model_of_text.result c.as_slice.result.now (g.S.Shelf.files c.args.shelf.now) c.args.input.now (g.S.Shelf.faults c.args.shelf.now) (g.S.Shelf.faults c.bytes_of.new.shelf)
    (subst (λ (t : List ℕ). IfSome (g.S.Shelf.files c.args.shelf.now) (λ told. Holds told c.args.input.now (λ bytes. t ≡ take 16777217 bytes))) (sym c.as_slice.ensures.value) c.in_ok-text.ensures.found)
    c.model_of_text.ensures.plain_cause
