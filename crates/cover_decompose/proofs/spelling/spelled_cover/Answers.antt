use Rattle.std.proofs.Common.{◌≡◌, Bool, Option, Some, subst}
use Rattle.std.specs.Prelude.{IfOk}
use Rattle.rm_model.specs.declared.parts.Cover.{Cover}
use Rattle.cover_decompose.specs.Parity.{parity_ending}
use Rattle.cover_decompose.specs.Spelled.{spelled_by}
use Rattle.cover_decompose.proofs.spelling.spelled_cover.Goals as goal

pub returns-in-Some : goal.returns-in-Some
returns-in-Some c =
    let e : Some c.in-Some._ends ≡ parity_ending c.args.cover.now = cc (c.in-Some.is, c.parity_ending.ensures) in
    subst (λ (o : Option Bool). IfOk c.widened.result (λ (made : Cover). made ≡ spelled_by o c.args.cover.now)) e (c.widened.ensures c.in-Some._ends)
