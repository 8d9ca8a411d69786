use Rattle.std.proofs.Common.{List, Option, Some, None, ap, ◌∙◌}
use Rattle.rm_model.specs.declared.parts.Cover.{Cover}
use Rattle.cover_sharing.specs.Inner.Placed.{output_at}
use Rattle.cover_sharing.proofs.Encodings.{looked}
use Rattle.cover_sharing.proofs.kept_covers.KeptCovers.first.Goals as goal

pub returns-in-None : goal.returns-in-None
returns-in-None c = λ d e. looked c.self.inside.places c.self.inside.covers.items c.args.self.now c.args.bytes.now d None c.self.invariant.at c.self.view_is c.in-None.ensures.value e

pub returns-in_ok-name-in-Some : goal.returns-in_ok-name-in-Some
returns-in_ok-name-in-Some c = λ d e.
    c.in_ok-name-in-Some.ensures
    ∙ (ap (λ (l : List Cover). output_at l c.in-Some.place.now) (c.as_slice.ensures.value ∙ c.self.view_is)
    ∙ looked c.self.inside.places c.self.inside.covers.items c.args.self.now c.args.bytes.now d (Some c.in-Some.place.now) c.self.invariant.at c.self.view_is c.in-Some.ensures.value e)
