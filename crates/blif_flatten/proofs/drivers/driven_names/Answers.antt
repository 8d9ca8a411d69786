use Rattle.std.proofs.Common.{◌≡◌, ◌∙◌, ap, sym, get_or, List, Bool}
use Rattle.rm_model.specs.Value.{is_among}
use Rattle.blif_format.specs.Uses.{Use, names_in, is_driver}
use Rattle.blif_flatten.specs.Inner.Uses.{uses_at}
use Rattle.blif_flatten.proofs.Formals.{token-at}
use Rattle.blif_flatten.proofs.TwiceDriven.{uses-to}
use Rattle.blif_flatten.proofs.drivers.driven_names.Goals as goal

pub loop-this-preserved : goal.loop-this-preserved
loop-this-preserved c = λ x.
    c.in_ok-include_driver.ensures (uses_at (Rattle.std.proofs.Common.take c.loop-this.this-index c.args.uses.now)) c.loop-this.invariant x
    ∙ ap (λ (us : List Use). is_among (names_in is_driver us) x) (sym (uses-to c.args.uses.now c.loop-this.this-index _ (token-at c.args.uses.now c.loop-this.this-index _ c.loop-this-test.true)))
