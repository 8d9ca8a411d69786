use Rattle.window_parts.proofs.Rebuilt.{equivalent, fits}
use Rattle.window_parts.proofs.laws.rebuilt_nets_replace.Goals as goal

pub returns : goal.returns
returns c = λ m steps count net formed ranked parts few rebuilt.
    let fit = fits c.values_exist.ensures m net parts rebuilt.keeps in
    let is = c.tidy_nets_have_models.ensures net m rebuilt.keeps.form rebuilt.tidy formed fit few in
    record { formed = is.well_formed; equivalent = equivalent c.values_exist.ensures m net parts rebuilt.keeps is ranked }
