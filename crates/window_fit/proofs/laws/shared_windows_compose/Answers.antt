use Rattle.rm_model.specs.Value.{Equivalent}
use Rattle.rm_model.specs.WellFormed.{IsWellFormed}
use Rattle.cover_sharing.specs.Shared.{shared}
use Rattle.window_fit.specs.Shared.{sewn_again}
use Rattle.window_fit.proofs.Composed.{replaced_then}
use Rattle.window_fit.proofs.laws.shared_windows_compose.Goals as goal

pub returns : goal.returns
returns c = λ width shift m parts formed ranked few replaced counted.
    let same : Equivalent m (shared m) = c.shared_models_agree.ensures.agree m formed ranked in
    let whole : IsWellFormed (shared m) = c.shared_models_agree.ensures.formed m formed ranked in
    replaced_then c.one_valuation.ensures.exists m (shared m) (sewn_again m parts) whole same (c.cuts_compose.ensures width shift (shared m) parts whole same.other_ranked few replaced counted)
