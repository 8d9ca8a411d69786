use Rattle.std.proofs.Common.{refl}
use Rattle.rm_model.specs.Value.{observed_names}
use Rattle.rm_base.proofs.Public.{in_at, map_agree}
use Rattle.sewing.proofs.Formed.{observed-driven}
use Rattle.sewing.proofs.laws.windows_may_stay.Goals as goal

pub returns : goal.returns
returns c = λ w formed ranked. record {
  formed = formed;
  equivalent = record {
    name = refl;
    inputs = refl;
    outputs = refl;
    clocks = refl;
    latches = refl;
    ranked = ranked;
    other_ranked = ranked;
    agree = λ v u first second sources. map_agree v u (observed_names w) (λ i x at. c.one_valuation.ensures.only w v u x formed ranked first second sources (observed-driven w formed x (in_at (observed_names w) i x at)));
  };
}
