use Rattle.std.proofs.Common.{sym}
use Rattle.refutation_check.proofs.Splits.{kind_splits, splits_kind}
use Rattle.refutation_check.proofs.reading.may_split.Goals as goal

pub returns-then-may_split_kind : goal.returns-then-may_split_kind
returns-then-may_split_kind c = (
  λ h. kind_splits _ _ _ _ c.in-Some.kind (sym c.in-Some.ensures) (c.may_split_kind.ensures.0 c.if-may_split_kind.true) (c.has_no_good.ensures.0 h),
  λ may. c.has_no_good.ensures.1 ((splits_kind _ _ _ _ c.in-Some.kind (sym c.in-Some.ensures) may).1),
)
