-- A line gives one fact at most.
use Rattle.std.proofs.Common.{Bool, Some, ap, false, refl, true, ℕ, ◌≡◌}
use Rattle.std.specs.Prelude.{if◌then◌else◌}
use Rattle.gate_net.specs.Net.{IsKind, Net, kind_in, kind_of}
use Rattle.gate_net.specs.declared.Kind.{Kind}
use Rattle.gate_net.specs.declared.Kind.TheVariants.{One, Zero}
use Rattle.refutation.specs.Laws.{LinesGiveOne}
use Rattle.refutation.specs.declared.reasoning.Line.TheVariants.{Act, Chain, Compare, Constant, DiffersBack, EqualForward, FaultyBack, FaultyForward, GoodBack, GoodForward, NotDiffers, NotEqual, Out, Side, Site, ToFaulty, ToGood}

one_kind : (net : Net) (x y : ℕ) (k l : Kind) → IsKind net x k → IsKind net y l → x ≡ y → k ≡ l
one_kind net x y k l a b e = let f : kind_of net x ≡ Some k = ap kind_in a.1 in let g : kind_of net y ≡ Some l = ap kind_in b.1 in cc

abbrev constant_of : Bool → Kind
constant_of value = if value then One else Zero

one_value : (b c : Bool) → constant_of b ≡ constant_of c → b ≡ c
one_value true true e = refl
one_value true false e = cc
one_value false true e = cc
one_value false false e = refl

pub lines_give_one : LinesGiveOne
lines_give_one net fault held Act x y fact other a b = (cc, cc)
lines_give_one net fault held Site x y fact other a b = (cc, cc)
lines_give_one net fault held (Chain n) x y fact other a b = (cc, cc)
lines_give_one net fault held (Out n) x y fact other a b = (cc, cc)
lines_give_one net fault held (GoodForward n) x y fact other a b =
    let e : x ≡ y = cc in let k : a.0 ≡ b.0 = one_kind net x y a.0 b.0 a.2 b.2 e in (e, cc)
lines_give_one net fault held (GoodBack n q) x y fact other a b =
    let k : a.0 ≡ b.0 = one_kind net n.0 n.0 a.0 b.0 a.3 b.3 refl in (cc, cc)
lines_give_one net fault held (Compare n) x y fact other a b = (cc, cc)
lines_give_one net fault held (EqualForward n) x y fact other a b = (cc, cc)
lines_give_one net fault held (DiffersBack n q) x y fact other a b = (cc, cc)
lines_give_one net fault held (Side n q) x y fact other a b =
    let k : a.0 ≡ b.0 = one_kind net n.0 n.0 a.0 b.0 a.2 b.2 refl in (cc, cc)
lines_give_one net fault held (Constant n) x y fact other a b =
    let e : x ≡ y = cc in
    let v : a.0 ≡ b.0 = one_value a.0 b.0 (one_kind net x y (constant_of a.0) (constant_of b.0) a.1 b.1 e) in
    (e, cc)
lines_give_one net fault held (FaultyForward n) x y fact other a b =
    let e : x ≡ y = cc in let k : a.0 ≡ b.0 = one_kind net x y a.0 b.0 a.2 b.2 e in (e, cc)
lines_give_one net fault held (FaultyBack n q) x y fact other a b =
    let k : a.0 ≡ b.0 = one_kind net n.0 n.0 a.0 b.0 a.3 b.3 refl in (cc, cc)
lines_give_one net fault held (ToFaulty n) x y fact other a b = (cc, cc)
lines_give_one net fault held (ToGood n) x y fact other a b = (cc, cc)
lines_give_one net fault held (NotDiffers n) x y fact other a b = (cc, cc)
lines_give_one net fault held (NotEqual n) x y fact other a b = (cc, cc)
