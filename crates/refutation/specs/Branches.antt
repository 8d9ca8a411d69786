-- Trees of lines, splits and ends, and which are accepted.
use Rattle.std.specs.Prelude.{Bool, List, [], false, not, true, ℕ, ◌*◌, ◌++◌, ◌+◌, ◌-◌, ◌∷◌, ◌≡◌, ◌⊎◌}
use Rattle.gate_net.specs.Net.{IsKind, Net}
use Rattle.gate_net.specs.declared.Kind.{Kind}
use Rattle.gate_net.specs.declared.Kind.TheVariants.{One, Source, Zero}
use Rattle.refutation.specs.Facts.{AreOpposed, Held, none_held, with_fact}
use Rattle.refutation.specs.Lines.{Concludes, IsQuiet}
use Rattle.refutation.specs.declared.items.Item.{Item}
use Rattle.refutation.specs.declared.items.Item.TheVariants.{Clash, Here, Line, Quiet, Split, Untried}
use Rattle.refutation.specs.declared.reasoning.Fact.{Fact}
use Rattle.refutation.specs.declared.reasoning.Fact.TheVariants.{Good}
use Rattle.refutation.specs.declared.reasoning.Line.{Line as OneLine}
use Rattle.rm_base.specs.declared.numbers.Fault.{Fault}
use Rattle.rm_base.specs.declared.numbers.NodeId.{NodeId}

abbrev pub IsNoConstant : Kind → Type 0
IsNoConstant Zero = ⊥
IsNoConstant One = ⊥
IsNoConstant _ = Unit {0}

-- no good fact is held on the node
abbrev pub HasNoGood : Held → ℕ → Type 0
HasNoGood held x = (held x (Good false) ≡ false) × (held x (Good true) ≡ false)

-- the node is live, no constant, and without a good fact
abbrev pub MaySplit : Net → Held → ℕ → Type 0
MaySplit net held x = ((kind : Kind) × (IsKind net x kind × IsNoConstant kind)) × HasNoGood held x

-- the node is a source without a good fact
abbrev pub SplitsSource : Net → Held → ℕ → Type 0
SplitsSource net held x = IsKind net x Source × HasNoGood held x

-- a tree: lines, and then a split into two trees or an end
pub data Branch : Type 0 where
  line : OneLine → Branch → Branch
  split : NodeId → Bool → Branch → Branch → Branch
  clash : NodeId → Branch
  quiet : Branch
  here : Branch
  untried : Branch

-- its items, in prefix order
abbrev pub items_of : Branch → List Item
items_of (line l t) = Line l ∷ items_of t
items_of (split x first t u) = Split x first ∷ (items_of t ++ items_of u)
items_of (clash x) = Clash x ∷ []
items_of quiet = Quiet ∷ []
items_of here = Here ∷ []
items_of untried = Untried ∷ []

-- the closed tree is accepted with these facts held
abbrev pub IsClosed : Net → Fault → Held → Branch → Type 0
IsClosed net fault held (line l t) =
    (x : ℕ) × (fact : Fact) × Concludes net fault held l x fact × IsClosed net fault (with_fact held x fact) t
IsClosed net fault held (split x first t u) =
    MaySplit net held x.0 × IsClosed net fault (with_fact held x.0 (Good first)) t × IsClosed net fault (with_fact held x.0 (Good (not first))) u
IsClosed net fault held (clash x) = AreOpposed held x.0
IsClosed net fault held quiet = IsQuiet net fault held
IsClosed net fault held here = ⊥
IsClosed net fault held untried = ⊥

-- the items are one accepted closed tree, with nothing after it
abbrev pub AreAccepted : Net → Fault → List Item → Type 0
AreAccepted net fault items = (t : Branch) × ((items ≡ items_of t) × IsClosed net fault none_held t)

-- an accepted closed tree that splits on sources alone
abbrev pub IsClosedOnSources : Net → Fault → Held → Branch → Type 0
IsClosedOnSources net fault held (line l t) =
    (x : ℕ) × (fact : Fact) × Concludes net fault held l x fact × IsClosedOnSources net fault (with_fact held x fact) t
IsClosedOnSources net fault held (split x first t u) =
    SplitsSource net held x.0 × IsClosedOnSources net fault (with_fact held x.0 (Good first)) t × IsClosedOnSources net fault (with_fact held x.0 (Good (not first))) u
IsClosedOnSources net fault held (clash x) = AreOpposed held x.0
IsClosedOnSources net fault held quiet = IsQuiet net fault held
IsClosedOnSources net fault held _ = ⊥

-- lines, and then Here; a partial tree beside Untried; or a closed tree and a partial one
abbrev pub IsPartial : Net → Fault → Held → Branch → Type 0
IsPartial net fault held (line l t) =
    (x : ℕ) × (fact : Fact) × Concludes net fault held l x fact × IsPartial net fault (with_fact held x fact) t
IsPartial net fault held (split x first t u) =
    SplitsSource net held x.0
    × ((IsPartial net fault (with_fact held x.0 (Good first)) t × (u ≡ untried))
    ⊎ (IsClosedOnSources net fault (with_fact held x.0 (Good first)) t × IsPartial net fault (with_fact held x.0 (Good (not first))) u))
IsPartial net fault held here = Unit {0}
IsPartial net fault held _ = ⊥

-- the items are one accepted partial tree, with nothing after it
abbrev pub AreAcceptedPartial : Net → Fault → List Item → Type 0
AreAcceptedPartial net fault items = (t : Branch) × ((items ≡ items_of t) × IsPartial net fault none_held t)

abbrev pub splits : Branch → ℕ
splits (line l t) = splits t
splits (split x first t u) = 1 + splits t + splits u
splits _ = 0

abbrev pub untrieds : Branch → ℕ
untrieds (line l t) = untrieds t
untrieds (split x first t u) = untrieds t + untrieds u
untrieds untried = 1
untrieds _ = 0

-- two for each split, less one for each Untried
abbrev pub edges : Branch → ℕ
edges t = 2 * splits t - untrieds t
