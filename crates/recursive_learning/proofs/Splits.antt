-- Splits, and gates of which all drivers are shown to have the other value.
use Rattle.std.proofs.Common.{Bool, List, None, Option, Some, [], ap, false, inl, inr, map, not, refl, true, ℕ, ◌++◌, ◌∙◌, ◌∷◌, ◌≡◌, ◌⊎◌}
use Rattle.std.specs.List.{list_all}
use Rattle.std.specs.Prelude.{IsTrue, slice_get}
use mathlib.Core.Bool.{beq}
use Rattle.gate_net.specs.Forward.{is_known, value_forward}
use Rattle.gate_net.specs.Net.{IsKind, IsLive, Net, Reads, drivers_of}
use Rattle.gate_net.specs.declared.Kind.{Kind}
use Rattle.gate_net.specs.declared.Kind.TheVariants.{And, Not, One, Or, Source, Xor, Zero}
use Rattle.recursive_learning.proofs.Commons.{held_known}
use Rattle.recursive_learning.proofs.Tells.{writes_join}
use Rattle.recursive_learning.specs.Inner.JustifiedValues.{IsJustified}
use Rattle.recursive_learning.specs.Inner.Telling.{Ends, IsTold, Leads, Writes, branch, none}
use Rattle.recursive_learning.specs.Inner.Working.{AreSettled}
use Rattle.recursive_learning.specs.Inner.Writing.{CasesClash, HasCases, OppositeClashes}
use Rattle.recursive_learning.specs.declared.justified_values.GoodValue.{GoodValue}
use Rattle.refutation.specs.Branches.{MaySplit}
use Rattle.refutation.specs.Closing.{IsClashFree, IsWithin}
use Rattle.refutation.specs.Facts.{Held, known_good, one_of, with_fact}
use Rattle.refutation.proofs.Public.{all_not_any, all_of, both_good, good_stays, is_known_some, junction_kind, known_held, with_within}
use Rattle.refutation.specs.Stack.{Due, tree}
use Rattle.refutation.specs.declared.items.Item.{Item}
use Rattle.refutation.specs.declared.items.Item.TheVariants.{Split}
use Rattle.refutation.specs.declared.reasoning.Fact.TheVariants.{Good}
use Rattle.refutation.specs.declared.reasoning.Line.TheVariants.{Constant, GoodForward}
use Rattle.rm_base.specs.declared.numbers.Fault.{Fault}
use Rattle.rm_base.specs.declared.numbers.NodeId.{NodeId}
use Rattle.rm_base.proofs.Public.{bool_cases}

none_held_of : (a b : Bool) → one_of a b ≡ None → ((a ≡ true) × (b ≡ true) → ⊥) → (a ≡ false) × (b ≡ false)
none_held_of true true e free = absurd (free (refl, refl))
none_held_of true false e free = cc
none_held_of false true e free = cc
none_held_of false false e free = (refl, refl)

-- a node whose good value isn't known may be split on
pub may_split : (net : Net) (fault : Fault) (held : Held) (x : ℕ) → AreSettled net fault held → IsLive net x → known_good held x ≡ None → MaySplit net held x
may_split net fault held x settled live unknown = at live.0 live.1
  where
    without : (held x (Good false) ≡ false) × (held x (Good true) ≡ false)
    without = none_held_of (held x (Good false)) (held x (Good true)) unknown (λ both. settled.free x (inl both))

    at : (kind : Kind) → IsKind net x kind → MaySplit net held x
    at Source is = ((Source, (is, tt)), without)
    at Zero is = let there : held x (Good false) ≡ true = settled.closed (Constant (record { 0 = x })) x (Good false) (false, is, refl, refl) in absurd (let no_fact : held x (Good false) ≡ false = without.0 in cc)
    at One is = let there : held x (Good true) ≡ true = settled.closed (Constant (record { 0 = x })) x (Good true) (true, is, refl, refl) in absurd (let no_fact : held x (Good true) ≡ false = without.1 in cc)
    at And is = ((And, (is, tt)), without)
    at Or is = ((Or, (is, tt)), without)
    at Not is = ((Not, (is, tt)), without)
    at Xor is = ((Xor, (is, tt)), without)

abbrev two : Held → Held → List Due → List Due
two one other below = tree one ∷ tree other ∷ below

split_writes : (net : Net) (fault : Fault) (held : Held) (x : NodeId) (first : Bool) (before : List Item) → MaySplit net held x.0 → Writes net fault (branch held) before (two (with_fact held x.0 (Good first)) (with_fact held x.0 (Good (not first)))) (before ++ Split x first ∷ [])
split_writes net fault held x first before may = (Split x first ∷ [], (refl, λ below. (may, refl)))

first_ends : (net : Net) (fault : Fault) (one other : Held) (before after : List Item) → Ends net fault one before after → Writes net fault (two one other) before (branch other) after
first_ends net fault one other before after (pieces, (is, reads)) = (pieces, (is, λ below. reads (tree other ∷ below)))

-- a split whose first branch has ended
pub split_told : (net : Net) (fault : Fault) (held : Held) (x : NodeId) (first : Bool) (before middle after : List Item) (ended : Bool) (now : Held) → MaySplit net held x.0 → Ends net fault (with_fact held x.0 (Good first)) (before ++ Split x first ∷ []) middle → IsTold net fault (with_fact held x.0 (Good (not first))) middle ended now after → IsTold net fault held before ended now after
split_told net fault held x first before middle after true now may one second =
    writes_join net fault (branch held) (branch (with_fact held x.0 (Good (not first)))) none before middle after
    (writes_join net fault (branch held) (two (with_fact held x.0 (Good first)) (with_fact held x.0 (Good (not first)))) (branch (with_fact held x.0 (Good (not first)))) before (before ++ Split x first ∷ []) middle
    (split_writes net fault held x first before may) (first_ends net fault (with_fact held x.0 (Good first)) (with_fact held x.0 (Good (not first))) (before ++ Split x first ∷ []) middle one))
    second
split_told net fault held x first before middle after false now may one second = (
  writes_join net fault (branch held) (branch (with_fact held x.0 (Good (not first)))) (branch now) before middle after
      (writes_join net fault (branch held) (two (with_fact held x.0 (Good first)) (with_fact held x.0 (Good (not first)))) (branch (with_fact held x.0 (Good (not first)))) before (before ++ Split x first ∷ []) middle
      (split_writes net fault held x first before may) (first_ends net fault (with_fact held x.0 (Good first)) (with_fact held x.0 (Good (not first))) (before ++ Split x first ∷ []) middle one))
      second.0,
  second.1,
)

-- lines and then the end of the branch
pub told_ends : (net : Net) (fault : Fault) (start : Held) (before middle after : List Item) (now : Held) → IsTold net fault start before false now middle → Ends net fault now middle after → Ends net fault start before after
told_ends net fault start before middle after now told ends = writes_join net fault (branch start) (branch now) none before middle after told.0 ends

-- one stretch after another
pub told_join : (net : Net) (fault : Fault) (start : Held) (before middle after : List Item) (now then : Held) (ended : Bool) → Leads net fault start before now middle → IsTold net fault now middle ended then after → IsTold net fault start before ended then after
told_join net fault start before middle after now then true leads told = writes_join net fault (branch start) (branch now) none before middle after leads told
told_join net fault start before middle after now then false leads told = (writes_join net fault (branch start) (branch now) (branch then) before middle after leads told.0, told.1)

-- CASES OF A GATE
pub cases_grow : (net : Net) (held more : Held) (c : Bool) (ds : List ℕ) → (fault : Fault) → IsWithin held more → IsClashFree more → HasCases net held c ds → HasCases net more c ds
cases_grow net held more c ds fault within free cases = record {
  gate = cases.gate;
  junction = cases.junction;
  known = good_stays net fault held more within free cases.gate c cases.known;
  drivers = λ p d reads. elim (cases.drivers p d reads) [
    | inl other ↦ inl (good_stays net fault held more within free d (not c) other)
    | inr there ↦ inr there
  ];
  reads = cases.reads;
}

pub cases_of : (net : Net) (fault : Fault) (depth : ℕ) (held : Held) (y : ℕ) (c : Bool) (ds : List ℕ) (found : Bool) (goods : List GoodValue) → IsJustified net fault depth held y c ds found goods → HasCases net held c ds
cases_of net fault depth held y c ds found goods l = record {
  gate = y;
  junction = l.unjustified.junction;
  known = l.unjustified.known;
  drivers = λ p d reads. at p d reads (known_good held d) refl;
  reads = λ k d there. (l.drivers.each k d there).0;
}
  where
    at : (p d : ℕ) → Reads net y p d → (o : Option Bool) → known_good held d ≡ o → (known_good held d ≡ Some (not c)) ⊎ ((k : ℕ) × (slice_get ds k ≡ Some d))
    at p d reads None is = inr (l.drivers.all d ((p, reads), is))
    at p d reads (Some b) is = elim (bool_cases b c) [
      | inl same ↦ absurd (l.unjustified.none_gives p d reads (is ∙ ap Some same))
      | inr other ↦ inl (is ∙ ap Some other)
    ]

-- common values of clashes: each driver taken for the value clashes, also with more facts
pub justified_cases : (net : Net) (fault : Fault) (depth : ℕ) (held : Held) (y : ℕ) (c : Bool) (ds : List ℕ) (found : Bool) (goods : List GoodValue) → IsJustified net fault depth held y c ds found goods → found ≡ false → CasesClash net fault depth held c ds
justified_cases net fault depth held y c ds found goods l none = record {
  cases = cases_of net fault depth held y c ds found goods l;
  clash = λ k d there more within is s contains. l.clash none d (l.drivers.each k d there) s (λ x fact e. contains x fact (with_within held more d (Good c) within is x fact e));
}

-- common values: each driver and the opposite clash, also with more facts
pub justified_opposite : (net : Net) (fault : Fault) (depth : ℕ) (held now : Held) (y : ℕ) (c : Bool) (ds : List ℕ) (found : Bool) (goods : List GoodValue) (j : ℕ) (g : GoodValue) → IsJustified net fault depth held y c ds found goods → found ≡ true → slice_get goods j ≡ Some g → IsWithin held now → IsClashFree now → OppositeClashes net fault depth now c ds g.node.0 g.value
justified_opposite net fault depth held now y c ds found goods j g l some at inside free = record {
  cases = cases_grow net held now c ds fault inside free (cases_of net fault depth held y c ds found goods l);
  clash = λ k d there more within is isn't s contains free' closed.
      free' g.node.0 (both_good s g.node.0 g.value
      (l.lead some j g at d (l.drivers.each k d there) s (λ x fact e. contains x fact (with_within held more d (Good c) (λ y other h. within y other (inside y other h)) is x fact e)) free' closed)
      (contains g.node.0 (Good (not g.value)) isn't));
}

-- with the opposite held, each driver clashes
pub opposite_cases : (net : Net) (fault : Fault) (depth : ℕ) (held now : Held) (c : Bool) (ds : List ℕ) (x : ℕ) (b : Bool) → OppositeClashes net fault depth held c ds x b → IsWithin held now → IsClashFree now → IsTrue (now x (Good (not b))) → CasesClash net fault depth now c ds
opposite_cases net fault depth held now c ds x b o inside free isn't = record {
  cases = cases_grow net held now c ds fault inside free o.cases;
  clash = λ k d there more within is. o.clash k d there more (λ y fact e. within y fact (inside y fact e)) is (within x (Good (not b)) isn't);
}

-- all drivers have the other value, so the gate has too
pub no_driver : (net : Net) (fault : Fault) (start now : Held) (c : Bool) (ds : List ℕ) → HasCases net start c ds → IsWithin start now → AreSettled net fault now → ((k d : ℕ) → slice_get ds k ≡ Some d → IsTrue (now d (Good (not c)))) → ⊥
no_driver net fault start now c ds cases within settled others =
    settled.free cases.gate (both_good now cases.gate c (within cases.gate (Good c) (known_held start cases.gate c cases.known)) other)
  where
    known : (p d : ℕ) → slice_get (drivers_of net cases.gate) p ≡ Some d → known_good now d ≡ Some (not c)
    known p d reads = elim (cases.drivers p d reads) [
      | inl is ↦ good_stays net fault start now within settled.free d (not c) is
      | inr there ↦ held_known now d (not c) settled.free (others there.0 d there.1)
    ]

    all : list_all (is_known (not c)) (map (known_good now) (drivers_of net cases.gate)) ≡ true
    all = all_of (is_known (not c)) (known_good now) (drivers_of net cases.gate) (λ p d reads. is_known_some (not c) (known_good now d) (known p d reads))

    follows : value_forward cases.junction.0 (map (known_good now) (drivers_of net cases.gate)) ≡ Some (not c)
    follows = junction_kind cases.junction.0 c (map (known_good now) (drivers_of net cases.gate)) cases.junction.1.1 ∙ rw (all_not_any c (map (known_good now) (drivers_of net cases.gate)) all, all) refl

    other : IsTrue (now cases.gate (Good (not c)))
    other = settled.closed (GoodForward (record { 0 = cases.gate })) cases.gate (Good (not c)) (cases.junction.0, not c, cases.junction.1.0, follows, refl, refl)

pub beq_other : (a b : Bool) → beq a b ≡ false → a ≡ not b
beq_other true true e = cc
beq_other true false e = refl
beq_other false true e = refl
beq_other false false e = cc
