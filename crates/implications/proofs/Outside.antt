-- The nodes that the faulty gate doesn't reach, and what their being equal settles.
use Rattle.std.proofs.Common.{Bool, List, None, Option, Some, [], ap, false, inl, inr, map, refl, subst, sym, true, ℕ, ◌∷◌, ◌≡◌, ◌≢◌}
use Rattle.std.proofs.lemmas.Bool.{ne_eqb}
use Rattle.std.specs.List.{list_all, list_any}
use Rattle.std.specs.Prelude.{IsTrue, T, if◌then◌else◌, slice_get}
use mathlib.Core.Path.{fun_ext}
use Rattle.gate_net.specs.Forward.{is_known, value_forward}
use Rattle.gate_net.specs.Net.{IsKind, IsWellFormed, Net, Reads, drivers_of}
use Rattle.gate_net.specs.Paths.{Reaches, on, pin}
use Rattle.gate_net.specs.Values.{faulty_reads}
use Rattle.gate_net.specs.Meaning.{family, family_forward, is_gate_family}
use Rattle.gate_net.specs.declared.Family.{Family}
use Rattle.gate_net.specs.declared.Family.TheVariants.{Constant, Input, Junction, Parity}
use Rattle.gate_net.specs.declared.Kind.{Kind}
use Rattle.gate_net.specs.declared.Kind.TheVariants.{One, Zero}
use Rattle.refutation.proofs.Public.{all_known, driver_live, one_of_true}
use Rattle.implications.specs.Beginning.{node_of}
use Rattle.implications.specs.Inner.Beginning.{AreDoneOutside}
use Rattle.implications.specs.Outside.{AreOutside, IsPinless, OutsideIsSettled}
use Rattle.implications.specs.Settled.{IsSettled}
use Rattle.refutation.specs.FactSets.{held_by}
use Rattle.refutation.specs.Facts.{Held, known_equal, known_faulty, known_good, none_held}
use Rattle.refutation.specs.Closing.{IsClashFree}
use Rattle.refutation.specs.Lines.{Concludes}
use Rattle.refutation.specs.declared.held.NodeFacts.{NodeFacts}
use Rattle.refutation.specs.declared.reasoning.Fact.{Fact}
use Rattle.refutation.specs.declared.reasoning.Fact.TheVariants.{Differs, Equal, Faulty, Good}
use Rattle.refutation.specs.declared.reasoning.Line.TheVariants.{Act, Chain, Compare, Constant, DiffersBack, EqualForward, FaultyBack, FaultyForward, GoodBack, GoodForward, NotDiffers, NotEqual, Out, Side, Site, ToFaulty, ToGood}
use Rattle.rm_base.specs.declared.numbers.Fault.{Fault}

-- ONE SET
pub same_bools : (b c : Bool) → (b ≡ true → c ≡ true) → (c ≡ true → b ≡ true) → b ≡ c
same_bools true c f g = sym (f refl)
same_bools false true f g = g refl
same_bools false false f g = refl

pub outside_same : (net : Net) (fault : Fault) (a b : Held) → AreOutside net fault a → AreOutside net fault b → a ≡ b
outside_same net fault a b o p = fun_ext (λ x. fun_ext (λ fact. same_bools (a x fact) (b x fact) (λ e. (p x fact).1 ((o x fact).0 e)) (λ e. (o x fact).1 ((p x fact).0 e))))

-- WHAT IS KNOWN BY IT
any_none : (c : Bool) (k : ℕ → Option Bool) (ds : List ℕ) → ((d : ℕ) → k d ≡ None) → list_any (is_known c) (map k ds) ≡ false
any_none c k [] none = refl
any_none c k (d ∷ ds) none = rw (none d) (any_none c k ds none)

-- no value follows from drivers of which none is known, where there is one
forward_none : (f : Family) (k : ℕ → Option Bool) (ds : List ℕ) (v : Bool) → ((d : ℕ) → k d ≡ None) → (T (is_gate_family f) → ds ≢ []) → family_forward f (map k ds) ≡ Some v → ⊥
forward_none Input k ds v none pins e = cc
forward_none (Constant b) k ds v none pins e = cc
forward_none (Junction c) k [] v none pins e = pins tt refl
forward_none (Junction c) k (d ∷ ds) v none pins e = let wrong : None ≡ Some v = (rw (none d, any_none c k ds none) at e) in cc
forward_none (Parity i) k [] v none pins e = pins tt refl
forward_none (Parity i) k (d ∷ ds) v none pins e = let wrong : None ≡ Some v = (rw (none d) at e) in cc

constant_is : (net : Net) → IsWellFormed net → (value : Bool) (x : ℕ) → IsKind net x (if value then One else Zero) → x ≢ 0 → x ≢ 1 → ⊥
constant_is net formed true x kind zero' one' = one' (formed.only_one x kind)
constant_is net formed false x kind zero' one' = zero' (formed.only_zero x kind)

module _ (net : Net) (fault : Fault) (start : Held) (formed : IsWellFormed net) (o : AreOutside net fault start) where
  off : (x : ℕ) (fact : Fact) → fact ≢ Equal → start x fact ≡ false
  off x fact ne = at (start x fact) refl
    where
      at : (b : Bool) → start x fact ≡ b → start x fact ≡ false
      at true e = absurd (ne ((o x fact).0 e).4)
      at false e = e

  no_good : (x : ℕ) → known_good start x ≡ None
  no_good x = rw (off x (Good false) (λ e. cc), off x (Good true) (λ e. cc)) refl

  no_faulty : (x : ℕ) → known_faulty start x ≡ None
  no_faulty x = rw (off x (Faulty false) (λ e. cc), off x (Faulty true) (λ e. cc)) refl

  no_differs : (x : ℕ) → known_equal start x ≡ Some false → ⊥
  no_differs x e = elim (one_of_true (start x Differs) (start x Equal) false e) [ inl a ↦ let wrong : start x Differs ≡ false = off x Differs (λ is. cc) in cc | inr a ↦ cc ]

  equal_is : (x : ℕ) → known_equal start x ≡ Some true → Concludes net fault none_held (Out (node_of x)) x Equal
  equal_is x e = elim (one_of_true (start x Differs) (start x Equal) true e) [ inl a ↦ cc | inr a ↦ (o x Equal).0 a.1 ]

  -- a node whose drivers are all equal isn't reached
  equal_drivers : (x : ℕ) → IsTrue (list_all (is_known true) (map (known_equal start) (drivers_of net x))) → Reaches net fault.gate.0 x → ⊥
  equal_drivers x all (pin p reads) = (equal_is fault.gate.0 (all_known (known_equal start) (drivers_of net x) all p fault.gate.0 reads)).1 refl
  equal_drivers x all (on {z = z} p reaches reads) = (equal_is z (all_known (known_equal start) (drivers_of net x) all p z reads)).2 reaches

  forward_never : (k : ℕ → Option Bool) → ((d : ℕ) → k d ≡ None) → (y : ℕ) → (IsPinless net y → ⊥) → (kind : Kind) (v : Bool) → IsKind net y kind → value_forward kind (map k (drivers_of net y)) ≡ Some v → ⊥
  forward_never k none y pinned kind v is e = forward_none (family kind) k (drivers_of net y) v none (λ gate empty. pinned ((kind, (is, gate)), empty)) e

  module _ (y : ℕ) (zero' : y ≢ 0) (one' : y ≢ 1) (ne : y ≢ fault.gate.0) (pinned : IsPinless net y → ⊥) where
    not_stuck : faulty_reads net fault Some (known_faulty start) y ≡ map (known_faulty start) (drivers_of net y)
    not_stuck = rw (ne_eqb y fault.gate.0 ne) refl

    settled_here : IsSettled net fault start y
    settled_here Act x fact e h = cc
    settled_here Site x fact e h = cc
    settled_here (Chain z) x fact e h = cc
    settled_here (Out z) x fact e h = cc
    settled_here (Constant z) x fact e h = let is : x ≡ y = cc in absurd (constant_is net formed h.0 y (subst (λ w. IsKind net w (if h.0 then One else Zero)) is h.1) zero' one')
    settled_here (GoodForward z) x fact e h = let is : x ≡ y = cc in absurd (forward_never (known_good start) no_good y pinned h.0 h.1 (subst (λ w. IsKind net w h.0) is h.2) (subst (λ w. value_forward h.0 (map (known_good start) (drivers_of net w)) ≡ Some h.1) is h.3))
    settled_here (FaultyForward z) x fact e h =
        let is : x ≡ y = cc in
        absurd (forward_never (known_faulty start) no_faulty y pinned h.0 h.1 (subst (λ w. IsKind net w h.0) is h.2) (rw not_stuck at (subst (λ w. value_forward h.0 (faulty_reads net fault Some (known_faulty start) w) ≡ Some h.1) is h.3)))
    settled_here (GoodBack z q) x fact e h = let wrong : known_good start z.0 ≡ None = no_good z.0 in let known : known_good start z.0 ≡ Some h.1 = h.4 in cc
    settled_here (FaultyBack z q) x fact e h = let wrong : known_faulty start z.0 ≡ None = no_faulty z.0 in let known : known_faulty start z.0 ≡ Some h.1 = h.4 in cc
    settled_here (Compare z) x fact e h = let wrong : known_good start x ≡ None = no_good x in let known : known_good start x ≡ Some h.1 = h.3 in cc
    settled_here (ToFaulty z) x fact e h = let wrong : known_good start x ≡ None = no_good x in let known : known_good start x ≡ Some h.1 = h.3 in cc
    settled_here (ToGood z) x fact e h = let wrong : known_faulty start x ≡ None = no_faulty x in let known : known_faulty start x ≡ Some h.1 = h.3 in cc
    settled_here (NotDiffers z) x fact e h = absurd (no_differs h.3.1 h.3.3)
    settled_here (DiffersBack z q) x fact e h = absurd (no_differs z.0 h.2)
    settled_here (Side z q) x fact e h = absurd (no_differs z.0 h.4)
    settled_here (EqualForward z) x fact e h = (o x fact).1 ((h.0.0, h.0.1.0), h.1, equal_drivers x h.2, refl, h.4)
    settled_here (NotEqual z) x fact e h =
        let reader = equal_is z.0 h.2 in
        let reads : Reads net z.0 0 x = ap (λ (ds : List ℕ). slice_get ds 0) h.3 in
        (o x fact).1 (
          driver_live net formed z.0 0 x reads,
          λ is. reader.2 (subst (λ w. Reaches net w z.0) is (pin 0 reads)),
          λ reaches. reader.2 (on 0 reaches reads),
          refl,
          h.4,
        )

  -- no two facts are opposed
  pub outside_free : IsClashFree start
  outside_free x opposed = elim opposed [
    | inl good ↦ let wrong : start x (Good false) ≡ false = off x (Good false) (λ e. cc) in let there : start x (Good false) ≡ true = good.0 in cc
    | inr other ↦ elim other [
      | inl faulty ↦ let wrong : start x (Faulty false) ≡ false = off x (Faulty false) (λ e. cc) in let there : start x (Faulty false) ≡ true = faulty.0 in cc
      | inr equal ↦ let wrong : start x Differs ≡ false = off x Differs (λ e. cc) in let there : start x Differs ≡ true = equal.1 in cc
    ]
  ]

pub outside_settled : OutsideIsSettled
outside_settled net fault start formed o y zero' one' ne pinned = settled_here net fault start formed o y zero' one' ne pinned

-- its lines are done
pub outside_done : (net : Net) (fault : Fault) (facts : List NodeFacts) → AreOutside net fault (held_by facts) → AreDoneOutside net fault facts
outside_done net fault facts o z x fact h = (o x fact).1 (h.0, h.1, h.2, refl, h.4)
