-- The candidates at one gate.
use Rattle.std.proofs.Common.{Bool, Err, List, None, OnOk, Ok, Option, Result, Some, [], ap, append-nil, arith, false, inl, inr, length, refl, subst, suc, sym, true, zero, ℕ, ◌++◌, ◌+◌, ◌<◌, ◌∙◌, ◌≡◌, ◌≢◌, ◌≤◌, ◌⊎◌}
use Rattle.std.proofs.lemmas.Bool.Decides.{eqb_tells}
use Rattle.std.specs.Option.{option_eq}
use Rattle.std.specs.Prelude.{not, slice_get}
use mathlib.Core.Bool.{beq}
use Rattle.gate_net.specs.Net.{Net, Node, kind_in, node_at}
use Rattle.gate_net.specs.Values.{IsJunction, controlling}
use Rattle.gate_net.specs.declared.Kind.{Kind}
use Rattle.refutation.specs.Facts.{Held}
use Rattle.wire_edit.specs.Tests.{control_of, gate_control}
use Rattle.candidate_wires.specs.Candidates.{AreAmong, listed}
use Rattle.candidate_wires.specs.Joining.{IsCandidateOf, MayRead}
use Rattle.candidate_wires.specs.Inner.Parts.{AreKnown, IsUsable}
use Rattle.candidate_wires.specs.declared.candidate.Candidate.{Candidate}
use Rattle.candidate_wires.specs.declared.known.Known.{Known}
use Rattle.rm_base.proofs.Public.{slice_get_below, some_same}

pub usable_of : (net : Net) (held : Held) (y x : ℕ) (fresh : Bool) → (m : MayRead net held y x fresh) → IsUsable net held x m.value
usable_of net held y x fresh m = record { kind = m.kind; is_kind = m.is_kind; no_constant = m.no_constant; equal = m.equal; known = m.known }

pub junction_one : (net : Net) (y : ℕ) (b c : Bool) → IsJunction net y b → IsJunction net y c → b ≡ c
junction_one net y b c (kind, ((ds, is), control)) (kind', ((ds', is'), control')) =
    let kinds : Some kind ≡ Some kind' = sym (ap kind_in is) ∙ ap kind_in is' in
    some_same (sym control ∙ ap controlling (some_same kinds) ∙ control')

gate_control_is : (kind : Kind) → gate_control (Some kind) ≡ controlling kind
gate_control_is kind = refl

-- an And or an Or is one by its controlling value
pub junction_from : (net : Net) (y : ℕ) (c : Bool) → control_of net y ≡ Some c → IsJunction net y c
junction_from net y c e = at (node_at net y) refl
  where
    at : (o : Option Node) → node_at net y ≡ o → IsJunction net y c
    at None is = let none : None ≡ Some c = sym (ap (λ (o : Option Node). gate_control (kind_in o)) is) ∙ e in cc
    at (Some n) is = (n.kind, ((n.drivers, is), sym (gate_control_is n.kind) ∙ sym (ap (λ (o : Option Node). gate_control (kind_in o)) is) ∙ e))

pub control_from : (net : Net) (y : ℕ) (c : Bool) → IsJunction net y c → control_of net y ≡ Some c
control_from net y c (kind, ((ds, is), control)) = ap (λ (o : Option Node). gate_control (kind_in o)) is ∙ gate_control_is kind ∙ control

pub no_junction : (net : Net) (y : ℕ) → None ≡ control_of net y → (c : Bool) → IsJunction net y c → ⊥
no_junction net y none c is = let wrong : None ≡ Some c = none ∙ control_from net y c is in cc

-- no candidates at a node that is no And and no Or
pub none_at : (net : Net) (held : Held) (y n : ℕ) → ((c : Bool) → IsJunction net y c → ⊥) → AreAmong net held y n []
none_at net held y zero none = refl
none_at net held y (suc n) none = ([], (none_at net held y n none, (None, ((λ fresh m. none m.control m.junction), refl))))

-- nor beside the usable nodes
pub among_up : (net : Net) (held : Held) (y n m : ℕ) (cs : List Candidate) → n ≤ m → AreAmong net held y n cs → ((x : ℕ) (value : Bool) → n ≤ x → x < m → IsUsable net held x value → ⊥) → AreAmong net held y m cs
among_up net held y n zero cs le among none = subst (λ (k : ℕ). AreAmong net held y k cs) (let e : n ≡ 0 = omega (arith, le) in e) among
among_up net held y n (suc m) cs le among none = elim (eqb_tells n (suc m)) [
  | inl t ↦ subst (λ (k : ℕ). AreAmong net held y k cs) t.1 among
  | inr t ↦
      let ne : n ≢ suc m = t.1 in
      let below : n ≤ m = omega (arith, le, ne) in
      let rest : AreAmong net held y m cs = among_up net held y n m cs below among (λ x value low less. none x value low (omega (arith, less))) in
      (cs, (rest, (None, ((λ fresh c. none m c.value below (omega arith) (usable_of net held y m fresh c)), sym (append-nil cs)))))
]

-- the candidates at the gate below a number that parts the first j known nodes from the others
pub record AreChosen (net : Net) (held : Held) (y : ℕ) (ks : List Known) (j : ℕ) (cs : List Candidate) : Type 0 where
  pub next : ℕ
  pub within : next ≤ length net.nodes
  pub among : AreAmong net held y next cs
  pub before : (m : ℕ) (k : Known) → m < j → slice_get ks m ≡ Some k → k.node.0 < next
  pub after : (m : ℕ) (k : Known) → j ≤ m → slice_get ks m ≡ Some k → next ≤ k.node.0

module _ (net : Net) (held : Held) (y : ℕ) (ks : List Known) (known : AreKnown net held (length net.nodes) ks) where
  pub chosen_first : AreChosen net held y ks 0 []
  chosen_first = record { next = 0; within = omega arith; among = refl; before = λ m k less e. absurd (omega (arith, less)); after = λ m k le e. omega arith }

  module _ (j : ℕ) (cs : List Candidate) (k : Known) (there : slice_get ks j ≡ Some k) (old : AreChosen net held y ks j cs) where
    up_to : AreAmong net held y k.node.0 cs
    up_to = among_up net held y old.next k.node.0 cs (old.after j k (omega arith) there) old.among (λ x value low less usable.
        let below : k.node.0 < length net.nodes = (known.each j k there).0 in
        let found = known.all x value (omega (arith, less, below)) usable in
        let number : found.1.0.node.0 ≡ x = found.1.1.1 in
        elim (cases_less found.0 j) [
          | inl earlier ↦ let under : found.1.0.node.0 < old.next = old.before found.0 found.1.0 earlier found.1.1.0 in absurd (omega (arith, under, number, low))
          | inr rest ↦ elim (eqb_tells found.0 j) [
            | inl t ↦
                let same : Some found.1.0 ≡ Some k = sym found.1.1.0 ∙ ap (slice_get ks) t.1 ∙ there in
                let same_number : found.1.0.node.0 ≡ k.node.0 = ap (λ (q : Known). q.node.0) (some_same same) in
                absurd (omega (arith, same_number, number, less))
            | inr t ↦
                let ne : found.0 ≢ j = t.1 in
                let over : k.node.0 < found.1.0.node.0 = known.sorted j found.0 k found.1.0 (omega (arith, ne, rest)) there found.1.1.0 in
                absurd (omega (arith, over, number, less))
          ]
        ])
      where
        cases_less : (a b : ℕ) → (a < b) ⊎ (b ≤ a)
        cases_less a zero = inr (omega arith)
        cases_less zero (suc b) = inl (omega arith)
        cases_less (suc a) (suc b) = elim (cases_less a b) [ inl less ↦ inl (omega (arith, less)) | inr le ↦ inr (omega (arith, le)) ]

    pub chosen_more : (o : Option Candidate) → IsCandidateOf net held y k.node.0 o → AreChosen net held y ks (j + 1) (cs ++ listed o)
    chosen_more o choice = record {
      next = suc k.node.0;
      within = let below : k.node.0 < length net.nodes = (known.each j k there).0 in omega (arith, below);
      among = (cs, (up_to, (o, (choice, refl))));
      before = λ m q less e. elim (eqb_tells m j) [
        | inl t ↦
            let same : Some q ≡ Some k = sym e ∙ ap (slice_get ks) t.1 ∙ there in
            let number : q.node.0 ≡ k.node.0 = ap (λ (z : Known). z.node.0) (some_same same) in
            omega (arith, number)
        | inr t ↦
            let ne : m ≢ j = t.1 in
            let under : q.node.0 < old.next = old.before m q (omega (arith, less, ne)) e in
            let low : old.next ≤ k.node.0 = old.after j k (omega arith) there in
            omega (arith, under, low)
      ];
      after = λ m q le e. let over : k.node.0 < q.node.0 = known.sorted j m k q (omega (arith, le)) there e in omega (arith, over);
    }

  -- after the last known node
  pub chosen_all : (j : ℕ) (cs : List Candidate) → j ≡ length ks → AreChosen net held y ks j cs → AreAmong net held y (length net.nodes) cs
  chosen_all j cs all old = among_up net held y old.next (length net.nodes) cs old.within old.among (λ x value low less usable.
      let found = known.all x value less usable in
      let below : found.0 < length ks = slice_get_below ks found.0 (λ none. let wrong : Some found.1.0 ≡ None = sym found.1.1.0 ∙ none in cc) in
      let under : found.1.0.node.0 < old.next = old.before found.0 found.1.0 (omega (arith, below, all)) found.1.1.0 in
      let number : found.1.0.node.0 ≡ x = found.1.1.1 in
      absurd (omega (arith, under, number, low)))

pub option_true : (o : Option Bool) → false ≡ not (option_eq beq o (Some true)) → o ≡ Some true
option_true None e = cc
option_true (Some true) e = refl
option_true (Some false) e = cc

pub on_ok : {T E : Type 0} (A B : Type 0) (r : Result T E) → OnOk r A → (A → B) → OnOk r B
on_ok A B (Ok x) a f = f a
on_ok A B (Err e) a f = tt
