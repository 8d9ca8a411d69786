-- A fault has one list of candidates, in which each stands once.
use Rattle.std.proofs.Common.{Bool, List, None, Option, Some, [], ap, arith, false, inl, inr, length, refl, subst, suc, sym, true, zero, not, ℕ, ◌++◌, ◌<◌, ◌∙◌, ◌∷◌, ◌≡◌}
use Rattle.std.specs.Prelude.{IsTrue, slice_get}
use mathlib.Core.Path.{fun_ext}
use Rattle.gate_net.specs.Net.{IsAcyclic, IsRanked, Net}
use Rattle.gate_net.specs.Paths.{Among, ChainTo, next, start}
use Rattle.gate_net.specs.Values.{same_bool}
use Rattle.refutation.specs.Facts.{Held}
use Rattle.rm_base.specs.declared.numbers.Fault.{Fault as FaultValue}
use Rattle.candidate_wires.proofs.Appending.{only_one, stands_either}
use Rattle.candidate_wires.proofs.Choices.{junction_one}
use Rattle.candidate_wires.proofs.Once.{IsOnce, once_both, once_none, once_one}
use Rattle.candidate_wires.proofs.OneChain.{whole_one}
use Rattle.candidate_wires.specs.Candidates.{AreAlong, AreAmong, AreCandidates, AreCandidatesOf, AreDerivable, IsWholeChain, listed}
use Rattle.candidate_wires.specs.Joining.{IsCandidateOf, MayRead}
use Rattle.candidate_wires.specs.declared.candidate.Candidate.{Candidate}
use Rattle.rm_base.proofs.Public.{some_same}

-- a node is a candidate of a gate in one way at most
fresh_one : (net : Net) (held : Held) (y x : ℕ) (a b : Bool) → MayRead net held y x a → MayRead net held y x b → a ≡ b
fresh_one net held y x a b one other =
    let value : one.value ≡ other.value = some_same (sym one.known ∙ other.known) in
    let control : one.control ≡ other.control = junction_one net y one.control other.control one.junction other.junction in
    one.as_fresh ∙ ap (λ (v : Bool). not (same_bool v one.control)) value ∙ ap (λ (v : Bool). not (same_bool other.value v)) control ∙ sym other.as_fresh

same_parts : (a b : Candidate) → a.node.0 ≡ b.node.0 → a.fresh ≡ b.fresh → a.gate.0 ≡ b.gate.0 → a ≡ b
same_parts a b e f g =
    ap (λ (n : ℕ). record { node = record { 0 = n }; fresh = a.fresh; gate = a.gate }) e
    ∙ ap (λ (h : Bool). record { node = b.node; fresh = h; gate = a.gate }) f
    ∙ ap (λ (n : ℕ). record { node = b.node; fresh = b.fresh; gate = record { 0 = n } }) g

pub candidate_one : (net : Net) (held : Held) (y x : ℕ) (o p : Option Candidate) → IsCandidateOf net held y x o → IsCandidateOf net held y x p → o ≡ p
candidate_one net held y x None None none other = refl
candidate_one net held y x None (Some d) none other = absurd (none d.fresh other.0)
candidate_one net held y x (Some c) None one none = absurd (none c.fresh one.0)
candidate_one net held y x (Some c) (Some d) one other =
    ap Some (same_parts c d (one.1.0 ∙ sym other.1.0) (fresh_one net held y x c.fresh d.fresh one.0 other.0) (one.1.1 ∙ sym other.1.1))

among_one : (net : Net) (held : Held) (y n : ℕ) (cs ds : List Candidate) → AreAmong net held y n cs → AreAmong net held y n ds → cs ≡ ds
among_one net held y zero cs ds one other = one ∙ sym other
among_one net held y (suc n) cs ds (first, (are, (last, (is, e)))) (first', (are', (last', (is', e')))) =
    let front : first ≡ first' = among_one net held y n first first' are are' in
    let back : last ≡ last' = candidate_one net held y n last last' is is' in
    e ∙ ap (λ (q : List Candidate). q ++ listed last) front ∙ ap (λ (q : Option Candidate). first' ++ listed q) back ∙ sym e'

along_one : (net : Net) (held : Held) (ys : List ℕ) (cs ds : List Candidate) → AreAlong net held ys cs → AreAlong net held ys ds → cs ≡ ds
along_one net held [] cs ds one other = one ∙ sym other
along_one net held (y ∷ before) cs ds (first, (are, (last, (is, e)))) (first', (are', (last', (is', e')))) =
    let front : first ≡ first' = along_one net held before first first' are are' in
    let back : last ≡ last' = among_one net held y (length net.nodes) last last' is is' in
    e ∙ ap (λ (q : List Candidate). q ++ last) front ∙ ap (λ (q : List Candidate). first' ++ q) back ∙ sym e'

candidates_one : (net : Net) (fault : FaultValue) (held : Held) (cs ds : List Candidate) → AreCandidates net fault held cs → AreCandidates net fault held ds → cs ≡ ds
candidates_one net fault held cs ds (chain, (whole, along)) (chain', (whole', along')) =
    let same : chain' ≡ chain = whole_one net fault.gate.0 chain' chain whole' whole in
    along_one net held chain cs ds along (subst (λ (q : List ℕ). AreAlong net held q ds) same along')

both_true : (a b : Bool) → (IsTrue a → IsTrue b) → (IsTrue b → IsTrue a) → a ≡ b
both_true true b f g = sym (f refl)
both_true false true f g = g refl
both_true false false f g = refl

-- the derivable facts are one set
derivable_one : (net : Net) (fault : FaultValue) (held more : Held) → AreDerivable net fault held → AreDerivable net fault more → held ≡ more
derivable_one net fault held more one other =
    fun_ext (λ x. fun_ext (λ fact. both_true (held x fact) (more x fact) (λ t. (other x fact).1 ((one x fact).0 t)) (λ t. (one x fact).1 ((other x fact).0 t))))

pub candidates_of_one : (net : Net) (fault : FaultValue) (cs ds : List Candidate) → AreCandidatesOf net fault cs → AreCandidatesOf net fault ds → cs ≡ ds
candidates_of_one net fault cs ds one other = elim one [
  | inl none ↦ elim other [ inl none' ↦ none.1 ∙ sym none'.1 | inr some ↦ absurd (some.0 none.0) ]
  | inr some ↦ elim other [
    | inl none ↦ absurd (some.0 none.0)
    | inr some' ↦
        let same : some'.1.0 ≡ some.1.0 = derivable_one net fault some'.1.0 some.1.0 some'.1.1.0 some.1.1.0 in
        candidates_one net fault some.1.0 cs ds some.1.1.1 (subst (λ (held : Held). AreCandidates net fault held ds) same some'.1.1.1)
  ]
]

listed_is : (net : Net) (held : Held) (y n : ℕ) (o : Option Candidate) → IsCandidateOf net held y n o → (k : ℕ) (c : Candidate) → slice_get (listed o) k ≡ Some c → (c.node.0 ≡ n) × (c.gate.0 ≡ y)
listed_is net held y n None is k c e = absurd (cc)
listed_is net held y n (Some d) is k c e = subst (λ (q : Candidate). (q.node.0 ≡ n) × (q.gate.0 ≡ y)) (only_one d c k e).1 is.1

listed_once : (o : Option Candidate) → IsOnce (listed o)
listed_once None = once_none
listed_once (Some c) = once_one c

among_is : (net : Net) (held : Held) (y n : ℕ) (cs : List Candidate) → AreAmong net held y n cs → (k : ℕ) (c : Candidate) → slice_get cs k ≡ Some c → (c.node.0 < n) × (c.gate.0 ≡ y)
among_is net held y zero cs none k c e = let never : slice_get {X = Candidate} [] k ≡ Some c = rw none at e in absurd (cc)
among_is net held y (suc n) cs (first, (are, (last, (is, whole)))) k c e = elim (stands_either first (listed last) k c (rw whole at e)) [
  | inl front ↦ let rest = among_is net held y n first are k c front.1 in (let less : c.node.0 < n = rest.0 in omega (arith, less), rest.1)
  | inr back ↦ let here = listed_is net held y n last is back.0 c back.1.1 in (let at : c.node.0 ≡ n = here.0 in omega (arith, at), here.1)
]

among_once : (net : Net) (held : Held) (y n : ℕ) (cs : List Candidate) → AreAmong net held y n cs → IsOnce cs
among_once net held y zero cs none = subst IsOnce (sym none) once_none
among_once net held y (suc n) cs (first, (are, (last, (is, whole)))) =
    subst IsOnce (sym whole) (once_both first (listed last) (among_once net held y n first are) (listed_once last) (λ k l c e f.
    let less : c.node.0 < n = (among_is net held y n first are k c e).0 in
    let at : c.node.0 ≡ n = (listed_is net held y n last is l c f).0 in
    absurd (omega (arith, less, at))))

along_is : (net : Net) (held : Held) (ys : List ℕ) (cs : List Candidate) → AreAlong net held ys cs → (k : ℕ) (c : Candidate) → slice_get cs k ≡ Some c → Among ys c.gate.0
along_is net held [] cs none k c e = let never : slice_get {X = Candidate} [] k ≡ Some c = rw none at e in absurd (cc)
along_is net held (y ∷ before) cs (first, (are, (last, (is, whole)))) k c e = elim (stands_either first last k c (rw whole at e)) [
  | inl front ↦ inr (along_is net held before first are k c front.1)
  | inr back ↦ inl (among_is net held y (length net.nodes) last is back.0 c back.1.1).1
]

-- the nodes of a chain have growing ranks
ranks_grow : {net : Net} {gate : ℕ} {before : List ℕ} {y : ℕ} (rank : ℕ → ℕ) → IsRanked net rank → ChainTo net gate before y → (x : ℕ) → Among before x → rank x < rank y
ranks_grow rank ranked start x among = elim among [ ]
ranks_grow {net} rank ranked (next {before = rest} {x = z} {y = y} chain unobserved only) x among =
    let step : rank z < rank y = ranked y only.reads.0 z only.reads.1 in
    elim among [
      | inl e ↦ rw e step
      | inr earlier ↦ let below : rank x < rank z = ranks_grow rank ranked chain x earlier in omega (arith, below, step)
    ]

one_more_gate : (net : Net) (held : Held) (acyclic : IsAcyclic net) (gate : ℕ) (before : List ℕ) (y : ℕ) → ChainTo net gate before y → (first last : List Candidate) → AreAlong net held before first → AreAmong net held y (length net.nodes) last → IsOnce first → IsOnce (first ++ last)
one_more_gate net held acyclic gate before y chain first last are is once = once_both first last once (among_once net held y (length net.nodes) last is) (λ k l c e f.
    let earlier : Among before c.gate.0 = along_is net held before first are k c e in
    let here : c.gate.0 ≡ y = (among_is net held y (length net.nodes) last is l c f).1 in
    let less : acyclic.0 y < acyclic.0 y = ranks_grow acyclic.0 acyclic.1 chain y (subst (Among before) here earlier) in
    absurd (omega (arith, less)))

along_once : (net : Net) (held : Held) (acyclic : IsAcyclic net) (gate : ℕ) (before : List ℕ) (y : ℕ) → ChainTo net gate before y → (cs : List Candidate) → AreAlong net held (y ∷ before) cs → IsOnce cs
along_once net held acyclic gate [] y chain cs (first, (none, (last, (is, whole)))) =
    subst IsOnce (sym whole) (one_more_gate net held acyclic gate [] y chain first last none is (subst IsOnce (sym none) once_none))
along_once net held acyclic gate (x ∷ rest) y (next chain unobserved only) cs (first, (are, (last, (is, whole)))) =
    subst IsOnce (sym whole) (one_more_gate net held acyclic gate (x ∷ rest) y (next chain unobserved only) first last are is (along_once net held acyclic gate rest x chain first are))

pub candidates_once : (net : Net) (fault : FaultValue) (held : Held) (cs : List Candidate) → IsAcyclic net → AreCandidates net fault held cs → IsOnce cs
candidates_once net fault held cs acyclic (chain, (whole, along)) = at chain whole along
  where
    at : (chain : List ℕ) → IsWholeChain net fault.gate.0 chain → AreAlong net held chain cs → IsOnce cs
    at [] whole along = absurd whole
    at (y ∷ before) whole along = along_once net held acyclic fault.gate.0 before y whole.0 cs along

pub candidates_of_once : (net : Net) (fault : FaultValue) (cs : List Candidate) → IsAcyclic net → AreCandidatesOf net fault cs → IsOnce cs
candidates_of_once net fault cs acyclic are = elim are [
  | inl none ↦ subst IsOnce (sym none.1) once_none
  | inr some ↦ candidates_once net fault some.1.0 cs acyclic some.1.1.1
]
