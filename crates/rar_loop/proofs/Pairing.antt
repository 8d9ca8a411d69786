-- Targets, candidates and pairs, one after another.
use Rattle.std.proofs.Common.{◌≡◌, ℕ, zero, suc, ◌+◌, ◌<◌, ◌≤◌, ◌⊎◌, inl, inr, Bool, not, Option, Some, None, List, [], ◌∷◌, ◌++◌, length, map, take, drop, refl, sym, ◌∙◌, ap, subst, append_assoc, arith}
use Rattle.std.specs.Prelude.{slice_get}
use Rattle.std.proofs.lemmas.List.{append-nil, length-map, map-append}
use Rattle.rm_base.specs.declared.numbers.Fault.{Fault}
use Rattle.gate_net.specs.Net.{Net, drivers_of, Reads}
use Rattle.gate_net.specs.Values.{HasPin}
use Rattle.gate_graph.specs.Circuit.{Circuit, net_of}
use Rattle.refutation.specs.Facts.{Held}
use Rattle.wire_edit.specs.Tests.{control_of}
use Rattle.candidate_wires.specs.declared.candidate.Candidate.{Candidate}
use Rattle.candidate_wires.specs.declared.candidate.Pair.{Pair}
use Rattle.candidate_wires.specs.Joining.{MayRead, IsCandidateOf}
use Rattle.candidate_wires.specs.Candidates.{listed, AreAmong, AreAlong, AreCandidatesOf}
use Rattle.candidate_wires.specs.Gains.{Gains}
use Rattle.candidate_wires.specs.Pairs.{faults_from, faults_if, targets_at, targets_from, turn_of, paired, ArePairsOf, ArePairsBefore, ArePairsInTurn}
use Rattle.candidate_wires.proofs.Public.{of_turn}
use Rattle.candidate_wires.specs.Tries.{NoneGains}
use Rattle.journal_text.specs.declared.record.Record.{Record}
use Rattle.rar_loop.specs.Sizes.{IsSame}
use Rattle.rar_loop.specs.Trying.{IsLent}
use Rattle.rar_loop.specs.Inner.Trying.{MayAdd, IsGained, IsBetter, IsBack, IsAhead}
use Rattle.rar_loop.specs.declared.walking.WalkOutcome.{WalkOutcome}
use Rattle.rar_loop.specs.declared.walking.WalkOutcome.TheVariants as walk_outcome
use Rattle.wire_edit.specs.Tried.{Tried}
use Rattle.rar_loop.specs.Inner.Walking.{AreTried, IsTargetOutcome, IsWalkOutcome, IsWalk}
use Rattle.rar_loop.proofs.Sizing.{within_same, within_then}
use Rattle.rm_base.proofs.Public.{stands_below, take_one_more}

-- PLACES IN LISTS
append_cases : {A : Type 0} (xs ys : List A) (k : ℕ) (x : A) → slice_get (xs ++ ys) k ≡ Some x → (slice_get xs k ≡ Some x) ⊎ ((j : ℕ) × (slice_get ys j ≡ Some x))
append_cases [] ys k x e = inr (k, e)
append_cases (y ∷ xs) ys zero x e = inl e
append_cases (y ∷ xs) ys (suc k) x e = append_cases xs ys k x e

split_at : {A : Type 0} (xs : List A) (k : ℕ) (x : A) → slice_get xs k ≡ Some x → xs ≡ take k xs ++ x ∷ drop (suc k) xs
split_at [] k x e = cc
split_at {A = A} (y ∷ xs) zero x e = let is : y ≡ x = cc in ap (λ (z : A). z ∷ xs) is
split_at {A = A} (y ∷ xs) (suc k) x e = ap (λ (zs : List A). y ∷ zs) (split_at xs k x e)

-- CANDIDATES
listed_is : (o : Option Candidate) (k : ℕ) (c : Candidate) → slice_get (listed o) k ≡ Some c → o ≡ Some c
listed_is None k c e = cc
listed_is (Some d) zero c e = e
listed_is (Some d) (suc k) c e = cc

among_may : (net : Net) (held : Held) (y n : ℕ) (cs : List Candidate) → AreAmong net held y n cs → (k : ℕ) (c : Candidate) → slice_get cs k ≡ Some c → MayAdd net c
among_may net held y zero cs are k c e = let none : slice_get {X = Candidate} [] k ≡ Some c = ap (λ (xs : List Candidate). slice_get xs k) (sym are) ∙ e in cc
among_may net held y (suc n) cs (first, (more, (last, (is, split)))) k c e = elim (append_cases first (listed last) k c (ap (λ (xs : List Candidate). slice_get xs k) (sym split) ∙ e)) [
  | inl before ↦ among_may net held y n first more k c before
  | inr here ↦
      let at : IsCandidateOf net held y n (Some c) = subst (λ (o : Option Candidate). IsCandidateOf net held y n o) (listed_is last here.0 c here.1) is in
      (held, subst (λ (g : ℕ). MayRead net held g c.node.0 c.fresh) (sym at.1.1) (subst (λ (x : ℕ). MayRead net held y x c.fresh) (sym at.1.0) at.0))
]

along_may : (net : Net) (held : Held) (chain : List ℕ) (cs : List Candidate) → AreAlong net held chain cs → (k : ℕ) (c : Candidate) → slice_get cs k ≡ Some c → MayAdd net c
along_may net held [] cs are k c e = let none : slice_get {X = Candidate} [] k ≡ Some c = ap (λ (xs : List Candidate). slice_get xs k) (sym are) ∙ e in cc
along_may net held (y ∷ chain) cs (first, (more, (last, (here, split)))) k c e = elim (append_cases first last k c (ap (λ (xs : List Candidate). slice_get xs k) (sym split) ∙ e)) [
  | inl before ↦ along_may net held chain first more k c before
  | inr at ↦ among_may net held y (length net.nodes) last here at.0 c at.1
]

pub candidates_may : (net : Net) (target : Fault) (cs : List Candidate) → AreCandidatesOf net target cs → (k : ℕ) (c : Candidate) → slice_get cs k ≡ Some c → MayAdd net c
candidates_may net target cs (inl clash) k c e = let none : slice_get {X = Candidate} [] k ≡ Some c = ap (λ (xs : List Candidate). slice_get xs k) (sym clash.1) ∙ e in cc
candidates_may net target cs (inr (free, (held, (derivable, (chain, (whole, along)))))) k c e = along_may net held chain cs along k c e

-- TARGETS
abbrev gate_or : ℕ → Option Fault → ℕ
gate_or g None = g
gate_or g (Some f) = f.gate.0

abbrev position_or : ℕ → Option Fault → ℕ
position_or p None = p
position_or p (Some f) = f.position

faults_pin : (gate : ℕ) (value : Bool) (position count k : ℕ) (f : Fault) → slice_get (faults_from gate value position count) k ≡ Some f → (f.gate.0 ≡ gate) × (f.position < position + count)
faults_pin gate value position zero k f e = cc
faults_pin gate value position (suc count) zero f e =
    let g : gate ≡ f.gate.0 = ap (λ (o : Option Fault). gate_or gate o) e in
    let p : position ≡ f.position = ap (λ (o : Option Fault). position_or position o) e in
    (sym g, omega (arith, p))
faults_pin gate value position (suc count) (suc k) f e =
    let rest : (f.gate.0 ≡ gate) × (f.position < suc position + count) = faults_pin gate value (suc position) count k f e in
    (rest.0, omega (arith, rest.1))

targets_at_pin : (net : Net) (gate : ℕ) (o : Option Bool) (k : ℕ) (f : Fault) → slice_get (faults_if gate (length (drivers_of net gate)) o) k ≡ Some f → HasPin net f
targets_at_pin net gate None k f e = cc
targets_at_pin net gate (Some control) k f e =
    let p : (f.gate.0 ≡ gate) × (f.position < 0 + length (drivers_of net gate)) = faults_pin gate (not control) 0 (length (drivers_of net gate)) k f e in
    subst (λ (g : ℕ). (d : ℕ) × Reads net g f.position d) (sym p.0) (stands_below (drivers_of net gate) f.position (omega (arith, p.1)))

targets_from_pin : (net : Net) (gate count k : ℕ) (f : Fault) → slice_get (targets_from net gate count) k ≡ Some f → HasPin net f
targets_from_pin net gate zero k f e = cc
targets_from_pin net gate (suc count) k f e = elim (append_cases (targets_at net gate) (targets_from net (suc gate) count) k f e) [
  | inl here ↦ targets_at_pin net gate (control_of net gate) k f here
  | inr more ↦ targets_from_pin net (suc gate) count more.0 f more.1
]

pub turn_pin : (net : Net) (start : Option Fault) (k : ℕ) (f : Fault) → slice_get (turn_of net start) k ≡ Some f → HasPin net f
turn_pin net start k f e = let at = of_turn net start k f e in targets_from_pin net 0 (length net.nodes) at.0 f at.1

-- TRIES IN VAIN
none_then : (net : Net) (xs ys : List Pair) → NoneGains net xs → NoneGains net ys → NoneGains net (xs ++ ys)
none_then net [] ys a b = b
none_then net (x ∷ xs) ys a b = (a.0, none_then net xs ys a.1 b)

pub tried_none : (net : Net) (target : Fault) (here : List Candidate) → AreCandidatesOf net target here → AreTried net target here 0
tried_none net target here are = record { candidates = are; none = tt }

pub tried_more : (net : Net) (target : Fault) (here : List Candidate) (k : ℕ) (c : Candidate) → AreTried net target here k → slice_get here k ≡ Some c → (Gains net (paired target c) → ⊥) → AreTried net target here (k + 1)
tried_more net target here k c tried e fails =
    let split : map (paired target) (take (k + 1) here) ≡ map (paired target) (take k here) ++ paired target c ∷ [] =
    ap (map (paired target)) (take_one_more here k c e) ∙ map-append (paired target) (take k here) (c ∷ []) in
    record {
      candidates = tried.candidates;
      none = subst (NoneGains net) (sym split) (none_then net (map (paired target) (take k here)) (paired target c ∷ []) tried.none (fails, tt));
    }

pub same_none : (v : Circuit) → IsSame v v
same_none v = record { net = refl; pins = refl; nodes = refl }

pub same_then : (u v w : Circuit) → IsSame u v → IsSame v w → IsSame u w
same_then u v w a b = record { net = b.net ∙ a.net; pins = b.pins ∙ a.pins; nodes = b.nodes ∙ a.nodes }

-- what gained on the graph after tries in vain gained on the graph before them
pub better_back : (u v graph : Circuit) (pair : Pair) (depth : ℕ) (records : List Record) → IsSame u v → IsBetter v pair depth records graph → IsBetter u pair depth records graph
better_back u v graph pair depth records same b = record {
  gained = subst (λ (n : Net). IsGained n pair depth records (net_of graph)) same.net b.gained;
  within = within_then u v graph (within_same u v same) b.within;
  few = b.few;
}

-- TOURS OF A TRIAL
pub back_none : (t : Tried) → IsLent t → IsBack t t
back_none t lent = record { same = same_none t.graph; lent = lent }

pub back_then : (t u v : Tried) → IsBack t u → IsBack u v → IsBack t v
back_then t u v a b = record { same = same_then t.graph u.graph v.graph a.same b.same; lent = b.lent }

pub ahead_back : (t u v : Tried) (pair : Pair) (depth : ℕ) (records : List Record) → IsBack t u → IsAhead u pair depth records v → IsAhead t pair depth records v
ahead_back t u v pair depth records back a = record { better = better_back t.graph u.graph v.graph pair depth records back.same a.better; lent = a.lent }

pub walk_outcome_back : (t u v : Tried) (target : Fault) (depth left after : ℕ) (end : WalkOutcome) → IsBack t u → IsTargetOutcome u target depth left after v end → IsTargetOutcome t target depth left after v end
walk_outcome_back t u v target depth left after walk_outcome.Done back w =
    (back_then t u v back w.0, subst (λ (n : Net). (here : List Candidate) × (AreTried n target here (length here) × (after + length here ≡ left))) back.same.net w.1)
walk_outcome_back t u v target depth left after (walk_outcome.Spent at work) back w =
    (back_then t u v back w.0, (w.1.0, (w.1.1.0, (subst (λ (n : Net). AreTried n target w.1.0 w.1.1.0) back.same.net w.1.1.1.0, w.1.1.1.1))))
walk_outcome_back t u v target depth left after (walk_outcome.Gained pair records) back w =
    (w.0, (w.1.0, (subst (λ (n : Net). AreTried n target w.0 w.1.0) back.same.net w.1.1.0, (w.1.1.1.0, (w.1.1.1.1.0, (w.1.1.1.1.1.0, ahead_back t u v pair depth records.items back w.1.1.1.1.1.1))))))

-- what a walk through the pairs of a trial comes to on its graph
pub walk_here : (t u : Tried) (start : Option Fault) (depth left after : ℕ) (end : WalkOutcome) → IsWalkOutcome t start depth left after u end → IsWalk t.graph start depth left after u.graph end
walk_here t u start depth left after walk_outcome.Done w = (w.0.same, w.1)
walk_here t u start depth left after (walk_outcome.Spent at work) w = (w.0.same, w.1)
walk_here t u start depth left after (walk_outcome.Gained pair records) w = (w.0, (w.1.0, (w.1.1.0, (w.1.1.1.0, w.1.1.1.1.better))))

-- PAIRS
pub pairs_then : (net : Net) (ts : List Fault) (t : Fault) (ps : List Pair) (here : List Candidate) → ArePairsOf net ts ps → AreCandidatesOf net t here → ArePairsOf net (ts ++ t ∷ []) (ps ++ map (paired t) here)
pairs_then net [] t ps here are cs =
    (here, (cs, ([], (refl, ap (λ (xs : List Pair). xs ++ map (paired t) here) are ∙ sym (append-nil (map (paired t) here))))))
pairs_then net (s ∷ ts) t ps here (first, (of_first, (rest, (of_rest, split)))) cs =
    (first, (of_first, (rest ++ map (paired t) here, (pairs_then net ts t rest here of_rest cs, ap (λ (xs : List Pair). xs ++ map (paired t) here) split ∙ append_assoc (map (paired s) first) rest (map (paired t) here)))))

length_append : {A : Type 0} (xs ys : List A) → length (xs ++ ys) ≡ length xs + length ys
length_append [] ys = omega arith
length_append (x ∷ xs) ys = let rest : length (xs ++ ys) ≡ length xs + length ys = length_append xs ys in omega (arith, rest)

length_take : {A : Type 0} (xs : List A) (k : ℕ) (x : A) → slice_get xs k ≡ Some x → length (take k xs) ≡ k
length_take [] k x e = cc
length_take (y ∷ xs) zero x e = refl
length_take (y ∷ xs) (suc k) x e = ap suc (length_take xs k x e)

take_all : {A : Type 0} (xs : List A) → take (length xs) xs ≡ xs
take_all [] = refl
take_all {A = A} (x ∷ xs) = ap (λ (zs : List A). x ∷ zs) (take_all xs)

-- pairs of the first targets were tried in vain
pub record Walked (net : Net) (faults : List Fault) (k left after : ℕ) : Type 0 where
  pub pairs : List Pair
  pub are : ArePairsOf net (take k faults) pairs
  pub none : NoneGains net pairs
  pub sum : after + length pairs ≡ left

pub walked_none : (net : Net) (faults : List Fault) (left : ℕ) → Walked net faults 0 left left
walked_none net faults left = record { pairs = []; are = refl; none = tt; sum = omega arith }

pub walked_more : (net : Net) (faults : List Fault) (k left mid after : ℕ) (t : Fault) (here : List Candidate) → Walked net faults k left mid → slice_get faults k ≡ Some t → AreTried net t here (length here) → after + length here ≡ mid → Walked net faults (k + 1) left after
walked_more net faults k left mid after t here w e tried sum =
    let all : NoneGains net (map (paired t) here) = subst (λ (xs : List Candidate). NoneGains net (map (paired t) xs)) (take_all here) tried.none in
    let n : length (w.pairs ++ map (paired t) here) ≡ length w.pairs + length (map (paired t) here) = length_append w.pairs (map (paired t) here) in
    let m : length (map (paired t) here) ≡ length here = length-map here (paired t) in
    record {
      pairs = w.pairs ++ map (paired t) here;
      are = subst (λ (ts : List Fault). ArePairsOf net ts (w.pairs ++ map (paired t) here)) (sym (take_one_more faults k t e)) (pairs_then net (take k faults) t w.pairs here w.are tried.candidates);
      none = none_then net w.pairs (map (paired t) here) w.none all;
      sum = omega (arith, w.sum, sum, n, m);
    }

take_nil : (k : ℕ) → take {A = Fault} k [] ≡ []
take_nil zero = refl
take_nil (suc k) = refl

take_over : (xs : List Fault) (k : ℕ) → length xs ≤ k → take k xs ≡ xs
take_over [] k le = take_nil k
take_over (x ∷ xs) zero le = absurd (omega (arith, le))
take_over (x ∷ xs) (suc k) le = ap (λ (zs : List Fault). x ∷ zs) (take_over xs k (omega (arith, le)))

pub walked_all : (net : Net) (start : Option Fault) (faults : List Fault) (k left after : ℕ) → faults ≡ turn_of net start → length faults ≤ k → Walked net faults k left after → (pairs : List Pair) × (ArePairsInTurn net start pairs × (NoneGains net pairs × (after + length pairs ≡ left)))
walked_all net start faults k left after is le w = (w.pairs, (subst (λ (ts : List Fault). ArePairsOf net ts w.pairs) (take_over faults k le ∙ is) w.are, (w.none, w.sum)))

-- the pairs before the one at a place of a target
pub record WalkedTo (net : Net) (start : Option Fault) (pair : Pair) (tries : ℕ) : Type 0 where
  pub pairs : List Pair
  pub before : ArePairsBefore net start pair pairs
  pub none : NoneGains net pairs
  pub count : length pairs ≡ tries

pub walked_to : (net : Net) (start : Option Fault) (faults : List Fault) (k left mid : ℕ) (t : Fault) (here : List Candidate) (place : ℕ) (pair : Pair) → faults ≡ turn_of net start → Walked net faults k left mid → slice_get faults k ≡ Some t
    → AreTried net t here place → pair.fault ≡ t → slice_get here place ≡ Some pair.candidate → (tries : ℕ) → mid + tries ≡ left + place → WalkedTo net start pair tries
walked_to net start faults k left mid t here place pair is w e tried same at tries sum =
    let ps : List Pair = w.pairs ++ map (paired t) (take place here) in
    let n : length ps ≡ length w.pairs + length (map (paired t) (take place here)) = length_append w.pairs (map (paired t) (take place here)) in
    let m : length (map (paired t) (take place here)) ≡ length (take place here) = length-map (take place here) (paired t) in
    let l : length (take place here) ≡ place = length_take here place pair.candidate at in
    record {
      pairs = ps;
      before = record {
        earlier = take k faults;
        later = drop (suc k) faults;
        split = sym is ∙ split_at faults k t e ∙ ap (λ (f : Fault). take k faults ++ f ∷ drop (suc k) faults) (sym same);
        of_earlier = w.pairs;
        are_of_earlier = w.are;
        here = here;
        are_here = subst (λ (f : Fault). AreCandidatesOf net f here) (sym same) tried.candidates;
        place = place;
        is_here = at;
        are = ap (λ (f : Fault). w.pairs ++ map (paired f) (take place here)) (sym same);
      };
      none = none_then net w.pairs (map (paired t) (take place here)) w.none tried.none;
      count = omega (arith, w.sum, sum, n, m, l);
    }
