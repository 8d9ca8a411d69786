-- Rounds put together.
use Rattle.std.proofs.Common.{◌≡◌, ℕ, zero, suc, ◌+◌, ◌-◌, ◌<◌, ◌≤◌, inl, inr, true, false, Option, Some, None, List, [], ◌∷◌, ◌++◌, length, map, take, refl, sym, ◌∙◌, ap, subst, append_assoc, arith}
use Rattle.std.specs.Prelude.{slice_get}
use Rattle.std.proofs.lemmas.List.{length-append, length-map}
use Rattle.rm_base.specs.declared.numbers.Fault.{Fault}
use Rattle.rm_base.specs.declared.settings.Made.{Made}
use Rattle.gate_net.specs.Net.{Net, IsWellFormed}
use Rattle.wire_edit.specs.declared.steps.Step.{Step}
use Rattle.wire_edit.specs.declared.steps.Step.TheVariants.{Add, Fix, NewNot, Const, Same, NoPins, OnePin, Twice, Twin, Dead}
use Rattle.wire_edit.specs.Steps.{stepped}
use Rattle.candidate_wires.specs.declared.candidate.Pair.{Pair}
use Rattle.candidate_wires.specs.declared.candidate.Outcome.{Outcome}
use Rattle.candidate_wires.specs.declared.candidate.Outcome.TheVariants.{Settled, TriesSpent}
use Rattle.candidate_wires.specs.Pairs.{paired, ArePairsOf, ArePairsBefore, ArePairsInTurn}
use Rattle.candidate_wires.specs.Laws.{PairsAreOne, TurnsAreWhole}
use Rattle.candidate_wires.specs.Additions.{Addition, NewNode, additions_from, additions, first_fix, net_after}
use Rattle.candidate_wires.specs.Tries.{ArePlaces, AreTriesFrom, turn_after}
use Rattle.journal_text.specs.declared.record.Record.{Record}
use Rattle.journal_text.specs.Runs.{AcceptedTo, AreRemovals, steps_of, none_made, counted, made_by}
use Rattle.rar_loop.specs.Swept.{IsSwept}
use Rattle.rar_loop.specs.Trying.{IsClean}
use Rattle.rar_loop.specs.Ended.{Ends, turn_at}
use Rattle.rar_loop.specs.Rounds.{AreInVain, HasFix, HaveRounds, first as first_round, further, ArePaired, NoPairGains, tries_of, is_settled, RunBegins, RunGoesOn}
use Rattle.rar_loop.proofs.Blocks.{is_pending, fix_then, removals_clean, removals_add_none, accepted_after}
use Rattle.rar_loop.proofs.Looping.{clean_then}
use Rattle.journal_text.proofs.Public.{accepted_then, steps_then}

-- the places of additions stay, whatever follows their fixes
places_on : (made : Option NewNode) (start : Option Fault) (net : Net) (xs ys : List Step) (n m : ℕ) → IsClean (is_pending made) xs → ArePlaces start (additions_from made net xs) n
    → ArePlaces (turn_after start (additions_from made net xs)) (additions_from None (net_after net xs) ys) m → ArePlaces start (additions_from made net (xs ++ ys)) (n + m)
places_on None start net [] ys n m clean p q = let e : n + m ≡ m = omega (arith, p) in subst (ArePlaces start (additions_from None net ys)) (sym e) q
places_on (Some made) start net [] ys n m clean p q = cc
places_on made start net (Add gate y ∷ xs) ys n m clean p q =
    let target : first_fix (xs ++ ys) ≡ first_fix xs = fix_then xs ys p.1.0.0 p.1.0.1.0 in
    let rest : ArePlaces (first_fix xs) (additions_from None (stepped net (Add gate y)) (xs ++ ys)) (p.1.1.0 + m) = places_on None (first_fix xs) (stepped net (Add gate y)) xs ys p.1.1.0 m clean p.1.1.1.0 q in
    (p.0, ((p.1.0.0, (target ∙ p.1.0.1.0, p.1.0.1.1)), (p.1.1.0 + m, (subst (λ (t : Option Fault). ArePlaces t (additions_from None (stepped net (Add gate y)) (xs ++ ys)) (p.1.1.0 + m)) (sym target) rest, omega (arith, p.1.1.1.1)))))
places_on made start net (NewNot x ∷ xs) ys n m clean p q = places_on (Some (record { before = net; driver = x })) start (stepped net (NewNot x)) xs ys n m clean p q
places_on made start net (Fix gate position value ∷ xs) ys n m clean p q = places_on None start (stepped net (Fix gate position value)) xs ys n m clean p q
places_on made start net (Const gate position ∷ xs) ys n m clean p q = places_on None start (stepped net (Const gate position)) xs ys n m clean p q
places_on made start net (Same gate position ∷ xs) ys n m clean p q = places_on None start (stepped net (Same gate position)) xs ys n m clean p q
places_on made start net (NoPins gate ∷ xs) ys n m clean p q = places_on None start (stepped net (NoPins gate)) xs ys n m clean p q
places_on made start net (OnePin gate ∷ xs) ys n m clean p q = places_on None start (stepped net (OnePin gate)) xs ys n m clean p q
places_on made start net (Twice gate ∷ xs) ys n m clean p q = places_on None start (stepped net (Twice gate)) xs ys n m clean p q
places_on made start net (Twin gate other ∷ xs) ys n m clean p q = places_on None start (stepped net (Twin gate other)) xs ys n m clean p q
places_on made start net (Dead gate ∷ xs) ys n m clean p q = places_on None start (stepped net (Dead gate)) xs ys n m clean p q

-- where turns begin after steps and further steps
turn_on : (made : Option NewNode) (start : Option Fault) (net : Net) (xs ys : List Step) → IsClean (is_pending made) xs → ArePaired start (additions_from made net xs)
    → turn_after start (additions_from made net (xs ++ ys)) ≡ turn_after (turn_after start (additions_from made net xs)) (additions_from None (net_after net xs) ys)
turn_on None start net [] ys clean p = refl
turn_on (Some made) start net [] ys clean p = cc
turn_on made start net (Add gate y ∷ xs) ys clean p =
    let target : first_fix (xs ++ ys) ≡ first_fix xs = fix_then xs ys p.0.1.0 p.0.1.1.0 in
    ap (λ (t : Option Fault). turn_after t (additions_from None (stepped net (Add gate y)) (xs ++ ys))) target ∙ turn_on None (first_fix xs) (stepped net (Add gate y)) xs ys clean p.1
turn_on made start net (NewNot x ∷ xs) ys clean p = turn_on (Some (record { before = net; driver = x })) start (stepped net (NewNot x)) xs ys clean p
turn_on made start net (Fix gate position value ∷ xs) ys clean p = turn_on None start (stepped net (Fix gate position value)) xs ys clean p
turn_on made start net (Const gate position ∷ xs) ys clean p = turn_on None start (stepped net (Const gate position)) xs ys clean p
turn_on made start net (Same gate position ∷ xs) ys clean p = turn_on None start (stepped net (Same gate position)) xs ys clean p
turn_on made start net (NoPins gate ∷ xs) ys clean p = turn_on None start (stepped net (NoPins gate)) xs ys clean p
turn_on made start net (OnePin gate ∷ xs) ys clean p = turn_on None start (stepped net (OnePin gate)) xs ys clean p
turn_on made start net (Twice gate ∷ xs) ys clean p = turn_on None start (stepped net (Twice gate)) xs ys clean p
turn_on made start net (Twin gate other ∷ xs) ys clean p = turn_on None start (stepped net (Twin gate other)) xs ys clean p
turn_on made start net (Dead gate ∷ xs) ys clean p = turn_on None start (stepped net (Dead gate)) xs ys clean p

-- additions with places are paired
places_paired : (start : Option Fault) (adds : List Addition) (n : ℕ) → ArePlaces start adds n → ArePaired start adds
places_paired start [] n p = tt
places_paired start (a ∷ adds) n p = ((p.0, p.1.0), places_paired a.target adds p.1.1.0 p.1.1.1.0)

-- FIXES
has_fix : (m : Made) (steps : List Step) → m.fixes < (made_by m steps).fixes → HasFix steps
has_fix m [] lt = absurd (omega (arith, lt))
has_fix m (Fix gate position value ∷ steps) lt = tt
has_fix m (Add gate y ∷ steps) lt = has_fix (counted m (Add gate y)) steps lt
has_fix m (NewNot y ∷ steps) lt = has_fix (counted m (NewNot y)) steps lt
has_fix m (Const gate position ∷ steps) lt = has_fix (counted m (Const gate position)) steps lt
has_fix m (Same gate position ∷ steps) lt = has_fix (counted m (Same gate position)) steps lt
has_fix m (NoPins gate ∷ steps) lt = has_fix (counted m (NoPins gate)) steps lt
has_fix m (OnePin gate ∷ steps) lt = has_fix (counted m (OnePin gate)) steps lt
has_fix m (Twice gate ∷ steps) lt = has_fix (counted m (Twice gate)) steps lt
has_fix m (Twin gate other ∷ steps) lt = has_fix (counted m (Twin gate other)) steps lt
has_fix m (Dead gate ∷ steps) lt = has_fix (counted m (Dead gate)) steps lt

fix_first : (xs ys : List Step) → HasFix xs → HasFix (xs ++ ys)
fix_first [] ys h = absurd h
fix_first (Fix gate position value ∷ xs) ys h = tt
fix_first (Add gate y ∷ xs) ys h = fix_first xs ys h
fix_first (NewNot y ∷ xs) ys h = fix_first xs ys h
fix_first (Const gate position ∷ xs) ys h = fix_first xs ys h
fix_first (Same gate position ∷ xs) ys h = fix_first xs ys h
fix_first (NoPins gate ∷ xs) ys h = fix_first xs ys h
fix_first (OnePin gate ∷ xs) ys h = fix_first xs ys h
fix_first (Twice gate ∷ xs) ys h = fix_first xs ys h
fix_first (Twin gate other ∷ xs) ys h = fix_first xs ys h
fix_first (Dead gate ∷ xs) ys h = fix_first xs ys h

-- WHERE PAIRS ARE LEFT
pairs_both : (net : Net) (ts us : List Fault) (ps qs : List Pair) → ArePairsOf net ts ps → ArePairsOf net us qs → ArePairsOf net (ts ++ us) (ps ++ qs)
pairs_both net [] us ps qs a b = subst (λ (xs : List Pair). ArePairsOf net us (xs ++ qs)) (sym a) b
pairs_both net (t ∷ ts) us ps qs (here, (of_here, (rest, (of_rest, split)))) b =
    (here, (of_here, (rest ++ qs, (pairs_both net ts us rest qs of_rest b, ap (λ (xs : List Pair). xs ++ qs) split ∙ append_assoc (map (paired t) here) rest qs))))

-- the pairs of the later targets
pairs_later : (net : Net) (ts us : List Fault) (ps : List Pair) → ArePairsOf net (ts ++ us) ps → (qs : List Pair) × ArePairsOf net us qs
pairs_later net [] us ps a = (ps, a)
pairs_later net (t ∷ ts) us ps (here, (of_here, (rest, (of_rest, split)))) = pairs_later net ts us rest of_rest

length_take : {A : Type 0} (xs : List A) (k : ℕ) (x : A) → slice_get xs k ≡ Some x → (length (take k xs) ≡ k) × (k < length xs)
length_take [] k x e = cc
length_take (y ∷ xs) zero x e = (refl, omega arith)
length_take (y ∷ xs) (suc k) x e = let r : (length (take k xs) ≡ k) × (k < length xs) = length_take xs k x e in (ap suc r.0, omega (arith, r.1))

-- the pairs before one of them aren't all
not_all : PairsAreOne → (net : Net) (start : Option Fault) (at : Pair) (pairs : List Pair) → IsWellFormed net → ArePairsBefore net start at pairs → ArePairsInTurn net start pairs → ⊥
not_all law net start at pairs well b all =
    let whole : ArePairsOf net (b.earlier ++ at.fault ∷ b.later) pairs = subst (λ (ts : List Fault). ArePairsOf net ts pairs) b.split all in
    let from : (qs : List Pair) × ArePairsOf net (at.fault ∷ b.later) qs = pairs_later net b.earlier (at.fault ∷ b.later) pairs whole in
    let rest : List Pair = from.1.1.1.0 in
    let mine : ArePairsOf net (at.fault ∷ b.later) (map (paired at.fault) b.here ++ rest) = (b.here, (b.are_here, (rest, (from.1.1.1.1.0, refl)))) in
    let other : ArePairsInTurn net start (b.of_earlier ++ (map (paired at.fault) b.here ++ rest)) =
    subst (λ (ts : List Fault). ArePairsOf net ts (b.of_earlier ++ (map (paired at.fault) b.here ++ rest))) (sym b.split) (pairs_both net b.earlier (at.fault ∷ b.later) b.of_earlier (map (paired at.fault) b.here ++ rest) b.are_of_earlier mine) in
    let same : pairs ≡ b.of_earlier ++ (map (paired at.fault) b.here ++ rest) = law net start pairs (b.of_earlier ++ (map (paired at.fault) b.here ++ rest)) well all other in
    let long : length pairs ≡ length b.of_earlier + (length b.here + length rest) =
    ap (λ (ps : List Pair). length ps) same ∙ length-append b.of_earlier (map (paired at.fault) b.here ++ rest)
    ∙ ap (λ (k : ℕ). length b.of_earlier + k) (length-append (map (paired at.fault) b.here) rest ∙ ap (λ (k : ℕ). k + length rest) (length-map b.here (paired at.fault))) in
    let cut : (length (take b.place b.here) ≡ b.place) × (b.place < length b.here) = length_take b.here b.place at.candidate b.is_here in
    let short : length pairs ≡ length b.of_earlier + b.place =
    ap (λ (ps : List Pair). length ps) b.are ∙ length-append b.of_earlier (map (paired at.fault) (take b.place b.here)) ∙ ap (λ (k : ℕ). length b.of_earlier + k) (length-map (take b.place b.here) (paired at.fault) ∙ cut.0) in
    omega (arith, long, short, cut.1)

-- HOW A CALL ENDS
-- the pairs in vain at the end of a call, and its tries
pub record HasEnd (net after : Net) (start : Option Fault) (steps : List Step) (limit : ℕ) (outcome : Outcome) : Type 0 where
  pub last : List Pair
  pub in_vain : AreInVain after (turn_at start net steps) last
  pub counted : ℕ
  pub are_tries : AreTriesFrom start net steps counted
  pub sum : tries_of outcome ≡ counted + length last
  pub within : tries_of outcome ≤ limit
  pub settled_is_all : is_settled outcome ≡ true → ArePairsInTurn after (turn_at start net steps) last
  pub all_is_settled : ArePairsInTurn after (turn_at start net steps) last → is_settled outcome ≡ true
  pub spent_is_limit : is_settled outcome ≡ false → tries_of outcome ≡ limit

end_of : PairsAreOne → (net after : Net) (start : Option Fault) (steps : List Step) (limit : ℕ) (outcome : Outcome) → IsWellFormed after → Ends net after start steps limit outcome → HasEnd net after start steps limit outcome
end_of law net after start steps limit (Settled tries) well e = record {
  last = e.pairs;
  in_vain = record { first = inl e.all; none = e.none };
  counted = e.counted;
  are_tries = e.are_tries;
  sum = e.sum;
  within = e.within;
  settled_is_all = λ is. e.all;
  all_is_settled = λ all. refl;
  spent_is_limit = λ is. cc;
}
end_of law net after start steps limit (TriesSpent tries at) well e = record {
  last = e.pairs;
  in_vain = record { first = inr (at, e.before); none = e.none };
  counted = e.counted;
  are_tries = e.are_tries;
  sum = e.sum;
  within = omega (arith, e.used_up);
  settled_is_all = λ is. cc;
  all_is_settled = λ all. absurd (not_all law after (turn_at start net steps) at e.pairs well e.before all);
  spent_is_limit = λ is. e.used_up;
}

-- RUNS
-- removals, and then steps of a call that begins at a target
pub record HasBegunWith (net mid after : Net) (start : Option Fault) (first records : List Record) (counted : ℕ) : Type 0 where
  pub at : net_after net (steps_of (first ++ records)) ≡ after
  pub turn : turn_at start net (steps_of (first ++ records)) ≡ turn_at start mid (steps_of records)
  pub tries : AreTriesFrom start net (steps_of (first ++ records)) counted
  pub clean : IsClean false (steps_of (first ++ records))

begun_with : (net mid after : Net) (start : Option Fault) (first records : List Record) (sum : ℕ) → AcceptedTo net first mid → AreRemovals (steps_of first) → AcceptedTo mid records after → IsClean false (steps_of records)
    → AreTriesFrom start mid (steps_of records) sum → HasBegunWith net mid after start first records sum
begun_with net mid after start first records sum to removals accepted clean tries =
    let f : List Step = steps_of first in
    let m : List Step = steps_of records in
    let are : steps_of (first ++ records) ≡ f ++ m = steps_then first records in
    let at_mid : net_after net f ≡ mid = accepted_after net mid first to in
    let none : (additions_from None net f ≡ []) × _ = removals_add_none net f removals in
    let no_tries : ArePlaces start (additions_from None net f) 0 = subst (λ (adds : List Addition). ArePlaces start adds 0) (sym none.0) refl in
    let same : turn_after start (additions_from None net f) ≡ start = ap (turn_after start) none.0 in
    let later : ArePlaces (turn_after start (additions_from None net f)) (additions_from None (net_after net f) m) sum =
    subst (λ (t : Option Fault). ArePlaces t (additions_from None (net_after net f) m) sum) (sym same) (subst (λ (n : Net). ArePlaces start (additions_from None n m) sum) (sym at_mid) tries) in
    let all : ArePlaces start (additions_from None net (f ++ m)) (0 + sum) = places_on None start net f m 0 sum (removals_clean f removals) no_tries later in
    let none_more : 0 + sum ≡ sum = omega arith in
    let turn : turn_after start (additions_from None net (f ++ m)) ≡ turn_after start (additions_from None mid m) =
    turn_on None start net f m (removals_clean f removals) (places_paired start (additions_from None net f) 0 no_tries)
    ∙ ap (λ (t : Option Fault). turn_after t (additions_from None (net_after net f) m)) same ∙ ap (λ (n : Net). turn_after start (additions_from None n m)) at_mid in
    record {
      at = accepted_after net after (first ++ records) (accepted_then net mid after first records to accepted);
      turn = ap (λ (ss : List Step). turn_after start (additions net ss)) are ∙ turn;
      tries = subst (λ (ss : List Step). ArePlaces start (additions net ss) sum) (sym are) (subst (ArePlaces start (additions_from None net (f ++ m))) none_more all);
      clean = subst (IsClean false) (sym are) (clean_then false f m (removals_clean f removals) clean);
    }

-- no pair gains where a call has settled
none_gains : TurnsAreWhole → (net after : Net) (start : Option Fault) (steps : List Step) (limit : ℕ) (outcome : Outcome) → Ends net after start steps limit outcome → is_settled outcome ≡ true → NoPairGains after
none_gains law net after start steps limit (Settled tries) e is pairs all = law after (turn_at start net steps) e.pairs pairs e.all e.none all
none_gains law net after start steps limit (TriesSpent tries at) e is pairs all = absurd (cc)

pub run_begins : PairsAreOne → TurnsAreWhole → RunBegins
run_begins law whole net mid after first records depth limit outcome well to removals i =
    let e : HasEnd mid after None (steps_of records) limit outcome = end_of law mid after None (steps_of records) limit outcome well i.ends in
    let b : HasBegunWith net mid after None first records e.counted = begun_with net mid after None first records e.counted to removals i.accepted i.clean e.are_tries in
    let steps : List Step = steps_of (first ++ records) in
    let vain : AreInVain (net_after net steps) (turn_at None net steps) e.last =
    subst (λ (n : Net). AreInVain n (turn_at None net steps) e.last) (sym b.at) (subst (λ (t : Option Fault). AreInVain after t e.last) (sym b.turn) e.in_vain) in (
      record {
        last = e.last;
        in_vain = length e.last;
        rounds = first_round steps e.last vain;
        counted = e.counted;
        are_tries = b.tries;
        sum = e.sum;
        within = e.within;
        settled_is_all = λ is. subst (λ (n : Net). ArePairsInTurn n (turn_at None net steps) e.last) (sym b.at) (subst (λ (t : Option Fault). ArePairsInTurn after t e.last) (sym b.turn) (e.settled_is_all is));
        all_is_settled = λ all. e.all_is_settled (subst (λ (t : Option Fault). ArePairsInTurn after t e.last) b.turn (subst (λ (n : Net). ArePairsInTurn n (turn_at None net steps) e.last) b.at all));
        settled_is_whole = λ is. subst NoPairGains (sym b.at) (none_gains whole mid after None (steps_of records) limit outcome i.ends is);
        spent_is_limit = e.spent_is_limit;
        paired = places_paired None (additions net steps) e.counted b.tries;
        swept = subst (λ (n : Net). IsSwept n depth) (sym b.at) i.swept;
        clean = b.clean;
      },
      b.turn,
    )

pub run_goes_on : PairsAreOne → TurnsAreWhole → RunGoesOn
run_goes_on law whole net mid closed after records fixes more depth limit tries settled outcome well run to_mid to_closed removals some i =
    let s : List Step = steps_of records in
    let f : List Step = steps_of fixes in
    let m : List Step = steps_of more in
    let start : Option Fault = turn_at None net s in
    let e : HasEnd closed after start m (limit - tries) outcome = end_of law closed after start m (limit - tries) outcome well i.ends in
    let at_mid : net_after net s ≡ mid = accepted_after net mid records to_mid in
    let rest : AcceptedTo mid (fixes ++ more) after = accepted_then mid closed after fixes more to_closed i.accepted in
    let b : HasBegunWith mid closed after start fixes more e.counted = begun_with mid closed after start fixes more e.counted to_closed removals i.accepted i.clean e.are_tries in
    let fm : List Step = steps_of (fixes ++ more) in
    let all : List Step = steps_of (records ++ (fixes ++ more)) in
    let are : all ≡ s ++ fm = steps_then records (fixes ++ more) in
    let at : net_after net all ≡ after = accepted_after net after (records ++ (fixes ++ more)) (accepted_then net mid after records (fixes ++ more) to_mid rest) in
    let both : ArePlaces None (additions_from None net (s ++ fm)) (run.counted + e.counted) =
    places_on None None net s fm run.counted e.counted run.clean run.are_tries (subst (λ (n : Net). ArePlaces start (additions_from None n fm) e.counted) (sym at_mid) b.tries) in
    let turn : turn_at None net all ≡ turn_at start closed m =
    ap (λ (ss : List Step). turn_at None net ss) are ∙ turn_on None None net s fm run.clean (places_paired None (additions net s) run.counted run.are_tries)
    ∙ ap (λ (n : Net). turn_after start (additions_from None n fm)) at_mid ∙ b.turn in
    let fixed : HasFix fm = subst HasFix (sym (steps_then fixes more)) (fix_first f m (has_fix none_made f some)) in
    let vain : AreInVain (net_after net all) (turn_at None net all) e.last =
    subst (λ (n : Net). AreInVain n (turn_at None net all) e.last) (sym at) (subst (λ (t : Option Fault). AreInVain after t e.last) (sym turn) e.in_vain) in
    let rounds : HaveRounds net (s ++ fm) e.last (run.in_vain + length e.last) = further run.rounds fm fixed e.last (subst (λ (ss : List Step). AreInVain (net_after net ss) (turn_at None net ss) e.last) are vain) in (
      record {
        last = e.last;
        in_vain = run.in_vain + length e.last;
        rounds = subst (λ (xs : List Step). HaveRounds net xs e.last (run.in_vain + length e.last)) (sym are) rounds;
        counted = run.counted + e.counted;
        are_tries = subst (λ (xs : List Step). ArePlaces None (additions net xs) (run.counted + e.counted)) (sym are) both;
        sum = omega (arith, run.sum, e.sum);
        within = omega (arith, run.within, e.within);
        settled_is_all = λ is. subst (λ (n : Net). ArePairsInTurn n (turn_at None net all) e.last) (sym at) (subst (λ (t : Option Fault). ArePairsInTurn after t e.last) (sym turn) (e.settled_is_all is));
        all_is_settled = λ every. e.all_is_settled (subst (λ (t : Option Fault). ArePairsInTurn after t e.last) turn (subst (λ (n : Net). ArePairsInTurn n (turn_at None net all) e.last) at every));
        settled_is_whole = λ is. subst NoPairGains (sym at) (none_gains whole closed after start m (limit - tries) outcome i.ends is);
        spent_is_limit = λ is. omega (arith, run.within, e.spent_is_limit is);
        paired = subst (λ (xs : List Step). ArePaired None (additions net xs)) (sym are) (places_paired None (additions net (s ++ fm)) (run.counted + e.counted) both);
        swept = subst (λ (n : Net). IsSwept n depth) (sym at) i.swept;
        clean = subst (IsClean false) (sym are) (clean_then false s fm run.clean b.clean);
      },
      turn,
    )
