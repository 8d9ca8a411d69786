-- Counting what is watched.
use Rattle.std.proofs.Common.{Bool, List, Some, [], arith, false, length, map, refl, suc, sym, true, zero, ℕ, ◌&&◌, ◌+◌, ◌<◌, ◌∙◌, ◌∷◌, ◌≡◌, ◌≤◌}
use Rattle.std.specs.Prelude.{None, Option, slice_set}
use Rattle.std.proofs.lemmas.Bool.{and_parts}
use Rattle.gate_graph.specs.Search.{IsSeen}
use Rattle.gate_net.specs.Forward.{both_known_different}
use Rattle.ternary_sim.specs.Marks.{mark_at, no_marks}
use Rattle.ternary_sim.specs.Inner.Settling.{plain_marks}
use Rattle.ternary_sim.specs.Inner.ValueTables.{is_different, is_open, one_if, watched_at, watched_count}
use Rattle.ternary_sim.specs.declared.marks.NodeMarks.{NodeMarks}

pub count-set : (test : NodeMarks → Bool) (watched : List Bool) (marks : List NodeMarks) (x : ℕ) (r : NodeMarks) → x < length marks → watched_count test watched (slice_set marks x r) + one_if (watched_at watched x && test (mark_at marks x)) ≡ watched_count test watched marks + one_if (watched_at watched x && test r)
count-set test [] marks x r h = refl
count-set test (w ∷ watched) [] x r h = absurd (omega arith)
count-set test (w ∷ watched) (m ∷ marks) zero r h = omega arith
count-set test (w ∷ watched) (m ∷ marks) (suc x) r h =
    let rest : watched_count test watched (slice_set marks x r) + one_if (watched_at watched x && test (mark_at marks x)) ≡ watched_count test watched marks + one_if (watched_at watched x && test r) = count-set test watched marks x r (omega arith) in
    omega (arith, rest)

-- the count after a write is what the recount gives
pub recounted : (test : NodeMarks → Bool) (watched : List Bool) (marks : List NodeMarks) (x count count' : ℕ) (r : NodeMarks) (was is : Bool) → x < length marks → count ≡ watched_count test watched marks → was ≡ (watched_at watched x && test (mark_at marks x)) → is ≡ (watched_at watched x && test r) → count' + one_if was ≡ count + one_if is → count' ≡ watched_count test watched (slice_set marks x r)
recounted test watched marks x count count' r was is h e f g k =
    let set : watched_count test watched (slice_set marks x r) + one_if (watched_at watched x && test (mark_at marks x)) ≡ watched_count test watched marks + one_if (watched_at watched x && test r) = count-set test watched marks x r h in
    let moved : count' + one_if (watched_at watched x && test (mark_at marks x)) ≡ watched_count test watched marks + one_if (watched_at watched x && test r) = rw (← f, ← g, ← e) k in
    omega (arith, set, moved)

pub count_within : (test : NodeMarks → Bool) (watched : List Bool) (marks : List NodeMarks) → watched_count test watched marks ≤ length marks
count_within test [] marks = omega arith
count_within test (w ∷ watched) [] = omega arith
count_within test (w ∷ watched) (m ∷ marks) =
    let rest : watched_count test watched marks ≤ length marks = count_within test watched marks in
    let one : one_if (w && test m) ≤ 1 = at_most (w && test m) in
    omega (arith, rest, one)
  where
    at_most : (b : Bool) → one_if b ≤ 1
    at_most true = omega arith
    at_most false = omega arith

-- what is counted is there
pub counted : (test : NodeMarks → Bool) → test no_marks ≡ false → (watched : List Bool) (marks : List NodeMarks) (x : ℕ) → (watched_at watched x && test (mark_at marks x)) ≡ true → 0 < watched_count test watched marks
counted test none [] marks x e = cc
counted test none (w ∷ watched) [] x e = absurd (at (watched_at (w ∷ watched) x) e)
  where
    at : (b : Bool) → (b && test no_marks) ≡ true → ⊥
    at true h = let wrong : true ≡ false = sym h ∙ none in cc
    at false h = cc
counted test none (w ∷ watched) (m ∷ marks) zero e = rw e (omega arith)
counted test none (w ∷ watched) (m ∷ marks) (suc x) e =
    let rest : 0 < watched_count test watched marks = counted test none watched marks x e in
    omega (arith, rest)

seen_at : (watched : List Bool) (x : ℕ) → IsSeen watched x → watched_at watched x ≡ true
seen_at [] x e = cc
seen_at (b ∷ watched) zero e = let same : b ≡ true = cc in same
seen_at (b ∷ watched) (suc x) e = seen_at watched x e

pub found : (test : NodeMarks → Bool) (watched : List Bool) (marks : List NodeMarks) → 0 < watched_count test watched marks → (x : ℕ) × (IsSeen watched x × (test (mark_at marks x) ≡ true))
found test [] marks h = absurd (omega arith)
found test (w ∷ watched) [] h = absurd (omega arith)
found test (w ∷ watched) (m ∷ marks) h = at (λ k. found test watched marks k) (w && test m) refl
  where
    at : (0 < watched_count test watched marks → (x : ℕ) × (IsSeen watched x × (test (mark_at marks x) ≡ true))) → (b : Bool) → (w && test m) ≡ b → (x : ℕ) × (IsSeen (w ∷ watched) x × (test (mark_at (m ∷ marks) x) ≡ true))
    at later true is = let both : (w ≡ true) × (test m ≡ true) = and_parts w (test m) is in (zero, (rw both.0 refl, both.1))
    at later false is =
        let sum : 0 < 0 + watched_count test watched marks = rw is at h in
        let some : 0 < watched_count test watched marks = omega (arith, sum) in
        let rest : (x : ℕ) × (IsSeen watched x × (test (mark_at marks x) ≡ true)) = later some in
        (suc rest.0, rest.1)

pub some_counted : (test : NodeMarks → Bool) → test no_marks ≡ false → (watched : List Bool) (marks : List NodeMarks) (x : ℕ) → IsSeen watched x → test (mark_at marks x) ≡ true → 0 < watched_count test watched marks
some_counted test none watched marks x seen is = counted test none watched marks x (rw (seen_at watched x seen, is) refl)

-- none is open where the count is 0
pub all_closed : (watched : List Bool) (marks : List NodeMarks) → watched_count is_open watched marks ≡ 0 → (x : ℕ) → IsSeen watched x → (mark_at marks x).equal ≡ true
all_closed watched marks zero_is x seen = at (mark_at marks x).equal refl
  where
    at : (b : Bool) → (mark_at marks x).equal ≡ b → (mark_at marks x).equal ≡ true
    at true is = is
    at false is =
        let some : 0 < watched_count is_open watched marks = some_counted is_open refl watched marks x seen (rw is refl) in
        absurd (omega (arith, some, zero_is))

pub none_open : (watched : List Bool) (marks : List NodeMarks) → ((x : ℕ) → IsSeen watched x → (mark_at marks x).equal ≡ true) → watched_count is_open watched marks ≡ 0
none_open watched marks h = at (watched_count is_open watched marks) refl
  where
    at : (n : ℕ) → watched_count is_open watched marks ≡ n → watched_count is_open watched marks ≡ 0
    at zero is = is
    at (suc n) is =
        let some : (x : ℕ) × (IsSeen watched x × (is_open (mark_at marks x) ≡ true)) = found is_open watched marks (rw is (omega arith)) in
        let same : (mark_at marks some.0).equal ≡ true = h some.0 some.1.0 in
        let wrong : false ≡ true = rw same at some.1.1 in
        cc

-- without a fault nothing is counted
same_is : (o : Option Bool) → both_known_different o o ≡ false
same_is None = refl
same_is (Some true) = refl
same_is (Some false) = refl

pub plain_count : (test : NodeMarks → Bool) → ((o : Option Bool) → test (plain_marks o) ≡ false) → (watched : List Bool) (base : List (Option Bool)) → watched_count test watched (map plain_marks base) ≡ 0
plain_count test none [] base = refl
plain_count test none (w ∷ watched) [] = refl
plain_count test none (w ∷ watched) (o ∷ base) = rw (none o) (at (plain_count test none watched base) w)
  where
    at : watched_count test watched (map plain_marks base) ≡ 0 → (b : Bool) → one_if (b && false) + watched_count test watched (map plain_marks base) ≡ 0
    at e true = omega (arith, e)
    at e false = omega (arith, e)

pub plain_different : (watched : List Bool) (base : List (Option Bool)) → watched_count is_different watched (map plain_marks base) ≡ 0
plain_different = plain_count is_different same_is

pub plain_open : (watched : List Bool) (base : List (Option Bool)) → watched_count is_open watched (map plain_marks base) ≡ 0
plain_open = plain_count is_open (λ o. refl)
