-- A copy of the records, in which the pins without a mark are free.
use Rattle.std.proofs.Common.{◌≡◌, ℕ, zero, suc, ◌+◌, ◌<◌, ◌≤◌, Bool, true, false, not, ◌||◌, List, [], ◌∷◌, ◌++◌, length, map, replicate, take, set as put_at, get_or, eqb, refl, sym, ap, ◌∙◌, arith, inl, inr}
use Rattle.std.specs.FinSet as set
use Rattle.std.proofs.lemmas.Bool.{eq-eqb, ne_eqb, or_left, or_right, or_cases}
use Rattle.std.proofs.lemmas.Bool.Decides.{nat_tests}
use Rattle.std.proofs.lemmas.List.{get_or_default, length-map}
use Rattle.pin_pool.specs.Ring.{has, IsApart}
use Rattle.pin_pool.specs.Inner.Links.{lists_of, link_of, list_at, ends_at, no_ends, walk_on, AreAtMost, AreLists}
use Rattle.pin_pool.specs.Inner.Marks.{is_listed, is_marked, unmarked_from}
use Rattle.pin_pool.specs.Inner.Places.{IsListed}
use Rattle.pin_pool.specs.Inner.Records.{IsPool, NoneFree, all_below}
use Rattle.pin_pool.specs.declared.links.Pin.{Pin}
use Rattle.pin_pool.specs.declared.links.Ends.{Ends}
use Rattle.pin_pool.specs.declared.links.Side.TheVariants.{Gate, Driver}
use Rattle.pin_pool.specs.declared.names.PinNo.{PinNo}
use Rattle.pin_pool.proofs.PoolLemmas.{has-append, has-push, ring-few, ring-walk, ring-within, taken-read}
use Rattle.pin_pool.proofs.RoomLemmas.{len-taken}

-- a mark more
pub marked-more : (marks : List Bool) (p q : ℕ) → p < length marks → is_marked (put_at marks p true) q ≡ (eqb q p || is_marked marks q)
marked-more [] p q h = absurd (omega arith)
marked-more (b ∷ marks) zero zero h = refl
marked-more (b ∷ marks) zero (suc q) h = grind (arith, nat_tests)
marked-more (b ∷ marks) (suc p) zero h = grind (arith, nat_tests)
marked-more (b ∷ marks) (suc p) (suc q) h = marked-more marks p q (omega arith) ∙ grind (arith, nat_tests)

pub marked-step : (start marks : List Bool) (ys : List ℕ) (p : ℕ) → p < length marks → ((q : ℕ) → is_marked marks q ≡ (has q ys || is_marked start q)) → (q : ℕ) → is_marked (put_at marks p true) q ≡ (has q (ys ++ p ∷ []) || is_marked start q)
marked-step start marks ys p h i q = marked-more marks p q h ∙ grind (arith, nat_tests, has-push ys p q, i q)

pub within-next : (start ys rest : List ℕ) (p n m : ℕ) → ((q : ℕ) → has q start ≡ true → q < n) → start ≡ ys ++ p ∷ rest → m ≡ n → p < m
within-next start ys rest p n m h e is =
    let less : p < n = h p (ap (has p) e ∙ has-append ys (p ∷ rest) p ∙ or_right _ _ (or_left _ _ (eq-eqb p p refl))) in
    omega (arith, less, is)

pub names-push : (pins : List PinNo) (p : PinNo) (rest : List ℕ) → map (λ (n : PinNo). n.0) pins ++ p.0 ∷ rest ≡ map (λ (n : PinNo). n.0) (pins ++ p ∷ []) ++ rest
names-push [] p rest = refl
names-push (x ∷ pins) p rest = ap (λ l. x.0 ∷ l) (names-push pins p rest)

pub none-marked : (n q : ℕ) → is_marked (replicate n false) q ≡ false
none-marked zero q = refl
none-marked (suc n) zero = refl
none-marked (suc n) (suc q) = none-marked n q

-- one list more
pub listed-more : (lists : List (List ℕ)) (n q : ℕ) → n < length lists → is_listed q (take (n + 1) lists) ≡ (has q (list_at lists n) || is_listed q (take n lists))
listed-more [] n q h = absurd (omega arith)
listed-more (xs ∷ lists) zero q h = refl
listed-more (xs ∷ lists) (suc n) q h =
    let e : suc n + 1 ≡ suc (n + 1) = omega arith in
    let rest = listed-more lists n q (omega arith) in
    rw (e, rest) (grind (arith, nat_tests))

-- numbers without a mark
pub unmarked-push : (first : ℕ) (marks : List Bool) (b : Bool) → unmarked_from first (marks ++ b ∷ []) ≡ unmarked_from first marks ++ unmarked_from (first + length marks) (b ∷ [])
unmarked-push first [] b = let e : first + 0 ≡ first = omega arith in rw e refl
unmarked-push first (true ∷ marks) b = let e : suc first + length marks ≡ first + suc (length marks) = omega arith in unmarked-push (suc first) marks b ∙ ap (λ k. unmarked_from (suc first) marks ++ unmarked_from k (b ∷ [])) e
unmarked-push first (false ∷ marks) b = let e : suc first + length marks ≡ first + suc (length marks) = omega arith in ap (λ l. first ∷ l) (unmarked-push (suc first) marks b ∙ ap (λ k. unmarked_from (suc first) marks ++ unmarked_from k (b ∷ [])) e)

pub unmarked-few : (first : ℕ) (marks : List Bool) → length (unmarked_from first marks) ≤ length marks
unmarked-few first [] = omega arith
unmarked-few first (true ∷ marks) = omega (arith, unmarked-few (suc first) marks)
unmarked-few first (false ∷ marks) = omega (arith, unmarked-few (suc first) marks)

unmarked-within : (first : ℕ) (marks : List Bool) (q : ℕ) → has q (unmarked_from first marks) ≡ true → (first ≤ q) × (q < first + length marks)
unmarked-within first [] q h = cc
unmarked-within first (true ∷ marks) q h = let at = unmarked-within (suc first) marks q h in let a = at.0 in let b = at.1 in (omega arith, omega arith)
unmarked-within first (false ∷ marks) q h = elim (or_cases (eqb q first) (has q (unmarked_from (suc first) marks)) h) [
  | inl here ↦ let is : q ≡ first = grind (arith, nat_tests) in (omega (arith, is), omega (arith, is))
  | inr later ↦ let at = unmarked-within (suc first) marks q later in let a = at.0 in let b = at.1 in (omega arith, omega arith)
]

unmarked-apart : (first : ℕ) (marks : List Bool) → IsApart (unmarked_from first marks)
unmarked-apart first [] = tt
unmarked-apart first (true ∷ marks) = unmarked-apart (suc first) marks
unmarked-apart first (false ∷ marks) = (clear (has first (unmarked_from (suc first) marks)) refl, unmarked-apart (suc first) marks)
  where
    clear : (b : Bool) → has first (unmarked_from (suc first) marks) ≡ b → b ≡ false
    clear true k = (let wrong = (unmarked-within (suc first) marks first k).0 in absurd (omega (arith, wrong)))
    clear false k = refl

-- a number in range stands there exactly without a mark
unmarked-read : (first : ℕ) (marks : List Bool) (k : ℕ) → k < length marks → has (first + k) (unmarked_from first marks) ≡ not (is_marked marks k)
unmarked-read first [] k h = absurd (omega arith)
unmarked-read first (true ∷ marks) zero h = clear (has (first + 0) (unmarked_from (suc first) marks)) refl
  where
    clear : (b : Bool) → has (first + 0) (unmarked_from (suc first) marks) ≡ b → b ≡ false
    clear true k = (let wrong = (unmarked-within (suc first) marks (first + 0) k).0 in absurd (omega (arith, wrong)))
    clear false k = refl
unmarked-read first (false ∷ marks) zero h = or_left _ _ (eq-eqb (first + 0) first (omega arith))
unmarked-read first (true ∷ marks) (suc k) h = let e : first + suc k ≡ suc first + k = omega arith in ap (λ j. has j (unmarked_from (suc first) marks)) e ∙ unmarked-read (suc first) marks k (omega arith)
unmarked-read first (false ∷ marks) (suc k) h =
    let e : first + suc k ≡ suc first + k = omega arith in
    let ne : eqb (first + suc k) first ≡ false = ne_eqb (first + suc k) first (λ is. absurd (omega (arith, is))) in
    rw ne (ap (λ j. has j (unmarked_from (suc first) marks)) e ∙ unmarked-read (suc first) marks k (omega arith))

-- some list has it
pub listed-from : (lists : List (List ℕ)) (q : ℕ) → is_listed q lists ≡ true → IsListed lists q
listed-from [] q h = cc
listed-from (xs ∷ lists) q h = elim (or_cases (has q xs) (is_listed q lists) h) [
  | inl here ↦ (0, omega arith, here)
  | inr later ↦ let at = listed-from lists q later in (suc at.0, (let lt = at.1 in omega (arith, lt)), at.2)
]

pub listed-at : (lists : List (List ℕ)) (n q : ℕ) → n < length lists → has q (list_at lists n) ≡ true → is_listed q lists ≡ true
listed-at [] n q h k = absurd (omega arith)
listed-at (xs ∷ lists) zero q h k = or_left _ _ k
listed-at (xs ∷ lists) (suc n) q h k = or_right _ _ (listed-at lists n q (omega arith) k)

-- the ring of a gate, as a loop over the ends reads it
pub ring-here : (pins : List Pin) (gates : List Ends) (n : ℕ) → AreLists Gate pins gates → n < length gates → walk_on Gate pins (ends_at gates n).first ≡ list_at (lists_of Gate pins gates) n
ring-here pins gates n r h = ring-walk Gate pins pins gates n (ends_at gates n) r (omega (arith, r.sizes)) refl (get_or_default gates n no_ends (ends_at gates n) h)

pub few-here : (pins : List Pin) (gates : List Ends) (n : ℕ) → AreLists Gate pins gates → n < length gates → AreAtMost (walk_on Gate pins (ends_at gates n).first) (length pins)
few-here pins gates n r h = rw (ring-here pins gates n r h) (ring-few Gate pins gates n r (omega (arith, r.sizes)))

pub ring-below : (pins : List Pin) (gates : List Ends) (n m : ℕ) → AreLists Gate pins gates → n < length gates → m ≡ length pins → (q : ℕ) → has q (walk_on Gate pins (ends_at gates n).first) ≡ true → q < m
ring-below pins gates n m r h e q k =
    let here = ring-here pins gates n r h in
    let within = ring-within Gate pins gates n r (omega (arith, r.sizes)) q (ap (has q) (sym here) ∙ k) in
    omega (arith, e, within)

pub marked-rings : (pins : List Pin) (gates : List Ends) (n : ℕ) (marks marks' : List Bool) → AreLists Gate pins gates → n < length gates → ((q : ℕ) → is_marked marks q ≡ is_listed q (take n (lists_of Gate pins gates))) → ((q : ℕ) → is_marked marks' q ≡ (has q (walk_on Gate pins (ends_at gates n).first) || is_marked marks q)) → (q : ℕ) → is_marked marks' q ≡ is_listed q (take (n + 1) (lists_of Gate pins gates))
marked-rings pins gates n marks marks' r h i e q =
    let here = ap (has q) (ring-here pins gates n r h) in
    e q ∙ rw (here, i q) refl ∙ sym (listed-more (lists_of Gate pins gates) n q (omega (arith, r.sizes)))

-- the numbers so far, and one mark more
pub unmarked-next : (marks : List Bool) (n : ℕ) (xs : List ℕ) → n < length marks → xs ≡ unmarked_from 0 (take n marks) → ((get_or marks n false ≡ true → xs ≡ unmarked_from 0 (take (n + 1) marks)) × (get_or marks n false ≡ false → xs ++ n ∷ [] ≡ unmarked_from 0 (take (n + 1) marks)))
unmarked-next marks n xs h e =
    let cut : take (n + 1) marks ≡ take n marks ++ get_or marks n false ∷ [] = take-next marks n h in
    let count : 0 + length (take n marks) ≡ n = length-first marks n h in
    let push = unmarked-push 0 (take n marks) (get_or marks n false) ∙ ap (λ k. unmarked_from 0 (take n marks) ++ unmarked_from k (get_or marks n false ∷ [])) count in
    let all : unmarked_from 0 (take (n + 1) marks) ≡ xs ++ unmarked_from n (get_or marks n false ∷ []) = ap (unmarked_from 0) cut ∙ push ∙ ap (λ l. l ++ unmarked_from n (get_or marks n false ∷ [])) (sym e) in (
      λ on. sym (all ∙ ap (λ (b : Bool). xs ++ unmarked_from n (b ∷ [])) on ∙ append-none xs),
      λ off. sym (all ∙ ap (λ (b : Bool). xs ++ unmarked_from n (b ∷ [])) off),
    )
  where
    take-next : (l : List Bool) (k : ℕ) → k < length l → take (k + 1) l ≡ take k l ++ get_or l k false ∷ []
    take-next [] k lt = absurd (omega arith)
    take-next (b ∷ l) zero lt = refl
    take-next (b ∷ l) (suc k) lt = let one : suc k + 1 ≡ suc (k + 1) = omega arith in rw one (ap (λ m. b ∷ m) (take-next l k (omega arith)))

    length-first : (l : List Bool) (k : ℕ) → k < length l → 0 + length (take k l) ≡ k
    length-first [] k lt = absurd (omega arith)
    length-first (b ∷ l) zero lt = refl
    length-first (b ∷ l) (suc k) lt = omega (arith, length-first l k (omega arith))

    append-none : (l : List ℕ) → l ++ [] ≡ l
    append-none [] = refl
    append-none (x ∷ l) = ap (λ m. x ∷ m) (append-none l)

-- THE COPY
module _ (pins : List Pin) (free : List ℕ) (room : ℕ) (gates drivers : List Ends) (marks : List Bool) (r : IsPool pins free room gates drivers) (count : length marks ≡ length pins) (mark : (q : ℕ) → is_marked marks q ≡ is_listed q (lists_of Gate pins gates)) where
  none-free : (lists : List (List ℕ)) → ((n q : ℕ) → n < length lists → has q (list_at lists n) ≡ true → q < length pins) → ((q : ℕ) → IsListed lists q → IsListed (lists_of Gate pins gates) q) → NoneFree lists (unmarked_from 0 marks)
  none-free lists within among n q h k =
      let at = among q (n, h, k) in
      let on : is_marked marks q ≡ true = mark q ∙ listed-at (lists_of Gate pins gates) at.0 q at.1 at.2 in
      let less : q < length marks = omega (arith, within n q h k) in
      let e : 0 + q ≡ q = omega arith in
      ap (λ k. has k (unmarked_from 0 marks)) (sym e) ∙ unmarked-read 0 marks q less ∙ ap not on

  pub copied : (room' : ℕ) → length pins ≤ room' → ((q : ℕ) → IsListed (lists_of Driver pins drivers) q → IsListed (lists_of Gate pins gates) q) → IsPool pins (unmarked_from 0 marks) room' gates drivers
  copied room' le paired = record {
    few = r.few;
    few_nodes = r.few_nodes;
    nodes = r.nodes;
    gate_lists = r.gate_lists;
    driver_lists = r.driver_lists;
    free_apart = unmarked-apart 0 marks;
    free_within = λ q h. (let at = (unmarked-within 0 marks q h).1 in omega (arith, at, count));
    room_for_all = le;
    gates_taken = none-free (lists_of Gate pins gates) (λ n q h k. omega (arith, (r.gate_lists.each n (rw r.gate_lists.sizes at h)).within q k, length-map pins (link_of Gate))) (λ q i. i);
    drivers_taken = none-free (lists_of Driver pins drivers) (λ n q h k. omega (arith, (r.driver_lists.each n (rw r.driver_lists.sizes at h)).within q k, length-map pins (link_of Driver))) paired;
  }

  pub copied-taken : (q : ℕ) → set.contains (set.difference (all_below (length pins)) (set.from_list (unmarked_from 0 marks))) q ≡ true → IsListed (lists_of Gate pins gates) q
  copied-taken q h =
      let read = taken-read (length pins) (unmarked_from 0 marks) q in
      let within : q < length pins = grind (arith, nat_tests, read) in
      let out : has q (unmarked_from 0 marks) ≡ false = grind (arith, nat_tests, read) in
      let is : has q (unmarked_from 0 marks) ≡ not (is_marked marks q) = (let e : 0 + q ≡ q = omega arith in ap (λ k. has k (unmarked_from 0 marks)) (sym e) ∙ unmarked-read 0 marks q (omega (arith, count))) in
      listed-from (lists_of Gate pins gates) q (sym (mark q) ∙ on (is_marked marks q) (sym out ∙ is))
    where
      on : (b : Bool) → false ≡ not b → b ≡ true
      on true e = refl
      on false e = cc

  pub copied-count : set.len (set.difference (all_below (length pins)) (set.from_list (unmarked_from 0 marks))) + length (unmarked_from 0 marks) ≡ set.len (set.difference (all_below (length pins)) (set.from_list free)) + length free
  copied-count =
      len-taken (length pins) (unmarked_from 0 marks) (unmarked-apart 0 marks) (λ q h. (let at = (unmarked-within 0 marks q h).1 in omega (arith, at, count)))
      ∙ sym (len-taken (length pins) free r.free_apart r.free_within)

-- the same for what the calls of a copy answer
pub copied-all : (pins pins' : List Pin) (free free' : List ℕ) (room room' : ℕ) (gates gates' drivers drivers' : List Ends) (marks : List Bool) → IsPool pins free room gates drivers → pins' ≡ pins → gates' ≡ gates → drivers' ≡ drivers → length marks ≡ length pins → ((q : ℕ) → is_marked marks q ≡ is_listed q (lists_of Gate pins gates)) → free' ≡ unmarked_from 0 marks → length marks ≤ room' → ((q : ℕ) → IsListed (lists_of Driver pins drivers) q → IsListed (lists_of Gate pins gates) q) → IsPool pins' free' room' gates' drivers'
copied-all pins pins' free free' room room' gates gates' drivers drivers' marks r ep eg ed count mark ef le paired =
    rw (ep, eg, ed, ef) (copied pins free room gates drivers marks r count mark room' (omega (arith, count)) paired)

pub taken-all : (pins pins' : List Pin) (free free' : List ℕ) (room : ℕ) (gates gates' drivers : List Ends) (marks : List Bool) → IsPool pins free room gates drivers → pins' ≡ pins → gates' ≡ gates → length marks ≡ length pins → ((q : ℕ) → is_marked marks q ≡ is_listed q (lists_of Gate pins gates)) → free' ≡ unmarked_from 0 marks → (q : ℕ) → set.contains (set.difference (all_below (length pins')) (set.from_list free')) q ≡ true → IsListed (lists_of Gate pins' gates') q
taken-all pins pins' free free' room gates gates' drivers marks r ep eg count mark ef =
    rw (ep, eg, ef) (copied-taken pins free room gates drivers marks r count mark)

pub count-all : (pins pins' : List Pin) (free free' : List ℕ) (room : ℕ) (gates drivers : List Ends) (marks : List Bool) → IsPool pins free room gates drivers → pins' ≡ pins → length marks ≡ length pins → ((q : ℕ) → is_marked marks q ≡ is_listed q (lists_of Gate pins gates)) → free' ≡ unmarked_from 0 marks → set.len (set.difference (all_below (length pins')) (set.from_list free')) + length free' ≡ set.len (set.difference (all_below (length pins)) (set.from_list free)) + length free
count-all pins pins' free free' room gates drivers marks r ep count mark ef =
    rw (ep, ef) (copied-count pins free room gates drivers marks r count mark)
