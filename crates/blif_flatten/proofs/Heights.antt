-- Recursion by rounds: which modules lead to one, and that heights fall along calls where none is recursive.
use Rattle.std.proofs.Common.{◌≡◌, ◌≢◌, ◌<◌, ◌≤◌, ◌==◌, ◌+◌, ◌-◌, ◌^◌, ℕ, zero, suc, List, [], ◌∷◌, length, map, drop, get_or, Bool, true, false, ◌||◌, ◌⊎◌, inl, inr, Option, None, Some, refl, sym, ap, ◌∙◌, subst, arith}
use Rattle.std.specs.Prelude.{slice_get, max, min, nat_eq}
use Rattle.std.specs.List.{AllByRecursion, IsDistinct, list_any}
use Rattle.std.proofs.lemmas.Bool.{cases_lt}
use Rattle.std.proofs.lemmas.Bool.Decides.{eqb_tells}
use Rattle.std.proofs.lemmas.List.{length-map}
use Rattle.std.proofs.lemmas.Map.Steps.{length-le_from_distinct_below}
use Rattle.std.proofs.lemmas.Option.{slice_get_within}
use Rattle.rm_base.specs.Members.{In}
use Rattle.rm_base.proofs.Public.{all_from_members, in_any, stands_below}
use Rattle.blif_format.specs.declared.refusal.FaultKind.TheVariants.{Recursive}
use Rattle.blif_format.specs.declared.refusal.ReadRefusal.{ReadRefusal}
use Rattle.blif_format.specs.FirstFault.{or_else, fault, fault_if}
use Rattle.blif_flatten.specs.declared.modules.Link.{Link}
use Rattle.blif_flatten.specs.declared.modules.Module.{Module}
use Rattle.blif_flatten.specs.CallFaults.{first_of}
use Rattle.blif_flatten.specs.Recursion.{links_in, links_of, leads, is_recursive_call, recursion_at, recursion_from, recursion_fault}
use Rattle.blif_flatten.specs.Inner.Ranks.{AreFalling, AreKnownCalls, calls_one, number_of}
use Rattle.blif_flatten.specs.Inner.Rounds.{AreLeading, height_of, heights, leads_after, leads_on, most}
use Rattle.blif_flatten.proofs.NoRecursion.{any-at, same-number}
use Rattle.blif_flatten.proofs.Levels.{any-here, either-true, leads-more}
use Rattle.blif_flatten.proofs.Lines.{drop-from}

-- WHICH MODULES LEAD TO ONE
module _ (row : List Bool) (to : ℕ) where
  after-at : (modules : List Module) (j : ℕ) → get_or (leads_after row to modules) j false ≡ leads_on row to (links_of modules j)
  after-at [] zero = refl
  after-at [] (suc j) = refl
  after-at (m ∷ ms) zero = refl
  after-at (m ∷ ms) (suc j) = after-at ms j

any-same : {A : Type 0} (f g : A → Bool) → ((x : A) → f x ≡ g x) → (xs : List A) → list_any f xs ≡ list_any g xs
any-same f g same [] = refl
any-same f g same (x ∷ xs) = ap (λ (b : Bool). b || list_any f xs) (same x) ∙ ap (λ (b : Bool). g x || b) (any-same f g same xs)

-- after so many rounds
abbrev pub AreLeadingBy : List Module → ℕ → ℕ → List Bool → Type 0
AreLeadingBy modules to n row = (j : ℕ) → get_or row j false ≡ leads n modules j to

pub leading-first : (modules : List Module) (to : ℕ) (row : List Bool) → row ≡ leads_after [] to modules → AreLeadingBy modules to 0 row
leading-first modules to row is j =
    ap (λ (r : List Bool). get_or r j false) is ∙ (after-at [] to modules j
    ∙ any-same (λ (l : Link). (l.called == to) || get_or [] l.called false) (λ (l : Link). l.called == to) (λ l. or-false (l.called == to) (get_or [] l.called false) (none l.called)) (links_of modules j))
  where
    none : (k : ℕ) → get_or [] k false ≡ false
    none zero = refl
    none (suc k) = refl

    or-false : (b c : Bool) → c ≡ false → (b || c) ≡ b
    or-false true c e = refl
    or-false false c e = e

pub leading-next : (modules : List Module) (to n : ℕ) (row after : List Bool) → AreLeadingBy modules to n row → after ≡ leads_after row to modules → AreLeadingBy modules to (n + 1) after
leading-next modules to n row after had is =
    subst (λ (k : ℕ). AreLeadingBy modules to k after) (one-more n)
    (λ j. ap (λ (r : List Bool). get_or r j false) is ∙ (after-at row to modules j
    ∙ any-same (λ (l : Link). (l.called == to) || get_or row l.called false) (λ (l : Link). (l.called == to) || leads n modules l.called to) (λ l. ap (λ (b : Bool). (l.called == to) || b) (had l.called)) (links_of modules j)))
  where
    one-more : (n : ℕ) → suc n ≡ n + 1
    one-more n = omega arith

pub recursive-by : (modules : List Module) (holder called : ℕ) (row : List Bool) → AreLeading modules holder row → ((called == holder) || get_or row called false) ≡ is_recursive_call modules holder called
recursive-by modules holder called row are = ap (λ (b : Bool). (called == holder) || b) (are called)

pub link-go : (modules : List Module) (holder i : ℕ) (links : List Link) (l : Link) → slice_get links i ≡ Some l → is_recursive_call modules holder l.called ≡ false → first_of (recursion_at modules holder) links ≡ first_of (recursion_at modules holder) (drop i links)
    → first_of (recursion_at modules holder) links ≡ first_of (recursion_at modules holder) (drop (i + 1) links)
link-go modules holder i links l at none had =
    had ∙ (ap (first_of (recursion_at modules holder)) (drop-from links i l at) ∙ ap (λ (b : Bool). or_else (fault_if b Recursive l.place) (first_of (recursion_at modules holder) (drop (i + 1) links))) none)

same-true : (a : ℕ) → (a == a) ≡ true
same-true a = elim (eqb_tells a a) [ inl t ↦ t.0 | inr f ↦ absurd (f.1 refl) ]

-- NO CALL IS RECURSIVE
both-none : (a b : Option ReadRefusal) → or_else a b ≡ None → (a ≡ None) × (b ≡ None)
both-none None b e = (refl, e)
both-none (Some x) b e = absurd cc

none-at : {A : Type 0} (test : A → Option ReadRefusal) (xs : List A) (j : ℕ) (x : A) → first_of test xs ≡ None → slice_get xs j ≡ Some x → test x ≡ None
none-at test [] zero x e at = absurd cc
none-at test [] (suc j) x e at = absurd cc
none-at test (y ∷ ys) zero x e at = let same : y ≡ x = cc in subst (λ (z : _). test z ≡ None) same (both-none (test y) (first_of test ys) e).0
none-at test (y ∷ ys) (suc j) x e at = none-at test ys j x (both-none (test y) (first_of test ys) e).1 at

none-from : (modules : List Module) (k i : ℕ) (ms : List Module) (m : Module) → recursion_from modules k ms ≡ None → slice_get ms i ≡ Some m → first_of (recursion_at modules (k + i)) m.links ≡ None
none-from modules k zero [] m e at = absurd cc
none-from modules k (suc i) [] m e at = absurd cc
none-from modules k zero (n ∷ ms) m e at =
    let same : n ≡ m = cc in
    subst (λ (d : Module). first_of (recursion_at modules (k + 0)) d.links ≡ None) same (subst (λ (h : ℕ). first_of (recursion_at modules h) n.links ≡ None) (no-more k) (both-none (first_of (recursion_at modules k) n.links) (recursion_from modules (suc k) ms) e).0)
  where
    no-more : (k : ℕ) → k ≡ k + 0
    no-more k = omega arith
none-from modules k (suc i) (n ∷ ms) m e at =
    subst (λ (h : ℕ). first_of (recursion_at modules h) m.links ≡ None) (one-more k i) (none-from modules (suc k) i ms m (both-none (first_of (recursion_at modules k) n.links) (recursion_from modules (suc k) ms) e).1 at)
  where
    one-more : (k i : ℕ) → suc k + i ≡ k + suc i
    one-more k i = omega arith

not-fault : (b : Bool) (l : Link) → fault_if b Recursive l.place ≡ None → b ≡ false
not-fault false l e = refl
not-fault true l e = absurd cc

module _ (modules : List Module) (known : AreKnownCalls modules) (calm : recursion_fault modules ≡ None) where
  not-recursive : (k j : ℕ) (m : Module) (l : Link) → slice_get modules k ≡ Some m → slice_get m.links j ≡ Some l → is_recursive_call modules k l.called ≡ false
  not-recursive k j m l at link =
      not-fault (is_recursive_call modules k l.called) l (none-at (recursion_at modules k) m.links j l (subst (λ (h : ℕ). first_of (recursion_at modules h) m.links ≡ None) (from-zero k) (none-from modules 0 k modules m calm at)) link)
    where
      from-zero : (k : ℕ) → 0 + k ≡ k
      from-zero k = omega arith

  -- each module calls the next
  abbrev IsWalk : List ℕ → Type 0
  IsWalk [] = Unit {0}
  IsWalk (a ∷ []) = a < length modules
  IsWalk (a ∷ b ∷ rest) = (a < length modules) × ((calls_one modules a b ≡ true) × IsWalk (b ∷ rest))

  walk-below : (w : List ℕ) (q : ℕ) → IsWalk w → In w q → q < length modules
  walk-below [] q walk there = absurd there
  walk-below (a ∷ []) q walk (inl is) = subst (λ (x : ℕ). x < length modules) is walk
  walk-below (a ∷ []) q walk (inr there) = absurd there
  walk-below (a ∷ b ∷ rest) q walk (inl is) = subst (λ (x : ℕ). x < length modules) is walk.0
  walk-below (a ∷ b ∷ rest) q walk (inr there) = walk-below (b ∷ rest) q walk.1.1 there

  walk-leads : (y : ℕ) (ys : List ℕ) (x : ℕ) → IsWalk (y ∷ ys) → In ys x → leads (length ys) modules y x ≡ true
  walk-leads y [] x walk there = absurd there
  walk-leads y (z ∷ zs) x walk there =
      let found = any-at (λ (l : Link). l.called == z) (links_of modules y) walk.1.0 in
      any-here (λ (l : Link). (l.called == x) || leads (length zs) modules l.called x) (links_of modules y) found.0 found.1.0 found.1.1.0
      (either-true (found.1.0.called == x) (leads (length zs) modules found.1.0.called x) (by_case found.1.0.called (same-number found.1.0.called z found.1.1.1) found.1.1.1 there (walk-leads z zs x walk.1.1)))
    where
      by_case : (c : ℕ) → c ≡ z → (c == z) ≡ true → (z ≡ x) ⊎ In zs x → (In zs x → leads (length zs) modules z x ≡ true) → ((c == x) ≡ true) ⊎ (leads (length zs) modules c x ≡ true)
      by_case c same eq (inl is) onward = inl (subst (λ (k : ℕ). (c == k) ≡ true) is eq)
      by_case c same eq (inr later) onward = inr (subst (λ (k : ℕ). leads (length zs) modules k x ≡ true) (sym same) (onward later))

  called-there : (x j : ℕ) (l : Link) → slice_get (links_of modules x) j ≡ Some l → (m : Module) × ((slice_get modules x ≡ Some m) × (slice_get m.links j ≡ Some l))
  called-there x j l e = go (slice_get modules x) refl e
    where
      none : (i : ℕ) → slice_get [] i ≡ Some l → ⊥
      none zero e = cc
      none (suc i) e = cc

      go : (o : Option Module) → slice_get modules x ≡ o → slice_get (links_in o) j ≡ Some l → (m : Module) × ((slice_get modules x ≡ Some m) × (slice_get m.links j ≡ Some l))
      go None is at = absurd (none j at)
      go (Some m) is at = (m, (is, at))

  -- a walk never comes back
  walk-ends : (x : ℕ) (xs : List ℕ) → length xs ≤ length modules → IsWalk (x ∷ xs) → In xs x → ⊥
  walk-ends x [] few walk there = there
  walk-ends x (z ∷ zs) few walk there =
      let found = any-at (λ (l : Link). l.called == z) (links_of modules x) walk.1.0 in
      let m = called-there x found.0 found.1.0 found.1.1.0 in
      let calm_ = not-recursive x found.0 m.0 found.1.0 m.1.0 m.1.1 in
      let is : is_recursive_call modules x found.1.0.called ≡ true = either-true (found.1.0.called == x) (leads (length modules) modules found.1.0.called x) (by_case (same-number found.1.0.called z found.1.1.1) found.1.1.1 there) in
      let bad : true ≡ false = sym is ∙ calm_ in
      cc
    where
      enough : (a b : ℕ) → suc a ≤ b → (b - a) + a ≡ b
      enough a b h = omega (arith, h)

      by_case : {c : ℕ} → c ≡ z → (c == z) ≡ true → (z ≡ x) ⊎ In zs x → ((c == x) ≡ true) ⊎ (leads (length modules) modules c x ≡ true)
      by_case {c = c} same eq (inl is) = inl (subst (λ (k : ℕ). (c == k) ≡ true) is eq)
      by_case {c = c} same eq (inr later) =
          inr (subst (λ (k : ℕ). leads (length modules) modules k x ≡ true) (sym same)
          (subst (λ (n : ℕ). leads n modules z x ≡ true) (enough (length zs) (length modules) few) (leads-more modules (length zs) (length modules - length zs) z x (walk-leads z zs x walk.1.1 later))))

  walk-distinct : (w : List ℕ) → length w ≤ suc (length modules) → IsWalk w → IsDistinct nat_eq w
  unfolding IsDistinct
  walk-distinct [] few walk = tt
  walk-distinct (x ∷ xs) few walk =
      (all_from_members (λ (y : ℕ). nat_eq x y ≡ false) xs (λ y there. differs y there (eqb_tells x y)), walk-distinct xs (omega (arith, few)) (rest xs walk))
    where
      rest : (ys : List ℕ) → IsWalk (x ∷ ys) → IsWalk ys
      rest [] w = tt
      rest (z ∷ zs) w = w.1.1

      differs : (y : ℕ) → In xs y → ((nat_eq x y ≡ true) × (x ≡ y)) ⊎ ((nat_eq x y ≡ false) × (x ≢ y)) → nat_eq x y ≡ false
      differs y there (inr apart) = apart.0
      differs y there (inl is) = absurd (walk-ends x xs (omega (arith, few)) walk (subst (λ (q : ℕ). In xs q) (sym is.1) there))

  no-long-walk : (w : List ℕ) → length w ≡ suc (length modules) → IsWalk w → ⊥
  no-long-walk w long walk =
      let few = length-le_from_distinct_below w (length modules) (walk-distinct w (omega (arith, long)) walk) (λ q there. walk-below w q walk (member w q there)) in
      omega (arith, few, long)
    where
      member : (xs : List ℕ) (q : ℕ) → list_any (nat_eq q) xs ≡ true → In xs q
      member xs q e = let r = in_any (nat_eq q) xs e in subst (λ (x : ℕ). In xs x) (sym (same-number q r.0 r.1.1)) r.1.0

  calls-there : (k : ℕ) (m : Module) (j : ℕ) (l : Link) → slice_get modules k ≡ Some m → slice_get m.links j ≡ Some l → calls_one modules k l.called ≡ true
  calls-there k m j l at link = any-here (λ (x : Link). x.called == l.called) (links_of modules k) j l (subst (λ (o : Option Module). slice_get (links_in o) j ≡ Some l) (sym at) link) (same-true l.called)

  -- HEIGHTS
  module _ (cap : ℕ) (room : length modules < cap) where
    height-at : (row : List ℕ) (k : ℕ) (m : Module) → slice_get modules k ≡ Some m → number_of (height_of cap row modules) k ≡ min cap (most row m.links + 1)
    height-at row k m at = go modules k at
      where
        go : (ms : List Module) (k : ℕ) → slice_get ms k ≡ Some m → number_of (height_of cap row ms) k ≡ min cap (most row m.links + 1)
        go [] zero e = absurd cc
        go [] (suc k) e = absurd cc
        go (n ∷ ms) zero e = let same : n ≡ m = cc in ap (λ (d : Module). min cap (most row d.links + 1)) same
        go (n ∷ ms) (suc k) e = go ms k e

    height-out : (row : List ℕ) (k : ℕ) → slice_get modules k ≡ None → number_of (height_of cap row modules) k ≡ 0
    height-out row k at = go modules k at
      where
        go : (ms : List Module) (k : ℕ) → slice_get ms k ≡ None → number_of (height_of cap row ms) k ≡ 0
        go [] zero e = refl
        go [] (suc k) e = refl
        go (n ∷ ms) zero e = absurd cc
        go (n ∷ ms) (suc k) e = go ms k e

    most-small : (row : List ℕ) (n : ℕ) → ((k : ℕ) → number_of row k ≤ n) → (ls : List Link) → most row ls ≤ n
    most-small row n small [] = omega arith
    most-small row n small (l ∷ ls) = let a = small l.called in let b = most-small row n small ls in omega (arith, a, b)

    small : (n k : ℕ) → number_of (heights cap n modules) k ≤ n
    small zero zero = omega arith
    small zero (suc k) = omega arith
    small (suc n) k = go (slice_get modules k) refl (small n)
      where
        go : (o : Option Module) → slice_get modules k ≡ o → ((j : ℕ) → number_of (heights cap n modules) j ≤ n) → number_of (heights cap (suc n) modules) k ≤ suc n
        go None at before = let e = height-out (heights cap n modules) k at in omega (arith, e)
        go (Some m) at before =
            let e = height-at (heights cap n modules) k m at in
            let b = most-small (heights cap n modules) n before m.links in
            omega (arith, e, b)

    most-here : (row : List ℕ) (ls : List Link) (j : ℕ) (l : Link) → slice_get ls j ≡ Some l → number_of row l.called ≤ most row ls
    most-here row [] zero l e = absurd cc
    most-here row [] (suc j) l e = absurd cc
    most-here row (k ∷ ls) zero l e = let same : k ≡ l = cc in subst (λ (x : Link). number_of row x.called ≤ most row (k ∷ ls)) same (omega arith)
    most-here row (k ∷ ls) (suc j) l e = let rest = most-here row ls j l e in omega (arith, rest)

    -- heights that still rise come of a walk
    most-found : (row : List ℕ) (n : ℕ) (ls : List Link) → suc n ≤ most row ls → (j : ℕ) × ((l : Link) × ((slice_get ls j ≡ Some l) × (suc n ≤ number_of row l.called)))
    most-found row n [] h = absurd (let bad : suc n ≤ 0 = h in omega (arith, bad))
    most-found row n (l ∷ ls) h = go (cases_lt (number_of row l.called) (suc n)) (most-found row n ls)
      where
        go : (number_of row l.called < suc n) ⊎ (suc n ≤ number_of row l.called) → (suc n ≤ most row ls → (j : ℕ) × ((k : Link) × ((slice_get ls j ≡ Some k) × (suc n ≤ number_of row k.called)))) → (j : ℕ) × ((k : Link) × ((slice_get (l ∷ ls) j ≡ Some k) × (suc n ≤ number_of row k.called)))
        go (inr here) rest = (zero, (l, (refl, here)))
        go (inl less) rest = let r = rest (omega (arith, h, less)) in (suc r.0, (r.1.0, (r.1.1.0, r.1.1.1)))

    -- a module whose height is the number of rounds begins a walk of as many
    tall-walk : (n k : ℕ) → suc n ≤ number_of (heights cap (suc n) modules) k → (w : List ℕ) × ((length w ≡ n) × IsWalk (k ∷ w))
    tall-walk zero k h = go (slice_get modules k) refl
      where
        go : (o : Option Module) → slice_get modules k ≡ o → (w : List ℕ) × ((length w ≡ zero) × IsWalk (k ∷ w))
        go None at = absurd (let e = height-out (heights cap zero modules) k at in omega (arith, e, h))
        go (Some m) at = ([], (refl, slice_get_within modules k m at))
    tall-walk (suc p) k h = go (slice_get modules k) refl (tall-walk p)
      where
        go : (o : Option Module) → slice_get modules k ≡ o → ((j : ℕ) → suc p ≤ number_of (heights cap (suc p) modules) j → (w : List ℕ) × ((length w ≡ p) × IsWalk (j ∷ w))) → (w : List ℕ) × ((length w ≡ suc p) × IsWalk (k ∷ w))
        go None at onward = absurd (let e = height-out (heights cap (suc p) modules) k at in omega (arith, e, h))
        go (Some m) at onward =
            let e = height-at (heights cap (suc p) modules) k m at in
            let found = most-found (heights cap (suc p) modules) p m.links (omega (arith, e, h)) in
            let rest = onward found.1.0.called found.1.1.1 in
            (found.1.0.called ∷ rest.0, (ap suc rest.1.0, (slice_get_within modules k m at, (calls-there k m found.0 found.1.0 at found.1.1.0, rest.1.1))))

    -- another round changes no height below the number of rounds
    most-stable : (before after : List ℕ) (n : ℕ) → ((k : ℕ) → number_of after k ≤ suc n) → ((k : ℕ) → (number_of after k ≡ number_of before k) ⊎ (number_of after k ≡ suc n)) → (ls : List Link) → (most after ls ≡ most before ls) ⊎ (most after ls ≡ suc n)
    most-stable before after n bound each [] = inl refl
    most-stable before after n bound each (l ∷ ls) = go (each l.called) (most-stable before after n bound each ls) (bound l.called) (most-small after (suc n) bound ls)
      where
        go : (number_of after l.called ≡ number_of before l.called) ⊎ (number_of after l.called ≡ suc n) → (most after ls ≡ most before ls) ⊎ (most after ls ≡ suc n) → number_of after l.called ≤ suc n → most after ls ≤ suc n → (most after (l ∷ ls) ≡ most before (l ∷ ls)) ⊎ (most after (l ∷ ls) ≡ suc n)
        go (inl a) (inl b) s t = inl (ap (λ (x : ℕ). max x (most after ls)) a ∙ ap (λ (x : ℕ). max (number_of before l.called) x) b)
        go (inl a) (inr b) s t = inr (omega (arith, b, s))
        go (inr a) (inl b) s t = inr (omega (arith, a, t))
        go (inr a) (inr b) s t = inr (omega (arith, a, b))

    stable : (n k : ℕ) → suc n ≤ cap → (number_of (heights cap (suc n) modules) k ≡ number_of (heights cap n modules) k) ⊎ (number_of (heights cap (suc n) modules) k ≡ suc n)
    stable zero k room = go (slice_get modules k) refl
      where
        empty : (k : ℕ) → number_of [] k ≡ 0
        empty zero = refl
        empty (suc k) = refl

        nothing : (ls : List Link) → most [] ls ≡ 0
        nothing [] = refl
        nothing (l ∷ ls) = let a = empty l.called in let b = nothing ls in omega (arith, a, b)

        go : (o : Option Module) → slice_get modules k ≡ o → (number_of (heights cap 1 modules) k ≡ number_of [] k) ⊎ (number_of (heights cap 1 modules) k ≡ 1)
        go None at = inl (height-out [] k at ∙ sym (empty k))
        go (Some m) at = let e = height-at [] k m at in let none = nothing m.links in inr (omega (arith, e, none, room))
    stable (suc n) k room = go (slice_get modules k) refl (λ j. stable n j (omega (arith, room)))
      where
        go : (o : Option Module) → slice_get modules k ≡ o → ((j : ℕ) → (number_of (heights cap (suc n) modules) j ≡ number_of (heights cap n modules) j) ⊎ (number_of (heights cap (suc n) modules) j ≡ suc n)) → (number_of (heights cap (suc (suc n)) modules) k ≡ number_of (heights cap (suc n) modules) k) ⊎ (number_of (heights cap (suc (suc n)) modules) k ≡ suc (suc n))
        go None at each = inl (height-out (heights cap (suc n) modules) k at ∙ sym (height-out (heights cap n modules) k at))
        go (Some m) at each = on (most-stable (heights cap n modules) (heights cap (suc n) modules) n (small (suc n)) each m.links)
          where
            on : (most (heights cap (suc n) modules) m.links ≡ most (heights cap n modules) m.links) ⊎ (most (heights cap (suc n) modules) m.links ≡ suc n) → (number_of (heights cap (suc (suc n)) modules) k ≡ number_of (heights cap (suc n) modules) k) ⊎ (number_of (heights cap (suc (suc n)) modules) k ≡ suc (suc n))
            on (inl same) = inl (height-at (heights cap (suc n) modules) k m at ∙ (ap (λ (x : ℕ). min cap (x + 1)) same ∙ sym (height-at (heights cap n modules) k m at)))
            on (inr most_) = let e = height-at (heights cap (suc n) modules) k m at in inr (omega (arith, e, most_, room))

    settled : (k : ℕ) → number_of (heights cap (suc (length modules)) modules) k ≡ number_of (heights cap (length modules) modules) k
    settled k = go (stable (length modules) k (omega (arith, room)))
      where
        go : (number_of (heights cap (suc (length modules)) modules) k ≡ number_of (heights cap (length modules) modules) k) ⊎ (number_of (heights cap (suc (length modules)) modules) k ≡ suc (length modules)) → number_of (heights cap (suc (length modules)) modules) k ≡ number_of (heights cap (length modules) modules) k
        go (inl same) = same
        go (inr tall) =
            let w = tall-walk (length modules) k (omega (arith, tall)) in
            absurd (no-long-walk (k ∷ w.0) (ap suc w.1.0) w.1.1)

    pub heights-fall : AreFalling (heights cap (length modules) modules) modules
    heights-fall k m at =
        let here : number_of (heights cap (length modules) modules) k ≡ min cap (most (heights cap (length modules) modules) m.links + 1) = sym (settled k) ∙ height-at (heights cap (length modules) modules) k m at in
        let most_ = most-small (heights cap (length modules) modules) (length modules) (small (length modules)) m.links in
        record {
          positive = omega (arith, here, room);
          small = small (length modules) k;
          lower = λ j l link. let up = most-here (heights cap (length modules) modules) m.links j l link in omega (arith, here, up, most_, room);
        }

pub heights-next : (modules : List Module) (n : ℕ) (all : List ℕ) → all ≡ height_of (2 ^ 64 - 1) (heights (2 ^ 64 - 1) n modules) modules → all ≡ heights (2 ^ 64 - 1) (n + 1) modules
heights-next modules n all is = is ∙ ap (λ (k : ℕ). heights (2 ^ 64 - 1) k modules) (one-more n)
  where
    one-more : (n : ℕ) → suc n ≡ n + 1
    one-more n = omega arith

pub room-of : (modules : List Module) (all : List ℕ) (n : ℕ) → n ≡ length modules → all ≡ heights (2 ^ 64 - 1) n modules → length all < 2 ^ 63 → length modules < 2 ^ 64 - 1
room-of modules all n whole is small = less (2 ^ 63) (2 ^ 64 - 1) (length modules) (length all) small (omega arith) (at n whole is)
  where
    at : (n : ℕ) → n ≡ length modules → all ≡ heights (2 ^ 64 - 1) n modules → length modules ≤ length all
    at zero whole is = omega (arith, whole)
    at (suc n) whole is = let same : length all ≡ length modules = ap length is ∙ length-map modules (λ (m : Module). min (2 ^ 64 - 1) (most (heights (2 ^ 64 - 1) n modules) m.links + 1)) in omega (arith, same)

    less : (a b x y : ℕ) → y < a → a ≤ b → x ≤ y → x < b
    less a b x y p q r = omega (arith, p, q, r)
