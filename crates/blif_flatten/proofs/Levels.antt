-- Which calls are recursive, by numbers that rise along no call.
use Rattle.std.proofs.Common.{◌≡◌, ◌≢◌, ◌<◌, ◌≤◌, ◌==◌, ◌+◌, ◌-◌, ℕ, zero, suc, List, [], ◌∷◌, length, drop, get_or, Bool, true, false, ◌||◌, ◌&&◌, ◌⊎◌, inl, inr, Option, None, Some, refl, sym, ap, ◌∙◌, subst, arith, add-one}
use Rattle.std.specs.Prelude.{slice_get}
use Rattle.std.specs.List.{list_any}
use Rattle.std.proofs.lemmas.Bool.{or_cases, and_parts}
use Rattle.std.proofs.Math.Bool.{or-true}
use Rattle.blif_format.specs.declared.refusal.FaultKind.TheVariants.{Recursive}
use Rattle.blif_format.specs.declared.refusal.ReadRefusal.{ReadRefusal}
use Rattle.blif_format.specs.FirstFault.{or_else, fault, fault_if}
use Rattle.blif_flatten.specs.declared.modules.Link.{Link}
use Rattle.blif_flatten.specs.declared.modules.Module.{Module}
use Rattle.blif_flatten.specs.CallFaults.{first_of}
use Rattle.blif_flatten.specs.Recursion.{links_in, links_of, leads, is_recursive_call, recursion_at, recursion_from, recursion_fault}
use Rattle.blif_flatten.specs.Inner.Ranks.{number_of, DoNotRise, calls_one, head_or, goes_along}
use Rattle.blif_flatten.proofs.NoRecursion.{any-at, same-number}
use Rattle.blif_flatten.proofs.Lines.{drop-from}

pub any-here : {A : Type 0} (test : A → Bool) (xs : List A) (j : ℕ) (x : A) → slice_get xs j ≡ Some x → test x ≡ true → list_any test xs ≡ true
any-here test [] zero x e h = absurd cc
any-here test [] (suc j) x e h = absurd cc
any-here test (y ∷ ys) zero x e h = let same : y ≡ x = cc in ap (λ (b : Bool). b || list_any test ys) (ap test same ∙ h)
any-here test (y ∷ ys) (suc j) x e h = ap (λ (b : Bool). test y || b) (any-here test ys j x e h) ∙ or-true (test y)

pub either-true : (a b : Bool) → (a ≡ true) ⊎ (b ≡ true) → (a || b) ≡ true
either-true true b h = refl
either-true false b (inl e) = absurd cc
either-true false b (inr e) = e

-- PATHS
path-leads : (modules : List Module) (to a : ℕ) (rest : List ℕ) → goes_along modules to (a ∷ rest) ≡ true → leads (length rest) modules a to ≡ true
path-leads modules to a [] e = (and_parts (calls_one modules a to) true e).0
path-leads modules to a (b ∷ bs) e =
    let both = and_parts (calls_one modules a b) (goes_along modules to (b ∷ bs)) e in
    let later : leads (length bs) modules b to ≡ true = path-leads modules to b bs both.1 in
    let found = any-at (λ (l : Link). l.called == b) (links_of modules a) both.0 in
    any-here (λ (l : Link). (l.called == to) || leads (length bs) modules l.called to) (links_of modules a) found.0 found.1.0 found.1.1.0
    (either-true (found.1.0.called == to) (leads (length bs) modules found.1.0.called to) (inr (subst (λ (k : ℕ). leads (length bs) modules k to ≡ true) (sym (same-number found.1.0.called b found.1.1.1)) later)))

leads-one : (modules : List Module) (n a b : ℕ) → leads n modules a b ≡ true → leads (suc n) modules a b ≡ true
leads-one modules zero a b e =
    let found = any-at (λ (l : Link). l.called == b) (links_of modules a) e in
    any-here (λ (l : Link). (l.called == b) || leads zero modules l.called b) (links_of modules a) found.0 found.1.0 found.1.1.0 (either-true (found.1.0.called == b) _ (inl found.1.1.1))
leads-one modules (suc n) a b e =
    let found = any-at (λ (l : Link). (l.called == b) || leads n modules l.called b) (links_of modules a) e in
    any-here (λ (l : Link). (l.called == b) || leads (suc n) modules l.called b) (links_of modules a) found.0 found.1.0 found.1.1.0
    (either-true (found.1.0.called == b) (leads (suc n) modules found.1.0.called b) (onward (or_cases (found.1.0.called == b) (leads n modules found.1.0.called b) found.1.1.1) (leads-one modules n found.1.0.called b)))
  where
    onward : {P Q R : Type 0} → P ⊎ Q → (Q → R) → P ⊎ R
    onward (inl p) f = inl p
    onward (inr q) f = inr (f q)

pub leads-more : (modules : List Module) (n more a b : ℕ) → leads n modules a b ≡ true → leads (more + n) modules a b ≡ true
leads-more modules n zero a b e = subst (λ (k : ℕ). leads k modules a b ≡ true) (zero-more n) e
  where
    zero-more : (n : ℕ) → n ≡ 0 + n
    zero-more n = omega arith
leads-more modules n (suc more) a b e = subst (λ (k : ℕ). leads k modules a b ≡ true) (one-more more n) (leads-one modules (more + n) a b (leads-more modules n more a b e))
  where
    one-more : (more n : ℕ) → suc (more + n) ≡ suc more + n
    one-more more n = omega arith

-- a path of no more modules than there are
pub way-leads : (modules : List Module) (path : List ℕ) (from to : ℕ) → length path ≤ length modules → slice_get path 0 ≡ Some from → goes_along modules to path ≡ true → leads (length modules) modules from to ≡ true
way-leads modules [] from to few at e = absurd cc
way-leads modules (a ∷ rest) from to few at e =
    let same : a ≡ from = cc in
    let more : (length modules - length rest) + length rest ≡ length modules = omega (arith, few) in
    subst (λ (k : ℕ). leads (length modules) modules k to ≡ true) same (subst (λ (n : ℕ). leads n modules a to ≡ true) more (leads-more modules (length rest) (length modules - length rest) a to (path-leads modules to a rest e)))

pub along-go : (modules : List Module) (to : ℕ) (path : List ℕ) (i a : ℕ) (next : ℕ) → slice_get path i ≡ Some a → next ≡ head_or to (drop (i + 1) path) → calls_one modules a next ≡ true → goes_along modules to path ≡ goes_along modules to (drop i path) → goes_along modules to path ≡ goes_along modules to (drop (i + 1) path)
along-go modules to path i a next at is e had =
    had ∙ (ap (goes_along modules to) (drop-from path i a at) ∙ ap (λ (b : Bool). b && goes_along modules to (drop (i + 1) path)) (ap (calls_one modules a) (sym is) ∙ e))

pub along-stop : (modules : List Module) (to : ℕ) (path : List ℕ) (i a : ℕ) (next : ℕ) → slice_get path i ≡ Some a → next ≡ head_or to (drop (i + 1) path) → calls_one modules a next ≡ false → goes_along modules to path ≡ goes_along modules to (drop i path) → goes_along modules to path ≡ false
along-stop modules to path i a next at is e had =
    had ∙ (ap (goes_along modules to) (drop-from path i a at) ∙ ap (λ (b : Bool). b && goes_along modules to (drop (i + 1) path)) (ap (calls_one modules a) (sym is) ∙ e))

pub next-in : (to : ℕ) (path : List ℕ) (i d : ℕ) → i + 1 < length path → get_or path (i + 1) d ≡ head_or to (drop (i + 1) path)
next-in to path i d h = go path (i + 1) h
  where
    go : (xs : List ℕ) (k : ℕ) → k < length xs → get_or xs k d ≡ head_or to (drop k xs)
    go [] k h = absurd (omega (arith, h))
    go (x ∷ xs) zero h = refl
    go (x ∷ xs) (suc k) h = go xs k (omega (arith, h))

pub next-out : (to : ℕ) (path : List ℕ) (i : ℕ) → length path ≤ i + 1 → to ≡ head_or to (drop (i + 1) path)
next-out to path i h = go path (i + 1) h
  where
    go : (xs : List ℕ) (k : ℕ) → length xs ≤ k → to ≡ head_or to (drop k xs)
    go [] zero h = refl
    go [] (suc k) h = refl
    go (x ∷ xs) zero h = absurd (omega (arith, h))
    go (x ∷ xs) (suc k) h = go xs k (omega (arith, h))

-- NUMBERS
module _ (numbers : List ℕ) (modules : List Module) (level : DoNotRise numbers modules) where
  link-level : (k j : ℕ) (l : Link) → slice_get (links_of modules k) j ≡ Some l → number_of numbers l.called ≤ number_of numbers k
  link-level k j l e = go (slice_get modules k) refl e
    where
      none : (i : ℕ) → slice_get [] i ≡ Some l → number_of numbers l.called ≤ number_of numbers k
      none zero e = absurd cc
      none (suc i) e = absurd cc

      go : (o : Option Module) → slice_get modules k ≡ o → slice_get (links_in o) j ≡ Some l → number_of numbers l.called ≤ number_of numbers k
      go None is at = none j at
      go (Some m) is at = level k j m l is at

  leads-level : (n a b : ℕ) → leads n modules a b ≡ true → number_of numbers b ≤ number_of numbers a
  leads-level zero a b e =
      let found = any-at (λ (l : Link). l.called == b) (links_of modules a) e in
      subst (λ (k : ℕ). number_of numbers k ≤ number_of numbers a) (same-number found.1.0.called b found.1.1.1) (link-level a found.0 found.1.0 found.1.1.0)
  leads-level (suc n) a b e =
      let found = any-at (λ (l : Link). (l.called == b) || leads n modules l.called b) (links_of modules a) e in
      by_case found.0 found.1.0 found.1.1.0 (or_cases (found.1.0.called == b) (leads n modules found.1.0.called b) found.1.1.1) (leads-level n found.1.0.called b)
    where
      by_case : (j : ℕ) (l : Link) → slice_get (links_of modules a) j ≡ Some l → ((l.called == b) ≡ true) ⊎ (leads n modules l.called b ≡ true) → (leads n modules l.called b ≡ true → number_of numbers b ≤ number_of numbers l.called) → number_of numbers b ≤ number_of numbers a
      by_case j l at (inl is) later = subst (λ (k : ℕ). number_of numbers k ≤ number_of numbers a) (same-number l.called b is) (link-level a j l at)
      by_case j l at (inr is) later = let one = link-level a j l at in let two = later is in omega (arith, one, two)

  falls-not : (holder : ℕ) (l : Link) → number_of numbers l.called < number_of numbers holder → recursion_at modules holder l ≡ None
  falls-not holder l less = ap (λ (b : Bool). fault_if b Recursive l.place) (go (is_recursive_call modules holder l.called) refl)
    where
      go : (b : Bool) → is_recursive_call modules holder l.called ≡ b → b ≡ false
      go false e = refl
      go true e = elim (or_cases (l.called == holder) (leads (length modules) modules l.called holder) e) [
        | inl is ↦ let bad : number_of numbers holder < number_of numbers holder = subst (λ (k : ℕ). number_of numbers k < number_of numbers holder) (same-number l.called holder is) less in absurd (omega (arith, bad))
        | inr is ↦ let back = leads-level (length modules) l.called holder is in absurd (omega (arith, back, less))
      ]

  pub level-go : (holder i : ℕ) (links : List Link) (l : Link) → slice_get links i ≡ Some l → number_of numbers l.called < number_of numbers holder → first_of (recursion_at modules holder) links ≡ first_of (recursion_at modules holder) (drop i links)
      → first_of (recursion_at modules holder) links ≡ first_of (recursion_at modules holder) (drop (i + 1) links)
  level-go holder i links l at less had =
      had ∙ (ap (first_of (recursion_at modules holder)) (drop-from links i l at) ∙ ap (λ (o : Option ReadRefusal). or_else o (first_of (recursion_at modules holder) (drop (i + 1) links))) (falls-not holder l less))

pub level-here : (modules : List Module) (holder i : ℕ) (links : List Link) (l : Link) → slice_get links i ≡ Some l → first_of (recursion_at modules holder) links ≡ first_of (recursion_at modules holder) (drop i links)
    → is_recursive_call modules holder l.called ≡ true → first_of (recursion_at modules holder) links ≡ fault Recursive l.place
level-here modules holder i links l at had e =
    had ∙ (ap (first_of (recursion_at modules holder)) (drop-from links i l at) ∙ ap (λ (b : Bool). or_else (fault_if b Recursive l.place) (first_of (recursion_at modules holder) (drop (i + 1) links))) e)

pub holder-go : (modules : List Module) (i : ℕ) (m : Module) → slice_get modules i ≡ Some m → first_of (recursion_at modules i) m.links ≡ None → recursion_fault modules ≡ recursion_from modules i (drop i modules) → recursion_fault modules ≡ recursion_from modules (i + 1) (drop (i + 1) modules)
holder-go modules i m at none had =
    had ∙ (ap (recursion_from modules i) (drop-from modules i m at) ∙ (ap (λ (o : Option ReadRefusal). or_else o (recursion_from modules (suc i) (drop (i + 1) modules))) none ∙ ap (λ (k : ℕ). recursion_from modules k (drop (i + 1) modules)) (sym (add-one i))))

pub holder-here : (modules : List Module) (i : ℕ) (m : Module) (r : ReadRefusal) → slice_get modules i ≡ Some m → first_of (recursion_at modules i) m.links ≡ Some r → recursion_fault modules ≡ recursion_from modules i (drop i modules) → recursion_fault modules ≡ Some r
holder-here modules i m r at e had =
    had ∙ (ap (recursion_from modules i) (drop-from modules i m at) ∙ ap (λ (o : Option ReadRefusal). or_else o (recursion_from modules (suc i) (drop (i + 1) modules))) e)

pub first-is : (path : List ℕ) (from : ℕ) → path ≢ [] → get_or path 0 0 ≡ from → slice_get path 0 ≡ Some from
first-is [] from some e = absurd (some refl)
first-is (a ∷ as_) from some e = ap (λ (x : ℕ). Some x) e
