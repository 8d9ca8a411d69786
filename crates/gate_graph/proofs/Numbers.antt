-- Free numbers, and how many pins are taken.
use Rattle.std.proofs.Common.{◌≡◌, ◌≢◌, ℕ, zero, suc, ◌+◌, ◌-◌, ◌<◌, ◌≤◌, Bool, false, cond, List, [], ◌∷◌, ◌++◌, length, replicate, set, Option, Some, None, refl, sym, ap, ◌∙◌, arith, inl, inr}
use Rattle.std.specs.FinSet as finset
use Rattle.std.specs.Ordering.{nat_cmp}
use Rattle.std.specs.Cmp.{nat_cmp_total}
use Rattle.std.specs.FinSet.{len-insert, len-remove}
use Rattle.std.proofs.lemmas.List.{length-replicate, get_or_past}
use Rattle.std.proofs.lemmas.Bool.{cases_Bool}
use Rattle.gate_net.specs.declared.Kind.{Kind}
use Rattle.gate_net.specs.declared.Kind.TheVariants.{Source}
use Rattle.gate_graph.specs.Wirings.{kind_at, free_in}
use Rattle.gate_graph.specs.Inner.Wirings.{free_bit}
use Rattle.gate_graph.specs.Inner.Circuit.{kinds_dead}
use Rattle.pin_pool.proofs.Public.{len-one_less}
use Rattle.gate_graph.proofs.Fresh.{first_kinds}

pub free-within : (ks : List (Option Kind)) → free_in ks ≤ length ks
free-within [] = omega arith
free-within (None ∷ ks) = omega (arith, free-within ks)
free-within (Some k ∷ ks) = omega (arith, free-within ks)

pub free-set : (ks : List (Option Kind)) (n : ℕ) (o : Option Kind) → n < length ks → free_in (set ks n o) + free_bit (kind_at ks n) ≡ free_in ks + free_bit o
free-set [] n o h = absurd (omega arith)
free-set (None ∷ ks) zero None h = refl
free-set (None ∷ ks) zero (Some k) h = omega arith
free-set (Some j ∷ ks) zero None h = omega arith
free-set (Some j ∷ ks) zero (Some k) h = refl
free-set (None ∷ ks) (suc n) o h = omega (arith, free-set ks n o (omega arith))
free-set (Some j ∷ ks) (suc n) o h = free-set ks n o (omega arith)

pub free-some : (ks : List (Option Kind)) (n : ℕ) → n < length ks → kind_at ks n ≡ None → 0 < free_in ks
free-some [] n h e = absurd (omega arith)
free-some (None ∷ ks) zero h e = omega arith
free-some (Some k ∷ ks) zero h e = cc
free-some (None ∷ ks) (suc n) h e = omega arith
free-some (Some k ∷ ks) (suc n) h e = free-some ks n (omega arith) e

pub free-room : (ks : List (Option Kind)) (n : ℕ) → n < length ks → kind_at ks n ≢ None → free_in ks < length ks
free-room [] n h live = absurd (omega arith)
free-room (None ∷ ks) zero h live = absurd (live refl)
free-room (Some k ∷ ks) zero h live = omega (arith, free-within ks)
free-room (None ∷ ks) (suc n) h live = omega (arith, free-room ks n (omega arith) live)
free-room (Some k ∷ ks) (suc n) h live = omega (arith, free-room ks n (omega arith) live)

pub has-free : (ks : List (Option Kind)) → 0 < free_in ks → (n : ℕ) × ((n < length ks) × (kind_at ks n ≡ None))
has-free [] h = absurd (omega arith)
has-free (None ∷ ks) h = (0, (omega arith, refl))
has-free (Some k ∷ ks) h = let rest = has-free ks h in (suc rest.0, ((let less = rest.1.0 in omega (arith, less)), rest.1.1))

free-none : (n : ℕ) → free_in (replicate n None) ≡ n
free-none zero = refl
free-none (suc n) = ap suc (free-none n)

pub free-more : (ks : List (Option Kind)) (n : ℕ) → free_in (ks ++ replicate n None) ≡ free_in ks + n
free-more [] n = let e : n ≡ 0 + n = omega arith in free-none n ∙ e
free-more (None ∷ ks) n = omega (arith, free-more ks n)
free-more (Some k ∷ ks) n = free-more ks n

no-free : (n : ℕ) → free_in (replicate n (Some Source)) ≡ 0
no-free zero = refl
no-free (suc n) = no-free n

pub free-first : (ks : List (Option Kind)) (s : ℕ) → ks ≡ first_kinds s → 0 ≡ free_in ks
free-first ks s e = sym (ap free_in e ∙ no-free s)

pub dead-first : (ks : List (Option Kind)) (s : ℕ) → ks ≡ first_kinds s → kinds_dead ks (s + 2)
dead-first ks s e m le =
    let all : length ks ≡ s + 2 = ap length e ∙ (let count : length (first_kinds s) ≡ s + 2 = omega (arith, length-replicate s (Some Source)) in count) in
    get_or_past ks m None (omega (arith, all, le))

pub live-first : (ks : List (Option Kind)) (s : ℕ) → ks ≡ first_kinds s → length ks - free_in ks ≡ s + 2
live-first ks s e =
    let all : length ks ≡ s + 2 = ap length e ∙ (let count : length (first_kinds s) ≡ s + 2 = omega (arith, length-replicate s (Some Source)) in count) in
    omega (arith, all, free-first ks s e)

pub bit-none : (o : Option Kind) → o ≡ None → free_bit o ≡ 1
bit-none o e = ap free_bit e

pub len-one_more : (s : finset.FinSet nat_cmp) (p : ℕ) → finset.contains s p ≡ false → finset.len (finset.insert s p) ≡ finset.len s + 1
len-one_more s p out = len-insert nat_cmp_total s p ∙ ap (λ (b : Bool). cond b (finset.len s) (finset.len s + 1)) out

pub len-less : (s : finset.FinSet nat_cmp) (p : ℕ) → finset.len (finset.remove s p) ≤ finset.len s
len-less s p = elim (cases_Bool (finset.contains s p)) [
  | inl in' ↦ omega (arith, len-one_less s p in')
  | inr out ↦ let same : finset.len (finset.remove s p) ≡ finset.len s = len-remove nat_cmp_total s p ∙ ap (λ (b : Bool). cond b (finset.len s - 1) (finset.len s)) out in omega (arith, same)
]

pub bit-some : (o : Option Kind) (k : Kind) → o ≡ Some k → free_bit o ≡ 0
bit-some o k e = ap free_bit e
