-- Marking back from what a fault may change.
use Rattle.std.proofs.Common.{Bool, List, Some, [], ap, arith, false, inl, inr, length, refl, replicate, suc, sym, subst, true, ℕ, ◌++◌, ◌+◌, ◌<◌, ◌∙◌, ◌∷◌, ◌≡◌, ◌≤◌, ◌⊎◌}
use Rattle.std.proofs.lemmas.Bool.{cases_lt}
use Rattle.std.proofs.lemmas.Bool.Decides.{eqb_tells}
use Rattle.std.proofs.lemmas.Option.{slice_get_within}
use Rattle.std.specs.Prelude.{slice_get, slice_set}
use Rattle.gate_graph.proofs.Public.{none_seen, seen_cases, seen_kept, seen_new, unseen-set}
use Rattle.gate_graph.specs.Search.{IsSeen, unseen}
use Rattle.gate_net.specs.Net.{IsLive, IsWellFormed, Net, Reads}
use Rattle.gate_net.specs.Paths.{Reaches, on, pin}
use Rattle.local_evaluation.specs.Worklists.{seen_count}
use Rattle.local_evaluation.proofs.Public.{count-set, seen_left, seen_stays}
use Rattle.local_evaluation.specs.Reaching.{search_left}
use Rattle.rm_base.specs.declared.numbers.Fault.{Fault}
use Rattle.ternary_sim.proofs.Beginnings.{live_touched}
use Rattle.ternary_sim.proofs.Wholes.{driver_of_concerned}
use Rattle.ternary_sim.specs.Regions.{IsConcerned, IsTouched, MarksMore, MarksRegion}
use Rattle.gate_net.proofs.Public.{node_live}
use Rattle.rm_base.specs.Members.{AmongFirst}

-- NUMBERS
-- a number that is marked already
pub more_again : (marks listed : List Bool) (d : ℕ) → IsSeen marks d → MarksMore (λ z. z ≡ d) marks marks listed listed
more_again marks listed d there = record {
  kept = λ z e. e;
  kept_listed = λ z e. e;
  all = λ z is. subst (IsSeen marks) (sym is) there;
  new = λ z e. inl e;
  new_listed = λ z e. inl e;
  less = omega arith;
}

-- a number that isn't
pub more_one : (marks listed : List Bool) (d : ℕ) → slice_get marks d ≡ Some false → d < length listed → MarksMore (λ z. z ≡ d) marks (slice_set marks d true) listed (slice_set listed d true)
more_one marks listed d new within = record {
  kept = λ z e. seen_kept marks d z e;
  kept_listed = λ z e. seen_kept listed d z e;
  all = λ z is. rw is (seen_new marks d (slice_get_within marks d false new));
  new = λ z e. elim (seen_cases marks d z e) [ inl before ↦ inl before | inr is ↦ inr (is, rw is (seen_new listed d within)) ];
  new_listed = λ z e. elim (seen_cases listed d z e) [ inl before ↦ inl before | inr is ↦ inr (rw is (seen_new marks d (slice_get_within marks d false new))) ];
  less =
      let fewer : suc (unseen (slice_set marks d true)) ≡ unseen marks = unseen-set marks d new in
      let more : seen_count (slice_set listed d true) ≤ suc (seen_count listed) = count-set listed d in
      omega arith;
}

-- one kind after another
pub more_both : (P Q R : ℕ → Type 0) (a b c l m n : List Bool) → ((z : ℕ) → P z → R z) → ((z : ℕ) → Q z → R z) → ((z : ℕ) → R z → P z ⊎ Q z) → MarksMore P a b l m → MarksMore Q b c m n → MarksMore R a c l n
more_both P Q R a b c l m n p q either one two = record {
  kept = λ z e. two.kept z (one.kept z e);
  kept_listed = λ z e. two.kept_listed z (one.kept_listed z e);
  all = λ z r. elim (either z r) [ inl h ↦ two.kept z (one.all z h) | inr h ↦ two.all z h ];
  new = λ z e. elim (two.new z e) [
    | inl before ↦ elim (one.new z before) [ inl old ↦ inl old | inr found ↦ inr (p z found.0, two.kept_listed z found.1) ]
    | inr found ↦ inr (q z found.0, found.1)
  ];
  new_listed = λ z e. elim (two.new_listed z e) [
    | inl before ↦ elim (one.new_listed z before) [ inl old ↦ inl old | inr seen ↦ inr (two.kept z seen) ]
    | inr seen ↦ inr seen
  ];
  less =
      let first : search_left b m ≤ search_left a l = one.less in
      let second : search_left c n ≤ search_left b m = two.less in
      omega (arith, first, second);
}

pub more_none : (xs : List ℕ) (marks listed : List Bool) → MarksMore (AmongFirst xs 0) marks marks listed listed
more_none xs marks listed = record {
  kept = λ z e. e;
  kept_listed = λ z e. e;
  all = λ z among. absurd (omega (arith, among.1.0));
  new = λ z e. inl e;
  new_listed = λ z e. inl e;
  less = omega arith;
}

pub more_next : (xs : List ℕ) (i d : ℕ) (a b c l m n : List Bool) → slice_get xs i ≡ Some d → MarksMore (AmongFirst xs i) a b l m → MarksMore (λ z. z ≡ d) b c m n → MarksMore (AmongFirst xs (i + 1)) a c l n
more_next xs i d a b c l m n here =
    more_both (AmongFirst xs i) (λ z. z ≡ d) (AmongFirst xs (i + 1)) a b c l m n
    (λ z among. (among.0, (omega (arith, among.1.0), among.1.1)))
    (λ z is. (i, (omega arith, rw is here)))
    (λ z among. elim (cases_lt among.0 i) [
      | inl low ↦ inl (among.0, (low, among.1.1))
      | inr high ↦ let same : among.0 ≡ i = omega (arith, high, among.1.0) in inr (let both : Some z ≡ Some d = sym among.1.1 ∙ ap (slice_get xs) same ∙ here in cc)
    ])

pub more_done : (xs : List ℕ) (i : ℕ) (a b l m : List Bool) → length xs ≤ i → MarksMore (AmongFirst xs i) a b l m → MarksMore (λ z. (p : ℕ) × (slice_get xs p ≡ Some z)) a b l m
more_done xs i a b l m end more = record {
  kept = more.kept;
  kept_listed = more.kept_listed;
  all = λ z found. more.all z (found.0, (let within : found.0 < length xs = slice_get_within xs found.0 z found.1 in omega (arith, end, within), found.1));
  new = λ z e. elim (more.new z e) [ inl old ↦ inl old | inr found ↦ inr ((found.0.0, found.0.1.1), found.1) ];
  new_listed = more.new_listed;
  less = more.less;
}

pub one_longer : {A : Type 0} (xs : List A) (x : A) → length (xs ++ x ∷ []) ≡ length xs + 1
one_longer [] x = refl
one_longer (y ∷ xs) x = let rest : length (xs ++ x ∷ []) ≡ length xs + 1 = one_longer xs x in omega (arith, rest)

-- THE WALK
-- a walk back from what the fault may change that has come this far: a marked node is listed, or its drivers are marked
pub record Spreads (net : Net) (fault : Fault) (marks listed : List Bool) : Type 0 where
  pub sound : (y : ℕ) → IsSeen marks y → IsConcerned net fault y
  pub touched : (y : ℕ) → IsTouched net fault.gate.0 y → IsSeen marks y
  pub done : (y : ℕ) → IsSeen marks y → IsSeen listed y ⊎ ((p d : ℕ) → Reads net y p d → IsSeen marks d)
  pub within : (y : ℕ) → IsSeen listed y → IsSeen marks y

pub spread_first : (net : Net) (fault : Fault) (n m : ℕ) (marks listed : List Bool) → MarksMore (IsTouched net fault.gate.0) (replicate n false) marks (replicate m false) listed → Spreads net fault marks listed
spread_first net fault n m marks listed more = record {
  sound = λ y e. elim (more.new y e) [ inl old ↦ absurd (none_seen n y old) | inr found ↦ inl found.0 ];
  touched = more.all;
  done = λ y e. elim (more.new y e) [ inl old ↦ absurd (none_seen n y old) | inr found ↦ inl found.1 ];
  within = λ y e. elim (more.new_listed y e) [ inl old ↦ absurd (none_seen m y old) | inr seen ↦ seen ];
}

pub spread_more : (net : Net) (fault : Fault) (marks marks' listed listed' : List Bool) (x : ℕ) → Spreads net fault marks listed → IsSeen listed x → MarksMore (λ z. (p : ℕ) × Reads net x p z) marks marks' (slice_set listed x false) listed' → Spreads net fault marks' listed'
spread_more net fault marks marks' listed listed' x s here more = record {
  sound = λ y e. elim (more.new y e) [
    | inl old ↦ s.sound y old
    | inr found ↦ inr (driver_of_concerned net fault x found.0.0 y found.0.1 (s.sound x (s.within x here)))
  ];
  touched = λ y touched. more.kept y (s.touched y touched);
  done = λ y e. elim (more.new y e) [
    | inr found ↦ inl found.1
    | inl old ↦ elim (s.done y old) [
      | inr drivers ↦ inr (λ p d reads. more.kept d (drivers p d reads))
      | inl on' ↦ elim (eqb_tells y x) [
        | inl same ↦ inr (λ p d reads. more.all d (p, rw same.1 at reads))
        | inr ne ↦ inl (more.kept_listed y (seen_stays listed x y on' ne.1))
      ]
    ]
  ];
  within = λ y e. elim (more.new_listed y e) [ inl old ↦ more.kept y (s.within y (seen_left listed x y old).0) | inr seen ↦ seen ];
}

back_along : (net : Net) (marks : List Bool) → ((y : ℕ) → IsSeen marks y → (p d : ℕ) → Reads net y p d → IsSeen marks d) → {x y : ℕ} → Reaches net x y → IsSeen marks y → IsSeen marks x
back_along net marks back (pin {x = x} {y = y} p reads) there = back y there p x reads
back_along net marks back (on {z = z} {y = y} p path reads) there = back_along net marks back path (back y there p z reads)

pub spread_ends : (net : Net) (fault : Fault) (marks listed : List Bool) → Spreads net fault marks listed → ((z : ℕ) → IsSeen listed z → ⊥) → MarksRegion net fault marks
spread_ends net fault marks listed s none = record { sound = s.sound; all = λ y. all y }
  where
    back : (y : ℕ) → IsSeen marks y → (p d : ℕ) → Reads net y p d → IsSeen marks d
    back y seen = elim (s.done y seen) [ inl on' ↦ absurd (none y on') | inr drivers ↦ drivers ]

    all : (y : ℕ) → IsConcerned net fault y → IsSeen marks y
    all y (inl touched) = s.touched y touched
    all y (inr (inl path)) = back_along net marks back path (s.touched fault.gate.0 (inl refl))
    all y (inr (inr (z, (path, reached)))) = back_along net marks back path (s.touched z (inr reached))

start_live : (net : Net) → IsWellFormed net → {x y : ℕ} → Reaches net x y → IsLive net x
start_live net formed (pin {x = x} {y = y} p reads) = node_live net x (formed.drivers_live y p x reads)
start_live net formed (on p path reads) = start_live net formed path

-- what the fault concerns is live
pub concerned_live : (net : Net) (fault : Fault) → IsWellFormed net → IsLive net fault.gate.0 → (x : ℕ) → IsConcerned net fault x → IsLive net x
concerned_live net fault formed live x (inl touched) = live_touched net fault.gate.0 live x touched
concerned_live net fault formed live x (inr (inl path)) = start_live net formed path
concerned_live net fault formed live x (inr (inr (y, (path, reached)))) = start_live net formed path
