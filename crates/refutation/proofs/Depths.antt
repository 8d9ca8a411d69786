-- Sets that are closed at a depth of learning.
use Rattle.std.proofs.Common.{Bool, List, None, Option, Some, [], ap, false, inl, inr, map, not, refl, suc, true, zero, ℕ, ◌∙◌, ◌∷◌, ◌≡◌, ◌⊎◌}
use Rattle.std.specs.List.{list_all}
use Rattle.std.specs.Prelude.{IsTrue, slice_get}
use Rattle.std.proofs.lemmas.Bool.{and_parts}
use Rattle.gate_net.specs.Forward.{is_known, junction_follows, value_forward}
use Rattle.gate_net.proofs.Public.{is_known_true, all_not_any, is_known_some}
use Rattle.gate_net.specs.Net.{IsAcyclic, Net, Reads, drivers_of}
use Rattle.gate_net.specs.Values.{IsRun, SameObserved, controlling}
use Rattle.gate_net.specs.declared.Kind.{Kind}
use Rattle.gate_net.specs.declared.Family.{Family}
use Rattle.gate_net.specs.declared.Family.TheVariants.{Constant, Input, Junction, Parity}
use Rattle.gate_net.specs.Meaning.{controlling_in, family, family_forward}
use Rattle.refutation.proofs.Closings.{right_true, true_held, true_known, true_right, with_more, with_there, with_within}
use Rattle.refutation.proofs.Grows.{good_stays, line_grows}
use Rattle.refutation.proofs.Known.{one_of_true}
use Rattle.refutation.proofs.LinesRight.{line_right}
use Rattle.refutation.proofs.Refuting.{never_opposed}
use Rattle.refutation.specs.Closing.{IsClashFree, IsClosedUnderLines, IsWithin, both_hold}
use Rattle.refutation.specs.Facts.{AreOpposed, Held, known_good, with_fact}
use Rattle.refutation.specs.Laws.{ClosedBelow, ClosedMeet, DetectedNeverClashes}
use Rattle.refutation.specs.Learning.{AllHold, HasFew, IsClosedAt, IsJustification, IsUnjustified, NoneContains}
use Rattle.refutation.specs.declared.reasoning.Fact.TheVariants.{Good}
use Rattle.refutation.specs.declared.reasoning.Line.TheVariants.{GoodForward}
use Rattle.rm_base.specs.declared.numbers.Fault.{Fault}
use Rattle.rm_base.proofs.Public.{both_and, some_same}
use Rattle.gate_net.specs.Inner.Stays.{Stays}

pub closed_below : ClosedBelow
closed_below net fault zero s free closed = closed.0
closed_below net fault (suc depth) s free closed = (
  closed.0,
  λ y c unjustified few. record {
    one_may = λ all. (closed.1 y c unjustified few).one_may (λ d just s' within free' p. all d just s' within free' (closed_below net fault depth s' free' p));
    all_held = λ x b all. (closed.1 y c unjustified few).all_held x b (λ d just some s' within free' p.
        all d just (λ none. none s' within free' (closed_below net fault depth s' free' p)) s' within free' (closed_below net fault depth s' free' p));
  },
)

pub lines_of : (net : Net) (fault : Fault) (depth : ℕ) (s : Held) → IsClosedAt net fault depth s → IsClosedUnderLines net fault s
lines_of net fault zero s closed = closed
lines_of net fault (suc depth) s closed = closed.0

-- a driver that passes the test, or none
abbrev Found : (ℕ → Bool) → List ℕ → Type 0
Found test ds =
    ((p : ℕ) × ((d : ℕ) × ((slice_get ds p ≡ Some d) × (test d ≡ true)))) ⊎ ((p d : ℕ) → slice_get ds p ≡ Some d → test d ≡ false)

none_more : (test : ℕ → Bool) (x : ℕ) (xs : List ℕ) → test x ≡ false → ((p d : ℕ) → slice_get xs p ≡ Some d → test d ≡ false) → (p d : ℕ) → slice_get (x ∷ xs) p ≡ Some d → test d ≡ false
none_more test x xs is none zero d e = let same : x ≡ d = cc in rw (← same) is
none_more test x xs is none (suc p) d e = none p d e

find_more : (test : ℕ → Bool) (x : ℕ) (xs : List ℕ) (t : Bool) → test x ≡ t → Found test xs → Found test (x ∷ xs)
find_more test x xs true is rest = inl (0, (x, (refl, is)))
find_more test x xs false is (inl (p, (d, h))) = inl (suc p, (d, h))
find_more test x xs false is (inr none) = inr (none_more test x xs is none)

pub find : (test : ℕ → Bool) (ds : List ℕ) → ((p : ℕ) × ((d : ℕ) × ((slice_get ds p ≡ Some d) × (test d ≡ true)))) ⊎ ((p d : ℕ) → slice_get ds p ≡ Some d → test d ≡ false)
find test [] = inr (λ p d e. cc)
find test (x ∷ xs) = find_more test x xs (test x) refl (find test xs)

abbrev is_open : Option Bool → Bool
is_open None = true
is_open (Some b) = false

is_open_none : (o : Option Bool) → is_open o ≡ true → o ≡ None
is_open_none None e = refl
is_open_none (Some b) e = cc

-- neither open nor c
other_known : (c : Bool) (o : Option Bool) → is_open o ≡ false → is_known c o ≡ false → is_known (not c) o ≡ true
other_known c None e f = cc
other_known c (Some b) e f = at c b f
  where
    at : (c b : Bool) → is_known c (Some b) ≡ false → is_known (not c) (Some b) ≡ true
    at true true f = cc
    at true false f = refl
    at false true f = refl
    at false false f = cc

pub all_of : (test : Option Bool → Bool) (k : ℕ → Option Bool) (ds : List ℕ) → ((p d : ℕ) → slice_get ds p ≡ Some d → test (k d) ≡ true) → list_all test (map k ds) ≡ true
all_of test k [] h = refl
all_of test k (d ∷ ds) h = both_and (test (k d)) (list_all test (map k ds)) (h 0 d refl) (all_of test k ds (λ p x e. h (suc p) x e))

junction_family : (f : Family) (c : Bool) (os : List (Option Bool)) → controlling_in f ≡ Some c → family_forward f os ≡ junction_follows c os
junction_family Input c os e = cc
junction_family (Constant b) c os e = cc
junction_family (Junction b) c os e = ap (λ (d : Bool). junction_follows d os) (some_same e)
junction_family (Parity i) c os e = cc

pub junction_kind : (kind : Kind) (c : Bool) (os : List (Option Bool)) → controlling kind ≡ Some c → value_forward kind os ≡ junction_follows c os
junction_kind kind = junction_family (family kind)

-- a known value is held
pub known_held : (s : Held) (x : ℕ) (b : Bool) → known_good s x ≡ Some b → IsTrue (s x (Good b))
known_held s x b e = elim (one_of_true (s x (Good false)) (s x (Good true)) b e) [ inl h ↦ rw h.0 h.1 | inr h ↦ rw h.0 h.1 ]

pub both_good : (s : Held) (x : ℕ) (c : Bool) → IsTrue (s x (Good c)) → IsTrue (s x (Good (not c))) → AreOpposed s x
both_good s x true h k = inl (k, h)
both_good s x false h k = inl (h, k)

open_before : (held s : Held) (d : ℕ) → Stays (known_good held d) (known_good s d) → known_good s d ≡ None → known_good held d ≡ None
open_before held s d stays e = at (known_good held d) refl
  where
    at : (o : Option Bool) → known_good held d ≡ o → known_good held d ≡ None
    at None is = is
    at (Some b) is = let wrong : known_good s d ≡ Some b = stays b is in cc

-- LEARNING IS RIGHT: what all justifications hold is in each closed set that contains the facts
module _ (net : Net) (fault : Fault) (depth : ℕ) (held s : Held) (within : IsWithin held s) (free : IsClashFree s) (closed : IsClosedAt net fault (suc depth) s) (y : ℕ) (c : Bool) (unjustified : IsUnjustified net held y c) (few : HasFew net held y) where
  abbrev Below : Held → Type 0
  Below t = IsClosedAt net fault depth t

  stays : (d : ℕ) → Stays (known_good held d) (known_good s d)
  stays d = good_stays net fault held s within free d

  -- some driver gives the value
  given : (x : ℕ) (b : Bool) → ((d : ℕ) → IsJustification net held y d → (NoneContains Below (with_fact held d (Good c)) → ⊥) → AllHold Below (with_fact held d (Good c)) x (Good b)) → (p d : ℕ) → Reads net y p d → known_good s d ≡ Some c → IsTrue (s x (Good b))
  given x b all p d reads is = all d ((p, reads), open' (known_good held d) refl) (λ none. none s more free below) s more free below
    where
      more : IsWithin (with_fact held d (Good c)) s
      more = with_within held s d (Good c) within (known_held s d c is)

      below : Below s
      below = closed_below net fault depth s free closed

      open' : (o : Option Bool) → known_good held d ≡ o → known_good held d ≡ None
      open' None is' = is'
      open' (Some e) is' = let same : known_good s d ≡ Some e = stays d e is' in let is_c : e ≡ c = cc in absurd (unjustified.none_gives p d reads (rw is_c at is'))

  -- no driver gives the value, and one may
  learned : (x : ℕ) (b : Bool) → ((d : ℕ) → IsJustification net held y d → (NoneContains Below (with_fact held d (Good c)) → ⊥) → AllHold Below (with_fact held d (Good c)) x (Good b)) → ((p d : ℕ) → Reads net y p d → is_known c (known_good s d) ≡ false) → (p d : ℕ) → Reads net y p d → known_good s d ≡ None → IsTrue (s x (Good b))
  learned x b all none_gives p d reads is = (closed.1 y c again (few.0, (few.1.0, λ e just. few.1.1 e (before e just)))).all_held x b
      (λ e just some s' within' free' below. all e (before e just) (λ none. none s' (more e s' within') free' below) s' (more e s' within') free' below)
    where
      before : (e : ℕ) → IsJustification net s y e → IsJustification net held y e
      before e just = (just.0, open_before held s e (stays e) just.1)

      again : IsUnjustified net s y c
      again = record {
        junction = unjustified.junction;
        known = stays y c unjustified.known;
        none_gives = λ q e there known. let isn't : is_known c (known_good s e) ≡ false = none_gives q e there in let is : is_known c (known_good s e) ≡ true = is_known_some c (known_good s e) known in cc;
        one_may = (d, ((p, reads), is));
      }

      more : (e : ℕ) (s' : Held) → IsWithin (with_fact s e (Good c)) s' → IsWithin (with_fact held e (Good c)) s'
      more e s' h = with_within held s' e (Good c) (λ z fact there. h z fact (with_more s e (Good c) z fact (within z fact there))) (h e (Good c) (with_there s e (Good c)))

  -- all drivers have the other value
  never : ((p d : ℕ) → Reads net y p d → is_known c (known_good s d) ≡ false) → ((p d : ℕ) → Reads net y p d → is_open (known_good s d) ≡ false) → ⊥
  never none_gives none_open = free y (both_good s y c (known_held s y c (stays y c unjustified.known)) other)
    where
      all : list_all (is_known (not c)) (map (known_good s) (drivers_of net y)) ≡ true
      all = all_of (is_known (not c)) (known_good s) (drivers_of net y) (λ p d there. other_known c (known_good s d) (none_open p d there) (none_gives p d there))

      follows : value_forward unjustified.junction.0 (map (known_good s) (drivers_of net y)) ≡ Some (not c)
      follows = junction_kind unjustified.junction.0 c (map (known_good s) (drivers_of net y)) unjustified.junction.1.1
          ∙ rw (all_not_any c (map (known_good s) (drivers_of net y)) all, all) refl

      other : IsTrue (s y (Good (not c)))
      other = lines_of net fault (suc depth) s closed (GoodForward (record { 0 = y })) y (Good (not c)) (unjustified.junction.0, not c, unjustified.junction.1.0, follows, refl, refl)

  pub learned_in : (x : ℕ) (b : Bool) → ((d : ℕ) → IsJustification net held y d → (NoneContains (IsClosedAt net fault depth) (with_fact held d (Good c)) → ⊥) → AllHold (IsClosedAt net fault depth) (with_fact held d (Good c)) x (Good b)) → IsTrue (s x (Good b))
  learned_in x b all = elim (find (λ d. is_known c (known_good s d)) (drivers_of net y)) [
    | inl found ↦ given x b all found.0 found.1.0 found.1.1.0 (is_known_true c (known_good s found.1.0) found.1.1.1)
    | inr none_gives ↦ elim (find (λ d. is_open (known_good s d)) (drivers_of net y)) [
      | inl found ↦ learned x b all none_gives found.0 found.1.0 found.1.1.0 (is_open_none (known_good s found.1.0) found.1.1.1)
      | inr none_open ↦ absurd (never none_gives none_open)
    ]
  ]

  -- not all justifications lead to a clash
  pub one_may_in : ((d : ℕ) → IsJustification net held y d → NoneContains (IsClosedAt net fault depth) (with_fact held d (Good c))) → ⊥
  one_may_in all = free 0 (inl (each false, each true))
    where
      each : (b : Bool) → IsTrue (s 0 (Good b))
      each b = learned_in 0 b (λ d just some. absurd (some (all d just)))

pub closed_meet : ClosedMeet
closed_meet net fault depth s t free_s free_t closed_s closed_t = at depth closed_s closed_t
  where
    in_s : IsWithin (both_hold s t) s
    in_s x fact e = (and_parts (s x fact) (t x fact) e).0

    in_t : IsWithin (both_hold s t) t
    in_t x fact e = (and_parts (s x fact) (t x fact) e).1

    lines : IsClosedUnderLines net fault s → IsClosedUnderLines net fault t → IsClosedUnderLines net fault (both_hold s t)
    lines h k l x fact concludes =
        both_and (s x fact) (t x fact) (h l x fact (line_grows net fault (both_hold s t) s in_s free_s l x fact concludes)) (k l x fact (line_grows net fault (both_hold s t) t in_t free_t l x fact concludes))

    at : (depth : ℕ) → IsClosedAt net fault depth s → IsClosedAt net fault depth t → IsClosedAt net fault depth (both_hold s t)
    at zero h k = lines h k
    at (suc depth) h k = (
      lines h.0 k.0,
      λ y c unjustified few. record {
        one_may = one_may_in net fault depth (both_hold s t) s in_s free_s h y c unjustified few;
        all_held = λ x b all. both_and (s x (Good b)) (t x (Good b))
            (learned_in net fault depth (both_hold s t) s in_s free_s h y c unjustified few x b all)
            (learned_in net fault depth (both_hold s t) t in_t free_t k y c unjustified few x b all);
      },
    )

module _ (net : Net) (fault : Fault) (driver : ℕ) (a v f : ℕ → Bool) (run : IsRun net fault a v f) (acyclic : IsAcyclic net) (stuck : Reads net fault.gate.0 fault.position driver) (detects : SameObserved net v f → ⊥) where
  true_lines : IsClosedUnderLines net fault (true_held v f)
  true_lines l x fact h = right_true v f x fact (line_right net fault driver a v f run acyclic stuck detects (true_held v f) (true_right v f) l x fact h)

  pub true_closed : (depth : ℕ) → IsClosedAt net fault depth (true_held v f)
  true_closed zero = true_lines
  true_closed (suc depth) = (true_lines, λ y c unjustified few. let wrong : known_good (true_held v f) unjustified.one_may.0 ≡ Some (v unjustified.one_may.0) = true_known v f unjustified.one_may.0 in let open' : known_good (true_held v f) unjustified.one_may.0 ≡ None = unjustified.one_may.1.1 in absurd cc)

  pub true_free : IsClashFree (true_held v f)
  true_free x = never_opposed net fault driver a v f run acyclic stuck detects (true_held v f) (true_right v f) x

pub detected_never_clashes : DetectedNeverClashes
detected_never_clashes net fault driver a acyclic stuck (v, (f, (run, (x, (observed, differs))))) depth =
    λ none. none (true_held v f) (λ y fact e. let wrong : false ≡ true = e in cc) free closed
  where
    free : IsClashFree (true_held v f)
    free = true_free net fault driver a v f run acyclic stuck (λ same. differs (same x observed))

    closed : IsClosedAt net fault depth (true_held v f)
    closed = true_closed net fault driver a v f run acyclic stuck (λ same. differs (same x observed)) depth
