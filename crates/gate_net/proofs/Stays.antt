-- What follows at a gate still follows where more is known.
use Rattle.std.proofs.Common.{Bool, List, None, Option, Some, [], false, inl, inr, map, not, refl, suc, true, zero, ℕ, ◌∷◌, ◌≡◌}
use Rattle.std.proofs.lemmas.Bool.Decides.{eqb_tells}
use Rattle.std.specs.List.{list_all, list_any}
use Rattle.std.specs.Prelude.{if◌then◌else◌, slice_set}
use Rattle.std.proofs.Math.Bool.{or-true}
use Rattle.std.proofs.lemmas.Bool.{and_parts, or_cases}
use Rattle.gate_net.proofs.Bools.{same_bool_refl}
use Rattle.gate_net.proofs.Follows.{is_known_true}
use Rattle.gate_net.specs.Meaning.{all_but, family, family_back, family_forward, is_known, junction_back, junction_follows, kind_forward, known_forward, parity_back, parity_follows, same_bool, turned, value_back, value_forward}
use Rattle.gate_net.specs.declared.Family.{Family}
use Rattle.gate_net.specs.declared.Family.TheVariants.{Constant, Input, Junction, Parity}
use Rattle.gate_net.specs.Net.{Net, drivers_of}
use Rattle.gate_net.specs.Values.{faulty_reads}
use Rattle.gate_net.specs.declared.Kind.{Kind}
use Rattle.gate_net.specs.Inner.Stays.{Stays, AllStay}
use Rattle.rm_base.specs.declared.numbers.Fault.{Fault}
use Rattle.rm_base.proofs.Public.{both_and}

pub stay_map : (k k' : ℕ → Option Bool) (ds : List ℕ) → ((x : ℕ) → Stays (k x) (k' x)) → AllStay (map k ds) (map k' ds)
stay_map k k' [] h = tt
stay_map k k' (d ∷ ds) h = (h d, stay_map k k' ds h)

pub stay_set : (os us : List (Option Bool)) (p : ℕ) (o : Option Bool) → AllStay os us → AllStay (slice_set os p o) (slice_set us p o)
stay_set [] [] p o h = tt
stay_set [] (u ∷ us) p o h = absurd h
stay_set (x ∷ os) [] p o h = absurd h
stay_set (x ∷ os) (u ∷ us) zero o h = (λ c e. e, h.1)
stay_set (x ∷ os) (u ∷ us) (suc p) o h = (h.0, stay_set os us p o h.1)

pub is_known_some : (c : Bool) (o : Option Bool) → o ≡ Some c → is_known c o ≡ true
is_known_some c o e = rw e (same_bool_refl c)

pub is_known_stays : (c : Bool) (o u : Option Bool) → Stays o u → is_known c o ≡ true → is_known c u ≡ true
is_known_stays c o u h e = is_known_some c u (h c (is_known_true c o e))

pub all_stay : (c : Bool) (os us : List (Option Bool)) → AllStay os us → list_all (is_known c) os ≡ true → list_all (is_known c) us ≡ true
all_stay c [] [] h e = refl
all_stay c [] (u ∷ us) h e = absurd h
all_stay c (o ∷ os) [] h e = absurd h
all_stay c (o ∷ os) (u ∷ us) h e =
    let both : (is_known c o ≡ true) × (list_all (is_known c) os ≡ true) = and_parts (is_known c o) (list_all (is_known c) os) e in
    both_and (is_known c u) (list_all (is_known c) us) (is_known_stays c o u h.0 both.0) (all_stay c os us h.1 both.1)

pub any_stays : (c : Bool) (os us : List (Option Bool)) → AllStay os us → list_any (is_known c) os ≡ true → list_any (is_known c) us ≡ true
any_stays c [] us h e = cc
any_stays c (o ∷ os) [] h e = absurd h
any_stays c (o ∷ os) (u ∷ us) h e = elim (or_cases (is_known c o) (list_any (is_known c) os) e) [
  | inl here ↦ rw (is_known_stays c o u h.0 here) refl
  | inr later ↦ rw (any_stays c os us h.1 later) (or-true (is_known c u))
]

pub all_but_stays : (c : Bool) (q : ℕ) (os us : List (Option Bool)) → AllStay os us → all_but (is_known c) q os ≡ true → all_but (is_known c) q us ≡ true
all_but_stays c q [] [] h e = e
all_but_stays c q [] (u ∷ us) h e = absurd h
all_but_stays c q (o ∷ os) [] h e = absurd h
all_but_stays c zero (o ∷ os) (u ∷ us) h e = all_stay c os us h.1 e
all_but_stays c (suc q) (o ∷ os) (u ∷ us) h e =
    let both : (is_known c o ≡ true) × (all_but (is_known c) q os ≡ true) = and_parts (is_known c o) (all_but (is_known c) q os) e in
    both_and (is_known c u) (all_but (is_known c) q us) (is_known_stays c o u h.0 both.0) (all_but_stays c q os us h.1 both.1)

-- a value is not known to be two
known_once : (c : Bool) (o : Option Bool) → is_known (not c) o ≡ true → is_known c o ≡ false
known_once c o e = rw (is_known_true (not c) o e) (at c)
  where
    at : (c : Bool) → same_bool c (not c) ≡ false
    at true = refl
    at false = refl

pub all_not_any : (c : Bool) (os : List (Option Bool)) → list_all (is_known (not c)) os ≡ true → list_any (is_known c) os ≡ false
all_not_any c [] e = refl
all_not_any c (o ∷ os) e =
    let both : (is_known (not c) o ≡ true) × (list_all (is_known (not c)) os ≡ true) = and_parts (is_known (not c) o) (list_all (is_known (not c)) os) e in
    rw (known_once c o both.0) (all_not_any c os both.1)

pub junction_stays : (c : Bool) (os us : List (Option Bool)) → AllStay os us → Stays (junction_follows c os) (junction_follows c us)
junction_stays c os us h value e = any (list_any (is_known c) os) refl
  where
    all : (t : Bool) → list_all (is_known (not c)) os ≡ t → (if t then Some (not c) else None) ≡ Some value → junction_follows c us ≡ Some value
    all true is e = let u : list_all (is_known (not c)) us ≡ true = all_stay (not c) os us h is in rw (all_not_any c us u, u) e
    all false is e = cc

    any : (t : Bool) → list_any (is_known c) os ≡ t → junction_follows c us ≡ Some value
    any true is = rw (any_stays c os us h is) (rw is at e)
    any false is = all (list_all (is_known (not c)) os) refl (rw is at e)

pub parity_stays : (i : Bool) (os us : List (Option Bool)) → AllStay os us → Stays (parity_follows i os) (parity_follows i us)
parity_stays i [] [] h value e = e
parity_stays i [] (u ∷ us) h value e = absurd h
parity_stays i (o ∷ os) [] h value e = absurd h
parity_stays i (None ∷ os) (u ∷ us) h value e = cc
parity_stays i (Some b ∷ os) (u ∷ us) h value e = rw (h.0 b refl) (parity_stays (turned b i) os us h.1 value e)

pub family_stays : (family : Family) (os us : List (Option Bool)) → AllStay os us → Stays (family_forward family os) (family_forward family us)
family_stays Input os us h value e = cc
family_stays (Constant b) os us h value e = cc
family_stays (Junction c) os us h value e = junction_stays c os us h value e
family_stays (Parity i) os us h value e = parity_stays i os us h value e

pub forward_stays : (kind : Kind) (os us : List (Option Bool)) → AllStay os us → Stays (value_forward kind os) (value_forward kind us)
forward_stays kind = family_stays (family kind)

junction_back_stays : (c value : Bool) (os us : List (Option Bool)) (q : ℕ) → AllStay os us → Stays (junction_back c value os q) (junction_back c value us q)
junction_back_stays c value os us q h other e = at (same_bool value c) refl
  where
    others : (t : Bool) → all_but (is_known (not c)) q os ≡ t → (if t then Some c else None) ≡ Some other → (if all_but (is_known (not c)) q us then Some c else None) ≡ Some other
    others true is e = rw (all_but_stays (not c) q os us h is) e
    others false is e = cc

    at : (t : Bool) → same_bool value c ≡ t → junction_back c value us q ≡ Some other
    at true is = rw is (others (all_but (is_known (not c)) q os) refl (rw is at e))
    at false is = rw is (rw is at e)

parity_back_stays : (i : Bool) (os us : List (Option Bool)) (q : ℕ) → AllStay os us → Stays (parity_back i os q) (parity_back i us q)
parity_back_stays i [] us q h value e = cc
parity_back_stays i (o ∷ os) [] q h value e = absurd h
parity_back_stays i (o ∷ os) (u ∷ us) zero h value e = parity_stays i os us h.1 value e
parity_back_stays i (None ∷ os) (u ∷ us) (suc q) h value e = cc
parity_back_stays i (Some b ∷ os) (u ∷ us) (suc q) h value e = rw (h.0 b refl) (parity_back_stays (turned b i) os us q h.1 value e)

family_back_stays : (family : Family) (value : Bool) (os us : List (Option Bool)) (q : ℕ) → AllStay os us → Stays (family_back family value os q) (family_back family value us q)
family_back_stays Input value os us q h other e = cc
family_back_stays (Constant b) value os us q h other e = cc
family_back_stays (Junction c) value os us q h other e = junction_back_stays c value os us q h other e
family_back_stays (Parity i) value os us q h other e = parity_back_stays (turned value i) os us q h other e

pub back_stays : (kind : Kind) (value : Bool) (os us : List (Option Bool)) (q : ℕ) → AllStay os us → Stays (value_back kind value os q) (value_back kind value us q)
back_stays kind = family_back_stays (family kind)

known_stays : (family : Family) (known known' : Option Bool) (os us : List (Option Bool)) → Stays known known' → AllStay os us → Stays (known_forward family known os) (known_forward family known' us)
known_stays Input known known' os us k h value e = k value e
known_stays (Constant b) known known' os us k h value e = e
known_stays (Junction c) known known' os us k h value e = family_stays (Junction c) os us h value e
known_stays (Parity i) known known' os us k h value e = family_stays (Parity i) os us h value e

pub kind_stays : (kind : Kind) (known known' : Option Bool) (os us : List (Option Bool)) → Stays known known' → AllStay os us → Stays (kind_forward kind known os) (kind_forward kind known' us)
kind_stays kind = known_stays (family kind)

-- at the pins of a gate, of which one may be stuck
pub reads_stay : (net : Net) (fault : Fault) (f f' : ℕ → Option Bool) (x : ℕ) → ((y : ℕ) → Stays (f y) (f' y)) → AllStay (faulty_reads net fault Some f x) (faulty_reads net fault Some f' x)
reads_stay net fault f f' x h = elim (eqb_tells x fault.gate.0) [
  | inl t ↦ rw t.0 (stay_set (map f (drivers_of net x)) (map f' (drivers_of net x)) fault.position (Some fault.value) (stay_map f f' (drivers_of net x) h))
  | inr t ↦ rw t.0 (stay_map f f' (drivers_of net x) h)
]
