-- What a look at one cover of the search may rely on, and what it leaves.
use Rattle.std.proofs.Common.{◌≡◌, inl, inr, ◌+◌, suc, ℕ, ◌<◌, ◌≤◌, List, length, get_or, Option, Some, None, Bool, true, false, refl, sym, ap, subst, arith}
use Rattle.std.specs.Prelude.{slice_get, is_some, Result, Ok, Err, OnOk}
use Rattle.std.proofs.lemmas.Option.{slice_get-get_or, get_or_from_slice_get, slice_get_within}
use Rattle.std.proofs.lemmas.Bool.{cases_lt}
use Rattle.rm_model.specs.Ranks.{rank_at}
use Rattle.rm_model.specs.Inner.Search.{list_at, State, HasRank, AllowsRank, IsSound, IsSettled, AreKnown, waiting_for, with_rank, woken, LeadsTo}
use Rattle.rm_model.specs.declared.rank_search.Looked.{Looked}
use Rattle.rm_model.proofs.SearchLemmas.{waiting_for-leads, waiting_for-settled, with_rank-leads, with_rank-settled, woken-settled}

module _ (drivers : List (List ℕ)) (s : State) (sound : IsSound drivers s) (known : AreKnown drivers) (k : ℕ) (within : k < length drivers) (list : List ℕ) (is : list ≡ list_at drivers k) where
  driver-known : (p e : ℕ) → p < length list → get_or list p e < length drivers
  driver-known p e lt = known k (get_or list p e) (p, subst (λ (l : List ℕ). slice_get l p ≡ Some (get_or list p e)) is (slice_get-get_or list p e lt))

  pub driver-ranked : (p e : ℕ) → p < length list → get_or list p e < length s.ranks
  driver-ranked p e lt = omega (arith, driver-known p e lt, sound.ranks_length)

  pub driver-waited : (p e : ℕ) → p < length list → get_or list p e < length s.waiting
  driver-waited p e lt = omega (arith, driver-known p e lt, sound.waiting_length)

  pub looked-allows : (l : Looked) → AllowsRank s.ranks list (get_or s.looked k l)
  looked-allows l = subst (λ (ds : List ℕ). AllowsRank s.ranks ds (get_or s.looked k l)) (sym is) (sound.looked k (get_or s.looked k l) (slice_get-get_or s.looked k l (omega (arith, within, sound.looked_length))))

  -- both what a step leads to, and that the cover is settled then
  pub record Leads (t : State) : Type 0 where
    pub leads : LeadsTo drivers s t
    pub settled : (place : ℕ) → IsSettled drivers place t k

  pub when_stopped : (l : Looked) → AllowsRank s.ranks list l → l.count < length list → rank_at s.ranks (get_or list l.count 0) ≡ None → Leads (waiting_for s k l (get_or list l.count 0))
  when_stopped l allows lt none =
      let mine : AllowsRank s.ranks (list_at drivers k) l = subst (λ (ds : List ℕ). AllowsRank s.ranks ds l) is allows in
      let reads : slice_get (list_at drivers k) l.count ≡ Some (get_or list l.count 0) = subst (λ (ds : List ℕ). slice_get ds l.count ≡ Some (get_or list l.count 0)) is (slice_get-get_or list l.count 0 lt) in
      record {
        leads = waiting_for-leads drivers s sound k l (get_or list l.count 0) within mine reads none (driver-known l.count 0 lt);
        settled = waiting_for-settled drivers s sound k l (get_or list l.count 0) within mine reads none (driver-known l.count 0 lt);
      }

  pub when_done : (l : Looked) → AllowsRank s.ranks list l → length list ≤ l.count → rank_at s.ranks k ≡ None → Leads (with_rank s k l)
  when_done l allows le none =
      let mine : AllowsRank s.ranks (list_at drivers k) l = subst (λ (ds : List ℕ). AllowsRank s.ranks ds l) is allows in
      let all : l.count ≡ length (list_at drivers k) = omega (arith, mine.0, le, ap length is) in
      record {
        leads = with_rank-leads drivers s sound k l within none all mine.1;
        settled = with_rank-settled drivers s sound k l within none all mine.1;
      }

pub rank-there : (o : Option ℕ) (b : Bool) → b ≡ is_some o → b ≡ true → HasRank o
rank-there None b e is = absurd cc
rank-there (Some n) b e is = (n, refl)

pub rank-missing : (o : Option ℕ) (b : Bool) → b ≡ is_some o → b ≡ false → o ≡ None
rank-missing None b e is = refl
rank-missing (Some n) b e is = absurd cc

module _ (drivers : List (List ℕ)) where
  pub settled-earlier : (a b : ℕ) (s : State) (k : ℕ) → a ≤ b → IsSettled drivers b s k → IsSettled drivers a s k
  settled-earlier a b s k le (inl h) = inl h
  settled-earlier a b s k le (inr w) = inr (record { driver = w.driver; reads = w.reads; waits = w.waits; open_yet = elim w.open_yet [ inl none ↦ inl none | inr h ↦ inr (h.0, (omega (arith, le, h.1.0), h.1.1)) ] })

  -- one more cover of a list is looked at
  pub settled-more : (s t u : State) → LeadsTo drivers s t → LeadsTo drivers t u → (covers : List ℕ) (i : ℕ) → ((place p k : ℕ) → place ≤ length s.order → p < i → slice_get covers p ≡ Some k → IsSettled drivers place t k) → ((place : ℕ) → IsSettled drivers place u (get_or covers i 0)) → (place p k : ℕ) → place ≤ length s.order → p < i + 1 → slice_get covers p ≡ Some k → IsSettled drivers place u k
  settled-more s t u before step covers i old new place p k le lt at = elim (cases_lt p i) [
    | inl less ↦ step.kept place k (omega (arith, le, before.longer)) (old place p k le less at)
    | inr more ↦
        let same : p ≡ i = omega (arith, lt, more) in
        let item : get_or covers i 0 ≡ k = get_or_from_slice_get covers i k 0 (subst (λ (q : ℕ). slice_get covers q ≡ Some k) same at) in
        subst (IsSettled drivers place u) item (new place)
  ]

  -- one more cover of all is looked at
  pub settled-next : (t u : State) → LeadsTo drivers t u → (i : ℕ) → ((k : ℕ) → k < i → IsSettled drivers 0 t k) → ((place : ℕ) → IsSettled drivers place u i) → (k : ℕ) → k < i + 1 → IsSettled drivers 0 u k
  settled-next t u step i old new k lt = elim (cases_lt k i) [
    | inl less ↦ step.kept 0 k (omega arith) (old k less)
    | inr more ↦ let same : i ≡ k = omega (arith, lt, more) in subst (IsSettled drivers 0 u) same (new 0)
  ]

  -- the covers that waited are looked at
  pub settled-woken : (s u : State) (place d : ℕ) → IsSound drivers s → slice_get s.order place ≡ Some d → d < length drivers → LeadsTo drivers (woken s d) u → ((at p k : ℕ) → at ≤ length s.order → slice_get (list_at s.waiting d) p ≡ Some k → IsSettled drivers at u k) → (k : ℕ) → IsSettled drivers place s k → IsSettled drivers (place + 1) u k
  settled-woken s u place d sound at known leads looked k h =
      let within : suc place ≤ length s.order = (let lt = slice_get_within s.order place d at in omega (arith, lt)) in
      let next : suc place ≡ place + 1 = omega arith in
      subst (λ (n : ℕ). IsSettled drivers n u k) next (elim (woken-settled drivers s sound place d at known k h) [
        | inl still ↦ leads.kept (suc place) k within still
        | inr waited ↦ looked (suc place) waited.0 k within waited.1
      ])

pub on_ok_both : {T E : Type 0} (P Q : Type 0) (r : Result T E) → OnOk r P → OnOk r Q → OnOk r (P × Q)
on_ok_both P Q (Ok x) p q = (p, q)
on_ok_both P Q (Err e) p q = tt
