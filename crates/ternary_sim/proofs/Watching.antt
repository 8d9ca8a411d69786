-- Which nodes are watched.
use Rattle.std.proofs.Common.{Bool, List, Some, [], ap, arith, inl, inr, length, refl, suc, subst, sym, true, zero, ℕ, ◌++◌, ◌+◌, ◌<◌, ◌∙◌, ◌∷◌, ◌≡◌}
use Rattle.std.proofs.lemmas.Bool.{cases_lt}
use Rattle.std.proofs.lemmas.Option.{slice_get_within}
use Rattle.std.specs.Prelude.{IsTrue, slice_get, ◌↔◌}
use Rattle.gate_graph.specs.Search.{IsSeen}
use Rattle.gate_net.specs.Forward.{MarksDetected, MarksQuiet}
use Rattle.gate_net.specs.Net.{IsObserved, IsWellFormed, Net}
use Rattle.local_evaluation.proofs.Public.{live_below}
use Rattle.ternary_sim.specs.Marks.{marking}
use Rattle.ternary_sim.specs.ValueTables.{TableState, Watches}
use Rattle.ternary_sim.specs.Inner.ValueTables.{AllEqual, SomeDiffers}

front_seen : (watched : List Bool) (b : Bool) (x : ℕ) → x < length watched → slice_get (watched ++ b ∷ []) x ≡ slice_get watched x
front_seen [] b x h = absurd (omega arith)
front_seen (w ∷ watched) b zero h = refl
front_seen (w ∷ watched) b (suc x) h = front_seen watched b x (omega arith)

last_seen : (watched : List Bool) (b : Bool) → slice_get (watched ++ b ∷ []) (length watched) ≡ Some b
last_seen [] b = refl
last_seen (w ∷ watched) b = last_seen watched b

-- one number more
pub watch_more : (P : ℕ → Type 0) (watched : List Bool) (b : Bool) (n : ℕ) → length watched ≡ n → ((x : ℕ) → x < n → IsSeen watched x ↔ P x) → (IsTrue b ↔ P n) → (x : ℕ) → x < n + 1 → IsSeen (watched ++ b ∷ []) x ↔ P x
watch_more P watched b n size each here x h = elim (cases_lt x n) [
  | inl low ↦
      let same : slice_get (watched ++ b ∷ []) x ≡ slice_get watched x = front_seen watched b x (omega (arith, low, size)) in
      (λ seen. (each x low).0 (sym same ∙ seen), λ p. same ∙ (each x low).1 p)
  | inr high ↦
      let is : x ≡ length watched = omega (arith, high, h, size) in
      let is_n : x ≡ n = omega (arith, high, h) in
      let there : slice_get (watched ++ b ∷ []) x ≡ Some b = ap (slice_get (watched ++ b ∷ [])) is ∙ last_seen watched b in
      (λ seen. subst P (sym is_n) (here.0 (let same : Some b ≡ Some true = sym there ∙ seen in cc)), λ p. there ∙ ap Some (here.1 (subst P is_n p)))
]

-- all numbers
pub watches_all : (net : Net) (watched : List Bool) → IsWellFormed net → length watched ≡ length net.nodes → ((x : ℕ) → x < length net.nodes → IsSeen watched x ↔ IsObserved net x) → Watches net watched
watches_all net watched formed size each x = elim (cases_lt x (length net.nodes)) [
  | inl low ↦ each x low
  | inr high ↦ (
    λ seen. absurd (let within : x < length watched = slice_get_within watched x true seen in omega (arith, high, size, within)),
    λ observed. absurd (let below : x < length net.nodes = live_below net x (formed.observed_live x observed) in omega (arith, high, below)),
  )
]

-- what the watched nodes say of the observed ones
pub detected_watched : (net : Net) (s : TableState) (b : Bool) → Watches net s.watched → (IsTrue b ↔ SomeDiffers s) → IsTrue b ↔ MarksDetected net (marking s.marks)
detected_watched net s b watches h = (
  λ e. let d = h.0 e in (d.0, ((watches d.0).0 d.1.0, d.1.1)),
  λ d. h.1 (d.0, ((watches d.0).1 d.1.0, d.1.1)),
)

pub quiet_watched : (net : Net) (s : TableState) (b : Bool) → Watches net s.watched → (IsTrue b ↔ AllEqual s) → IsTrue b ↔ MarksQuiet net (marking s.marks)
quiet_watched net s b watches h = (
  λ e x observed. h.0 e x ((watches x).1 observed),
  λ q. h.1 (λ x seen. q x ((watches x).0 seen)),
)
