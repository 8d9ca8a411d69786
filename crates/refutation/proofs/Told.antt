-- What the calls of a graph and of the facts tell.
use Rattle.local_evaluation.proofs.Public.{stuck_reads}
use Rattle.local_evaluation.proofs.Public.{kind_is, kind_told}
use Rattle.std.proofs.Common.{Bool, None, Option, Some, [], ap, refl, sym, ℕ, ◌∙◌, ◌∷◌, ◌≡◌}
use Rattle.std.specs.Prelude.{slice_get}
use Rattle.gate_net.specs.Forward.{value_back, value_forward}
use Rattle.gate_net.specs.Net.{IsKind, IsWellFormed, Net, Reads, drivers_of, kind_of}
use Rattle.gate_net.specs.Values.{faulty_reads}
use Rattle.gate_net.specs.declared.Kind.{Kind}
use Rattle.gate_net.specs.declared.Kind.TheVariants.{Not}
use Rattle.refutation.specs.Answers.{backward_at, bind, both_at, forward_at}
use Rattle.refutation.specs.Facts.{Held, known_faulty}
use Rattle.refutation.specs.Pins.{known_on, pins_of, stuck_of}
use Rattle.refutation.specs.declared.pins.Aspect.{Aspect}
use Rattle.refutation.specs.declared.pins.Aspect.TheVariants.{OfFaulty}
use Rattle.local_evaluation.specs.declared.pins.Stuck.{Stuck}
use Rattle.rm_base.specs.declared.numbers.Fault.{Fault}
use Rattle.rm_base.proofs.Public.{some_same}

-- the only driver of a Not
pub one_driver : (net : Net) (y x : ℕ) → IsWellFormed net → IsKind net y Not → Reads net y 0 x → drivers_of net y ≡ x ∷ []
one_driver net y x formed is reads =
    let one : (d : ℕ) × (drivers_of net y ≡ d ∷ []) = formed.nots_have_one y is in
    let first : slice_get (one.0 ∷ []) 0 ≡ Some x = rw one.1 at reads in
    one.1 ∙ ap (λ (d : ℕ). d ∷ []) (some_same first)

pub bind_some : {A B : Type 0} (o : Option A) (f : A → Option B) (b : B) → Some b ≡ bind o f → (a : A) × ((o ≡ Some a) × (Some b ≡ f a))
bind_some None f b e = cc
bind_some (Some a) f b e = (a, (refl, e))

-- forward
pub forward_some : (net : Net) (stuck : Option Stuck) (aspect : Aspect) (held : Held) (y : ℕ) (b : Bool) → Some b ≡ forward_at net stuck aspect held y → (kind : Kind) × (IsKind net y kind × (value_forward kind (pins_of stuck aspect held (drivers_of net y)) ≡ Some b))
forward_some net stuck aspect held y b e =
    let found : (kind : Kind) × ((kind_of net y ≡ Some kind) × (Some b ≡ value_forward kind (pins_of stuck aspect held (drivers_of net y)))) = bind_some (kind_of net y) (λ kind. value_forward kind (pins_of stuck aspect held (drivers_of net y))) b e in
    (found.0, (kind_is net y found.0 (sym found.1.0), sym found.1.1))

pub forward_told : (net : Net) (stuck : Option Stuck) (aspect : Aspect) (held : Held) (y : ℕ) (kind : Kind) (b : Bool) → IsKind net y kind → value_forward kind (pins_of stuck aspect held (drivers_of net y)) ≡ Some b → forward_at net stuck aspect held y ≡ Some b
forward_told net stuck aspect held y kind b is e = ap (λ o. bind o (λ k. value_forward k (pins_of stuck aspect held (drivers_of net y)))) (kind_told net y kind is) ∙ e

pub faulty_pins : (net : Net) (fault : Fault) (held : Held) (y : ℕ) → pins_of (stuck_of fault y) OfFaulty held (drivers_of net y) ≡ faulty_reads net fault Some (known_faulty held) y
faulty_pins net fault held y = stuck_reads net fault (known_faulty held) y

pub backward_some : (net : Net) (stuck : Option Stuck) (aspect : Aspect) (held : Held) (y q : ℕ) (r : ℕ × Bool) → Some r ≡ backward_at net stuck aspect held y q → (kind : Kind) × ((value : Bool) × (IsKind net y kind × ((known_on aspect held y ≡ Some value) × (Reads net y q r.0 × (value_back kind value (pins_of stuck aspect held (drivers_of net y)) q ≡ Some r.1)))))
backward_some net stuck aspect held y q r e =
    let one : (kind : Kind) × ((kind_of net y ≡ Some kind) × (Some r ≡ bind (known_on aspect held y) (λ value. bind (slice_get (drivers_of net y) q) (λ d. bind (value_back kind value (pins_of stuck aspect held (drivers_of net y)) q) (λ c. Some (d, c)))))) = bind_some (kind_of net y) _ r e in
    let two : (value : Bool) × ((known_on aspect held y ≡ Some value) × (Some r ≡ bind (slice_get (drivers_of net y) q) (λ d. bind (value_back one.0 value (pins_of stuck aspect held (drivers_of net y)) q) (λ c. Some (d, c))))) = bind_some (known_on aspect held y) _ r one.1.1 in
    let three : (d : ℕ) × ((slice_get (drivers_of net y) q ≡ Some d) × (Some r ≡ bind (value_back one.0 two.0 (pins_of stuck aspect held (drivers_of net y)) q) (λ c. Some (d, c)))) = bind_some (slice_get (drivers_of net y) q) _ r two.1.1 in
    let four : (c : Bool) × ((value_back one.0 two.0 (pins_of stuck aspect held (drivers_of net y)) q ≡ Some c) × (Some r ≡ Some (three.0, c))) = bind_some (value_back one.0 two.0 (pins_of stuck aspect held (drivers_of net y)) q) _ r three.1.1 in
    let same : r ≡ (three.0, four.0) = some_same four.1.1 in
    (one.0, (two.0, (kind_is net y one.0 (sym one.1.0), (two.1.0, (three.1.0 ∙ ap (λ s. Some s.0) (sym same), four.1.0 ∙ ap (λ s. Some s.1) (sym same))))))

pub backward_told : (net : Net) (stuck : Option Stuck) (aspect : Aspect) (held : Held) (y q x : ℕ) (kind : Kind) (value b : Bool) → IsKind net y kind → known_on aspect held y ≡ Some value → Reads net y q x → value_back kind value (pins_of stuck aspect held (drivers_of net y)) q ≡ Some b → backward_at net stuck aspect held y q ≡ Some (x, b)
backward_told net stuck aspect held y q x kind value b is known reads e =
    ap (λ o. bind o (λ k. bind (known_on aspect held y) (λ v. bind (slice_get (drivers_of net y) q) (λ d. bind (value_back k v (pins_of stuck aspect held (drivers_of net y)) q) (λ c. Some (d, c)))))) (kind_told net y kind is)
    ∙ ap (λ o. bind o (λ v. bind (slice_get (drivers_of net y) q) (λ d. bind (value_back kind v (pins_of stuck aspect held (drivers_of net y)) q) (λ c. Some (d, c))))) known
    ∙ ap (λ o. bind o (λ d. bind (value_back kind value (pins_of stuck aspect held (drivers_of net y)) q) (λ c. Some (d, c)))) reads
    ∙ ap (λ o. bind o (λ c. Some (x, c))) e

pub both_some : (net : Net) (one other : Aspect) (held : Held) (y : ℕ) (r : Bool × Bool) → Some r ≡ both_at net one other held y → ((kind : Kind) × IsKind net y kind) × ((known_on one held y ≡ Some r.0) × (known_on other held y ≡ Some r.1))
both_some net one other held y r e =
    let first : (kind : Kind) × ((kind_of net y ≡ Some kind) × (Some r ≡ bind (known_on one held y) (λ a. bind (known_on other held y) (λ b. Some (a, b))))) = bind_some (kind_of net y) _ r e in
    let second : (a : Bool) × ((known_on one held y ≡ Some a) × (Some r ≡ bind (known_on other held y) (λ b. Some (a, b)))) = bind_some (known_on one held y) _ r first.1.1 in
    let third : (b : Bool) × ((known_on other held y ≡ Some b) × (Some r ≡ Some (second.0, b))) = bind_some (known_on other held y) _ r second.1.1 in
    let same : r ≡ (second.0, third.0) = some_same third.1.1 in
    ((first.0, kind_is net y first.0 (sym first.1.0)), (second.1.0 ∙ ap (λ s. Some s.0) (sym same), third.1.0 ∙ ap (λ s. Some s.1) (sym same)))
