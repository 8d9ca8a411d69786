use Rattle.std.proofs.Common.{◌≡◌, ℕ, zero, suc, Some, List, [], ◌∷◌, take, ap, sym, subst, ◌∙◌}
use Rattle.std.specs.Prelude.{slice_get}
use Rattle.std.specs.List.{AllByRecursion}
use Rattle.gate_graph.specs.Circuit.{net_of}
use Rattle.gate_net.specs.Values.{HasPin}
use Rattle.rm_base.specs.declared.numbers.Fault.{Fault}
use Rattle.loop_tests.proofs.closings.meetings.first_faults.Goals as goal

some_is : (x y : Fault) → Some x ≡ Some y → x ≡ y
some_is x y e = cc

taken : (P : Fault → Type 0) (xs : List Fault) (n k : ℕ) (x : Fault) → AllByRecursion P xs → slice_get (take n xs) k ≡ Some x → P x
taken P xs zero k x all e = absurd (cc)
taken P [] (suc n) k x all e = absurd (cc)
taken P (y ∷ xs) (suc n) zero x all e = subst P (some_is y x e) all.0
taken P (y ∷ xs) (suc n) (suc k) x all e = taken P xs n k x all.1 e

pub returns-clause-pins : goal.returns-clause-pins
returns-clause-pins c = λ k x e.
    taken (HasPin (net_of c.args.graph.now)) c.in_ok-faults.faults.items _ k x c.in_ok-faults.ensures.pins
    (ap (λ (xs : List Fault). slice_get xs k) (sym c.truncate.ensures.items) ∙ e)
