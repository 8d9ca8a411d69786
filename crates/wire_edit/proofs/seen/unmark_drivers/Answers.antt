use Rattle.std.proofs.Common.{◌≡◌, ◌<◌, ℕ, suc, false, List, ◌∷◌, ap, ◌∙◌, arith}
use Rattle.std.specs.Prelude.{slice_get}
use Rattle.gate_graph.specs.Search.{AreBelow}
use Rattle.wire_edit.proofs.Marking.{set_count}
use Rattle.wire_edit.proofs.Repeating.{among_less}
use Rattle.wire_edit.proofs.seen.unmark_drivers.Goals as goal

first_below : (it rest : List ℕ) (d n : ℕ) → AreBelow it n → it ≡ d ∷ rest → d < n
first_below it rest d n below e = below 0 d (ap (λ (xs : List ℕ). slice_get xs 0) e)

pub bounds-marks-driver : goal.bounds-marks-driver
bounds-marks-driver c = first_below _ _ c.in-Some.driver.0 _ c.loop-driver.invariant.within c.in-Some.ensures.steps

pub loop-driver-preserved : goal.loop-driver-preserved
loop-driver-preserved c =
    let i = c.loop-driver.invariant in
    let lt = first_below _ _ c.in-Some.driver.0 _ i.within c.in-Some.ensures.steps in
    record {
      among = among_less _ _ c.in-Some.driver.0 c.loop-driver.left c.loop-driver.marks i.among c.in-Some.ensures.steps c.if-left-eq0.false lt;
      within = λ p x there.
          let less = i.within (suc p) x (ap (λ (xs : List ℕ). slice_get xs (suc p)) c.in-Some.ensures.steps ∙ there) in
          omega (arith, less, set_count c.loop-driver.marks c.in-Some.driver.0 false);
    }
