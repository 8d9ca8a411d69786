use Rattle.std.specs.Prelude.{List}
use Rattle.std.proofs.Common.{ℕ, ◌<◌, subst}
use Rattle.std.proofs.lemmas.Option.{slice_get_within}
use Rattle.rm_model.specs.declared.parts.Cover.{Cover}
use Rattle.graph_to_model.proofs.Public.{lean}
use Rattle.model_faults.proofs.Alike.{list_alike}
use Rattle.model_faults.proofs.Gates.{gates_same, gate_pins, gate_covers_are}
use Rattle.gate_net.specs.Faults.{gates_of}
use Rattle.model_faults.proofs.Listed.{pin_listed, list_once}
use Rattle.model_faults.proofs.FaultLaws.{vectors_give}
use Rattle.model_faults.proofs.Same.{to_model, to_net}
use Rattle.rm_base.proofs.Public.{in_at, stands_below}
use Rattle.rm_base.specs.Members.{In}
use Rattle.model_faults.proofs.laws.tidy_nets_have_model_faults.Goals as goal
use Rattle.graph_to_model.specs.Inner.Writable.{IsWritable}

pub returns-clause-faults : goal.returns-clause-faults
returns-clause-faults c = λ net m formed tidy well fit few.
    let w : IsWritable m net = record { formed = formed; lean = lean c.order_tells.ensures.tidy net formed tidy; well = well; fit = fit; few = few } in
    record {
      count = (gates_same m net w).0;
      each = λ k x d e f.
          let g = (gates_same m net w).1 k x d e f in
          let i = subst (λ (cs : List Cover). In cs d) (gate_covers_are m net w) (in_at _ k d f) in
          record {
            pins = gate_pins m net w x d g;
            to_model = λ p b a vector count gives. to_model m net w x d i g p b a vector gives count;
            to_net = λ p b a vector gives. to_net m net w x d i g p b a vector gives;
          };
      listed = λ k p b d f h.
          let x = stands_below (gates_of net) k (subst (λ (n : ℕ). k < n) (gates_same m net w).0 (slice_get_within _ k d f)) in
          let g = (gates_same m net w).1 k x.0 d x.1 f in
          (x.0, (x.1, pin_listed net x.0 p b (subst (λ (n : ℕ). p < n) (gate_pins m net w x.0 d g) h)));
    }

pub returns-clause-vectors : goal.returns-clause-vectors
returns-clause-vectors c = vectors_give

pub returns-clause-once : goal.returns-clause-once
returns-clause-once c = list_once

pub returns-clause-alike : goal.returns-clause-alike
returns-clause-alike c = λ net m formed tidy well fit few. list_alike m net (record { formed = formed; lean = lean c.order_tells.ensures.tidy net formed tidy; well = well; fit = fit; few = few })
