use Rattle.std.proofs.Common.{◌≡◌, ◌≢◌, ◌<◌, ℕ, List, Some, inl, inr, length, sym, ◌∙◌, ap, subst, arith}
use Rattle.std.proofs.lemmas.Bool.Decides.{eqb_tells}
use Rattle.std.specs.Prelude.{slice_get}
use Rattle.gate_net.specs.Net.{Reads}
use Rattle.gate_graph.specs.Circuit.{net_of}
use Rattle.rm_base.specs.declared.numbers.NodeId.{NodeId}
use Rattle.changed_nodes.specs.Changing.{IsUnlisted}
use Rattle.changed_nodes.proofs.Noting.{number_there, within_numbers}
use Rattle.changed_nodes.proofs.changes.Changed.nodes.Goals as goal
use Rattle.rm_base.specs.Numbers.{numbers_of}

pub loop-place-init : goal.loop-place-init
loop-place-init c = record { listed = λ y none. (subst (λ (ns : List NodeId). IsUnlisted (numbers_of ns) y) (c.in_ok-nodes.ensures.items ∙ c.as_slice.ensures.value) none, λ j driver lt. absurd (omega (arith, lt))) }

pub loop-place-preserved : goal.loop-place-preserved
loop-place-preserved c = record {
  listed = λ y none.
      let after = c.in_ok-add_after.ensures y none in
      let before = c.loop-place.invariant.listed y after.0 in
      let lt : c.loop-place.place < length c.args.self.now.new_drivers.items = omega (arith, c.loop-place-test.true, c.len-place-end.ensures) in
      let here : slice_get (numbers_of c.args.self.now.new_drivers.items) c.loop-place.place ≡ Some c.index.result.now.0 = number_there c.args.self.now.new_drivers.items c.loop-place.place c.index.result.now lt c.index.ensures in (
        before.0,
        λ j driver less e position reads. elim (eqb_tells j c.loop-place.place) [
          | inl t ↦
              let same : Some c.index.result.now.0 ≡ Some driver = sym here ∙ ap (slice_get (numbers_of c.args.self.now.new_drivers.items)) (sym t.1) ∙ e in
              let is : c.index.result.now.0 ≡ driver = cc in after.1 position (subst (λ (d : ℕ). Reads (net_of c.args.graph.now) y position d) (sym is) reads)
          | inr t ↦ let ne : j ≢ c.loop-place.place = t.1 in before.1 j driver (omega (arith, less, ne)) e position reads
        ],
      );
}

pub returns : goal.returns
returns c y none =
    let all = c.loop-place.invariant.listed y none in (
      all.0,
      λ position driver reads k e.
          let lt : k < length c.args.self.now.new_drivers.items = within_numbers c.args.self.now.new_drivers.items k driver e in
          all.1 k driver (omega (arith, lt, c.loop-place-test.false, c.len-place-end.ensures)) e position reads,
    )
