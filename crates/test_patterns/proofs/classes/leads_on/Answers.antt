use Rattle.std.proofs.Common.{refl, sym, ◌∙◌, ◌≡◌, arith}
use Rattle.gate_graph.specs.Circuit.{net_of}
use Rattle.test_patterns.proofs.Leading.{first_drives, first_leads, forces, later_leads, live}
use Rattle.test_patterns.proofs.classes.leads_on.Goals as goal

pub returns-then-fault-gt0 : goal.returns-then-fault-gt0
returns-then-fault-gt0 c = (
  λ t. later_leads (net_of c.args.graph.now) c.args.fault c.in-Some-forced._value (forces (net_of c.args.graph.now) c.args.fault c.in-Some.kind c.in-Some-forced._value (sym c.kind.ensures ∙ c.in-Some.is) (sym c.forced.ensures ∙ c.in-Some-forced.is)) c.if-fault-gt0.true,
  λ l. refl,
)

pub drives_one-requires : goal.drives_one-requires
drives_one-requires c = live (net_of c.args.graph.now) c.args.fault.gate.0 c.in-Some.kind (sym c.kind.ensures ∙ c.in-Some.is)

pub returns : goal.returns
returns c =
    let first : c.args.fault.position ≡ 0 = omega (arith, c.if-fault-gt0.false) in (
      λ t. (let d = c.drives_one.ensures.0 t in first_leads (net_of c.args.graph.now) c.args.fault c.in-Some-forced._value d.0 d.1.0
          (forces (net_of c.args.graph.now) c.args.fault c.in-Some.kind c.in-Some-forced._value (sym c.kind.ensures ∙ c.in-Some.is) (sym c.forced.ensures ∙ c.in-Some-forced.is)) first d.1.1),
      λ l. c.drives_one.ensures.1 (first_drives (net_of c.args.graph.now) c.args.fault first l),
    )
