use Rattle.std.proofs.Common.{Bool, ap, false, refl, sym, true, ◌∙◌, ◌≡◌}
use Rattle.std.specs.Prelude.{not}
use Rattle.gate_net.specs.Values.{same_bool}
use Rattle.refutation.proofs.Public.{beq_same}
use Rattle.candidate_wires.proofs.Choices.{junction_one}
use Rattle.candidate_wires.proofs.choosing.choice_at.Goals as goal
use Rattle.rm_base.proofs.Public.{false_from_not, some_same, true_from_not}

pub returns-then-node-gate : goal.returns-then-node-gate
returns-then-node-gate c net held junction reached driving known fresh may = may.apart c.if-node-gate.true

pub returns-then-has : goal.returns-then-has
returns-then-has c net held junction reached driving known fresh may = may.unreached (reached.sound c.args.source.node.0 (c.if-has.ensures.0 refl))

pub returns-then-has-2 : goal.returns-then-has-2
returns-then-has-2 c net held junction reached driving known fresh may =
    let reads = (driving c.args.source.node.0).0 (c.if-has-2.ensures.0 refl) in
    may.unread reads.0 reads.1

pub returns-then-source-control : goal.returns-then-source-control
returns-then-source-control c net held junction reached driving known = (
  record {
    kind = known.0.kind;
    is_kind = known.0.is_kind;
    no_constant = known.0.no_constant;
    equal = known.0.equal;
    value = c.args.source.value;
    known = known.0.known;
    apart = c.if-node-gate.false;
    unreached = λ r. let wrong : false ≡ true = c.if-has.ensures.1 (reached.all c.args.source.node.0 r) in absurd (cc);
    unread = λ p reads. let wrong : false ≡ true = c.if-has-2.ensures.1 ((driving c.args.source.node.0).1 (p, reads)) in absurd (cc);
    control = c.args.control;
    junction = junction;
    as_fresh = ap not (sym c.if-source-control.true ∙ beq_same c.args.source.value c.args.control);
    not_wanted = λ e. let wrong : false ≡ true = e in absurd (cc);
  },
  (refl, refl),
)

pub returns-then-not-source : goal.returns-then-not-source
returns-then-not-source c net held junction reached driving known fresh may =
    let value : may.value ≡ c.args.source.value = some_same (sym may.known ∙ known.0.known) in
    let control : may.control ≡ c.args.control = junction_one net c.args.gate.0 may.control c.args.control may.junction junction in
    let fresh_is : fresh ≡ not (same_bool c.args.source.value c.args.control) = may.as_fresh ∙ ap (λ (b : Bool). not (same_bool b may.control)) value ∙ ap (λ (b : Bool). not (same_bool c.args.source.value b)) control in
    let ever : fresh ≡ true = fresh_is ∙ ap not (sym (beq_same c.args.source.value c.args.control) ∙ c.if-source-control.false) in
    let has : c.args.source.has_no_not ≡ true = known.1.1 (may.not_wanted ever) in
    let never : c.args.source.has_no_not ≡ false = false_from_not c.args.source.has_no_not c.if-not-source.true in
    let wrong : true ≡ false = sym has ∙ never in
    absurd (cc)

pub returns : goal.returns
returns c net held junction reached driving known = (
  record {
    kind = known.0.kind;
    is_kind = known.0.is_kind;
    no_constant = known.0.no_constant;
    equal = known.0.equal;
    value = c.args.source.value;
    known = known.0.known;
    apart = c.if-node-gate.false;
    unreached = λ r. let wrong : false ≡ true = c.if-has.ensures.1 (reached.all c.args.source.node.0 r) in absurd (cc);
    unread = λ p reads. let wrong : false ≡ true = c.if-has-2.ensures.1 ((driving c.args.source.node.0).1 (p, reads)) in absurd (cc);
    control = c.args.control;
    junction = junction;
    as_fresh = ap not (sym c.if-source-control.false ∙ beq_same c.args.source.value c.args.control);
    not_wanted = λ _. known.1.0 (true_from_not c.args.source.has_no_not c.if-not-source.false);
  },
  (refl, refl),
)
