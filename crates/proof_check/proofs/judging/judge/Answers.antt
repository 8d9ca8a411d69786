use Rattle.std.proofs.Common.{ℕ, ◌≡◌}
use Rattle.equal_evidence.specs.Evidence.{IsProof}
use Rattle.equal_evidence.specs.Shown.{IsEvidenceFor}
use Rattle.equal_evidence.specs.declared.evidence.Evidence.{Evidence}
use Rattle.gate_graph.specs.Circuit.{net_of}
use Rattle.proof_check.specs.Refusals.{IsJudgeRefused, IsOfText}
use Rattle.proof_check.specs.declared.refusal.JudgeRefusal.{JudgeRefusal}
use Rattle.proof_check.specs.declared.refusal.JudgeRefusal.TheVariants as refusal
use Rattle.proof_check.proofs.Judgings.{flaw_of_text, flaw_only, flaw_refused, pin_for, same_names_only, shown_for, unlike_no_text, unlike_refused, unread_never, unread_only, unread_refused}
use Rattle.proof_check.proofs.Looping.{handed_on, none_given}
use Rattle.proof_check.proofs.judging.judge.Goals as goal

pub returns-in_err-graph-clause-why : goal.returns-in_err-graph-clause-why
returns-in_err-graph-clause-why c = handed_on c.from_residual.result c.in_err-graph.field-0.0 (λ (r : JudgeRefusal). IsJudgeRefused c.args.a.now c.args.b.now c.args.text.now r) c.from_residual.ensures.1 (unlike_refused c.args.a.now c.args.b.now c.args.text.now c.in_err-graph.field-0.0 c.in_err-graph.ensures.refused)

pub returns-in_err-graph-clause-refused : goal.returns-in_err-graph-clause-refused
returns-in_err-graph-clause-refused c =
    handed_on c.from_residual.result c.in_err-graph.field-0.0 (λ (r : JudgeRefusal). IsOfText r → (budget : ℕ) (e : Evidence) → IsProof c.args.text.now budget e → IsEvidenceFor c.args.a.now c.args.b.now budget e → ⊥) c.from_residual.ensures.1
    (λ t b e p x. unlike_no_text c.args.a.now c.args.b.now c.in_err-graph.field-0.0 c.in_err-graph.ensures.refused t)

pub returns-in_err-graph-clause-accepted : goal.returns-in_err-graph-clause-accepted
returns-in_err-graph-clause-accepted c = λ b e names p x. (none_given c.from_residual.result _ _ c.from_residual.ensures.1, handed_on c.from_residual.result c.in_err-graph.field-0.0 (λ (r : JudgeRefusal). r ≡ refusal.NoMemory) c.from_residual.ensures.1 (same_names_only c.args.a.now c.args.b.now c.in_err-graph.field-0.0 names c.in_err-graph.ensures.refused))

pub returns-in_err-read-clause-why : goal.returns-in_err-read-clause-why
returns-in_err-read-clause-why c = handed_on c.from_residual-in_err-read.result c.in_err-read.field-0.0 (λ (r : JudgeRefusal). IsJudgeRefused c.args.a.now c.args.b.now c.args.text.now r) c.from_residual-in_err-read.ensures.1 (unread_refused c.args.a.now c.args.b.now c.args.text.now c.in_err-read.field-0.0 c.in_err-read.ensures.refused)

pub returns-in_err-read-clause-refused : goal.returns-in_err-read-clause-refused
returns-in_err-read-clause-refused c =
    handed_on c.from_residual-in_err-read.result c.in_err-read.field-0.0 (λ (r : JudgeRefusal). IsOfText r → (budget : ℕ) (e : Evidence) → IsProof c.args.text.now budget e → IsEvidenceFor c.args.a.now c.args.b.now budget e → ⊥) c.from_residual-in_err-read.ensures.1
    (λ t b e p x. unread_never c.args.text.now b e c.in_err-read.field-0.0 c.in_err-read.ensures.refused t p)

pub returns-in_err-read-clause-accepted : goal.returns-in_err-read-clause-accepted
returns-in_err-read-clause-accepted c = λ b e names p x. (none_given c.from_residual-in_err-read.result _ _ c.from_residual-in_err-read.ensures.1, handed_on c.from_residual-in_err-read.result c.in_err-read.field-0.0 (λ (r : JudgeRefusal). r ≡ refusal.NoMemory) c.from_residual-in_err-read.ensures.1 (unread_only c.args.text.now b e c.in_err-read.field-0.0 p c.in_err-read.ensures.refused))

pub returns-in_err-weigh-clause-why : goal.returns-in_err-weigh-clause-why
returns-in_err-weigh-clause-why c = handed_on c.from_residual-in_err-weigh.result c.in_err-weigh.field-0.0 (λ (r : JudgeRefusal). IsJudgeRefused c.args.a.now c.args.b.now c.args.text.now r) c.from_residual-in_err-weigh.ensures.1 (flaw_refused c.evidence_is_shown.ensures c.flaws_hide.ensures c.args.a.now c.args.b.now c.args.text.now (net_of c.in_ok-graph.graph) c.in_ok-graph.fault c.in_ok-graph.ensures.net c.in_ok-graph.ensures.fault c.in_ok-graph.ensures.comparable c.well_formed-2.ensures.net c.in_ok-read.read.budget c.in_ok-read.read.evidence c.in_ok-read.ensures.read c.in_ok-read.ensures.one c.in_err-weigh.field-0.0 c.in_err-weigh.ensures.refused)

pub returns-in_err-weigh-clause-refused : goal.returns-in_err-weigh-clause-refused
returns-in_err-weigh-clause-refused c =
    handed_on c.from_residual-in_err-weigh.result c.in_err-weigh.field-0.0 (λ (r : JudgeRefusal). IsOfText r → (budget : ℕ) (e : Evidence) → IsProof c.args.text.now budget e → IsEvidenceFor c.args.a.now c.args.b.now budget e → ⊥) c.from_residual-in_err-weigh.ensures.1
    (λ t b e p x. flaw_of_text c.evidence_is_shown.ensures c.flaws_hide.ensures c.args.a.now c.args.b.now c.args.text.now (net_of c.in_ok-graph.graph) c.in_ok-graph.fault c.in_ok-graph.ensures.net c.in_ok-graph.ensures.fault c.in_ok-graph.ensures.comparable c.well_formed-2.ensures.net c.in_ok-read.read.budget c.in_ok-read.read.evidence c.in_ok-read.ensures.read c.in_ok-read.ensures.one c.in_err-weigh.field-0.0 c.in_err-weigh.ensures.refused t b e p x)

pub returns-in_err-weigh-clause-accepted : goal.returns-in_err-weigh-clause-accepted
returns-in_err-weigh-clause-accepted c = λ b e names p x. (none_given c.from_residual-in_err-weigh.result _ _ c.from_residual-in_err-weigh.ensures.1, handed_on c.from_residual-in_err-weigh.result c.in_err-weigh.field-0.0 (λ (r : JudgeRefusal). r ≡ refusal.NoMemory) c.from_residual-in_err-weigh.ensures.1 (flaw_only c.evidence_is_shown.ensures c.flaws_hide.ensures c.args.a.now c.args.b.now c.args.text.now (net_of c.in_ok-graph.graph) c.in_ok-graph.fault c.in_ok-graph.ensures.net c.in_ok-graph.ensures.fault c.in_ok-graph.ensures.comparable c.well_formed-2.ensures.net c.in_ok-read.read.budget c.in_ok-read.read.evidence c.in_ok-read.ensures.read c.in_ok-read.ensures.one c.in_err-weigh.field-0.0 c.in_err-weigh.ensures.refused b e p x))

pub returns-clause-judged : goal.returns-clause-judged
returns-clause-judged c = c.in_ok-read.ensures.read

pub returns-clause-shown : goal.returns-clause-shown
returns-clause-shown c =
    (shown_for c.evidence_is_shown.ensures c.args.a.now c.args.b.now (net_of c.in_ok-graph.graph) c.in_ok-graph.fault c.in_ok-read.read.budget c.in_ok-read.read.evidence c.in_ok-graph.ensures.net c.in_ok-graph.ensures.fault c.in_ok-graph.ensures.comparable c.well_formed-2.ensures.net).0
    c.in_ok-weigh.ensures.shown

pub returns-clause-comparable : goal.returns-clause-comparable
returns-clause-comparable c = c.in_ok-graph.ensures.comparable

pub returns-clause-accepted : goal.returns-clause-accepted
returns-clause-accepted c = λ b e names p x. (c.in_ok-read.ensures.one b e p, tt)

pub weigh-requires-clause-wires : goal.weigh-requires-clause-wires
weigh-requires-clause-wires c = c.in_ok-graph.ensures.wires

pub weigh-requires-clause-nodes : goal.weigh-requires-clause-nodes
weigh-requires-clause-nodes c = c.in_ok-graph.ensures.nodes

pub weigh-requires-clause-observed : goal.weigh-requires-clause-observed
weigh-requires-clause-observed c = c.in_ok-graph.ensures.observed

pub weigh-requires-clause-held : goal.weigh-requires-clause-held
weigh-requires-clause-held c = c.in_ok-graph.ensures.held

pub weigh-requires-clause-pin : goal.weigh-requires-clause-pin
weigh-requires-clause-pin c = pin_for c.args.a.now c.args.b.now (net_of c.in_ok-graph.graph) c.in_ok-graph.fault c.in_ok-graph.ensures.net c.in_ok-graph.ensures.fault

pub weigh-requires-clause-written : goal.weigh-requires-clause-written
weigh-requires-clause-written c = c.in_ok-read.ensures.read.written
