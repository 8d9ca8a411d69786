use Rattle.std.proofs.Common.{ap, arith, subst, ◌∙◌, ◌≡◌}
use Rattle.std.specs.Prelude.{Err}
use Rattle.gate_graph.specs.Circuit.{Circuit, net_of}
use Rattle.gate_net.specs.Net.{IsWellFormed, Net}
use Rattle.wire_edit.proofs.Public.{never_full}
use Rattle.wire_edit.specs.Tried.{Tidies}
use Rattle.wire_edit.specs.Work.{work}
use Rattle.wire_edit.specs.declared.room.Room.{Room}
use Rattle.care_opt.proofs.working.next_step.Goals as goal

pub returns : goal.returns
returns c = (
  c.keep.new.self,
  record {
    is_kept = record { net = c.keep.ensures.net; space = ap (λ (r : Room). r.steps) c.keep.ensures.first ∙ ap (λ (r : Room). r.steps) c.keep.ensures.room; start = c.keep.ensures.start; room = ap (λ (r : Room). r.steps) c.keep.ensures.room };
    tidies = subst (Tidies c.keep.new.self c.tidy_one.new.self) c.in-Ok.is c.tidy_one.ensures.tidies;
    start = c.tidy_one.ensures.start;
    first = c.tidy_one.ensures.first;
  },
)

pub unreachable-requires : goal.unreachable-requires
unreachable-requires c =
    let formed : IsWellFormed (net_of c.keep.new.self.graph) = subst (λ (v : Circuit). IsWellFormed (net_of v)) c.graph.ensures c.well_formed-2.ensures.net in
    let full : Tidies c.keep.new.self c.tidy_one.new.self (Err c.in-Err._refusal) = subst (Tidies c.keep.new.self c.tidy_one.new.self) c.in-Err.is c.tidy_one.ensures.tidies in
    let same : work (net_of c.keep.new.self.graph) ≡ work (net_of c.args.trial.now.graph) = ap (λ (n : Net). work n) c.keep.ensures.net in
    let room : c.keep.new.self.room.steps ≡ c.args.trial.now.first.steps = ap (λ (r : Room). r.steps) c.keep.ensures.room in
    let space = c.requires.space in
    never_full c.room_suffices.ensures.tidying c.keep.new.self c.tidy_one.new.self c.in-Err._refusal formed (omega (arith, same, room, space)) full
