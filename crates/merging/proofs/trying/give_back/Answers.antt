use Rattle.std.proofs.Common.{◌≡◌, refl, sym, ◌∙◌, ap, subst}
use Rattle.gate_net.specs.Edits.{IsSameBut}
use Rattle.gate_net.specs.Net.{Net}
use Rattle.gate_graph.specs.Circuit.{net_of}
use Rattle.gate_graph.specs.Holds.{pins_held}
use Rattle.rm_base.specs.Numbers.{numbers_of}
use Rattle.wire_edit.specs.Tried.{Tried}
use Rattle.merging.specs.Inner.Going.{IsLent}
use Rattle.merging.proofs.Merges.{back_net, back_held, lent_back}
use Rattle.merging.proofs.trying.give_back.Goals as goal

pub follow_back-requires : goal.follow_back-requires
follow_back-requires c =
    let r = c.requires.back in
    let start : Net = net_of r.0.trial.graph in
    let is : net_of c.take_back.new.self.graph ≡ start = back_net r.0.trial c.args.space.now.trial c.take_back.new.self r.1.0 r.1.1.1.stays c.take_back.ensures.graph in
    let same : IsSameBut start (net_of c.args.space.now.trial.graph) (numbers_of c.args.space.now.touched.items) = r.1.1.1.touches start (λ x none. refl) in
    record { back = (net_of c.args.space.now.trial.graph, (r.1.1.1.serves, subst (λ (n : Net). IsSameBut n (net_of c.args.space.now.trial.graph) (numbers_of c.args.space.now.touched.items)) (sym is) same)) }

pub returns : goal.returns
returns c = record {
  back = λ start lent none follows.
      let t : Tried = start.trial in
      let b = c.take_back.ensures in
      record {
        net = ap (λ (u : Tried). net_of u.graph) c.follow_back.ensures.trial ∙ back_net t c.args.space.now.trial c.take_back.new.self lent follows.stays b.graph;
        holds = ap (λ (u : Tried). pins_held u.graph) c.follow_back.ensures.trial ∙ back_held t c.args.space.now.trial c.take_back.new.self lent follows.stays b.held;
        lent = subst IsLent (sym c.follow_back.ensures.trial) (lent_back t c.args.space.now.trial c.take_back.new.self lent follows.stays b.graph b.entries b.room b.first);
        serves = c.in_ok-follow_back.ensures.serves;
      };
}
