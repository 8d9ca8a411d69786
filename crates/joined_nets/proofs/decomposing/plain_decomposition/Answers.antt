use Rattle.std.proofs.Common.{◌<◌, ◌≤◌, ◌^◌, ◌∙◌, ap, subst, sym, ℕ}
use Rattle.cover_decompose.specs.Count.{decomposed}
use Rattle.cover_decompose.specs.Decomposition.{net_of_model}
use Rattle.cover_decompose.specs.Spelled.{spelled}
use Rattle.joined_nets.specs.Growing.{IsOrdered, IsSmall}
use Rattle.joined_nets.specs.Ready.{IsReady}
use Rattle.rm_model.specs.declared.parts.Model.{Model}
use Rattle.joined_nets.proofs.decomposing.plain_decomposition.Goals as goal

pub ordered_decomposition-requires : goal.ordered_decomposition-requires
ordered_decomposition-requires c =
    let m = c.args.model.now in
    let stay = c.spelled_models_stay.ensures in
    let ready = c.requires.ready in
    let fit : IsReady (spelled m) = record {
      formed = stay.formed m ready.formed;
      ranked = stay.ranked m ready.formed ready.ranked;
      covers = subst (λ (n : ℕ). n < 2 ^ 32) (sym (stay.covers m)) ready.covers;
      sources = ready.sources;
      observed = ready.observed;
      fits = c.in_ok-made.ensures.fits;
    } in
    record { ready = subst IsReady (sym c.in_ok-made.ensures.spelled) fit }

pub returns-clause-net : goal.returns-clause-net
returns-clause-net c = c.in_ok-graph.ensures.net ∙ ap net_of_model c.in_ok-made.ensures.spelled

pub returns-clause-within : goal.returns-clause-within
returns-clause-within c = subst (λ (m : Model). decomposed m ≤ 65536) c.in_ok-made.ensures.spelled c.in_ok-graph.ensures.within

pub returns-clause-order : goal.returns-clause-order
returns-clause-order c = subst (λ (m : Model). IsOrdered (net_of_model m)) c.in_ok-made.ensures.spelled c.in_ok-graph.ensures.order

pub returns-clause-small : goal.returns-clause-small
returns-clause-small c = subst (λ (m : Model). IsSmall (net_of_model m)) c.in_ok-made.ensures.spelled c.in_ok-graph.ensures.small
