use Rattle.std.proofs.Common.{◌≡◌, ◌<◌, ◌∙◌, sym, subst, map, List, ℕ, length, arith}
use Rattle.std.proofs.lemmas.List.{length-map}
use Rattle.std.proofs.lemmas.Result.{on_ok_weaker}
use Rattle.rm_model.specs.Inner.Search.{State, LeadsTo, IsSettled}
use Rattle.rm_model.specs.Inner.SearchView.{items_of, state_of}
use Rattle.rm_model.proofs.SearchLemmas.{ranks-small}
use Rattle.rm_model.proofs.LookLemmas.{driver-ranked, driver-waited, looked-allows, when_stopped, when_done}
use Rattle.rm_model.proofs.rank_search.Search.look_at_unranked.Goals as goal

pub look_further-looked-requires : goal.look_further-looked-requires
look_further-looked-requires c =
    let within : c.args.cover < length (map items_of c.args.drivers.now) = omega (arith, c.requires.cover, length-map c.args.drivers.now items_of) in
    let same : length (map items_of c.args.drivers.now) ≡ length c.args.drivers.now = length-map c.args.drivers.now items_of in
    let s : State = state_of c.args.self.now in
    record {
      cover = omega (arith, c.requires.sound.looked_length, within);
      looked = looked-allows (map items_of c.args.drivers.now) s c.requires.sound c.requires.known c.args.cover within c.list_of-list.result.now c.list_of-list.ensures _;
      room = omega (arith, c.requires.sound.ranks_length, c.requires.room, same);
      small = ranks-small (map items_of c.args.drivers.now) s c.requires.sound;
      known = λ k d lt. driver-ranked (map items_of c.args.drivers.now) s c.requires.sound c.requires.known c.args.cover within c.list_of-list.result.now c.list_of-list.ensures k d lt;
    }

pub wait-requires : goal.wait-requires
wait-requires c =
    let within : c.args.cover < length (map items_of c.args.drivers.now) = omega (arith, c.requires.cover, length-map c.args.drivers.now items_of) in
    record {
      driver = omega (arith, length-map c.args.self.now.waiting.items items_of, driver-waited (map items_of c.args.drivers.now) (state_of c.args.self.now) c.requires.sound c.requires.known c.args.cover within c.list_of-list.result.now c.list_of-list.ensures c.look_further-looked.result.count 0 c.if-looked-list.true);
      cover = omega (arith, c.requires.sound.looked_length, within);
    }

pub rank-requires : goal.rank-requires
rank-requires c =
    let within : c.args.cover < length (map items_of c.args.drivers.now) = omega (arith, c.requires.cover, length-map c.args.drivers.now items_of) in
    record {
      cover = omega (arith, c.requires.sound.looked_length, within);
      same = c.requires.sound.looked_length ∙ sym c.requires.sound.ranks_length;
    }

pub returns-then-looked-list : goal.returns-then-looked-list
returns-then-looked-list c =
    let drivers : List (List ℕ) = map items_of c.args.drivers.now in
    let within : c.args.cover < length drivers = omega (arith, c.requires.cover, length-map c.args.drivers.now items_of) in
    let h = when_stopped drivers (state_of c.args.self.now) c.requires.sound c.requires.known c.args.cover within c.list_of-list.result.now c.list_of-list.ensures c.look_further-looked.result c.look_further-looked.ensures.looked c.if-looked-list.true (c.look_further-looked.ensures.stopped c.if-looked-list.true) in
    record {
      leads = on_ok_weaker c.wait.result (λ e. subst (λ (t : State). LeadsTo drivers (state_of c.args.self.now) t) (sym e) h.leads) c.wait.ensures;
      settled = on_ok_weaker c.wait.result (λ e place. subst (λ (t : State). IsSettled drivers place t c.args.cover) (sym e) (h.settled place)) c.wait.ensures;
    }

pub returns-else-looked-list : goal.returns-else-looked-list
returns-else-looked-list c =
    let drivers : List (List ℕ) = map items_of c.args.drivers.now in
    let within : c.args.cover < length drivers = omega (arith, c.requires.cover, length-map c.args.drivers.now items_of) in
    let h = when_done drivers (state_of c.args.self.now) c.requires.sound c.requires.known c.args.cover within c.list_of-list.result.now c.list_of-list.ensures c.look_further-looked.result c.look_further-looked.ensures.looked c.if-looked-list.false c.requires.unknown in
    record {
      leads = on_ok_weaker c.rank.result (λ e. subst (λ (t : State). LeadsTo drivers (state_of c.args.self.now) t) (sym e) h.leads) c.rank.ensures;
      settled = on_ok_weaker c.rank.result (λ e place. subst (λ (t : State). IsSettled drivers place t c.args.cover) (sym e) (h.settled place)) c.rank.ensures;
    }
