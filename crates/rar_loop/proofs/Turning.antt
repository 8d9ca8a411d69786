-- A turn of perturbation from place to place.
use Rattle.std.proofs.Common.{◌≡◌, ◌<◌, ◌≤◌, inl, inr, ℕ, suc, ◌+◌, ◌*◌, None, Option, Some, Bool, true, false, List, [], ◌++◌, length, refl, sym, ◌∙◌, ap, subst, append_assoc, arith}
use Rattle.std.specs.Prelude.{◌||◌, ◌&&◌, nat_eq, nat_lt}
use Rattle.std.proofs.lemmas.Bool.{eq-eqb, lt-ltb}
use Rattle.std.proofs.lemmas.List.{append-nil, length-append}
use Rattle.rm_base.specs.Files.{Files}
use Rattle.rm_base.specs.declared.numbers.Fault.{Fault}
use Rattle.rm_base.specs.declared.settings.Made.{Made}
use Rattle.gate_net.specs.Net.{Net, wire_count}
use Rattle.gate_graph.specs.Circuit.{Circuit, net_of}
use Rattle.wire_edit.specs.Order.{IsTidy}
use Rattle.wire_edit.specs.declared.steps.Step.{Step}
use Rattle.candidate_wires.specs.Additions.{net_after}
use Rattle.candidate_wires.specs.Pairs.{is_before}
use Rattle.journal_ranges.proofs.Public.{fits_then}
use Rattle.journal_ranges.specs.Ranges.{AreFit}
use Rattle.journal_text.specs.Joining.{RunsJoin, TextsAppend}
use Rattle.journal_text.specs.declared.record.Record.{Record}
use Rattle.journal_text.specs.Runs.{AcceptedTo, HasAppended, HasAppendedPart, IsStopped, made_by, none_made, records_text, steps_of}
use Rattle.rar_loop.specs.Ended.{AreFew}
use Rattle.rar_loop.specs.Perturbed.{AreExchanges, HasPerturbed, comes_behind, none as no_exchange, more as one_exchange_more}
use Rattle.rar_loop.specs.Sizes.{IsSame, IsWithin, most_steps}
use Rattle.rar_loop.specs.Inner.Exchanging.{IsExchanged}
use Rattle.rar_loop.specs.Inner.Improving.{HasBegun}
use Rattle.rar_loop.specs.Inner.Perturbing.{IsPast, IsPerturbing}
use Rattle.rar_loop.proofs.Blocks.{accepted_after}
use Rattle.rar_loop.proofs.Sizing.{within_same, within_then}

-- PLACES
past_gate : (last : Option Fault) (gate position : ℕ) → IsPast last gate position → IsPast last (gate + 1) 0
past_gate None gate position past = tt
past_gate (Some last) gate position (inl lt) = inl (omega (arith, lt))
past_gate (Some last) gate position (inr at) = let e : last.gate.0 ≡ gate = at.0 in inl (omega (arith, e))

past_place : (last : Option Fault) (gate position : ℕ) → IsPast last gate position → IsPast last gate (position + 1)
past_place None gate position past = tt
past_place (Some last) gate position (inl lt) = inl lt
past_place (Some last) gate position (inr at) = let lt : last.position < position = at.1 in inr (at.0, omega (arith, lt))

before_by_gate : (last target : Fault) → last.gate.0 < target.gate.0 → is_before target last ≡ true
before_by_gate last target lt = rw (lt-ltb last.gate.0 target.gate.0 lt) refl

or_true : (a b : Bool) → b ≡ true → (a || b) ≡ true
or_true true b e = refl
or_true false b e = e

before_by_position : (last target : Fault) → last.gate.0 ≡ target.gate.0 → last.position < target.position → is_before target last ≡ true
before_by_position last target same lt =
    let e : nat_eq last.gate.0 target.gate.0 ≡ true = eq-eqb last.gate.0 target.gate.0 same in
    let l : nat_lt last.position target.position ≡ true = lt-ltb last.position target.position lt in
    or_true (nat_lt last.gate.0 target.gate.0) (nat_eq last.gate.0 target.gate.0 && nat_lt last.position target.position) (rw (e, l) refl)

-- a target at the place comes behind the last one
behind : (last : Option Fault) (gate position : ℕ) (target : Fault) → IsPast last gate position → target.gate.0 ≡ gate → target.position ≡ position → comes_behind last target ≡ true
behind None gate position target past g p = refl
behind (Some last) gate position target (inl lt) g p = before_by_gate last target (omega (arith, lt, g))
behind (Some last) gate position target (inr at) g p = let lt : last.position < position = at.1 in before_by_position last target (at.0 ∙ sym g) (omega (arith, lt, p))

-- ON THE WAY
-- a tidied and swept graph is the beginning of a turn
pub turn_first : (before swept : Circuit) (depth limit : ℕ) (records : List Record) (made made' : Made) (old now : Option Files) (name : List ℕ) → HasBegun before depth swept records → HasAppended old now name (records_text records) → AreFit records → made ≡ none_made → made' ≡ made_by made (steps_of records)
    → IsPerturbing before depth limit limit 0 0 swept made' old now name
turn_first before swept depth limit records made made' old now name b written fit none counts =
    let start : Net = net_after (net_of before) (steps_of records) in
    record {
      records = records;
      accepted = b.accepted;
      first = steps_of records;
      more = [];
      are = sym (append-nil (steps_of records));
      removals = b.removals;
      last = None;
      count = 0;
      exchanges = subst (λ (n : Net). AreExchanges start depth [] n None 0) (accepted_after (net_of before) (net_of swept) records b.accepted) no_exchange;
      past = tt;
      tried = omega arith;
      fewer = b.fewer;
      tidy = b.tidy;
      within = b.within;
      written = written;
      fit = fit;
      counts = counts ∙ ap (λ (m : Made). made_by m (steps_of records)) none;
      few = omega (arith, b.few);
    }

-- without an exchange the turn is one place further
pub turn_still : (before mid same : Circuit) (depth limit left left' gate position : ℕ) (made : Made) (old now : Option Files) (name : List ℕ) → IsSame mid same → left' ≤ left → IsPerturbing before depth limit left gate position mid made old now name
    → IsPerturbing before depth limit left' gate (position + 1) same made old now name
turn_still before mid same depth limit left left' gate position made old now name s less p =
    record {
      records = p.records;
      accepted = subst (λ (n : Net). AcceptedTo (net_of before) p.records n) (sym s.net) p.accepted;
      first = p.first;
      more = p.more;
      are = p.are;
      removals = p.removals;
      last = p.last;
      count = p.count;
      exchanges = subst (λ (n : Net). AreExchanges (net_after (net_of before) p.first) depth p.more n p.last p.count) (sym s.net) p.exchanges;
      past = past_place p.last gate position p.past;
      tried = omega (arith, p.tried, less);
      fewer = subst (λ (n : Net). wire_count n ≤ wire_count (net_of before)) (sym s.net) p.fewer;
      tidy = subst IsTidy (sym s.net) p.tidy;
      within = within_then before mid same p.within (within_same mid same s);
      written = p.written;
      fit = p.fit;
      counts = p.counts;
      few = p.few;
    }

-- behind the last place of a gate comes the first of the next one
pub turn_next : (before mid : Circuit) (depth limit left gate position : ℕ) (made : Made) (old now : Option Files) (name : List ℕ) → IsPerturbing before depth limit left gate position mid made old now name
    → IsPerturbing before depth limit left (gate + 1) 0 mid made old now name
turn_next before mid depth limit left gate position made old now name p = record {
  records = p.records;
  accepted = p.accepted;
  first = p.first;
  more = p.more;
  are = p.are;
  removals = p.removals;
  last = p.last;
  count = p.count;
  exchanges = p.exchanges;
  past = past_gate p.last gate position p.past;
  tried = p.tried;
  fewer = p.fewer;
  tidy = p.tidy;
  within = p.within;
  written = p.written;
  fit = p.fit;
  counts = p.counts;
  few = p.few;
}

-- an exchange is one more
pub turn_more : TextsAppend → RunsJoin → (before mid next : Circuit) (target : Fault) (depth limit left left' gate position : ℕ) (records : List Record) (made made' : Made) (old now now' : Option Files) (name : List ℕ)
    → IsExchanged mid target depth records next → target.gate.0 ≡ gate → target.position ≡ position → left' < left
    → HasAppended now now' name (records_text records) → AreFit records → made' ≡ made_by made (steps_of records)
    → IsPerturbing before depth limit left gate position mid made old now name → IsPerturbing before depth limit left' gate (position + 1) next made' old now' name
turn_more texts join before mid next target depth limit left left' gate position records made made' old now now' name e g q less written fit counts p =
    let all : List Record = p.records ++ records in
    let size : length all ≡ length p.records + length records = length-append p.records records in
    record {
      records = all;
      accepted = join.accepted (net_of before) (net_of mid) (net_of next) p.records records p.accepted e.accepted;
      first = p.first;
      more = p.more ++ steps_of records;
      are = join.steps p.records records ∙ ap (λ (ss : List Step). ss ++ steps_of records) p.are ∙ append_assoc p.first p.more (steps_of records);
      removals = p.removals;
      last = Some target;
      count = suc p.count;
      exchanges = one_exchange_more p.exchanges target (behind p.last gate position target p.past g q) (steps_of records) (net_of next) e.exchange;
      past = inr (g, omega (arith, q));
      tried = omega (arith, p.tried, less);
      fewer = omega (arith, p.fewer, e.exchange.wires);
      tidy = e.tidy;
      within = within_then before mid next p.within e.within;
      written = subst (λ (xs : List ℕ). HasAppended old now' name xs) (sym (join.text p.records records)) (texts.follows old now now' name (records_text p.records) (records_text records) p.written written);
      fit = fits_then p.records records p.fit fit;
      counts = counts ∙ ap (λ (m : Made). made_by m (steps_of records)) p.counts ∙ sym (join.made none_made (steps_of p.records) (steps_of records)) ∙ ap (made_by none_made) (sym (join.steps p.records records));
      few = omega (arith, p.few, e.few, size);
    }

-- COUNTS
-- as few steps of each kind as a turn of so many tries has
pub turn_few : RunsJoin → (before mid : Circuit) (depth limit left gate position : ℕ) (made : Made) (old now : Option Files) (name : List ℕ) → limit ≤ 1000000 → IsPerturbing before depth limit left gate position mid made old now name → AreFew made
turn_few join before mid depth limit left gate position made old now name small p =
    let sum : (made_by none_made (steps_of p.records)).adds + (made_by none_made (steps_of p.records)).fixes + (made_by none_made (steps_of p.records)).local ≡ 0 + 0 + 0 + length (steps_of p.records) = join.counts none_made (steps_of p.records) in
    let each : length (steps_of p.records) ≡ length p.records = join.each (net_of before) (net_of mid) p.records p.accepted in
    let few : length p.records ≤ 1000001 * most_steps = few_records (length p.records) p.count (omega (arith, p.tried, small)) p.few in
    subst AreFew (sym p.counts) (record { adds = omega (arith, sum, each, few); fixes = omega (arith, sum, each, few); local = omega (arith, sum, each, few) })
  where
    few_records : (n count : ℕ) → count ≤ 1000000 → n ≤ (1 + count) * most_steps → n ≤ 1000001 * most_steps
    few_records n count le few = omega (arith, le, few)

-- THE END
pub turn_done : (before mid last : Circuit) (depth limit left gate : ℕ) (made : Made) (old now : Option Files) (name : List ℕ) → IsSame mid last → (used : ℕ) → used + left ≡ limit → IsPerturbing before depth limit left gate 0 mid made old now name
    → HasPerturbed (net_of before) (net_of last) depth limit used made old now name
turn_done before mid last depth limit left gate made old now name s used sum p = record {
  records = p.records;
  accepted = subst (λ (n : Net). AcceptedTo (net_of before) p.records n) (sym s.net) p.accepted;
  turn = record {
    first = p.first;
    more = p.more;
    are = p.are;
    removals = p.removals;
    last = p.last;
    count = p.count;
    exchanges = subst (λ (n : Net). AreExchanges (net_after (net_of before) p.first) depth p.more n p.last p.count) (sym s.net) p.exchanges;
    tried = omega (arith, p.tried, sum);
    within = omega (arith, sum);
  };
  fewer = subst (λ (n : Net). wire_count n ≤ wire_count (net_of before)) (sym s.net) p.fewer;
  tidy = subst IsTidy (sym s.net) p.tidy;
  written = p.written;
  fit = p.fit;
  counted = p.counts;
}

pub turn_within : (before mid last : Circuit) (depth limit left gate position : ℕ) (made : Made) (old now : Option Files) (name : List ℕ) → IsSame mid last → IsPerturbing before depth limit left gate position mid made old now name → IsWithin before last
turn_within before mid last depth limit left gate position made old now name s p = within_then before mid last p.within (within_same mid last s)

-- WHERE IT STOPS
pub turn_stopped : TextsAppend → (before mid : Circuit) (depth limit left gate position : ℕ) (made : Made) (old now : Option Files) (name : List ℕ) → IsPerturbing before depth limit left gate position mid made old now name → IsStopped (net_of before) old now name
turn_stopped texts before mid depth limit left gate position made old now name p = record { records = p.records; after = net_of mid; accepted = p.accepted; written = texts.whole old now name (records_text p.records) p.written }

pub turn_stopped_more : TextsAppend → RunsJoin → (before mid next : Circuit) (target : Fault) (depth limit left gate position : ℕ) (records : List Record) (made : Made) (old now now' : Option Files) (name : List ℕ) → IsExchanged mid target depth records next
    → HasAppendedPart now now' name (records_text records) → IsPerturbing before depth limit left gate position mid made old now name → IsStopped (net_of before) old now' name
turn_stopped_more texts join before mid next target depth limit left gate position records made old now now' name e part p = record {
  records = p.records ++ records;
  after = net_of next;
  accepted = join.accepted (net_of before) (net_of mid) (net_of next) p.records records p.accepted e.accepted;
  written = subst (λ (xs : List ℕ). HasAppendedPart old now' name xs) (sym (join.text p.records records)) (texts.part old now now' name (records_text p.records) (records_text records) p.written part);
}

-- no more tries are left than there were
pub turn_left : (before mid : Circuit) (depth limit left gate position : ℕ) (made : Made) (old now : Option Files) (name : List ℕ) → IsPerturbing before depth limit left gate position mid made old now name → left ≤ limit
turn_left before mid depth limit left gate position made old now name p = omega (arith, p.tried)
