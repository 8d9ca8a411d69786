-- The addition loop with its journal.
use Rattle.std.proofs.Common.{◌≡◌, ℕ, suc, ◌+◌, ◌-◌, ◌*◌, ◌≤◌, inl, inr, Option, Some, List, [], ◌++◌, Vec, Global, length, refl, sym, ◌∙◌, ap, subst, arith}
use Rattle.std.proofs.lemmas.List.{length-append}
use Rattle.rm_base.specs.Files.{Files}
use Rattle.rm_base.specs.declared.numbers.Fault.{Fault}
use Rattle.rm_base.specs.declared.settings.Made.{Made}
use Rattle.rm_base.specs.declared.settings.Settings.{Settings}
use Rattle.gate_net.specs.Net.{Net, wire_count}
use Rattle.gate_graph.specs.Circuit.{Circuit, net_of}
use Rattle.candidate_wires.specs.declared.candidate.Pair.{Pair}
use Rattle.candidate_wires.specs.Pairs.{ArePairsBefore, ArePairsInTurn}
use Rattle.candidate_wires.specs.declared.candidate.Outcome.{Outcome}
use Rattle.candidate_wires.specs.declared.candidate.Outcome.TheVariants.{Settled, TriesSpent}
use Rattle.journal_text.specs.declared.record.Record.{Record}
use Rattle.journal_text.specs.Appends.{IsThere}
use Rattle.journal_text.specs.Joining.{TextsAppend, RunsJoin}
use Rattle.journal_ranges.proofs.Public.{fits_then}
use Rattle.journal_ranges.specs.Ranges.{AreFit}
use Rattle.journal_text.specs.Runs.{AcceptedTo, steps_of, none_made, made_by, HasAppended, HasAppendedPart, IsStopped, records_text}
use Rattle.rar_loop.specs.declared.walking.WalkOutcome.TheVariants.{Done, Spent, Gained}
use Rattle.rar_loop.specs.Sizes.{IsSame, most_steps}
use Rattle.rar_loop.specs.Inner.Walking.{IsWalk}
use Rattle.rar_loop.specs.Ended.{IsCutShort, IsImproved, IsOptimised, AreFew, turn_at}
use Rattle.rar_loop.specs.Inner.Improving.{HasBegun, HasImproved, IsThrough, IsUnderWay}
use Rattle.rar_loop.proofs.Looping.{improved_first, improved_more}
use Rattle.rar_loop.proofs.Sizing.{within_same, within_then}

pub streams_first : (before swept : Circuit) (start : Option Fault) (depth limit : ℕ) (records : List Record) (made made' : Made) (old now : Option Files) (name : List ℕ) → HasBegun before depth swept records → HasAppended old now name (records_text records) → AreFit records → made ≡ none_made → made' ≡ made_by made (steps_of records)
    → IsUnderWay before start start depth limit limit swept made' old now name
streams_first before swept start depth limit records made made' old now name b written fit none counts =
    let zero_left : limit - limit ≡ 0 = omega arith in
    let first = improved_first before start depth swept records b in
    record {
      records = records;
      improved = subst (λ (k : ℕ). HasImproved (net_of before) start depth (net_of swept) records k) (sym zero_left) first.0;
      turn_is = first.1;
      written = written;
      fit = fit;
      counts = counts ∙ ap (λ (m : Made). made_by m (steps_of records)) none;
      within = b.within;
      left_within = omega arith;
      few = omega (arith, b.few, b.fewer);
    }

pub streams_more : TextsAppend → RunsJoin → (before mid : Circuit) (start turn : Option Fault) (depth limit left left' : ℕ) (better : Circuit) (pair : Pair) (records : Vec Record Global) (made made' : Made) (old now now' : Option Files) (name : List ℕ) → IsUnderWay before start turn depth limit left mid made old now name
    → IsWalk mid turn depth left left' better (Gained pair records) → HasAppended now now' name (records_text records.items) → AreFit records.items → made' ≡ made_by made (steps_of records.items) → IsUnderWay before start (Some pair.fault) depth limit left' better made' old now' name
streams_more texts join before mid start turn depth limit left left' better pair records made made' old now now' name o w written fit counts =
    let b = w.1.1.1.1 in
    let turned : ArePairsBefore (net_of mid) (turn_at start (net_of before) (steps_of o.records)) pair w.0 = subst (λ (t : Option Fault). ArePairsBefore (net_of mid) t pair w.0) o.turn_is w.1.0 in
    let one : HasImproved (net_of before) start depth (net_of better) (o.records ++ records.items) ((limit - left) + suc (length w.0)) × (Some pair.fault ≡ turn_at start (net_of before) (steps_of (o.records ++ records.items))) =
    improved_more (net_of before) (net_of mid) (net_of better) start depth o.records records.items (limit - left) pair w.0 o.improved turned w.1.1.0 b.gained in
    let sum : (limit - left) + suc (length w.0) ≡ limit - left' = omega (arith, o.left_within, w.1.1.1.0) in
    let size : length (o.records ++ records.items) ≡ length o.records + length records.items = length-append o.records records.items in
    record {
      records = o.records ++ records.items;
      improved = subst (λ (k : ℕ). HasImproved (net_of before) start depth (net_of better) (o.records ++ records.items) k) sum one.0;
      turn_is = one.1;
      written = subst (λ (xs : List ℕ). HasAppended old now' name xs) (sym (join.text o.records records.items)) (texts.follows old now now' name (records_text o.records) (records_text records.items) o.written written);
      fit = fits_then o.records records.items o.fit fit;
      counts = counts ∙ ap (λ (m : Made). made_by m (steps_of records.items)) o.counts ∙ sym (join.made none_made (steps_of o.records) (steps_of records.items)) ∙ ap (made_by none_made) (sym (join.steps o.records records.items));
      within = within_then before mid better o.within b.within;
      left_within = omega (arith, o.left_within, w.1.1.1.0);
      few = omega (arith, o.few, b.few, b.gained.fewer, size);
    }

-- COUNTS
-- each count is at most as many as the records
pub record IsMost (m : Made) (n : ℕ) : Type 0 where
  pub adds : m.adds ≤ n
  pub fixes : m.fixes ≤ n
  pub local : m.local ≤ n

pub streams_most : RunsJoin → (before mid : Circuit) (start turn : Option Fault) (depth limit left : ℕ) (made : Made) (old now : Option Files) (name : List ℕ) → (o : IsUnderWay before start turn depth limit left mid made old now name) → IsMost made (length o.records)
streams_most join before mid start turn depth limit left made old now name o =
    let sum : (made_by none_made (steps_of o.records)).adds + (made_by none_made (steps_of o.records)).fixes + (made_by none_made (steps_of o.records)).local ≡ 0 + 0 + 0 + length (steps_of o.records) = join.counts none_made (steps_of o.records) in
    let each : length (steps_of o.records) ≡ length o.records = join.each (net_of before) (net_of mid) o.records o.improved.accepted in
    subst (λ (m : Made). IsMost m (length o.records)) (sym o.counts) (record { adds = omega (arith, sum, each); fixes = omega (arith, sum, each); local = omega (arith, sum, each) })

-- and all are far from the end of their type
pub streams_few : RunsJoin → (before mid : Circuit) (start turn : Option Fault) (depth limit left : ℕ) (made : Made) (old now : Option Files) (name : List ℕ) → wire_count (net_of before) ≤ 1048576 → IsUnderWay before start turn depth limit left mid made old now name → AreFew made
streams_few join before mid start turn depth limit left made old now name le o =
    let m : IsMost made (length o.records) = streams_most join before mid start turn depth limit left made old now name o in
    record { adds = omega (arith, m.adds, o.few, le); fixes = omega (arith, m.fixes, o.few, le); local = omega (arith, m.local, o.few, le) }

-- the counts of a few records are few
pub removed_few : RunsJoin → (before after : Net) (records : List Record) (made : Made) → AcceptedTo before records after → made ≡ made_by none_made (steps_of records) → length records ≤ most_steps
    → made.adds + made.fixes + made.local ≤ most_steps
removed_few join before after records made accepted counts few =
    let sum : (made_by none_made (steps_of records)).adds + (made_by none_made (steps_of records)).fixes + (made_by none_made (steps_of records)).local ≡ 0 + 0 + 0 + length (steps_of records) = join.counts none_made (steps_of records) in
    let each : length (steps_of records) ≡ length records = join.each before after records accepted in
    subst (λ (m : Made). m.adds + m.fixes + m.local ≤ most_steps) (sym counts) (omega (arith, sum, each, few))

-- AT THE END
streams_to : (before mid last : Circuit) (start turn : Option Fault) (depth limit left allowed : ℕ) (outcome : Outcome) (made : Made) (old now : Option Files) (name : List ℕ) → (o : IsUnderWay before start turn depth limit left mid made old now name)
    → IsImproved (net_of before) start depth allowed o.records (net_of mid) outcome → IsSame mid last → IsThrough before start turn depth allowed last outcome made old now name
streams_to before mid last start turn depth limit left allowed outcome made old now name o i same = record {
  optimised = subst (λ (n : Net). IsOptimised (net_of before) n start turn depth allowed outcome made old now name) (sym same.net) (record { records = o.records; improved = i; next_is = o.turn_is; written = o.written; fit = o.fit; counted = o.counts });
  within = within_then before mid last o.within (within_same mid last same);
}

pub streams_done : (before mid : Circuit) (start turn : Option Fault) (depth limit left left' : ℕ) (last : Circuit) (made : Made) (old now : Option Files) (name : List ℕ) → IsUnderWay before start turn depth limit left mid made old now name → IsWalk mid turn depth left left' last Done
    → IsThrough before start turn depth limit last (Settled (limit - left')) made old now name
streams_done before mid start turn depth limit left left' last made old now name o w =
    streams_to before mid last start turn depth limit left limit (Settled (limit - left')) made old now name o (record {
      accepted = o.improved.accepted;
      clean = o.improved.clean;
      fewer = o.improved.fewer;
      tidy = o.improved.tidy;
      swept = o.improved.swept;
      improves = o.improved.improves;
      ends = record { pairs = w.1.0; all = subst (λ (t : Option Fault). ArePairsInTurn (net_of mid) t w.1.0) o.turn_is w.1.1.0; none = w.1.1.1.0; counted = limit - left; are_tries = o.improved.are_tries; sum = omega (arith, o.left_within, w.1.1.1.1); within = omega arith };
    }) w.0

pub streams_spent : (before mid : Circuit) (start turn : Option Fault) (depth limit left left' : ℕ) (last : Circuit) (at : Pair) (work : ℕ) (made : Made) (old now : Option Files) (name : List ℕ) → IsUnderWay before start turn depth limit left mid made old now name → IsWalk mid turn depth left left' last (Spent at work)
    → IsThrough before start turn depth (limit - left') last (TriesSpent (limit - left') at) made old now name
streams_spent before mid start turn depth limit left left' last at work made old now name o w =
    streams_to before mid last start turn depth limit left (limit - left') (TriesSpent (limit - left') at) made old now name o (record {
      accepted = o.improved.accepted;
      clean = o.improved.clean;
      fewer = o.improved.fewer;
      tidy = o.improved.tidy;
      swept = o.improved.swept;
      improves = o.improved.improves;
      ends = record { pairs = w.1.0; before = subst (λ (t : Option Fault). ArePairsBefore (net_of mid) t at w.1.0) o.turn_is w.1.1.0; none = w.1.1.1.0; counted = limit - left; are_tries = o.improved.are_tries; sum = omega (arith, o.left_within, w.1.1.1.1); used_up = refl };
    }) w.0

-- the same of a graph that is given in place of the last
pub through_same : (before last given : Circuit) (start turn : Option Fault) (depth limit : ℕ) (outcome : Outcome) (made : Made) (old now : Option Files) (name : List ℕ) → IsThrough before start turn depth limit last outcome made old now name → IsSame last given → IsThrough before start turn depth limit given outcome made old now name
through_same before last given start turn depth limit outcome made old now name t same = record {
  optimised = subst (λ (n : Net). IsOptimised (net_of before) n start turn depth limit outcome made old now name) (sym same.net) t.optimised;
  within = within_then before last given t.within (within_same last given same);
}

-- what cut a call short still does as the work goes on
pub cut_on : (settings : Settings) (work more : ℕ) (outcome : Outcome) → IsCutShort settings work outcome → work ≤ more → IsCutShort settings more outcome
cut_on settings work more (Settled tries) cut le = tt
cut_on settings work more (TriesSpent tries at) (inl all) le = inl all
cut_on settings work more (TriesSpent tries at) (inr over) le = let reached : settings.work * 1000000 ≤ work = over.1 in inr (over.0, omega (arith, reached, le))

-- WHERE IT STOPS
pub stopped_none : TextsAppend → (net : Net) (old : Option Files) (name : List ℕ) → IsThere old name → IsStopped net old old name
stopped_none texts net old name there = record { records = []; after = net; accepted = refl; written = texts.none_part old name [] there }

pub stopped_first : (before swept : Circuit) (depth : ℕ) (records : List Record) (old now : Option Files) (name : List ℕ) → HasBegun before depth swept records → HasAppendedPart old now name (records_text records) → IsStopped (net_of before) old now name
stopped_first before swept depth records old now name b part = record { records = records; after = net_of swept; accepted = b.accepted; written = part }

pub stopped_whole : TextsAppend → (before mid : Circuit) (start turn : Option Fault) (depth limit left : ℕ) (made : Made) (old now : Option Files) (name : List ℕ) → IsUnderWay before start turn depth limit left mid made old now name → IsStopped (net_of before) old now name
stopped_whole texts before mid start turn depth limit left made old now name o = record { records = o.records; after = net_of mid; accepted = o.improved.accepted; written = texts.whole old now name (records_text o.records) o.written }

pub stopped_more : TextsAppend → RunsJoin → (before mid : Circuit) (start turn : Option Fault) (depth limit left left' : ℕ) (better : Circuit) (pair : Pair) (records : Vec Record Global) (made : Made) (old now now' : Option Files) (name : List ℕ) → IsUnderWay before start turn depth limit left mid made old now name → IsWalk mid turn depth left left' better (Gained pair records)
    → HasAppendedPart now now' name (records_text records.items) → IsStopped (net_of before) old now' name
stopped_more texts join before mid start turn depth limit left left' better pair records made old now now' name o w part = record {
  records = o.records ++ records.items;
  after = net_of better;
  accepted = join.accepted (net_of before) (net_of mid) (net_of better) o.records records.items o.improved.accepted w.1.1.1.1.gained.accepted;
  written = subst (λ (xs : List ℕ). HasAppendedPart old now' name xs) (sym (join.text o.records records.items)) (texts.part old now now' name (records_text o.records) (records_text records.items) o.written part);
}
