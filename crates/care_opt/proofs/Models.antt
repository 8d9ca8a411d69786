-- What a run of main steps says of the models.
use Rattle.std.proofs.Common.{Bool, List, None, Option, Some, [], ap, arith, inl, length, map, refl, subst, suc, sym, true, zero, ℕ, ◌+◌, ◌<◌, ◌∙◌, ◌∷◌, ◌≡◌, ◌≢◌, ◌≤◌}
use Rattle.std.specs.Prelude.{slice_get, ◌^◌, ◌↔◌}
use Rattle.std.proofs.lemmas.List.{length-append, length-map}
use Rattle.std.proofs.lemmas.Option.{slice_get_within}
use Rattle.cover_decompose.specs.Count.{decomposed}
use Rattle.cover_decompose.specs.Decomposition.{net_of_model}
use Rattle.cover_decompose.specs.StandsFor.{HasPoints, StandsFor}
use Rattle.gate_net.specs.Faults.{assigned}
use Rattle.gate_net.specs.Laws.{FaultyValuesExist, ValuesExist}
use Rattle.gate_net.specs.Net.{IsWellFormed as IsNet, Net, Node, Reads, node_at, source_count, wire_count}
use Rattle.gate_net.specs.Values.{AreGoodValues}
use Rattle.graph_to_model.specs.Fits.{Fits}
use Rattle.graph_to_model.specs.Laws.{AreFew, IsModelOf, TidyNetsHaveModels}
use Rattle.graph_to_model.specs.NetModel.{model_of_net}
use Rattle.joined_nets.specs.Growing.{IsOrdered, live}
use Rattle.joined_nets.specs.Joined.{ShareSources, first_gate}
use Rattle.joined_nets.specs.Ready.{IsReady}
use Rattle.joined_nets.proofs.Public.{gives_names, live_below, ours_same, theirs_same}
use Rattle.journal_text.specs.Accepted.{Keeps}
use Rattle.journal_text.specs.Runs.{AcceptedRunsKeep}
use Rattle.journal_text.specs.declared.record.Record.{Record}
use Rattle.rm_base.proofs.Public.{map_agree, map_at}
use Rattle.rm_base.specs.Words.{Word}
use Rattle.rm_model.specs.Ranks.{first_without_rank}
use Rattle.rm_model.specs.Value.{IsConsistent, IsRanked, observed_names, source_names}
use Rattle.rm_model.specs.WellFormed.{IsWellFormed, driven_names, is_distinct}
use Rattle.rm_model.specs.declared.parts.Model.{Model}
use Rattle.wire_edit.specs.Laws.{StepsKeepForm, StepsKeepSources, TidyMeans}
use Rattle.wire_edit.specs.Order.{IsTidy}
use Rattle.wire_edit.specs.Work.{WiresGrow}
use Rattle.gate_net.proofs.Public.{live_reader}
use Rattle.std.specs.List.{AllByRecursion, AllZip}
use Rattle.rm_base.specs.declared.numbers.Fault.{Fault}
use Rattle.journal_text.specs.declared.record.Record.TheVariants as kept
use Rattle.wire_edit.proofs.Public.{reader_gate}
use Rattle.care_opt.specs.Done.{AreRecordsOf, AreTestsOf, IsRecordOf, IsTestOf}
use Rattle.care_opt.specs.Laws.{renumbered}
use Rattle.care_opt.specs.EquivalentOn.{EquivalentOn, IsCareOf}
use Rattle.care_opt.specs.Extract.{extract, main_faults, new_number}
use Rattle.care_opt.specs.Gated.{IsMainFault, care_node, gates_by, main_bound, models_gated}
use Rattle.care_opt.specs.Inner.Passing.{IsExtractedFrom, IsSomeGated}
use Rattle.care_opt.specs.Inner.Telling.{IsAllOf}
use Rattle.gate_graph.specs.Circuit.{Circuit, net_of}
use Rattle.rm_base.specs.declared.settings.Made.{Made}
use Rattle.care_opt.specs.Inner.Standing.{CanGate, IsGatedOver}
use Rattle.care_opt.specs.MainSteps.{IsMainTidy, MainStepsTo}
use Rattle.care_opt.proofs.CareFit.{inputs_are, outputs_are, share_of, single_of}
use Rattle.care_opt.proofs.Extracted.{LiveMain, seen_are}
use Rattle.care_opt.proofs.Numbering.{extracts_keep_faults, main}
use Rattle.care_opt.proofs.MainFaults.{all_main}
use Rattle.care_opt.proofs.Sizes.{extract_sources, extract_wires, first_wires, late_wires, run_wires}
use Rattle.care_opt.proofs.Standing.{gate_high, run_over}
use Rattle.care_opt.proofs.Starting.{can_gate, care_is, gated_over, start_gate}
use Rattle.care_opt.proofs.Tidied.{extract_tidy}
use Rattle.care_opt.proofs.Valued.{detected, new_plain, on_care}

-- what the laws of the lower crates say of every model and net
pub record Laws : Type 1 where
  pub exist : ValuesExist
  pub stands : (m : Model) → IsWellFormed m → first_without_rank m ≡ None → StandsFor (net_of_model m) m
  pub points : (m : Model) → IsWellFormed m → first_without_rank m ≡ None → HasPoints (net_of_model m) m
  pub wires : (m : Model) → IsWellFormed m → first_without_rank m ≡ None → wire_count (net_of_model m) ≡ decomposed m
  pub formed : (m : Model) → IsNet (net_of_model m)
  pub no_gaps : (m : Model) (x : ℕ) → x < length (net_of_model m).nodes → node_at (net_of_model m) x ≢ None
  pub order : (m : Model) (y p x : ℕ) → Reads (net_of_model m) y p x → x < y
  pub ranked : (m : Model) → is_distinct (driven_names m) ≡ true → (IsRanked m ↔ (first_without_rank m ≡ None))
  pub form : StepsKeepForm
  pub sources : StepsKeepSources
  pub means : TidyMeans
  pub grow : WiresGrow
  pub keep : AcceptedRunsKeep
  pub models : TidyNetsHaveModels

module _ (laws : Laws) (m c : Model) (ready : IsReady m) (care_ready : IsReady c) (cares : IsCareOf m c) where
  abbrev pub one : Net
  one = net_of_model m

  abbrev pub two : Net
  two = net_of_model c

  abbrev b : ℕ
  b = length one.nodes

  ours : StandsFor one m
  ours = laws.stands m ready.formed ready.ranked

  theirs : StandsFor two c
  theirs = laws.stands c care_ready.formed care_ready.ranked

  pub share : ShareSources one two
  share = share_of laws.stands laws.formed m c ready care_ready cares

  pub single : (d : ℕ) × (two.observed ≡ d ∷ [])
  single = single_of laws.stands laws.formed m c ready care_ready cares

  ordered : (n : Model) → IsOrdered (net_of_model n)
  ordered n = record { no_gaps = laws.no_gaps n; order = laws.order n }

  pub can : CanGate one two
  can = can_gate one two share (ordered m) (ordered c) single.0 single.1

  pub start : IsNet (models_gated m c) → IsGatedOver one two (models_gated m c)
  start formed = gated_over one two share (ordered m) (ordered c) single.0 single.1 formed

  -- the values of the two models in their gated net
  module _ (formed : IsNet (models_gated m c)) (bits : List Bool) (u : ℕ → Bool) (good : AreGoodValues (models_gated m c) (assigned bits) u) where
    abbrev tail : List (Option Node)
    tail = live (gates_by (care_node one two) one.observed)

    main_are : (v : Word → Bool) → IsConsistent m v → map v (source_names m) ≡ bits → map u one.observed ≡ map v (observed_names m)
    main_are v consistent given =
        let w = laws.exist one (laws.formed m).acyclic (assigned bits) in
        map_agree u w.0 one.observed (λ k x at. ours_same one two share (models_gated m c) tail refl (assigned bits) u good w.0 w.1.0 x (live_below one x ((laws.formed m).observed_live x (k, at))))
        ∙ ours.values (assigned bits) w.0 v w.1.0 consistent (gives_names m v bits given)

    pub care_value : (v : Word → Bool) → IsConsistent c v → map v c.inputs ≡ bits → u (care_node one two) ∷ [] ≡ map v c.outputs
    care_value v consistent given =
        let w = laws.exist two (laws.formed c).acyclic (assigned bits) in
        let there : u (care_node one two) ≡ w.0 single.0 =
        ap u (care_is one two share (ordered m) (ordered c) single.0 single.1)
        ∙ theirs_same one two share (models_gated m c) tail refl (assigned bits) u good w.0 w.1.0 single.0 (live_below two single.0 ((laws.formed c).observed_live single.0 (0, ap (λ (xs : List ℕ). slice_get xs 0) single.1))) in
        ap (λ (t : Bool). t ∷ []) there
        ∙ (sym (ap (λ (xs : List ℕ). map w.0 xs) single.1)
        ∙ (theirs.values (assigned bits) w.0 v w.1.0 consistent (gives_names c v bits (ap (λ (xs : List Word). map v xs) (inputs_are c cares.shape) ∙ given)) ∙ ap (λ (xs : List Word). map v xs) (outputs_are c cares.shape)))

  module _ (formed : IsNet (models_gated m c)) (records : List Record) (last : Net) (reached : MainStepsTo (main_bound m) (models_gated m c) records last) where
    pub over : IsGatedOver one two last
    over = run_over one two can laws.form laws.sources records (models_gated m c) last (start formed) reached.accepted reached.main

    abbrev E : Net
    E = extract b last

    keeps : Keeps (models_gated m c) last
    keeps = laws.keep (models_gated m c) last records formed reached.accepted

    pub last_sources : source_count last ≡ length (source_names m)
    last_sources = over.sources ∙ ours.sources

    pub small_sources : source_count E ≡ source_count last
    small_sources = extract_sources one two can last over

    pub is_tidy : IsMainTidy b last → IsTidy E
    is_tidy t = extract_tidy one two can last over t laws.means

    pub fewer : wire_count E ≤ decomposed m
    fewer =
        let parts = extract_wires one two can last over in
        let first = extract_wires one two can (models_gated m c) (start formed) in
        let same = late_wires one two can last over (start formed) in
        let run = run_wires laws.form laws.grow b records (models_gated m c) last formed reached.accepted reached.main in
        let begun = first_wires one two in
        let wires = laws.wires m ready.formed ready.ranked in
        omega (arith, parts, first, same, run, begun, wires)

    pub fits : Fits E m
    fits = record {
      sources = small_sources ∙ last_sources;
      observed = ap (λ (xs : List ℕ). length xs) (seen_are one two can last over) ∙ (length-map (map over.moved one.observed) (new_number (main b last)) ∙ (length-map one.observed over.moved ∙ ours.observed));
      points = record { same = λ i j x at also. seen i j (points.same i j x at also); own = λ i k x at source. own i k (slice_get_within (source_names m) k x source) (points.own i k x at source) };
    }
      where
        points : HasPoints one m
        points = laws.points m ready.formed ready.ranked

        twice : List ℕ → List ℕ
        twice xs = map (new_number (main b last)) (map over.moved xs)

        none_map : (g : ℕ → ℕ) (xs : List ℕ) (k : ℕ) → slice_get xs k ≡ None → slice_get (map g xs) k ≡ None
        none_map g [] k e = refl
        none_map g (x ∷ xs) zero e = absurd cc
        none_map g (x ∷ xs) (suc k) e = none_map g xs k e

        mapped : (g : ℕ → ℕ) (xs : List ℕ) (i j : ℕ) → slice_get xs i ≡ slice_get xs j → slice_get (map g xs) i ≡ slice_get (map g xs) j
        mapped g xs i j e = by_place (slice_get xs j) refl
          where
            by_place : (o : Option ℕ) → slice_get xs j ≡ o → slice_get (map g xs) i ≡ slice_get (map g xs) j
            by_place None is = none_map g xs i (e ∙ is) ∙ sym (none_map g xs j is)
            by_place (Some x) is = map_at g xs i x (e ∙ is) ∙ sym (map_at g xs j x is)

        seen : (i j : ℕ) → slice_get one.observed i ≡ slice_get one.observed j → slice_get E.observed i ≡ slice_get E.observed j
        seen i j e =
            ap (λ (xs : List ℕ). slice_get xs i) (seen_are one two can last over)
            ∙ (mapped (new_number (main b last)) (map over.moved one.observed) i j (mapped over.moved one.observed i j e) ∙ sym (ap (λ (xs : List ℕ). slice_get xs j) (seen_are one two can last over)))

        own : (i k : ℕ) → k < length (source_names m) → slice_get one.observed i ≡ Some (2 + k) → slice_get E.observed i ≡ Some (2 + k)
        own i k lt e =
            let low : 2 + k < first_gate one = let count = ours.sources in omega (arith, lt, count) in
            ap (λ (xs : List ℕ). slice_get xs i) (seen_are one two can last over)
            ∙ (map_at (new_number (main b last)) (map over.moved one.observed) i (over.moved (2 + k)) (map_at over.moved one.observed i (2 + k) e)
            ∙ ap (λ (n : ℕ). Some n) (ap (new_number (main b last)) (over.plain (2 + k) (inl low)) ∙ new_plain one two can (start formed) last over (2 + k) (omega (arith, low))))

    pub equivalent : IsNet E → IsTidy E → AreFew E m → EquivalentOn m (model_of_net m E) c
    equivalent small tidy few = record {
      name = refl;
      inputs = refl;
      outputs = refl;
      clocks = refl;
      latches = refl;
      ranked = (laws.ranked m ready.formed.driven_once).1 ready.ranked;
      other_ranked = is_model.ranked;
      agree = agree;
    }
      where
        is_model : IsModelOf E m
        is_model = laws.models E m small tidy ready.formed fits few

        agree : (v w cared : Word → Bool) → IsConsistent m v → IsConsistent (model_of_net m E) w → IsConsistent c cared → map v (source_names m) ≡ map w (source_names (model_of_net m E)) → map v c.inputs ≡ map cared c.inputs
            → map cared c.outputs ≡ true ∷ [] → map v (observed_names m) ≡ map w (observed_names (model_of_net m E))
        agree v w cared right other third same given is_one =
            let bits : List Bool = map v (source_names m) in
            let a : ℕ → Bool = assigned bits in
            let u = laws.exist (models_gated m c) formed.acyclic a in
            let s = laws.exist last over.formed.acyclic a in
            let r = laws.exist E small.acyclic a in
            let care_bits : map cared c.inputs ≡ bits = sym given ∙ (sym (ap (λ (xs : List Word). map v xs) (inputs_are c cares.shape)) ∙ sym (ap (λ (xs : List Word). map v xs) cares.sources)) in
            let care_one : u.0 (care_node one two) ∷ [] ≡ true ∷ [] = care_value formed bits u.0 u.1.0 cared third care_bits ∙ is_one in
            let care_true : u.0 (care_node one two) ≡ true = cc in
            let mine : map u.0 one.observed ≡ map v (observed_names m) = main_are formed bits u.0 u.1.0 v right refl in
            let seen : map r.0 E.observed ≡ map u.0 one.observed = on_care one two can (start formed) last over a u.0 s.0 r.0 u.1.0 s.1.0 r.1.0 keeps.values (start_gate one two share (ordered m) (ordered c) single.0 single.1 a u.0 u.1.0) care_true in
            sym mine ∙ (sym seen ∙ is_model.stands.values a r.0 w r.1.0 other (gives_names (model_of_net m E) w bits (sym same)))

    -- the records of the main faults test the extract's faults where the care model is 1
    module _ (faulty_exist : FaultyValuesExist) (small : IsNet E) where
      there : (fault : Fault) → IsMainFault b last fault → LiveMain b last fault.gate.0
      there fault (lt, (d, reads)) = (lt, live_reader (node_at last fault.gate.0) fault.position d reads)

      gate_above : (fault : Fault) → IsMainFault b last fault → first_gate one ≤ fault.gate.0
      gate_above fault (lt, (d, reads)) =
          let up = gate_high last fault.gate.0 over.formed (reader_gate last over.formed fault.gate.0 fault.position d reads) in
          let same = over.sources in
          omega (arith, up, same)

      one_test : (budget : ℕ) (fault : Fault) (r : Record) → IsMainFault b last fault → IsRecordOf last budget fault r → IsTestOf E c (renumbered b last fault) r
      one_test budget fault (kept.Hit own vector) at (same, test) =
          let d = detected one two can (start formed) last over laws.exist faulty_exist small.acyclic fault (there fault at) (gate_above fault at) (assigned vector) test.detects in (
            record { size = test.size ∙ sym small_sources; detects = d.0 },
            λ v consistent given.
                let u = laws.exist (models_gated m c) formed.acyclic (assigned vector) in
                sym (care_value formed vector u.0 u.1.0 v consistent given) ∙ ap (λ (t : Bool). t ∷ []) (d.1 u.0 u.1.0),
          )
      one_test budget fault (kept.Spent own tree) at r = tt
      one_test budget fault (kept.Step step tree) at r = absurd r

      all_tests : (budget : ℕ) (fs : List Fault) (rs : List Record) → AllByRecursion (IsMainFault b last) fs → AllZip (IsRecordOf last budget) fs rs → AllZip (IsTestOf E c) (map (renumbered b last) fs) rs
      all_tests budget [] [] at h = tt
      all_tests budget [] (r ∷ rs) at h = absurd h
      all_tests budget (f ∷ fs) [] at h = absurd h
      all_tests budget (f ∷ fs) (r ∷ rs) at h = (one_test budget f r at.0 h.0, all_tests budget fs rs at.1 h.1)

      pub tests_are : (budget : ℕ) (rs : List Record) → AreRecordsOf last budget (main_faults b last) rs → AreTestsOf E c rs
      tests_are budget rs h = subst (λ (fs : List Fault). AllZip (IsTestOf E c) fs rs) (sym (extracts_keep_faults b last)) (all_tests budget (main_faults b last) rs (all_main b last) h)

all_of : (laws : Laws) → FaultyValuesExist → (m c : Model) (depth budget : ℕ) (first graph : Circuit) (made : Made) (records : List Record) → IsReady m → IsReady c → IsCareOf m c → net_of first ≡ models_gated m c → IsNet (net_of first) → IsNet (net_of graph) → length (net_of graph).nodes < 2 ^ 64
    → IsExtractedFrom (main_bound m) (net_of first) depth budget graph made records → IsAllOf m c depth budget graph made records
all_of laws faulty_exist m c depth budget first graph made records ready care_ready cares is well small few (last, (worked, extracted)) = record {
  optimised = record {
    last = last;
    steps = worked.steps;
    is_last = record { reached = reached; counted = worked.counted; is_tidy = worked.is_tidy; extracted = extracted; unrefuted = worked.unrefuted; sources = last_sources laws m c ready care_ready cares formed worked.steps last reached };
    closed = worked.closed;
  };
  is_tidy = there (λ (n : Net). IsTidy n) tidied;
  fits = there (λ (n : Net). Fits n m) fitting;
  fewer = there (λ (n : Net). wire_count n ≤ decomposed m) (fewer laws m c ready care_ready cares formed worked.steps last reached);
  equivalent = there (λ (n : Net). EquivalentOn m (model_of_net m n) c) (equivalent laws m c ready care_ready cares formed worked.steps last reached small_extract tidied enough);
  tests = there (λ (n : Net). AreTestsOf n c records) (tests_are laws m c ready care_ready cares formed worked.steps last reached faulty_exist small_extract budget records worked.closed);
}
  where
    formed : IsNet (models_gated m c)
    formed = subst (λ (n : Net). IsNet n) is well

    reached : MainStepsTo (main_bound m) (models_gated m c) worked.steps last
    reached = subst (λ (n : Net). MainStepsTo (main_bound m) n worked.steps last) is worked.reached

    there : (P : Net → Type 0) → P (extract (main_bound m) last) → P (net_of graph)
    there P p = subst P (sym extracted) p

    small_extract : IsNet (extract (main_bound m) last)
    small_extract = subst (λ (n : Net). IsNet n) extracted small

    tidied : IsTidy (extract (main_bound m) last)
    tidied = is_tidy laws m c ready care_ready cares formed worked.steps last reached worked.is_tidy

    fitting : Fits (extract (main_bound m) last) m
    fitting = fits laws m c ready care_ready cares formed worked.steps last reached

    enough : AreFew (extract (main_bound m) last) m
    enough = record {
      nodes = subst (λ (n : Net). length n.nodes < 2 ^ 64) extracted few;
      names = let sources = ready.sources in let seen = ready.observed in let all = length-append (source_names m) (observed_names m) in omega (arith, sources, seen, all);
    }

pub all_at : (laws : Laws) → FaultyValuesExist → (m c : Model) (bound depth budget : ℕ) (first graph : Circuit) (made : Made) (records : List Record) → IsReady m → IsReady c → IsCareOf m c → net_of first ≡ models_gated m c → IsNet (net_of first) → IsNet (net_of graph) → length (net_of graph).nodes < 2 ^ 64
    → bound ≡ main_bound m → IsExtractedFrom bound (net_of first) depth budget graph made records → IsAllOf m c depth budget graph made records
all_at laws faulty_exist m c bound depth budget first graph made records ready care_ready cares is well small few same from =
    all_of laws faulty_exist m c depth budget first graph made records ready care_ready cares is well small few (subst (λ (i : ℕ). IsExtractedFrom i (net_of first) depth budget graph made records) same from)

pub gated_stand : (laws : Laws) (m c : Model) (bound : ℕ) (first : Circuit) → IsReady m → IsReady c → IsCareOf m c → net_of first ≡ models_gated m c → IsNet (net_of first) → bound ≡ main_bound m → IsSomeGated bound (net_of first)
gated_stand laws m c bound first ready care_ready cares is well same =
    let formed : IsNet (models_gated m c) = subst (λ (n : Net). IsNet n) is well in
    let stands : StandsFor (net_of_model m) m = laws.stands m ready.formed ready.ranked in
    let seen = stands.observed in
    let few = ready.observed in
    subst (λ (n : Net). IsSomeGated bound n) (sym is)
    (net_of_model m, (net_of_model c, (can laws m c ready care_ready cares, (start laws m c ready care_ready cares formed, (same, omega (arith, seen, few))))))
