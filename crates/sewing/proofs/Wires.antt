-- A sewn model has no more wires than its parts have by themselves.
use Rattle.std.proofs.Common.{◌≡◌, ◌≤◌, ◌<◌, ◌+◌, ◌^◌, ℕ, zero, suc, true, List, [], ◌∷◌, ◌++◌, length, map, refl, sym, ap, subst, arith, zero-le}
use Rattle.std.specs.Prelude.{Contains, None, Some, slice_get, sum_by, ◌↔◌}
use Rattle.std.specs.List.{flat_map}
use Rattle.std.proofs.lemmas.Grind.{flat_map-append}
use Rattle.std.proofs.lemmas.List.Sums.{sum_by-append, sum_by-cons}
use Rattle.rm_model.specs.Ranks.{first_without_rank}
use Rattle.rm_model.specs.Value.{IsRanked, outputs_of, source_names}
use Rattle.rm_model.specs.WellFormed.{driven_names, is_distinct, IsWellFormed}
use Rattle.rm_model.proofs.Public.{distinct-right}
use Rattle.rm_model.specs.declared.parts.Cover.{Cover}
use Rattle.rm_model.specs.declared.parts.Model.{Model}
use Rattle.rm_base.specs.Members.{In}
use Rattle.rm_base.specs.Words.{Word}
use Rattle.rm_base.proofs.Public.{in_contains, in_left, in_mapped, in_right, some_is}
use Rattle.cover_decompose.specs.Count.{cover_wires, cover_zero_names, decomposed, new_count}
use Rattle.cover_decompose.specs.Needed.{IsNeeded, taken}
use Rattle.sewing.specs.Windows.{IsWindowed, kept_names}
use Rattle.sewing.specs.Names.{IsLead, free_lead, sewn_name}
use Rattle.sewing.specs.Sewn.{renamed_cover, sewn_covers, sewn_with}
use Rattle.sewing.specs.Laws.{AreParts, IsReplacement, WiresAddUp}
use Rattle.sewing.proofs.Composed.{composed, observed-kept, same-kept, stage}
use Rattle.sewing.proofs.Leads.{free-none}
use Rattle.sewing.proofs.Members.{contains-in, in-outputs}
use Rattle.sewing.proofs.Outputs.{names-told}
use Rattle.sewing.proofs.Needed.{Origin, needed-inside, origin, piece-at, place-small}
use Rattle.sewing.proofs.Stages.{Piece, Stage, same-length}
use Rattle.sewing.proofs.Taken.{taken-once}
use Rattle.sewing.proofs.Tokens.{leads-are-least}
use Rattle.sewing.proofs.Counts.{Once, Tells, count-join, count-less, count-map, covers-once, sum-within, wires-renamed, zeros-in, zeros-renamed}

-- the wires of the gates of covers, and one for each name that one of them reads as 0
abbrev pub counted : List Cover → ℕ
counted cs = sum_by cover_wires cs + new_count [] (flat_map cover_zero_names cs)

-- some covers of each part, renamed
pub chosen : (Model → List Cover) → Word → ℕ → List Model → List Cover
chosen t lead k [] = []
chosen t lead k (p ∷ ps) = map (renamed_cover (sewn_name lead k p)) (t p) ++ chosen t lead (k + 1) ps

pub in-chosen : (t : Model → List Cover) (lead : Word) (k : ℕ) (ps : List Model) (i : ℕ) (p : Model) (d : Cover) → slice_get ps i ≡ Some p → In (t p) d → In (chosen t lead k ps) (renamed_cover (sewn_name lead (k + i) p) d)
unfolding chosen
in-chosen t lead k [] i p d there h = absurd cc
in-chosen t lead k (q ∷ ps) zero p d there h =
    let same : q ≡ p = some_is q p there in
    let here : k ≡ k + 0 = omega arith in
    in_left (map (renamed_cover (sewn_name lead k q)) (t q)) (chosen t lead (k + 1) ps) (renamed_cover (sewn_name lead (k + 0) p) d)
    (subst (λ (j : ℕ). In (map (renamed_cover (sewn_name lead k q)) (t q)) (renamed_cover (sewn_name lead j p) d)) here
    (subst (λ (r : Model). In (map (renamed_cover (sewn_name lead k r)) (t r)) (renamed_cover (sewn_name lead k p) d)) (sym same)
    (in_mapped (renamed_cover (sewn_name lead k p)) (t p) d h)))
in-chosen t lead k (q ∷ ps) (suc i) p d there h =
    let here : k + 1 + i ≡ k + suc i = omega arith in
    in_right (map (renamed_cover (sewn_name lead k q)) (t q)) (chosen t lead (k + 1) ps) (renamed_cover (sewn_name lead (k + suc i) p) d)
    (subst (λ (j : ℕ). In (chosen t lead (k + 1) ps) (renamed_cover (sewn_name lead j p) d)) here (in-chosen t lead (k + 1) ps i p d there h))

-- the names of each part stay different
abbrev pub AreTold : Word → ℕ → List Model → Type 0
AreTold lead k ps = (i : ℕ) (p : Model) → slice_get ps i ≡ Some p → Tells (sewn_name lead (k + i) p)

told-first : (lead : Word) (k : ℕ) (p : Model) (ps : List Model) → AreTold lead k (p ∷ ps) → Tells (sewn_name lead k p)
told-first lead k p ps told = let here : k + 0 ≡ k = omega arith in subst (λ (j : ℕ). Tells (sewn_name lead j p)) here (told 0 p refl)

told-rest : (lead : Word) (k : ℕ) (p : Model) (ps : List Model) → AreTold lead k (p ∷ ps) → AreTold lead (k + 1) ps
told-rest lead k p ps told i q there = let next : k + suc i ≡ k + 1 + i = omega arith in subst (λ (j : ℕ). Tells (sewn_name lead j q)) next (told (suc i) q there)

chosen-counted : (t : Model → List Cover) (lead : Word) (k : ℕ) (ps : List Model) → AreTold lead k ps → counted (chosen t lead k ps) ≤ sum_by (λ p. counted (t p)) ps
unfolding chosen
chosen-counted t lead k [] told = zero-le
chosen-counted t lead k (p ∷ ps) told =
    let f : Word → Word = sewn_name lead k p in
    let tells : Tells f = told-first lead k p ps told in
    let first : List Cover = map (renamed_cover f) (t p) in
    let rest : List Cover = chosen t lead (k + 1) ps in
    let wires : sum_by cover_wires (first ++ rest) ≡ sum_by cover_wires first + sum_by cover_wires rest = sum_by-append cover_wires first rest in
    let own : sum_by cover_wires first ≡ sum_by cover_wires (t p) = wires-renamed f tells (t p) in
    let zeros : new_count [] (flat_map cover_zero_names (first ++ rest)) ≤ new_count [] (flat_map cover_zero_names first) + new_count [] (flat_map cover_zero_names rest) =
    subst (λ (l : List Word). new_count [] l ≤ new_count [] (flat_map cover_zero_names first) + new_count [] (flat_map cover_zero_names rest)) (sym (flat_map-append cover_zero_names first rest)) (count-join (flat_map cover_zero_names first) (flat_map cover_zero_names rest)) in
    let own_zeros : new_count [] (flat_map cover_zero_names first) ≤ new_count [] (flat_map cover_zero_names (t p)) =
    subst (λ (l : List Word). new_count [] l ≤ new_count [] (flat_map cover_zero_names (t p))) (sym (zeros-renamed f tells (t p))) (count-map f (flat_map cover_zero_names (t p))) in
    let later : counted rest ≤ sum_by (λ q. counted (t q)) ps = chosen-counted t lead (k + 1) ps (told-rest lead k p ps told) in
    let whole : sum_by (λ q. counted (t q)) (p ∷ ps) ≡ counted (t p) + sum_by (λ q. counted (t q)) ps = sum_by-cons (λ q. counted (t q)) p ps in
    added (sum_by cover_wires (first ++ rest)) (sum_by cover_wires first) (sum_by cover_wires rest) (sum_by cover_wires (t p))
    (new_count [] (flat_map cover_zero_names (first ++ rest))) (new_count [] (flat_map cover_zero_names first)) (new_count [] (flat_map cover_zero_names rest)) (new_count [] (flat_map cover_zero_names (t p)))
    (sum_by (λ q. counted (t q)) ps) (sum_by (λ q. counted (t q)) (p ∷ ps)) wires own zeros own_zeros later whole
  where
    added : (a b c d z y x w s u : ℕ) → a ≡ b + c → b ≡ d → z ≤ y + x → y ≤ w → c + x ≤ s → u ≡ (d + w) + s → a + z ≤ u
    added a b c d z y x w s u wires own zeros own_zeros later whole = omega arith

-- covers that stand once, each one of those
pub wires-bounded : (t : Model → List Cover) (lead : Word) (k : ℕ) (ps : List Model) (cs : List Cover) → AreTold lead k ps → Once cs → ((c : Cover) → In cs c → In (chosen t lead k ps) c) → counted cs ≤ sum_by (λ p. counted (t p)) ps
wires-bounded t lead k ps cs told once within =
    let wires : sum_by cover_wires cs ≤ sum_by cover_wires (chosen t lead k ps) = sum-within cover_wires cs (chosen t lead k ps) once within in
    let zeros : new_count [] (flat_map cover_zero_names cs) ≤ new_count [] (flat_map cover_zero_names (chosen t lead k ps)) = count-less (flat_map cover_zero_names cs) (flat_map cover_zero_names (chosen t lead k ps)) (zeros-in cs (chosen t lead k ps) within) in
    let all : counted (chosen t lead k ps) ≤ sum_by (λ p. counted (t p)) ps = chosen-counted t lead k ps told in
    added (sum_by cover_wires cs) (sum_by cover_wires (chosen t lead k ps)) (new_count [] (flat_map cover_zero_names cs)) (new_count [] (flat_map cover_zero_names (chosen t lead k ps))) (sum_by (λ p. counted (t p)) ps) wires zeros all
  where
    added : (a b c d s : ℕ) → a ≤ b → c ≤ d → b + d ≤ s → a + c ≤ s
    added a b c d s wires zeros all = omega arith

-- THE SEWN MODEL

-- what the laws of decompositions and ranks say
abbrev pub TakenAreNeeded : Type 0
TakenAreNeeded = (m : Model) (c : Cover) → IsWellFormed m → first_without_rank m ≡ None → Contains (taken m) c ↔ (Contains m.covers c × IsNeeded m c.output)

abbrev pub RanksExist : Type 0
RanksExist = (m : Model) → is_distinct (driven_names m) ≡ true → (IsRanked m ↔ (first_without_rank m ≡ None))

module _ (needed : TakenAreNeeded) (ranks : RanksExist) where
  taken-needed : (m : Model) → IsWellFormed m → IsRanked m → (c : Cover) → In (taken m) c → In m.covers c × IsNeeded m c.output
  taken-needed m formed ranked c h =
      let r : Contains m.covers c × IsNeeded m c.output = (needed m c formed ((ranks m formed.driven_once).0 ranked)).0 (in_contains (taken m) c h) in
      (contains-in m.covers c r.0, r.1)

  needed-taken : (m : Model) → IsWellFormed m → IsRanked m → (c : Cover) → In m.covers c → IsNeeded m c.output → In (taken m) c
  needed-taken m formed ranked c h need =
      contains-in (taken m) c ((needed m c formed ((ranks m formed.driven_once).0 ranked)).1 (in_contains m.covers c h, need))

  module _ (lead : Word) (m : Model) (windows parts : List Model) (formed : IsWellFormed m) (ranked : IsRanked m) (windowed : IsWindowed m windows) (replaced : AreParts windows parts) (few : length windows < 2 ^ 64) (is_lead : IsLead (kept_names m windows) lead) where
    part-taken : (c : Cover) → In (taken (sewn_with lead m parts)) c → In (chosen taken lead 1 parts) c
    part-taken c h =
        let whole : IsReplacement m (sewn_with lead m parts) = composed lead m windows parts formed ranked windowed replaced few is_lead in
        let s : Stage lead 1 (source_names m) windows parts = stage lead m windows parts formed ranked windowed replaced few is_lead in
        let r : In (sewn_covers lead 1 parts) c × IsNeeded (sewn_with lead m parts) c.output = taken-needed (sewn_with lead m parts) whole.formed whole.equivalent.other_ranked c h in
        let o : Origin lead 1 parts c = origin lead 1 parts c r.0 in
        let q : (old : List Word) × Piece lead old o.part = piece-at lead 1 (source_names m) windows parts s o.place o.part o.there in
        let need : IsNeeded o.part o.cover.output = needed-inside lead m parts
        (piece-at lead 1 (source_names m) windows parts s) (place-small lead 1 (source_names m) windows parts s)
        (λ x y seen e. free-none (kept_names m windows) lead x y is_lead.free (observed-kept lead m windows parts formed ranked windowed replaced few is_lead x seen) e)
        c.output r.1 o.place o.part o.cover o.there o.has (in-outputs o.part.covers o.cover o.has) (ap (λ (d : Cover). d.output) o.is) in
        subst (λ (d : Cover). In (chosen taken lead 1 parts) d) o.is
        (in-chosen taken lead 1 parts o.place o.part o.cover o.there (needed-taken o.part q.1.formed q.1.ranked o.cover o.has need))

    pub add-up-with : decomposed (sewn_with lead m parts) ≤ sum_by decomposed parts
    add-up-with =
        let whole : IsReplacement m (sewn_with lead m parts) = composed lead m windows parts formed ranked windowed replaced few is_lead in
        let s : Stage lead 1 (source_names m) windows parts = stage lead m windows parts formed ranked windowed replaced few is_lead in
        let told : AreTold lead 1 parts = λ i p there. let q : (old : List Word) × Piece lead old p = piece-at lead 1 (source_names m) windows parts s i p there in names-told lead (1 + i) q.0 p q.1 in
        let once : is_distinct (outputs_of (sewn_covers lead 1 parts)) ≡ true = distinct-right (source_names m) (outputs_of (sewn_covers lead 1 parts)) whole.formed.driven_once in
        wires-bounded taken lead 1 parts (taken (sewn_with lead m parts)) told (covers-once (taken (sewn_with lead m parts)) (taken-once (sewn_with lead m parts) once)) part-taken

  pub add-up : WiresAddUp
  add-up m windows parts formed ranked windowed replaced few =
      add-up-with (free_lead (kept_names m parts)) m windows parts formed ranked windowed replaced (omega (arith, few.parts_counted, same-length windows parts replaced))
      (subst (λ (names : List Word). IsLead names (free_lead (kept_names m parts))) (same-kept m windows parts replaced) (leads-are-least (kept_names m parts) few.names_counted).is_lead)
