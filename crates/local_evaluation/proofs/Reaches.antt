-- Searching on from a gate along its readers.
use Rattle.std.proofs.Common.{Bool, List, Some, arith, false, inl, inr, length, refl, replicate, suc, true, ℕ, ◌<◌, ◌≡◌, ◌≤◌}
use Rattle.std.proofs.lemmas.Bool.Decides.{eqb_tells}
use Rattle.std.proofs.lemmas.Option.{slice_get_within}
use Rattle.std.specs.Prelude.{slice_get, slice_set}
use Rattle.gate_graph.proofs.Public.{none_seen, seen_cases, seen_kept, seen_new, unseen-set}
use Rattle.gate_graph.specs.Search.{IsSeen, unseen}
use Rattle.gate_net.specs.Net.{IsLive, Net, Reads}
use Rattle.gate_net.specs.Paths.{Reaches, on, pin}
use Rattle.local_evaluation.proofs.Worklists.{clear_less, count-set, seen_left, seen_stays}
use Rattle.local_evaluation.specs.Worklists.{seen_count}
use Rattle.local_evaluation.specs.Reaching.{MarksReached, MarksReaders, Searches, search_left, MarksSome}
use Rattle.local_evaluation.proofs.Told.{reader_live}

-- ONE READER
pub marks_none : (net : Net) (x : ℕ) (reached listed : List Bool) → MarksSome net x reached reached listed listed
marks_none net x reached listed = record {
  kept = λ z e. e;
  kept_listed = λ z e. e;
  new = λ z e. inl e;
  new_listed = λ z e. inl e;
  less = omega arith;
}

pub marks_new : (net : Net) (x : ℕ) (reached reached' listed listed' : List Bool) (d p : ℕ) → MarksSome net x reached reached' listed listed' → slice_get reached' d ≡ Some false → d < length listed' → Reads net d p x → MarksSome net x reached (slice_set reached' d true) listed (slice_set listed' d true)
marks_new net x reached reached' listed listed' d p m new within reads = record {
  kept = λ z e. seen_kept reached' d z (m.kept z e);
  kept_listed = λ z e. seen_kept listed' d z (m.kept_listed z e);
  new = λ z e. elim (seen_cases reached' d z e) [
    | inl before ↦ elim (m.new z before) [ inl old ↦ inl old | inr found ↦ inr (found.0, seen_kept listed' d z found.1) ]
    | inr is ↦ inr ((p, rw is reads), rw is (seen_new listed' d within))
  ];
  new_listed = λ z e. elim (seen_cases listed' d z e) [
    | inl before ↦ elim (m.new_listed z before) [ inl old ↦ inl old | inr seen ↦ inr (seen_kept reached' d z seen) ]
    | inr is ↦ inr (rw is (seen_new reached' d (slice_get_within reached' d false new)))
  ];
  less =
      let fewer : suc (unseen (slice_set reached' d true)) ≡ unseen reached' = unseen-set reached' d new in
      let more : seen_count (slice_set listed' d true) ≤ suc (seen_count listed') = count-set listed' d in
      let before : search_left reached' listed' ≤ search_left reached listed = m.less in
      omega arith;
}

pub marks_all : (net : Net) (x : ℕ) (reached reached' listed listed' : List Bool) → MarksSome net x reached reached' listed listed' → ((z p : ℕ) → Reads net z p x → IsSeen reached' z) → MarksReaders net x reached reached' listed listed'
marks_all net x reached reached' listed listed' m all = record { kept = m.kept; kept_listed = m.kept_listed; all = all; new = m.new; new_listed = m.new_listed; less = m.less }

-- THE SEARCH
pub search_first : (net : Net) (gate n m : ℕ) (reached' listed' : List Bool) → MarksReaders net gate (replicate n false) reached' (replicate m false) listed' → Searches net gate reached' listed'
search_first net gate n m reached' listed' r = record {
  sound = λ y e. elim (r.new y e) [ inl old ↦ absurd (none_seen n y old) | inr found ↦ pin found.0.0 found.0.1 ];
  first = r.all;
  done = λ y e. elim (r.new y e) [ inl old ↦ absurd (none_seen n y old) | inr found ↦ inl found.1 ];
  within = λ y e. elim (r.new_listed y e) [ inl old ↦ absurd (none_seen m y old) | inr seen ↦ seen ];
}

pub search_more : (net : Net) (gate : ℕ) (reached reached' listed listed' : List Bool) (d : ℕ) → Searches net gate reached listed → IsSeen listed d → MarksReaders net d reached reached' (slice_set listed d false) listed' → Searches net gate reached' listed'
search_more net gate reached reached' listed listed' d s here r = record {
  sound = λ y e. elim (r.new y e) [ inl old ↦ s.sound y old | inr found ↦ on found.0.0 (s.sound d (s.within d here)) found.0.1 ];
  first = λ z p reads. r.kept z (s.first z p reads);
  done = λ y e. elim (r.new y e) [
    | inr found ↦ inl found.1
    | inl old ↦ elim (s.done y old) [
      | inr readers ↦ inr (λ z p reads. r.kept z (readers z p reads))
      | inl on' ↦ elim (eqb_tells y d) [
        | inl same ↦ inr (λ z p reads. r.all z p (rw same.1 at reads))
        | inr ne ↦ inl (r.kept_listed y (seen_stays listed d y on' ne.1))
      ]
    ]
  ];
  within = λ y e. elim (r.new_listed y e) [ inl old ↦ r.kept y (s.within y (seen_left listed d y old).0) | inr seen ↦ seen ];
}

all_reached : (net : Net) (gate : ℕ) (reached listed : List Bool) → Searches net gate reached listed → ((z : ℕ) → IsSeen listed z → ⊥) → {x y : ℕ} → Reaches net x y → x ≡ gate → IsSeen reached y
all_reached net gate reached listed s none {x} {y} (pin p reads) is = s.first y p (rw is at reads)
all_reached net gate reached listed s none {x} {y} (on {z = z} p path reads) is = elim (s.done z (all_reached net gate reached listed s none path is)) [ inl on' ↦ absurd (none z on') | inr readers ↦ readers y p reads ]

pub search_ends : (net : Net) (gate : ℕ) (reached listed : List Bool) → Searches net gate reached listed → ((z : ℕ) → IsSeen listed z → ⊥) → MarksReached net gate reached
search_ends net gate reached listed s none = record { sound = s.sound; all = λ y path. all_reached net gate reached listed s none path refl }

pub search_less : (reached reached' listed listed₁ listed' : List Bool) (d : ℕ) → IsSeen listed d × (listed₁ ≡ slice_set listed d false) → search_left reached' listed' ≤ search_left reached listed₁ → search_left reached' listed' < search_left reached listed
search_less reached reached' listed listed₁ listed' d taken less = let fewer : seen_count listed₁ < seen_count listed = clear_less listed listed₁ d taken in omega arith

-- what is reached is live
pub reached_live : (net : Net) (x y : ℕ) → Reaches net x y → IsLive net y
reached_live net x y (pin p reads) = reader_live net y p x reads
reached_live net x y (on {z = z} p path reads) = reader_live net y p z reads
