-- What is known of gates while facts come.
use Rattle.std.proofs.Common.{Bool, List, None, Some, [], ap, append-nil, arith, false, get_or, inl, inr, length, length-set, refl, replicate, subst, suc, sym, true, zero, ℕ, ◌+◌, ◌<◌, ◌∙◌, ◌∷◌, ◌≡◌, ◌⊎◌}
use Rattle.std.proofs.lemmas.Bool.{cases_lt}
use Rattle.std.proofs.lemmas.Bool.Decides.{eqb_tells}
use Rattle.std.proofs.lemmas.Option.{get_or_from_slice_get}
use Rattle.std.specs.Prelude.{IsTrue, slice_get, slice_set}
use Rattle.gate_graph.proofs.Public.{none_seen, seen_or_not}
use Rattle.gate_graph.specs.Search.{IsSeen}
use Rattle.gate_net.specs.Net.{IsLive, Net, kind_in, kind_of}
use Rattle.implications.specs.Settled.{AgreeAt}
use Rattle.refutation.specs.FactLists.{IsAmong}
use Rattle.recursive_learning.proofs.Indexes.{longer_join, watched_longer}
use Rattle.recursive_learning.proofs.Regions.{stays_idle}
use Rattle.recursive_learning.proofs.Rounds.{junction_below}
use Rattle.recursive_learning.specs.Inner.Gates.{HasTaught}
use Rattle.recursive_learning.specs.Resting.{IsLonger, IsWatched, RestsState}
use Rattle.recursive_learning.specs.Watching.{HasRoom, IsListedAt, LeavesList, StillLists}
use Rattle.recursive_learning.specs.Inner.Watching.{AgreeAround, Covers, HasNoneListed, IsAround, IsBlank, IsKnown, IsWatching, Lengthens, ListsChanged, ListsGoods, RestsOn, StaysTaught}
use Rattle.recursive_learning.specs.Inner.Working.{AreSettled}
use Rattle.recursive_learning.specs.declared.resting.Rest.{Rest}
use Rattle.recursive_learning.specs.declared.watch.Watch.{Watch}
use Rattle.refutation.specs.Closing.{IsWithin}
use Rattle.refutation.specs.Facts.{Held}
use Rattle.refutation.proofs.Public.{seen_stays}
use Rattle.refutation.specs.declared.reasoning.Fact.{Fact}
use Rattle.rm_base.specs.declared.numbers.Fault.{Fault}
use Rattle.rm_base.specs.declared.numbers.NodeId.{NodeId}

-- AGREEMENT
pub around_same : (net : Net) (held : Held) (y : ℕ) → AgreeAround net held held y
around_same net held y = record { here = λ fact. refl; drivers = λ p d reads fact. refl }

around_join : (net : Net) (a b c : Held) (y : ℕ) → AgreeAround net a b y → AgreeAround net b c y → AgreeAround net a c y
around_join net a b c y one two = record {
  here = λ fact. one.here fact ∙ two.here fact;
  drivers = λ p d reads fact. one.drivers p d reads fact ∙ two.drivers p d reads fact;
}

-- facts that came are on the nodes of added facts
module _ (net : Net) (fault : Fault) (held now : Held) (added : List (NodeId × Fact)) (settled : AreSettled net fault now) (within : IsWithin held now) (all : (x : ℕ) (fact : Fact) → IsTrue (now x fact) → IsTrue (held x fact) ⊎ IsAmong added x fact) where
  -- no added fact is around the place
  abbrev pub IsFar : ℕ → Type 0
  IsFar z = (k : ℕ) (a : NodeId × Fact) → slice_get added k ≡ Some a → IsLive net a.0.0 → IsAround net a.0.0 z → ⊥

  same_at : (z x : ℕ) → IsAround net x z → IsFar z → AgreeAt held now x
  same_at z x around far fact = at (held x fact) (now x fact) refl refl
    where
      at : (t u : Bool) → held x fact ≡ t → now x fact ≡ u → held x fact ≡ now x fact
      at true true e f = e ∙ sym f
      at false false e f = e ∙ sym f
      at true false e f = let more : now x fact ≡ true = within x fact e in let wrong : true ≡ false = sym more ∙ f in cc
      at false true e f = elim (all x fact f) [
        | inl before ↦ let wrong : false ≡ true = sym e ∙ before in cc
        | inr among ↦ absurd (far among.0 among.1.0 among.1.1.0
            (subst (IsLive net) (sym among.1.1.1.0) (settled.live x fact f))
            (subst (λ (n : ℕ). IsAround net n z) (sym among.1.1.1.0) around))
      ]

  pub far_agrees : (z : ℕ) → IsFar z → AgreeAround net held now z
  far_agrees z far = record { here = same_at z z (inl refl) far; drivers = λ p d reads. same_at z d (inr (p, reads)) far }

-- LISTS
watched_later : (e : Rest) (entries : List Rest) (z y : ℕ) → ((e.place ≡ z) × (e.gate ≡ y) → ⊥) → IsWatched entries z y ⊎ (IsWatched entries z y → ⊥) → IsWatched (e ∷ entries) z y ⊎ (IsWatched (e ∷ entries) z y → ⊥)
watched_later e entries z y isn't (inl (k, (a, is))) = inl (suc k, (a, is))
watched_later e entries z y isn't (inr none) = inr (λ w. at w.0 w.1.0 w.1.1.0 w.1.1.1)
  where
    at : (k : ℕ) (a : Rest) → slice_get (e ∷ entries) k ≡ Some a → (a.place ≡ z) × (a.gate ≡ y) → ⊥
    at zero a there is = let same : e ≡ a = cc in isn't (rw same is)
    at (suc k) a there is = none (k, (a, (there, is)))

watched_or : (entries : List Rest) (z y : ℕ) → IsWatched entries z y ⊎ (IsWatched entries z y → ⊥)
watched_or [] z y = inr (λ (k, (e, (there, is))). cc)
watched_or (e ∷ entries) z y = elim (eqb_tells e.place z) [
  | inl place ↦ elim (eqb_tells e.gate y) [
    | inl gate ↦ inl (0, (e, (refl, (place.1, gate.1))))
    | inr ne ↦ watched_later e entries z y (λ is. ne.1 is.1) (watched_or entries z y)
  ]
  | inr ne ↦ watched_later e entries z y (λ is. ne.1 is.0) (watched_or entries z y)
]

-- the region covers what was added
pub region_covers : (net : Net) (fault : Fault) (held now : Held) (added : List (NodeId × Fact)) (entries : List Rest) (y : ℕ) → AreSettled net fault now → IsWithin held now → ((x : ℕ) (fact : Fact) → IsTrue (now x fact) → IsTrue (held x fact) ⊎ IsAmong added x fact) → RestsOn net added entries y → Covers net held now entries y
region_covers net fault held now added entries y settled within all rests z = elim (watched_or entries z y) [
  | inl watched ↦ inl watched
  | inr none ↦ inr (far_agrees net fault held now added settled within all z (λ k a there live around. none (rests k a there live z around)))
]

-- WHAT IS KNOWN
pub stays_longer : (net : Net) (fault : Fault) (held : Held) (xs ys : List Rest) (y : ℕ) → IsLonger xs ys → StaysTaught net fault held xs y → StaysTaught net fault held ys y
stays_longer net fault held xs ys y longer stays more within settled around agree = stays more within settled around (λ z watched. agree z (watched_longer xs ys longer z y watched))

pub known_longer : (net : Net) (fault : Fault) (held : Held) (v w : Watch) → LeavesList v w → (y : ℕ) → IsKnown net fault held v y → IsKnown net fault held w y
known_longer net fault held v w leaves y (inl seen) = inl (rw leaves.listed seen)
known_longer net fault held v w leaves y (inr stays) = inr (stays_longer net fault held v.rests.entries w.rests.entries y leaves.longer stays)

-- more facts, with the gates listed where they changed
pub known_more : (net : Net) (fault : Fault) (held now : Held) (added : List (NodeId × Fact)) (v w : Watch) → AreSettled net fault now → IsWithin held now → ((x : ℕ) (fact : Fact) → IsTrue (now x fact) → IsTrue (held x fact) ⊎ IsAmong added x fact) → StillLists v w → ListsChanged net added w → (y : ℕ) → IsKnown net fault held v y → IsKnown net fault now w y
known_more net fault held now added v w settled within all still changed y (inl seen) = inl (still.kept y seen)
known_more net fault held now added v w settled within all still changed y (inr stays) = elim (seen_or_not w.listed y) [
  | inl seen ↦ inl seen
  | inr none ↦ inr (λ more grown settled' around agree.
      stays more (λ x fact e. grown x fact (within x fact e)) settled'
      (around_join net held now more y (far_agrees net fault held now added settled within all y (λ k a there live near. none (changed k a there live y near).itself)) around)
      (λ z watched.
      let here : IsWatched w.rests.entries z y = rw still.rests watched in
      around_join net held now more z (far_agrees net fault held now added settled within all z (λ k a there live near. none ((changed k a there live z near).gates y here))) (agree z here)))
]

pub watching_more : (net : Net) (fault : Fault) (held now : Held) (added : List (NodeId × Fact)) (v w : Watch) → AreSettled net fault now → IsWithin held now → ((x : ℕ) (fact : Fact) → IsTrue (now x fact) → IsTrue (held x fact) ⊎ IsAmong added x fact) → StillLists v w → ListsChanged net added w → IsWatching net fault held v → IsWatching net fault now w
watching_more net fault held now added v w settled within all still changed (inl unknown) = inl (still.all ∙ unknown)
watching_more net fault held now added v w settled within all still changed (inr known) = inr (λ y. known_more net fault held now added v w settled within all still changed y (known y))

-- nothing is listed, so no gate has anything to teach
pub known_taught : (net : Net) (fault : Fault) (held : Held) (w : Watch) → AreSettled net fault held → ((z : ℕ) → IsSeen w.listed z → ⊥) → ((y : ℕ) → IsKnown net fault held w y) → (y : ℕ) → HasTaught net fault 0 held y
known_taught net fault held w settled none known y = elim (known y) [
  | inl seen ↦ absurd (none y seen)
  | inr stays ↦ stays held (λ x fact e. e) settled (around_same net held y) (λ z watched. around_same net held z)
]

-- a gate whose good value isn't known has nothing to teach
pub known_goods : (net : Net) (fault : Fault) (held : Held) (w : Watch) → ListsGoods net held w.listed → (y : ℕ) → IsKnown net fault held w y
known_goods net fault held w goods y = elim (seen_or_not w.listed y) [
  | inl seen ↦ inl seen
  | inr none ↦ inr (stays_idle net fault held w.rests.entries y (λ c u few. none (goods y c (junction_below net y c u.junction) u.known)))
]

pub known_begun : (net : Net) (fault : Fault) (held : Held) (v w : Watch) → (v.all ≡ true → ListsGoods net held w.listed) → (v.all ≡ false → w.listed ≡ v.listed) → w.rests ≡ v.rests → IsWatching net fault held v → (y : ℕ) → IsKnown net fault held w y
known_begun net fault held v w goods same rests watching y = at v.all refl
  where
    at : (b : Bool) → v.all ≡ b → IsKnown net fault held w y
    at true is = known_goods net fault held w (goods is) y
    at false is = elim watching [
      | inl wrong ↦ let no' : true ≡ false = sym wrong ∙ is in cc
      | inr known ↦ elim (known y) [
        | inl seen ↦ inl (rw (same is) seen)
        | inr stays ↦ inr (rw rests stays)
      ]
    ]

-- a gate was taken off the list
pub known_taken : (net : Net) (fault : Fault) (held : Held) (v w : Watch) (d : ℕ) → w.listed ≡ slice_set v.listed d false → w.rests ≡ v.rests → ((y : ℕ) → IsKnown net fault held v y) → (y : ℕ) → (y ≡ d) ⊎ IsKnown net fault held w y
known_taken net fault held v w d is rests known y = elim (eqb_tells y d) [
  | inl same ↦ inl same.1
  | inr ne ↦ elim (known y) [
    | inl seen ↦ inr (inl (rw is (seen_stays v.listed d y seen ne.1)))
    | inr stays ↦ inr (inr (rw rests stays))
  ]
]

pub none_listed : (w : Watch) → HasNoneListed w → (z : ℕ) → IsSeen w.listed z → ⊥
none_listed w none z seen = none_seen (length w.listed) z (rw none at seen)

-- WATCHES
pub room_longer : (net : Net) (v w : Watch) → Lengthens v w → HasRoom net v → HasRoom net w
room_longer net v w l room = record {
  places = rw l.numbers room.places;
  gates = l.numbers ∙ room.gates ∙ sym l.size;
}

pub lengthens_leaves : (v w : Watch) → LeavesList v w → Lengthens v w
lengthens_leaves v w l = record { size = ap length l.listed; numbers = l.numbers; longer = l.longer; first = l.first }

pub lengthens_still : (v w : Watch) → StillLists v w → Lengthens v w
lengthens_still v w s = record { size = s.size; numbers = ap (λ (r : RestsState). r.numbers) s.rests; longer = ([], sym (append-nil v.rests.entries ∙ ap (λ (r : RestsState). r.entries) (sym s.rests))); first = s.first }

pub lengthens_join : (u v w : Watch) → Lengthens u v → Lengthens v w → Lengthens u w
lengthens_join u v w one two = record {
  size = two.size ∙ one.size;
  numbers = two.numbers ∙ one.numbers;
  longer = longer_join u.rests.entries v.rests.entries w.rests.entries one.longer two.longer;
  first = two.first ∙ one.first;
}

pub leaves_join : (u v w : Watch) → LeavesList u v → LeavesList v w → LeavesList u w
leaves_join u v w one two = record {
  all = two.all ∙ one.all;
  listed = two.listed ∙ one.listed;
  numbers = two.numbers ∙ one.numbers;
  longer = longer_join u.rests.entries v.rests.entries w.rests.entries one.longer two.longer;
  first = two.first ∙ one.first;
}

pub leaves_none : (w : Watch) → LeavesList w w
leaves_none w = record { all = refl; listed = refl; numbers = refl; longer = ([], sym (append-nil w.rests.entries)); first = refl }

-- one more entry
pub leaves_more : (u v : Watch) (rests : RestsState) → LeavesList u v → rests.numbers ≡ v.rests.numbers → IsLonger v.rests.entries rests.entries → LeavesList u (record v { rests = rests })
leaves_more u v rests one numbers longer = record {
  all = one.all;
  listed = one.listed;
  numbers = numbers ∙ one.numbers;
  longer = longer_join u.rests.entries v.rests.entries rests.entries one.longer longer;
  first = one.first;
}

pub room_leaves : (net : Net) (v w : Watch) → LeavesList v w → HasRoom net v → HasRoom net w
room_leaves net v w l room = room_longer net v w (lengthens_leaves v w l) room

pub room_still : (net : Net) (v w : Watch) → StillLists v w → HasRoom net v → HasRoom net w
room_still net v w s room = room_longer net v w (lengthens_still v w s) room

pub blank_leaves : (v w : Watch) → LeavesList v w → IsBlank v → IsBlank w
blank_leaves v w l blank = record { all = l.all ∙ blank.all; none = l.listed ∙ blank.none ∙ ap (λ (s : List Bool). replicate (length s) false) (sym l.listed) }

pub none_leaves : (v w : Watch) → w.listed ≡ v.listed → HasNoneListed v → HasNoneListed w
none_leaves v w same none = same ∙ none ∙ ap (λ (s : List Bool). replicate (length s) false) (sym same)

pub still_none : (w : Watch) → StillLists w w
still_none w = record { all = refl; rests = refl; size = refl; kept = λ y seen. seen; first = refl }

pub still_join : (u v w : Watch) → StillLists u v → StillLists v w → StillLists u w
still_join u v w one two = record {
  all = two.all ∙ one.all;
  rests = two.rests ∙ one.rests;
  size = two.size ∙ one.size;
  kept = λ y seen. two.kept y (one.kept y seen);
  first = two.first ∙ one.first;
}

pub listed_still : (v w : Watch) (z : ℕ) → StillLists v w → IsListedAt v z → IsListedAt w z
listed_still v w z still at = record { itself = still.kept z at.itself; gates = λ y watched. still.kept y (at.gates y (rw still.rests at watched)) }

-- ALONG ADDED FACTS
-- what holds of each of the first added facts
abbrev pub UpTo : List (NodeId × Fact) → ℕ → (NodeId × Fact → Type 0) → Type 0
UpTo added n P = (k : ℕ) (a : NodeId × Fact) → k < n → slice_get added k ≡ Some a → P a

pub up_to_none : (added : List (NodeId × Fact)) (P : NodeId × Fact → Type 0) → UpTo added 0 P
up_to_none added P k a less = absurd (omega arith)

pub up_to_more : (added : List (NodeId × Fact)) (n : ℕ) (P : NodeId × Fact → Type 0) (d : NodeId × Fact) → n < length added → UpTo added n P → P (get_or added n d) → UpTo added (n + 1) P
up_to_more added n P d inside before here k a less there = elim (cases_lt k n) [
  | inl lt ↦ before k a lt there
  | inr ge ↦ let is : k ≡ n = omega arith in subst P (get_or_from_slice_get added n a d (subst (λ (m : ℕ). slice_get added m ≡ Some a) is there)) here
]

pub up_to_map : (added : List (NodeId × Fact)) (n : ℕ) (P Q : NodeId × Fact → Type 0) → ((a : NodeId × Fact) → P a → Q a) → UpTo added n P → UpTo added n Q
up_to_map added n P Q f before k a less there = f a (before k a less there)

-- what holds around the node of an added fact
abbrev pub Around : Net → (ℕ → Type 0) → NodeId × Fact → Type 0
Around net P a = IsLive net a.0.0 → (z : ℕ) → IsAround net a.0.0 z → P z

pub around_map : (net : Net) (P Q : ℕ → Type 0) → ((z : ℕ) → P z → Q z) → (a : NodeId × Fact) → Around net P a → Around net Q a
around_map net P Q f a at live z around = f z (at live z around)

pub none_dead : (net : Net) (x : ℕ) → kind_of net x ≡ None → IsLive net x → ⊥
none_dead net x none live = let is : kind_of net x ≡ Some live.0 = ap kind_in live.1.1 in let wrong : None ≡ Some live.0 = sym none ∙ is in cc

pub watching_leaves : (net : Net) (fault : Fault) (held : Held) (v w : Watch) → LeavesList v w → IsWatching net fault held v → IsWatching net fault held w
watching_leaves net fault held v w leaves (inl unknown) = inl (leaves.all ∙ unknown)
watching_leaves net fault held v w leaves (inr known) = inr (λ y. known_longer net fault held v w leaves y (known y))

pub watching_known : (net : Net) (fault : Fault) (held now : Held) (v w : Watch) → w.all ≡ v.all → ((y : ℕ) → IsKnown net fault held v y → IsKnown net fault now w y) → IsWatching net fault held v → IsWatching net fault now w
watching_known net fault held now v w all known (inl unknown) = inl (all ∙ unknown)
watching_known net fault held now v w all known (inr before) = inr (λ y. known y (before y))

pub known_still : (net : Net) (fault : Fault) (held : Held) (v w : Watch) (y : ℕ) → StillLists v w → IsKnown net fault held v y → IsKnown net fault held w y
known_still net fault held v w y still (inl seen) = inl (still.kept y seen)
known_still net fault held v w y still (inr stays) = inr (rw still.rests stays)

pub known_same : (net : Net) (fault : Fault) (held : Held) (v w : Watch) (y : ℕ) → w.listed ≡ v.listed → w.rests ≡ v.rests → IsKnown net fault held v y → IsKnown net fault held w y
known_same net fault held v w y same rests (inl seen) = inl (rw same seen)
known_same net fault held v w y same rests (inr stays) = inr (rw rests stays)

pub lengthens_rests : (v w : Watch) → w.rests ≡ v.rests → length w.listed ≡ length v.listed → w.first ≡ v.first → Lengthens v w
lengthens_rests v w rests size first = record {
  size = size;
  numbers = ap (λ (r : RestsState). r.numbers) rests;
  longer = ([], sym (append-nil v.rests.entries ∙ ap (λ (r : RestsState). r.entries) (sym rests)));
  first = first;
}

pub lengthens_taken : (v w : Watch) (d : ℕ) → w.listed ≡ slice_set v.listed d false → w.rests ≡ v.rests → w.first ≡ v.first → Lengthens v w
lengthens_taken v w d is rests first = lengthens_rests v w rests (ap length is ∙ length-set v.listed d false) first

pub lengthens_none : (w : Watch) → Lengthens w w
lengthens_none w = lengthens_leaves w w (leaves_none w)
