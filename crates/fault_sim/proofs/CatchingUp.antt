-- Words that follow a net that changes.
use Rattle.std.proofs.Common.{Bool, List, None, Option, Some, ap, arith, false, inl, inr, length, length-set, map, refl, subst, sym, true, ℕ, ◌+◌, ◌<◌, ◌∙◌, ◌≡◌, ◌≢◌, ◌≤◌, ◌⊎◌}
use Rattle.std.proofs.lemmas.Bool.Decides.{eqb_tells}
use Rattle.std.proofs.lemmas.List.{get_or_past}
use Rattle.std.specs.Prelude.{slice_get, slice_index, slice_set}
use Rattle.gate_net.specs.Net.{IsWellFormed, Net, Node, Reads, drivers_in, drivers_of, kind_in, kind_of, node_at}
use Rattle.gate_net.specs.Values.{node_value}
use Rattle.fault_sim.proofs.LaneLaws.{lane_node, lane_zero, map_twice}
use Rattle.fault_sim.proofs.Lists.{below_or, still_pending}
use Rattle.fault_sim.proofs.ReadInOrder.{apart, driver_before, reader_not_dead, set_elsewhere, set_here, unlisted_dead}
use Rattle.fault_sim.proofs.Spreads.{clash, still_idle}
use Rattle.fault_sim.specs.BlockStates.{AreGoodWords}
use Rattle.fault_sim.specs.Inner.BlockStates.{ArePlaced}
use Rattle.fault_sim.specs.Following.{AreTouched, DiffersAmong, IsRereading, IsRightAt, Stands, WereGood}
use Rattle.fault_sim.specs.Ordered.{IsOrdered}
use Rattle.fault_sim.specs.Pending.{IsIdle, IsPending, is_pending}
use Rattle.fault_sim.specs.Inner.Pending.{IsMarked, IsUnmarked}
use Rattle.fault_sim.specs.Simulating.{AreNoOthers}
use Rattle.fault_sim.specs.Inner.Simulating.{IsWithin}
use Rattle.fault_sim.specs.Inner.Spreading.{AreLanes, IsRested, IsUnstamped, MarksReaders}
use Rattle.fault_sim.specs.Words.{assigned_word, assignment, lane, lane_values}
use Rattle.fault_sim.specs.Inner.Words.{node_word}
use Rattle.fault_sim.specs.declared.spread.Spread.{Spread}
use Rattle.rm_base.proofs.Public.{map_agree, slice_get_below, stands_or_not}

pub live_kind : (net : Net) (x : ℕ) → node_at net x ≢ None → kind_of net x ≢ None
live_kind net x live = at (node_at net x) refl
  where
    at : (o : Option Node) → node_at net x ≡ o → kind_of net x ≢ None
    at None is = absurd (live is)
    at (Some n) is = λ none. let told : kind_of net x ≡ Some n.kind = ap kind_in is in let wrong : Some n.kind ≡ None = sym told ∙ none in cc

pub kind_live : (net : Net) (x : ℕ) → kind_of net x ≢ None → node_at net x ≢ None
kind_live net x live dead = live (ap kind_in dead)

-- the order still holds where the changed nodes stand after their drivers
pub still_ordered : (before net : Net) (order places changed : List ℕ) → IsOrdered before order → ((k x : ℕ) → slice_get order k ≡ Some x → slice_index places x ≡ k) → DiffersAmong before net changed
    → ((k y : ℕ) → slice_get changed k ≡ Some y → kind_of net y ≢ None → Stands net order places y) → IsOrdered net order
still_ordered before net order places changed ordered placed differs stand = record { all = all; once = ordered.once; before = earlier }
  where
    all : (x : ℕ) → node_at net x ≢ None → (k : ℕ) × (slice_get order k ≡ Some x)
    all x live = elim (stands_or_not changed x) [
      | inl at ↦ (slice_index places x, (stand at.0 x at.1 (live_kind net x live)).placed)
      | inr none ↦ ordered.all x (λ dead. live (differs.others x none ∙ dead))
    ]

    earlier : (k l x y p : ℕ) → slice_get order k ≡ Some x → slice_get order l ≡ Some y → Reads net y p x → k < l
    earlier k l x y p there there' reads = elim (stands_or_not changed y) [
      | inl at ↦
          let less : slice_index places x < slice_index places y = (stand at.0 y at.1 (live_kind net y (reader_not_dead net y p x reads))).before p x reads in
          let here : slice_index places x ≡ k = placed k x there in
          let here' : slice_index places y ≡ l = placed l y there' in
          omega arith
      | inr none ↦ ordered.before k l x y p there there' (ap (λ (o : Option Node). slice_get (drivers_in o) p) (sym (differs.others y none)) ∙ reads)
    ]

-- a live node's place is within
pub place_within : (net : Net) (order places : List ℕ) → IsOrdered net order → IsWithin order (length places) → (x : ℕ) → kind_of net x ≢ None → x < length places
place_within net order places ordered within x live = let at = ordered.all x (kind_live net x live) in within at.0 x at.1

pub place_below : (net : Net) (order places : List ℕ) → IsOrdered net order → ((k x : ℕ) → slice_get order k ≡ Some x → slice_index places x ≡ k) → (x : ℕ) → kind_of net x ≢ None → slice_index places x < length order
place_below net order places ordered placed x live =
    let at = ordered.all x (kind_live net x live) in
    rw (placed at.0 x at.1) (slice_get_below order at.0 (λ none. let wrong : Some x ≡ None = sym at.1 ∙ none in cc))

-- one node is touched
pub record IsTouch (net : Net) (places good pending good' pending' : List ℕ) (x : ℕ) : Type 0 where
  pub live : kind_of net x ≢ None → IsMarked pending pending' (slice_index places x)
  pub dead : kind_of net x ≡ None → good' ≡ slice_set good x 0
  pub idle : kind_of net x ≡ None → pending' ≡ pending
  pub kept : kind_of net x ≢ None → good' ≡ good

zero_there : (good : List ℕ) (x : ℕ) → slice_index (slice_set good x 0) x ≡ 0
zero_there good x = elim (below_or x (length good)) [
  | inl less ↦ set_here good x 0 less
  | inr past ↦ get_or_past (slice_set good x 0) x 0 (rw (length-set good x 0) past)
]

module _ (net : Net) (order places changed old : List ℕ) where
  pub touched_none : (pending : List ℕ) → ((k : ℕ) → IsIdle pending k) → AreTouched net order places changed old old pending 0
  touched_none pending idle = record {
    words = λ x. inl refl;
    live = λ k x less there alive. absurd (omega arith);
    dead = λ k x less there gone. absurd (omega arith);
    past = λ k le. idle k;
  }

  same_at : (n k x y : ℕ) → slice_get changed n ≡ Some x → k ≡ n → slice_get changed k ≡ Some y → y ≡ x
  same_at n k x y here e there = let moved : slice_get changed k ≡ slice_get changed n = ap (slice_get changed) e in cc

  pub touched_more : (good pending good' pending' : List ℕ) (n x : ℕ) → IsOrdered net order → ((k x : ℕ) → slice_get order k ≡ Some x → slice_index places x ≡ k) → slice_get changed n ≡ Some x → IsTouch net places good pending good' pending' x
      → AreTouched net order places changed old good pending n → AreTouched net order places changed old good' pending' (n + 1)
  touched_more good pending good' pending' n x ordered placed here t so = at (node_at net x) refl
    where
      at : (o : Option Node) → node_at net x ≡ o → AreTouched net order places changed old good' pending' (n + 1)
      at None is = record {
        words = λ y. elim (eqb_tells y x) [
          | inl e ↦ inr (ap (node_at net) e.1 ∙ is, ap (slice_index good') e.1 ∙ gone)
          | inr e ↦ elim (so.words y) [ inl same ↦ inl (other y e.1 ∙ same) | inr none ↦ inr (none.0, other y e.1 ∙ none.1) ]
        ];
        live = λ k y less there alive. elim (eqb_tells k n) [
          | inl e ↦ absurd (alive (ap (node_at net) (same_at n k x y here e.1 there) ∙ is))
          | inr e ↦ let ne : k ≢ n = e.1 in ap (λ (ps : List ℕ). is_pending ps (slice_index places y)) idle ∙ so.live k y (omega arith) there alive
        ];
        dead = λ k y less there none. elim (eqb_tells y x) [
          | inl e ↦ ap (slice_index good') e.1 ∙ gone
          | inr e ↦ elim (eqb_tells k n) [
            | inl f ↦ absurd (e.1 (same_at n k x y here f.1 there))
            | inr f ↦ let ne : k ≢ n = f.1 in other y e.1 ∙ so.dead k y (omega arith) there none
          ]
        ];
        past = λ k le. ap (λ (ps : List ℕ). is_pending ps k) idle ∙ so.past k le;
      }
        where
          cleared : good' ≡ slice_set good x 0
          cleared = t.dead (ap kind_in is)

          idle : pending' ≡ pending
          idle = t.idle (ap kind_in is)

          gone : slice_index good' x ≡ 0
          gone = ap (λ (xs : List ℕ). slice_index xs x) cleared ∙ zero_there good x

          other : (y : ℕ) → y ≢ x → slice_index good' y ≡ slice_index good y
          other y ne = ap (λ (xs : List ℕ). slice_index xs y) cleared ∙ set_elsewhere good x y 0 ne
      at (Some m) is = record {
        words = λ y. subst (λ (xs : List ℕ). (slice_index xs y ≡ slice_index old y) ⊎ ((node_at net y ≡ None) × (slice_index xs y ≡ 0))) (sym kept) (so.words y);
        live = λ k y less there alive. elim (eqb_tells k n) [
          | inl e ↦ ap (λ (z : ℕ). is_pending pending' (slice_index places z)) (same_at n k x y here e.1 there) ∙ marked.here
          | inr e ↦ let ne : k ≢ n = e.1 in still_pending pending pending' (slice_index places x) (slice_index places y) marked (so.live k y (omega arith) there alive)
        ];
        dead = λ k y less there none. elim (eqb_tells k n) [
          | inl e ↦ absurd (alive (ap (node_at net) (sym (same_at n k x y here e.1 there)) ∙ none))
          | inr e ↦ let ne : k ≢ n = e.1 in ap (λ (xs : List ℕ). slice_index xs y) kept ∙ so.dead k y (omega arith) there none
        ];
        past = λ k le. marked.others k (let below = place_below net order places ordered placed x (live_kind net x alive) in omega arith) ∙ so.past k le;
      }
        where
          alive : node_at net x ≢ None
          alive none = let wrong : Some m ≡ None = sym is ∙ none in cc

          marked : IsMarked pending pending' (slice_index places x)
          marked = t.live (live_kind net x alive)

          kept : good' ≡ good
          kept = t.kept (live_kind net x alive)

-- a dead node is false
dead_value : (o : Option Node) (a : Bool) (bs : List Bool) → o ≡ None → node_value o a bs ≡ false
dead_value o a bs is = ap (λ (p : Option Node). node_value p a bs) is

-- after all changed nodes were touched
module _ (net : Net) (words order places changed old good pending : List ℕ) (n : ℕ) (all : n ≡ length changed) (were : WereGood net words old changed) (touched : AreTouched net order places changed old good pending n) where
  below : (k x : ℕ) → slice_get changed k ≡ Some x → k < n
  below k x there = rw all (slice_get_below changed k (λ none. let wrong : Some x ≡ None = sym there ∙ none in cc))

  dead_false : (x : ℕ) → node_at net x ≡ None → (i : ℕ) → i < 64 → lane_values good i x ≡ false
  dead_false x is i h = elim (stands_or_not changed x) [
    | inl at ↦ ap (lane i) (touched.dead at.0 x (below at.0 x at.1) at.1 is) ∙ lane_zero i
    | inr none ↦ elim (touched.words x) [
      | inl same ↦
          ap (lane i) same ∙ were.values i h x
          ∙ dead_value (node_at were.before x) (assignment words i x) (map (lane_values old i) (drivers_of were.before x)) (sym (were.differs.others x none) ∙ is)
      | inr zero ↦ ap (lane i) zero.1 ∙ lane_zero i
    ]
  ]

  dead_right : (x : ℕ) → node_at net x ≡ None → IsRightAt net words good x
  dead_right x is i h = dead_false x is i h ∙ sym (dead_value (node_at net x) (assignment words i x) (map (lane_values good i) (drivers_of net x)) is)

  pub others_false : IsOrdered net order → AreNoOthers order good
  others_false ordered x none i h = dead_false x (unlisted_dead net order ordered x none) i h

  -- what didn't change is right, and what did is pending
  pub begin : IsWellFormed net → ((k x : ℕ) → slice_get order k ≡ Some x → slice_index places x ≡ k) → IsRereading net words order good pending 0
  begin formed placed = record { read = λ k less. absurd (omega arith); past = touched.past; right = right }
    where
      same_right : (x : ℕ) → node_at net x ≡ node_at were.before x → slice_index good x ≡ slice_index old x → IsRightAt net words good x
      same_right x node same i h =
          ap (lane i) same ∙ were.values i h x
          ∙ ap (λ (o : Option Node). node_value o (assignment words i x) (map (lane_values old i) (drivers_in o))) (sym node)
          ∙ ap (node_value (node_at net x) (assignment words i x))
          (map_agree (lane_values old i) (lane_values good i) (drivers_of net x)
          (λ p d reads. elim (touched.words d) [ inl e ↦ ap (lane i) (sym e) | inr zero ↦ absurd (formed.drivers_live x p d reads zero.0) ]))

      right : (k x : ℕ) → slice_get order k ≡ Some x → IsIdle pending k → IsRightAt net words good x
      right k x there idle = elim (stands_or_not changed x) [
        | inl at ↦ by_node at.0 at.1 (node_at net x) refl
        | inr none ↦ elim (touched.words x) [ inl same ↦ same_right x (were.differs.others x none) same | inr zero ↦ dead_right x zero.0 ]
      ]
        where
          by_node : (j : ℕ) → slice_get changed j ≡ Some x → (o : Option Node) → node_at net x ≡ o → IsRightAt net words good x
          by_node j at None is = dead_right x is
          by_node j at (Some m) is =
              let marked : IsPending pending (slice_index places x) = touched.live j x (below j x at) at (λ none. let wrong : Some m ≡ None = sym is ∙ none in cc) in
              absurd (clash pending k (ap (is_pending pending) (sym (placed k x there)) ∙ marked) idle)

-- places that aren't pending need no reading
pub skip_to : (net : Net) (words order good pending : List ℕ) (at p : ℕ) → ((k : ℕ) → at ≤ k → k < p → IsIdle pending k) → IsRereading net words order good pending at → IsRereading net words order good pending p
skip_to net words order good pending at p none so = record {
  read = λ k less. elim (below_or k at) [ inl before ↦ so.read k before | inr later ↦ none k later less ];
  past = so.past;
  right = so.right;
}

-- reading one node again
module _ (net : Net) (words order : List ℕ) (formed : IsWellFormed net) (ordered : IsOrdered net order) where
  right_from : (good : List ℕ) (x : ℕ) → slice_index good x ≡ node_word (node_at net x) (assigned_word words x) (map (slice_index good) (drivers_of net x)) → IsRightAt net words good x
  right_from good x e i h =
      ap (lane i) e
      ∙ lane_node i h (node_at net x) (assigned_word words x) (map (slice_index good) (drivers_of net x))
      ∙ ap (node_value (node_at net x) (assignment words i x)) (map_twice i (slice_index good) (drivers_of net x))

  same_place : (k p x y : ℕ) → k ≡ p → slice_get order p ≡ Some x → slice_get order k ≡ Some y → x ≡ y
  same_place k p x y e there there' = let moved : slice_get order k ≡ slice_get order p = ap (slice_get order) e in cc

  other_node : (k p x y : ℕ) → k ≢ p → slice_get order p ≡ Some x → slice_get order k ≡ Some y → y ≢ x
  other_node k p x y ne there there' same = ne (ordered.once k p x (there' ∙ ap Some same) there)

  -- a node that stays as it is
  pub again_kept : (good pending pending' : List ℕ) (p x w : ℕ) → slice_get order p ≡ Some x → IsUnmarked pending pending' p
      → w ≡ node_word (node_at net x) (assigned_word words x) (map (slice_index good) (drivers_of net x)) → w ≡ slice_index good x
      → IsRereading net words order good pending p → IsRereading net words order good pending' (p + 1)
  again_kept good pending pending' p x w there unmarked right same so = record {
    read = λ k less. elim (eqb_tells k p) [
      | inl e ↦ ap (is_pending pending') e.1 ∙ unmarked.here
      | inr e ↦ let ne : k ≢ p = e.1 in unmarked.others k ne ∙ so.read k (omega arith)
    ];
    past = λ k le. unmarked.others k (let within = slice_get_below order p (λ none. let wrong : Some x ≡ None = sym there ∙ none in cc) in omega arith) ∙ so.past k le;
    right = λ k y there' idle. elim (eqb_tells k p) [
      | inl e ↦ subst (λ z. IsRightAt net words good z) (same_place k p x y e.1 there there') (right_from good x (sym same ∙ right))
      | inr e ↦ so.right k y there' (sym (unmarked.others k e.1) ∙ idle)
    ];
  }

  -- a node that changes
  pub again_changed : (places good pending pending' pending'' : List ℕ) (p x w : ℕ) → ((k x : ℕ) → slice_get order k ≡ Some x → slice_index places x ≡ k) → x < length good
      → slice_get order p ≡ Some x → IsUnmarked pending pending' p → MarksReaders net x places pending' pending''
      → w ≡ node_word (node_at net x) (assigned_word words x) (map (slice_index good) (drivers_of net x))
      → IsRereading net words order good pending p → IsRereading net words order (slice_set good x w) pending'' (p + 1)
  again_changed places good pending pending' pending'' p x w placed within there unmarked marks right so = record {
    read = λ k less. idle_still k (elim (eqb_tells k p) [
      | inl e ↦ ap (is_pending pending') e.1 ∙ unmarked.here
      | inr e ↦ let ne : k ≢ p = e.1 in unmarked.others k ne ∙ so.read k (omega arith)
    ]) (λ z q reads e. let later = reader_later z q reads in omega arith);
    past = λ k le. idle_still k (unmarked.others k (omega (arith, inside)) ∙ so.past k le) (λ z q reads e. let later = reader_later z q reads in omega arith);
    right = right_still;
  }
    where
      inside : p < length order
      inside = slice_get_below order p (λ none. let wrong : Some x ≡ None = sym there ∙ none in cc)

      -- readers stand at later places of the order
      reader_later : (z q : ℕ) → Reads net z q x → (p < slice_index places z) × (slice_index places z < length order)
      reader_later z q reads =
          let at_k : (k : ℕ) × (slice_get order k ≡ Some z) = ordered.all z (reader_not_dead net z q x reads) in
          let less : p < at_k.0 = ordered.before p at_k.0 x z q there at_k.1 reads in
          let below : at_k.0 < length order = slice_get_below order at_k.0 (λ none. let wrong : Some z ≡ None = sym at_k.1 ∙ none in cc) in
          let place : slice_index places z ≡ at_k.0 = placed at_k.0 z at_k.1 in
          (omega arith, omega arith)

      idle_still : (k : ℕ) → IsIdle pending' k → ((z q : ℕ) → Reads net z q x → slice_index places z ≡ k → ⊥) → IsIdle pending'' k
      idle_still k idle none = at_k (is_pending pending'' k) refl
        where
          at_k : (b : Bool) → is_pending pending'' k ≡ b → is_pending pending'' k ≡ false
          at_k false is = is
          at_k true is = elim (marks.only k is) [ inl before ↦ absurd (clash pending' k before idle) | inr new ↦ absurd (none new.0 new.1.0 new.1.1.0 new.1.1.1) ]

      right_here : IsRightAt net words (slice_set good x w) x
      right_here = right_from (slice_set good x w) x
          (set_here good x w within ∙ right
          ∙ ap (node_word (node_at net x) (assigned_word words x))
          (map_agree (slice_index good) (slice_index (slice_set good x w)) (drivers_of net x)
          (λ q d reads.
          let at : (j : ℕ) × ((j < p) × (slice_get order j ≡ Some d)) = driver_before net order formed ordered p x q d there reads in
          sym (set_elsewhere good x d w (apart net order ordered at.0 p d x at.1.1 there at.1.0)))))

      right_still : (k y : ℕ) → slice_get order k ≡ Some y → IsIdle pending'' k → IsRightAt net words (slice_set good x w) y
      right_still k y there' idle = elim (eqb_tells k p) [
        | inl e ↦ subst (λ z. IsRightAt net words (slice_set good x w) z) (same_place k p x y e.1 there there') right_here
        | inr e ↦ other e.1
      ]
        where
          unread : (q d : ℕ) → Reads net y q d → d ≢ x
          unread q d reads same =
              let marked : IsPending pending'' (slice_index places y) = marks.readers y q (subst (λ z. Reads net y q z) same reads) in
              clash pending'' k (ap (is_pending pending'') (sym (placed k y there')) ∙ marked) idle

          other : k ≢ p → IsRightAt net words (slice_set good x w) y
          other ne i h =
              ap (lane i) (set_elsewhere good x y w (other_node k p x y ne there there'))
              ∙ so.right k y there' (sym (unmarked.others k ne) ∙ still_idle pending' pending'' k (marks.kept k) idle) i h
              ∙ ap (node_value (node_at net y) (assignment words i y))
              (map_agree (lane_values good i) (lane_values (slice_set good x w) i) (drivers_of net y)
              (λ q d reads. ap (lane i) (sym (set_elsewhere good x d w (unread q d reads)))))

  pub all_right : (good pending : List ℕ) (n : ℕ) → n ≡ length order → AreNoOthers order good → IsRereading net words order good pending n → AreGoodWords net words good
  all_right good pending n all others so i h x = elim (stands_or_not order x) [
    | inl at ↦ so.right at.0 x at.1 (so.read at.0 (rw all (slice_get_below order at.0 (λ none. let wrong : Some x ≡ None = sym at.1 ∙ none in cc)))) i h
    | inr none ↦ others x none i h ∙ sym (dead_value (node_at net x) (assignment words i x) (map (lane_values good i) (drivers_of net x)) (unlisted_dead net order ordered x none))
  ]

-- the lanes where one word changes and places become pending
pub lanes_again : (order places good : List ℕ) (s t : Spread) (p x w : ℕ) → slice_get order p ≡ Some x → AreLanes order places good s → length t.stamps.items ≡ length s.stamps.items → length t.faulty.items ≡ length s.faulty.items
    → length t.pending.items ≡ length s.pending.items → AreLanes order places (slice_set good x w) t
lanes_again order places good s t p x w there lanes stamps faulty pending = record {
  within = λ k y at. rw (length-set good x w) (lanes.within k y at);
  others = λ y none i h. ap (lane i) (set_elsewhere good x y w (λ same. none p (there ∙ ap Some (sym same)))) ∙ lanes.others y none i h;
  places_are = lanes.places_are;
  numbers = lanes.numbers ∙ sym (length-set good x w);
  sized = record { stamps = stamps ∙ lanes.sized.stamps ∙ sym (length-set good x w); faulty = faulty ∙ lanes.sized.faulty ∙ sym (length-set good x w) };
  room = pending ∙ lanes.room;
}

pub lanes_touched : (order places good : List ℕ) (s t : Spread) → ArePlaced order places s → length good ≡ length places → AreNoOthers order good → length t.stamps.items ≡ length s.stamps.items → length t.faulty.items ≡ length s.faulty.items
    → length t.pending.items ≡ length s.pending.items → AreLanes order places good t
lanes_touched order places good s t placed size others stamps faulty pending = record {
  within = λ k x there. rw size (placed.within k x there);
  others = others;
  places_are = placed.places_are;
  numbers = sym size;
  sized = record { stamps = stamps ∙ placed.sized.stamps ∙ sym size; faulty = faulty ∙ placed.sized.faulty ∙ sym size };
  room = pending ∙ placed.room;
}

-- when all places were read, nothing is pending
pub rests : (net : Net) (words order good : List ℕ) (s : Spread) (n : ℕ) → n ≡ length order → IsUnstamped s → IsRereading net words order good s.pending.items n → IsRested s
rests net words order good s n all unstamped so = record {
  positive = unstamped.positive;
  stamps = unstamped.stamps;
  idle = λ k. elim (below_or k n) [ inl before ↦ so.read k before | inr past ↦ so.past k (omega arith) ];
}
