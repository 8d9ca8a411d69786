-- Blocks of vectors.
use Rattle.std.proofs.Common.{IsTrue, List, length-append, None, Option, Some, [], ap, arith, false, get_or, inl, inr, length, refl, replicate, subst, suc, sym, true, zero, ℕ, ◌%◌, ◌*◌, ◌+◌, ◌++◌, ◌-◌, ◌/◌, ◌<◌, ◌∙◌, ◌∷◌, ◌≡◌, ◌≢◌, ◌≤◌, ◌↔◌}
use Rattle.std.proofs.lemmas.Bool.Decides.{eqb_tells}
use Rattle.std.proofs.lemmas.List.{length-map, length-replicate}
use Rattle.std.proofs.lemmas.Option.{slice_get-get_or}
use Rattle.std.proofs.Math.Seq.{take-append_seam, take-length}
use Rattle.std.specs.Prelude.{drop, slice_get, slice_index, slice_index_or, slice_set, take}
use Rattle.fault_sim.specs.Ordered.{IsOrdered}
use Rattle.gate_net.specs.Net.{Net, drivers_of, node_at, source_count}
use Rattle.gate_net.specs.Values.{Detects, node_value}
use Rattle.rm_base.specs.declared.numbers.Fault.{Fault}
use Rattle.fault_sim.proofs.LaneLaws.{lane_zero}
use Rattle.fault_sim.proofs.Lists.{below_or, zero_words}
use Rattle.fault_sim.specs.BlockStates.{AreGoodWords, AreSimulated, IsBlock, IsFirstVector, IsSimulatedBlock, vector_of, words_at}
use Rattle.fault_sim.specs.Inner.BlockStates.{AreBlocks, ArePlaced, IsFirstLane, good_of, words_of}
use Rattle.fault_sim.specs.Following.{CanAllFollow, IsGrown, WasGoodBlock}
use Rattle.fault_sim.specs.Inner.Following.{AreFollowed, AreGrown, IsGrownOf}
use Rattle.fault_sim.specs.Inner.Pending.{HasRoom, IsFirstBit}
use Rattle.fault_sim.specs.Inner.Simulating.{IsWithin}
use Rattle.fault_sim.specs.Inner.Spreading.{AreLanes, IsRested, IsSized}
use Rattle.fault_sim.specs.Words.{assignment, lane, lane_values}
use Rattle.fault_sim.specs.declared.blocks.Block.{Block}
use Rattle.fault_sim.specs.declared.spread.Spread.{Spread}
use Rattle.rm_base.proofs.Public.{map_agree}

pub lanes_of : (order places good : List ℕ) (s : Spread) → ArePlaced order places s → IsBlock order (length places) good → AreLanes order places good s
lanes_of order places good s placed block = record {
  within = λ k x there. rw block.size (placed.within k x there);
  others = block.others;
  places_are = placed.places_are;
  numbers = sym block.size;
  sized = rw block.size placed.sized;
  room = placed.room;
}

pub placed_again : (order places good : List ℕ) (s t : Spread) → ArePlaced order places s → IsBlock order (length places) good → AreLanes order places good t → IsRested t → ArePlaced order places t
placed_again order places good s t placed block lanes rested = record {
  within = placed.within;
  places_are = placed.places_are;
  sized = rw lanes.numbers lanes.sized;
  room = lanes.room;
  rested = rested;
}

pub first_lane_of : (net : Net) (fault : Fault) (words : List ℕ) (found : ℕ) (r : Option ℕ) → ((i : ℕ) → i < 64 → IsTrue (lane i found) ↔ Detects net fault (assignment words i)) → IsFirstBit found 0 r → IsFirstLane net fault words r
first_lane_of net fault words found None tells first = missed
  where
    missed : (i : ℕ) → i < 64 → Detects net fault (assignment words i) → ⊥
    missed i less detected =
        let ever : lane i found ≡ true = (tells i less).1 detected in
        let never : lane i found ≡ false = first i (omega arith) in
        absurd (cc)
first_lane_of net fault words found (Some b) tells first = (first.1.0, ((tells b first.1.0).0 first.1.1.0, before))
  where
    before : (j : ℕ) → j < b → Detects net fault (assignment words j) → ⊥
    before j less detected =
        let small : j < 64 = (let top = first.1.0 in omega arith) in
        let ever : lane j found ≡ true = (tells j small).1 detected in
        let never : lane j found ≡ false = first.1.1.1 j (omega arith) less in
        absurd (cc)

block_of : (n number : ℕ) → 64 * number ≤ n → n < 64 * number + 64 → n / 64 ≡ number
block_of n number le less = omega arith

lane_below : (n : ℕ) → n % 64 < 64
lane_below n = omega arith

module _ (net : Net) (fault : Fault) (words : List (List ℕ)) where
  -- one block more has no vector that detects
  pub missed_more : (number : ℕ) → ((n : ℕ) → n < 64 * number → Detects net fault (vector_of words n) → ⊥) → IsFirstLane net fault (words_at words number) None → (n : ℕ) → n < 64 * (number + 1) → Detects net fault (vector_of words n) → ⊥
  missed_more number none here n less detected = elim (below_or n (64 * number)) [
    | inl before ↦ none n before detected
    | inr late ↦
        let is : n / 64 ≡ number = block_of n number late (omega arith) in
        here (n % 64) (lane_below n) (subst (λ b. Detects net fault (assignment (words_at words b) (n % 64))) is detected)
  ]

  pub found_first : (number i : ℕ) → number < length words → ((n : ℕ) → n < 64 * number → Detects net fault (vector_of words n) → ⊥) → IsFirstLane net fault (words_at words number) (Some i) → IsFirstVector net fault words (Some (64 * number + i))
  found_first number i below none here = (let small = here.0 in omega arith, (detected, before))
    where
      block_is : (64 * number + i) / 64 ≡ number
      block_is = let small = here.0 in omega arith

      lane_is : (64 * number + i) % 64 ≡ i
      lane_is = let small = here.0 in omega arith

      detected : Detects net fault (vector_of words (64 * number + i))
      detected =
          subst (λ l. Detects net fault (assignment (words_at words ((64 * number + i) / 64)) l)) (sym lane_is)
          (subst (λ b. Detects net fault (assignment (words_at words b) i)) (sym block_is) here.1.0)

      before : (m : ℕ) → m < 64 * number + i → Detects net fault (vector_of words m) → ⊥
      before m less hit = elim (below_or m (64 * number)) [
        | inl early ↦ none m early hit
        | inr late ↦
            let small = here.0 in
            let is : m / 64 ≡ number = block_of m number late (omega arith) in
            let less' : m % 64 < i = omega arith in
            here.1.1 (m % 64) less' (subst (λ b. Detects net fault (assignment (words_at words b) (m % 64))) is hit)
      ]

pub words_there : (blocks : List Block) (b : ℕ) (block : Block) → slice_get blocks b ≡ Some block → slice_index_or (words_of blocks) b [] ≡ block.words.items
words_there [] b block e = absurd (cc)
words_there (x ∷ blocks) zero block e = let same : x ≡ block = cc in ap (λ (y : Block). y.words.items) same
words_there (x ∷ blocks) (suc b) block e = words_there blocks b block e

pub block_read : (blocks : List Block) (b : ℕ) (block : Block) → b < length blocks → block ≡ get_or blocks b block → slice_get blocks b ≡ Some block
block_read blocks b block less e = slice_get-get_or blocks b block less ∙ ap Some (sym e)

pub good_there : (blocks : List Block) (b : ℕ) (block : Block) → slice_get blocks b ≡ Some block → slice_index_or (good_of blocks) b [] ≡ block.good.items
good_there [] b block e = absurd (cc)
good_there (x ∷ blocks) zero block e = let same : x ≡ block = cc in ap (λ (y : Block). y.good.items) same
good_there (x ∷ blocks) (suc b) block e = good_there blocks b block e

there_is : (blocks : List Block) (b : ℕ) → b < length blocks → (block : Block) × (slice_get blocks b ≡ Some block)
there_is [] b less = absurd (omega arith)
there_is (x ∷ blocks) zero less = (x, refl)
there_is (x ∷ blocks) (suc b) less = there_is blocks b (omega arith)

below_is : (blocks : List Block) (b : ℕ) (block : Block) → slice_get blocks b ≡ Some block → b < length blocks
below_is [] b block e = absurd (cc)
below_is (x ∷ blocks) zero block e = omega arith
below_is (x ∷ blocks) (suc b) block e = let rest : b < length blocks = below_is blocks b block e in omega arith

pub words_more : (blocks : List Block) (block : Block) → words_of (blocks ++ block ∷ []) ≡ words_of blocks ++ block.words.items ∷ []
words_more [] block = refl
words_more (x ∷ blocks) block = ap (λ (ws : List (List ℕ)). x.words.items ∷ ws) (words_more blocks block)

pub each_more : (P : Block → Type 0) (blocks : List Block) (block : Block) → ((b : ℕ) (y : Block) → slice_get blocks b ≡ Some y → P y) → P block → (b : ℕ) (y : Block) → slice_get (blocks ++ block ∷ []) b ≡ Some y → P y
each_more P [] block each here zero y e = let same : block ≡ y = cc in subst P same here
each_more P [] block each here (suc b) y e = absurd (cc)
each_more P (x ∷ blocks) block each here zero y e = each zero y e
each_more P (x ∷ blocks) block each here (suc b) y e = each_more P blocks block (λ c z is. each (suc c) z is) here b y e

module _ (net : Net) (order : List ℕ) (numbers : ℕ) (blocks : List Block) where
  pub each_simulated : AreBlocks order numbers blocks → AreSimulated (record { words = words_of blocks; order = order; good = good_of blocks }) net → (b : ℕ) (block : Block) → slice_get blocks b ≡ Some block → IsSimulatedBlock net order numbers block
  each_simulated are simulated b block there = record {
    good = are b block there;
    sources = ap length (sym (words_there blocks b block there)) ∙ simulated.sources b within;
    values = subst (λ good. AreGoodWords net block.words.items good) (good_there blocks b block there) (subst (λ ws. AreGoodWords net ws (words_at (good_of blocks) b)) (words_there blocks b block there) (simulated.values b within));
  }
    where
      within : b < length (words_of blocks)
      within = rw (length-map blocks (λ (y : Block). y.words.items)) (below_is blocks b block there)

  pub all_simulated : IsOrdered net order → ((b : ℕ) (block : Block) → slice_get blocks b ≡ Some block → IsSimulatedBlock net order numbers block) → AreSimulated (record { words = words_of blocks; order = order; good = good_of blocks }) net
  all_simulated ordered each = record { order = ordered; sources = sources; values = values }
    where
      block_at : (b : ℕ) → b < length (words_of blocks) → (block : Block) × (slice_get blocks b ≡ Some block)
      block_at b less = there_is blocks b (rw (length-map blocks (λ (y : Block). y.words.items)) at less)

      sources : (b : ℕ) → b < length (words_of blocks) → length (words_at (words_of blocks) b) ≡ source_count net
      sources b less = let at = block_at b less in ap length (words_there blocks b at.0 at.1) ∙ (each b at.0 at.1).sources

      values : (b : ℕ) → b < length (words_of blocks) → AreGoodWords net (words_at (words_of blocks) b) (words_at (good_of blocks) b)
      values b less =
          let at = block_at b less in
          subst (λ good. AreGoodWords net (words_at (words_of blocks) b) good) (sym (good_there blocks b at.0 at.1))
          (subst (λ ws. AreGoodWords net ws at.0.good.items) (sym (words_there blocks b at.0 at.1)) (each b at.0 at.1).values)

pub placed_new : (order places : List ℕ) (s : Spread) (numbers : ℕ) → IsWithin order numbers → length places ≡ numbers → ((k x : ℕ) → slice_get order k ≡ Some x → slice_index places x ≡ k)
    → IsSized numbers s → HasRoom s.pending.items (length order) → IsRested s → ArePlaced order places s
placed_new order places s numbers within size placed sized room rested = record {
  within = λ k x there. rw size (within k x there);
  places_are = placed;
  sized = rw size sized;
  room = room;
  rested = rested;
}

pub no_blocks : (order : List ℕ) (numbers : ℕ) → AreBlocks order numbers []
no_blocks order numbers b block there = absurd (cc)

-- one block more
pub blocks_more : (order places : List ℕ) (s : Spread) (blocks : List Block) (block : Block) → ArePlaced order places s × (AreBlocks order (length places) blocks × (length blocks ≤ 67108864)) → IsBlock order (length places) block.good.items → length blocks < 67108864
    → ArePlaced order places s × (AreBlocks order (length places) (blocks ++ block ∷ []) × (length (blocks ++ block ∷ []) ≤ 67108864))
blocks_more order places s blocks block before good room = (before.0, (each_more (λ b. IsBlock order (length places) b.good.items) blocks block before.1.0 good, let size = length-append blocks (block ∷ []) in omega arith))

pub lane_in : (net : Net) (fault : Fault) (blocks : List Block) (b : ℕ) (block : Block) (r : Option ℕ) → slice_get blocks b ≡ Some block → IsFirstLane net fault block.words.items r → IsFirstLane net fault (words_at (words_of blocks) b) r
lane_in net fault blocks b block r there first = subst (λ ws. IsFirstLane net fault ws r) (sym (words_there blocks b block there)) first

pub placed_of : (order places good : List ℕ) (s : Spread) → AreLanes order places good s → IsRested s → ArePlaced order places s
placed_of order places good s lanes rested = record {
  within = λ k x there. rw lanes.numbers (lanes.within k x there);
  places_are = lanes.places_are;
  sized = rw lanes.numbers lanes.sized;
  room = lanes.room;
  rested = rested;
}

-- words of zeros are a block for any order
pub zero_block : (order good : List ℕ) (numbers : ℕ) → good ≡ replicate numbers 0 → IsBlock order numbers good
zero_block order good numbers zeros = record {
  size = ap length zeros ∙ length-replicate numbers 0;
  others = λ x none i h. ap (λ (xs : List ℕ). lane i (slice_index xs x)) zeros ∙ ap (lane i) (zero_words numbers x) ∙ lane_zero i;
}

-- words with zeros after them
pub grown_word : (good : List ℕ) (n x : ℕ) → slice_index (good ++ replicate n 0) x ≡ slice_index good x
grown_word [] n x = zero_words n x
grown_word (w ∷ good) n zero = refl
grown_word (w ∷ good) n (suc x) = grown_word good n x

pub grown_good : (net : Net) (words good : List ℕ) (n : ℕ) → AreGoodWords net words good → AreGoodWords net words (good ++ replicate n 0)
grown_good net words good n before i h x =
    ap (lane i) (grown_word good n x) ∙ before i h x
    ∙ ap (node_value (node_at net x) (assignment words i x)) (map_agree (lane_values good i) (lane_values (good ++ replicate n 0) i) (drivers_of net x) (λ p d reads. ap (lane i) (sym (grown_word good n d))))

pub words_set : (blocks : List Block) (n : ℕ) (block block' : Block) → slice_get blocks n ≡ Some block → block'.words.items ≡ block.words.items → words_of (slice_set blocks n block') ≡ words_of blocks
words_set [] n block block' there same = refl
words_set (x ∷ blocks) zero block block' there same = let is : x ≡ block = cc in ap (λ (ws : List ℕ). ws ∷ words_of blocks) (same ∙ ap (λ (y : Block). y.words.items) (sym is))
words_set (x ∷ blocks) (suc n) block block' there same = ap (λ (ws : List (List ℕ)). x.words.items ∷ ws) (words_set blocks n block block' there same)

set_at : (blocks : List Block) (n : ℕ) (block block' : Block) → slice_get blocks n ≡ Some block → slice_get (slice_set blocks n block') n ≡ Some block'
set_at [] n block block' there = absurd (cc)
set_at (x ∷ blocks) zero block block' there = refl
set_at (x ∷ blocks) (suc n) block block' there = set_at blocks n block block' there

set_off : (blocks : List Block) (n b : ℕ) (block' : Block) → b ≢ n → slice_get (slice_set blocks n block') b ≡ slice_get blocks b
set_off [] n b block' ne = refl
set_off (x ∷ blocks) zero zero block' ne = absurd (ne refl)
set_off (x ∷ blocks) zero (suc b) block' ne = refl
set_off (x ∷ blocks) (suc n) zero block' ne = refl
set_off (x ∷ blocks) (suc n) (suc b) block' ne = set_off blocks n b block' (λ same. ne (ap suc same))

-- one block more follows
pub followed_more : (net : Net) (order : List ℕ) (numbers : ℕ) (old blocks : List Block) (n : ℕ) (block block' : Block) → slice_get blocks n ≡ Some block → block'.words.items ≡ block.words.items → IsSimulatedBlock net order numbers block'
    → AreFollowed net order numbers old blocks n → AreFollowed net order numbers old (slice_set blocks n block') (n + 1)
followed_more net order numbers old blocks n block block' there same right so = record {
  done = λ b y less at. elim (eqb_tells b n) [
    | inl e ↦
        let here : slice_get (slice_set blocks n block') b ≡ Some block' = ap (slice_get (slice_set blocks n block')) e.1 ∙ set_at blocks n block block' there in
        let is : block' ≡ y = cc in
        subst (λ z. IsSimulatedBlock net order numbers z) is right
    | inr e ↦ let ne : b ≢ n = e.1 in so.done b y (omega arith) (sym (set_off blocks n b block' e.1) ∙ at)
  ];
  ahead = λ b more. set_off blocks n b block' (λ e. absurd (omega arith)) ∙ so.ahead b (omega arith);
  words = words_set blocks n block block' there same ∙ so.words;
}

pub followed_none : (net : Net) (order : List ℕ) (numbers : ℕ) (old : List Block) → AreFollowed net order numbers old old 0
followed_none net order numbers old = record { done = λ b y less at. absurd (omega arith); ahead = λ b more. refl; words = refl }

-- the blocks that were simulated for the net of before
pub blocks_were : (net : Net) (order changed : List ℕ) (numbers : ℕ) (blocks : List Block) → AreBlocks order numbers blocks → CanAllFollow (record { words = words_of blocks; order = order; good = good_of blocks }) net changed
    → (b : ℕ) (block : Block) → slice_get blocks b ≡ Some block → WasGoodBlock net numbers changed block
blocks_were net order changed numbers blocks are follows b block there =
    let was = each_simulated follows.before order numbers blocks are follows.simulated b block there in
    record { size = was.good.size; sources = was.sources ∙ sym follows.differs.sources; were = record { before = follows.before; values = was.values; differs = follows.differs } }

take_more : (old : List Block) (n : ℕ) (x : Block) → slice_get old n ≡ Some x → take (n + 1) old ≡ take n old ++ x ∷ []
take_more [] n x there = absurd (cc)
take_more (y ∷ old) zero x there = let same : y ≡ x = cc in ap (λ (z : Block). z ∷ []) same
take_more (y ∷ old) (suc n) x there = let next : suc n + 1 ≡ suc (n + 1) = omega arith in rw next (ap (λ (zs : List Block). y ∷ zs) (take_more old n x there))

-- one block more has grown
pub grown_more : (numbers : ℕ) (old blocks : List Block) (n : ℕ) (x y : Block) → slice_get old n ≡ Some x → IsGrown numbers x y → AreGrown numbers old blocks n → AreGrown numbers old (blocks ++ y ∷ []) (n + 1)
grown_more numbers old blocks n x y there grown so = record {
  words = words_more blocks y ∙ ap (λ (ws : List (List ℕ)). ws ++ y.words.items ∷ []) so.words ∙ ap (λ (w : List ℕ). words_of (take n old) ++ w ∷ []) grown.words
      ∙ sym (words_more (take n old) x) ∙ ap words_of (sym (take_more old n x there));
  each = each_more (IsGrownOf numbers old) blocks y so.each (record { number = n; from = x; there = there; grown = grown });
}

nothing_more : (xs : List ℕ) → xs ≡ xs ++ []
nothing_more [] = refl
nothing_more (x ∷ xs) = ap (λ (ys : List ℕ). x ∷ ys) (nothing_more xs)

-- blocks that are long enough
pub grown_same : (numbers : ℕ) (blocks : List Block) → ((b : ℕ) (block : Block) → slice_get blocks b ≡ Some block → length block.good.items ≡ numbers) → AreGrown numbers blocks blocks (length blocks)
grown_same numbers blocks size = record {
  words = ap words_of (sym (take-length blocks));
  each = λ b block at.
      let none : numbers - length block.good.items ≡ 0 = (let is = size b block at in omega (arith, is)) in
      record {
        number = b;
        from = block;
        there = at;
        grown = record { words = refl; good = nothing_more block.good.items ∙ ap (λ (k : ℕ). block.good.items ++ replicate k 0) (sym none) };
      };
}

grown_size : (numbers least : ℕ) (good : List ℕ) → least ≤ numbers → length good ≡ least → length (good ++ replicate (numbers - length good) 0) ≡ numbers
grown_size numbers least good le size =
    length-append good (replicate (numbers - length good) 0) ∙ ap (λ (k : ℕ). length good + k) (length-replicate (numbers - length good) 0) ∙ all
  where
    all : length good + (numbers - length good) ≡ numbers
    all = omega (arith, le, size)

-- blocks that have grown are still those of the net of before
pub grown_were : (net : Net) (changed : List ℕ) (least numbers : ℕ) (old blocks : List Block) (n : ℕ) → least ≤ numbers → ((b : ℕ) (x : Block) → slice_get old b ≡ Some x → WasGoodBlock net least changed x) → AreGrown numbers old blocks n
    → (b : ℕ) (block : Block) → slice_get blocks b ≡ Some block → WasGoodBlock net numbers changed block
grown_were net changed least numbers old blocks n le each grown b block at =
    let of = grown.each b block at in
    let was = each of.number of.from of.there in
    record {
      size = ap length of.grown.good ∙ grown_size numbers least of.from.good.items le was.size;
      sources = ap length of.grown.words ∙ was.sources;
      were = record {
        before = was.were.before;
        values = subst (λ (good : List ℕ). AreGoodWords was.were.before block.words.items good) (sym of.grown.good)
            (subst (λ (ws : List ℕ). AreGoodWords was.were.before ws (of.from.good.items ++ replicate (numbers - length of.from.good.items) 0)) (sym of.grown.words)
            (grown_good was.were.before of.from.words.items of.from.good.items (numbers - length of.from.good.items) was.were.values));
        differs = was.were.differs;
      };
    }

-- blocks with the same words are as many
pub as_many : (old blocks : List Block) → words_of blocks ≡ words_of old → length blocks ≡ length old
as_many old blocks same = sym (length-map blocks (λ (y : Block). y.words.items)) ∙ ap length same ∙ length-map old (λ (y : Block). y.words.items)

-- a list of blocks that was written over whole
pub written : (len : ℕ) (old slice new : List Block) → len ≡ length old → slice ≡ old → length new ≡ length slice → take len (new ++ drop (length new) old) ≡ new
written len old slice new is same count = subst (λ (k : ℕ). take k (new ++ drop (length new) old) ≡ new) (count ∙ ap length same ∙ sym is) (take-append_seam new (drop (length new) old))

pub all_followed : (net : Net) (order : List ℕ) (numbers : ℕ) (slice new : List Block) → length new ≡ length slice → AreFollowed net order numbers slice new (length slice)
    → (b : ℕ) (block : Block) → slice_get new b ≡ Some block → IsSimulatedBlock net order numbers block
all_followed net order numbers slice new count so b block at = so.done b block (subst (λ (n : ℕ). b < n) count (below_is new b block at)) at

pub blocks_followed : (net : Net) (order places : List ℕ) (s : Spread) (slice new : List Block) → ArePlaced order places s → length new ≡ length slice → length slice ≤ 67108864 → AreFollowed net order (length places) slice new (length slice)
    → ArePlaced order places s × (AreBlocks order (length places) new × (length new ≤ 67108864))
blocks_followed net order places s slice new placed count few so =
    (placed, ((λ b block at. (all_followed net order (length places) slice new count so b block at).good), subst (λ (n : ℕ). n ≤ 67108864) (sym count) few))
