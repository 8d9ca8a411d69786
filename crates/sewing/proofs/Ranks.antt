-- The covers of a sewn model are ranked: those of each part above those of the parts before it.
use Rattle.std.proofs.Common.{◌≡◌, ◌<◌, ◌+◌, ℕ, Bool, true, false, List, [], ◌∷◌, ◌++◌, map, ◌⊎◌, inl, inr, refl, sym, ap, ◌∙◌, subst, arith}
use Rattle.std.specs.Prelude.{All, if◌then◌else◌}
use Rattle.rm_model.specs.Words.{is_word}
use Rattle.rm_model.specs.Value.{IsRanked, is_among, is_cover_output, outputs_of}
use Rattle.rm_model.specs.Inner.Value.{rank_bound}
use Rattle.rm_model.specs.declared.parts.Cover.{Cover}
use Rattle.rm_model.specs.declared.parts.Model.{Model}
use Rattle.rm_model.proofs.Public.{below-high, is_word-same, same_word}
use Rattle.rm_base.specs.Members.{In}
use Rattle.rm_base.specs.Words.{Word}
use Rattle.rm_base.proofs.Public.{any_in, in_any, in_append, in_left, in_map, place_of_member}
use Rattle.sewing.specs.Names.{sewn_name}
use Rattle.sewing.specs.Sewn.{renamed_cover, sewn_covers}
use Rattle.sewing.proofs.Members.{all-in, in-all, in-among, in-outputs, not-among, outputs-in}
use Rattle.sewing.proofs.Outputs.{known-apart, names-told, piece-reads, piece_covers, pieces-apart, renamed-outputs}
use Rattle.sewing.proofs.Stages.{Piece, Stage, next, piece}

-- each cover has a greater number than the covers of the list that it reads
abbrev pub AreRankedBy : List Cover → (Word → ℕ) → Type 0
AreRankedBy cs r = (c : Cover) (x : Word) → In cs c → In c.inputs x → In (outputs_of cs) x → r x < r c.output

output-any : (m : Model) (x : Word) → In (outputs_of m.covers) x → is_cover_output m x ≡ true
output-any m x h =
    let r : (c : Cover) × (In m.covers c × (c.output ≡ x)) = in_map (λ (c : Cover). c.output) m.covers x h in
    any_in (λ (c : Cover). is_word x c.output) m.covers r.0 r.1.0 (subst (λ (y : Word). is_word x y ≡ true) (sym r.1.1) (is_word-same x))

any-output : (m : Model) (x : Word) → is_cover_output m x ≡ true → In (outputs_of m.covers) x
any-output m x e =
    let r : (c : Cover) × (In m.covers c × (is_word x c.output ≡ true)) = in_any (λ (c : Cover). is_word x c.output) m.covers e in
    subst (λ (y : Word). In (outputs_of m.covers) y) (sym (same_word x r.0.output r.1.1)) (in-outputs m.covers r.0 r.1.0)

pub ranked-by : (m : Model) (ranked : IsRanked m) → AreRankedBy m.covers ranked.0
ranked-by m ranked c x there h driven =
    all-in (λ (y : Word). is_cover_output m y ≡ true → ranked.0 y < ranked.0 c.output) c.inputs x
    (all-in (λ (d : Cover). All (λ y. is_cover_output m y ≡ true → ranked.0 y < ranked.0 d.output) d.inputs) m.covers c ranked.1 there) h (output-any m x driven)

pub by-ranks : (m : Model) (r : Word → ℕ) → AreRankedBy m.covers r → IsRanked m
by-ranks m r h = (
  r,
  in-all (λ (c : Cover). All (λ x. is_cover_output m x ≡ true → r x < r c.output) c.inputs) m.covers (λ c there.
      in-all (λ (x : Word). is_cover_output m x ≡ true → r x < r c.output) c.inputs (λ x at driven. h c x there at (any-output m x driven))),
)

-- RENAMED COVERS

-- the rank of the output with that new name
renamed_rank : (Word → ℕ) → (Word → Word) → List Cover → Word → ℕ
renamed_rank r f [] y = 0
renamed_rank r f (c ∷ cs) y = if is_word y (f c.output) then r c.output else renamed_rank r f cs y

rank-there : (r : Word → ℕ) (f : Word → Word) → ((x y : Word) → f x ≡ f y → x ≡ y) → (cs : List Cover) (x : Word) → In (outputs_of cs) x → renamed_rank r f cs (f x) ≡ r x
unfolding renamed_rank
rank-there r f told [] x h = absurd h
rank-there r f told (c ∷ cs) x h = go (is_word (f x) (f c.output)) refl h (λ later. rank-there r f told cs x later)
  where
    go : (b : Bool) → is_word (f x) (f c.output) ≡ b → (c.output ≡ x) ⊎ In (outputs_of cs) x → (In (outputs_of cs) x → renamed_rank r f cs (f x) ≡ r x) → (if b then r c.output else renamed_rank r f cs (f x)) ≡ r x
    go true e h rest = ap r (sym (told x c.output (same_word (f x) (f c.output) e)))
    go false e (inl same) rest = let is : is_word (f x) (f c.output) ≡ true = subst (λ (y : Word). is_word (f x) (f y) ≡ true) (sym same) (is_word-same (f x)) in absurd (let bad : true ≡ false = sym is ∙ e in cc)
    go false e (inr later) rest = rest later

renamed-ranked : (f : Word → Word) → ((x y : Word) → f x ≡ f y → x ≡ y) → (cs : List Cover) (r : Word → ℕ) → AreRankedBy cs r → AreRankedBy (map (renamed_cover f) cs) (renamed_rank r f cs)
renamed-ranked f told cs r ranked c x there h driven =
    let d : (d : Cover) × (In cs d × (renamed_cover f d ≡ c)) = in_map (renamed_cover f) cs c there in
    let z : (z : Word) × (In d.0.inputs z × (f z ≡ x)) = in_map f d.0.inputs x (subst (λ (e : Cover). In e.inputs x) (sym d.1.1) h) in
    let y : (y : Word) × (In (outputs_of cs) y × (f y ≡ x)) = in_map f (outputs_of cs) x (subst (λ (l : List Word). In l x) (renamed-outputs f cs) driven) in
    let same : y.0 ≡ z.0 = told y.0 z.0 (y.1.1 ∙ sym z.1.1) in
    let own : In (outputs_of cs) z.0 = subst (λ (w : Word). In (outputs_of cs) w) same y.1.0 in
    let less : r z.0 < r d.0.output = ranked d.0 z.0 d.1.0 z.1.0 own in
    let left : renamed_rank r f cs x ≡ r z.0 = ap (renamed_rank r f cs) (sym z.1.1) ∙ rank-there r f told cs z.0 own in
    let right : renamed_rank r f cs c.output ≡ r d.0.output = ap (λ (e : Cover). renamed_rank r f cs e.output) (sym d.1.1) ∙ rank-there r f told cs d.0.output (in-outputs cs d.0 d.1.0) in
    omega (arith, less, left, right)

-- TWO LISTS, OF WHICH THE FIRST READS NOTHING OF THE SECOND

joined_rank : List Cover → (Word → ℕ) → (Word → ℕ) → Word → ℕ
joined_rank cs r s y = if is_among (outputs_of cs) y then r y else rank_bound r cs + s y

first-rank : (cs : List Cover) (r s : Word → ℕ) (y : Word) → In (outputs_of cs) y → joined_rank cs r s y ≡ r y
unfolding joined_rank
first-rank cs r s y h = rw (in-among (outputs_of cs) y h) refl

second-rank : (cs : List Cover) (r s : Word → ℕ) (y : Word) → (In (outputs_of cs) y → ⊥) → joined_rank cs r s y ≡ rank_bound r cs + s y
unfolding joined_rank
second-rank cs r s y h = rw (not-among (outputs_of cs) y h) refl

below-bound : (cs : List Cover) (r : Word → ℕ) (y : Word) → In (outputs_of cs) y → r y < rank_bound r cs
below-bound cs r y h =
    let c : (c : Cover) × (In cs c × (c.output ≡ y)) = in_map (λ (c : Cover). c.output) cs y h in
    let k = place_of_member cs c.0 c.1.0 in
    subst (λ (x : Word). r x < rank_bound r cs) c.1.1 (below-high r cs k.0 c.0 k.1)

joined-ranked : (cs ds : List Cover) (r s : Word → ℕ) → AreRankedBy cs r → AreRankedBy ds s
    → ((c : Cover) (x : Word) → In cs c → In c.inputs x → In (outputs_of ds) x → ⊥) → ((y : Word) → In (outputs_of cs) y → In (outputs_of ds) y → ⊥)
    → AreRankedBy (cs ++ ds) (joined_rank cs r s)
joined-ranked cs ds r s first second unread apart c x there h driven = elim (in_append cs ds c there) [
  | inl a ↦ elim (outputs-in cs ds x driven) [
    | inl own ↦ let less : r x < r c.output = first c x a h own in omega (arith, less, first-rank cs r s x own, first-rank cs r s c.output (in-outputs cs c a))
    | inr other ↦ absurd (unread c x a h other)
  ]
  | inr b ↦
      let out : joined_rank cs r s c.output ≡ rank_bound r cs + s c.output = second-rank cs r s c.output (λ own. apart c.output own (in-outputs ds c b)) in
      elim (outputs-in cs ds x driven) [
        | inl other ↦ omega (arith, first-rank cs r s x other, below-bound cs r x other, out)
        | inr own ↦ let less : s x < s c.output = second c x b h own in omega (arith, less, second-rank cs r s x (λ other. apart x other own), out)
      ]
]

-- THE PARTS

pub covers-ranked : (lead : Word) (k : ℕ) (known : List Word) (ws ps : List Model) → Stage lead k known ws ps → (r : Word → ℕ) × AreRankedBy (sewn_covers lead k ps) r
covers-ranked lead k known [] [] s = ((λ x. 0), λ c x there h driven. absurd there)
covers-ranked lead k known [] (p ∷ ps) s = absurd s.parts
covers-ranked lead k known (w ∷ ws) [] s = absurd s.parts
covers-ranked lead k known (w ∷ ws) (p ∷ ps) s =
    let f : Word → Word = sewn_name lead k p in
    let q : Piece lead known p = piece lead k known w p ws ps s in
    let later : Stage lead (k + 1) (known ++ w.outputs) ws ps = next lead k known w p ws ps s in
    let rest : (r : Word → ℕ) × AreRankedBy (sewn_covers lead (k + 1) ps) r = covers-ranked lead (k + 1) (known ++ w.outputs) ws ps later in
    let own : Word → ℕ = renamed_rank q.ranked.0 f p.covers in (
      joined_rank (piece_covers lead k p) own rest.0,
      joined-ranked (piece_covers lead k p) (sewn_covers lead (k + 1) ps) own rest.0
          (renamed-ranked f (names-told lead k known p q) p.covers q.ranked.0 (ranked-by p q.ranked)) rest.1
          (λ c x there h driven. elim (piece-reads lead k known p q c x there h) [
            | inl old ↦ known-apart lead (k + 1) (known ++ w.outputs) ws ps later x (in_left known w.outputs x old) driven
            | inr mine ↦ pieces-apart lead k known w p ws ps s x mine driven
          ])
          (pieces-apart lead k known w p ws ps s),
    )
