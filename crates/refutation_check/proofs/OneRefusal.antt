-- A tree has one first refusal at most, and none where it is accepted.
use Rattle.std.proofs.Common.{List, [], ap, append-nil, inl, inr, length, refl, subst, suc, sym, ℕ, ◌++◌, ◌∙◌, ◌∷◌, ◌≡◌, ◌≢◌, ◌⊎◌}
use Rattle.gate_net.specs.Net.{Net}
use Rattle.refutation.proofs.Public.{reads_first}
use Rattle.refutation.specs.Facts.{Held, none_held, with_fact}
use Rattle.refutation.specs.Laws.{LinesGiveOne, ReadingsAccept}
use Rattle.refutation.specs.Stack.{AreRead, AreReadToEnd, Due, no_tree, tree}
use Rattle.refutation.specs.declared.items.Form.{Form}
use Rattle.refutation.specs.declared.items.Item.{Item}
use Rattle.refutation.specs.declared.items.Item.TheVariants.{Clash, Here, Line, Quiet, Split, Untried}
use Rattle.refutation.specs.declared.reasoning.Fact.{Fact}
use Rattle.refutation_check.specs.FirstRefusal.{Decides, IsFirstRefusal, IsRefusalOf, IsRefused}
use Rattle.refutation_check.specs.Laws.{AcceptedAreNotRefused, RefusalsAgree}
use Rattle.refutation_check.specs.declared.refusals.CheckRefusal.{CheckRefusal}
use Rattle.refutation_check.specs.declared.refusals.CheckRefusal.TheVariants.{BadLine, BadSplit, NoMemory, NotClash, NotQuiet, Shape}
use Rattle.rm_base.specs.declared.numbers.Fault.{Fault}

-- a refusal is want of memory or another
pub memory_or : (r s : CheckRefusal) → (r ≢ NoMemory → r ≡ s) → (r ≡ s) ⊎ (r ≡ NoMemory)
memory_or (BadLine n) s h = inl (h (λ e. cc))
memory_or (NotClash n) s h = inl (h (λ e. cc))
memory_or (NotQuiet n) s h = inl (h (λ e. cc))
memory_or (BadSplit n) s h = inl (h (λ e. cc))
memory_or (Shape n) s h = inl (h (λ e. cc))
memory_or NoMemory s h = inr refl

decides_once : (P : Type 0) (a b r s : CheckRefusal) → Decides P a b r → Decides P a b s → r ≡ s
decides_once P a b r s (inl (p, e)) (inl (q, f)) = e ∙ sym f
decides_once P a b r s (inl (p, e)) (inr (q, f)) = absurd (q p)
decides_once P a b r s (inr (p, e)) (inl (q, f)) = absurd (p q)
decides_once P a b r s (inr (p, e)) (inr (q, f)) = e ∙ sym f

held_same : (held : Held) (left : List Due) (x y : ℕ) (fact other : Fact) → x ≡ y → fact ≡ other → tree (with_fact held x fact) ∷ left ≡ tree (with_fact held y other) ∷ left
held_same held left x y fact other e f = ap (λ (z : ℕ). tree (with_fact held z fact) ∷ left) e ∙ ap (λ (g : Fact). tree (with_fact held y g) ∷ left) f

module _ (gives : LinesGiveOne) (net : Net) (fault : Fault) (form : Form) where
  -- an item leads to one thing
  leads_once : (i : Item) (left one other : List Due) → AreRead net fault form left (i ∷ []) one → AreRead net fault form left (i ∷ []) other → one ≡ other
  leads_once i [] one other h k = absurd h
  leads_once (Line l) (tree held ∷ left) one other (x, fact, c, e) (y, fact', c', f) =
      let same : (x ≡ y) × (fact ≡ fact') = gives net fault held l x y fact fact' c c' in
      sym e ∙ held_same held left x y fact fact' same.0 same.1 ∙ f
  leads_once (Split x first) (tree held ∷ left) one other h k = sym h.1 ∙ k.1
  leads_once (Clash x) (tree held ∷ left) one other h k = sym h.2 ∙ k.2
  leads_once Quiet (tree held ∷ left) one other h k = sym h.2 ∙ k.2
  leads_once Here (tree held ∷ left) one other h k = sym h.1 ∙ k.1
  leads_once Untried (tree held ∷ left) one other h k = absurd h
  leads_once Untried (no_tree ∷ left) one other h k = sym h ∙ k
  leads_once (Line l) (no_tree ∷ left) one other h k = absurd h
  leads_once (Split x first) (no_tree ∷ left) one other h k = absurd h
  leads_once (Clash x) (no_tree ∷ left) one other h k = absurd h
  leads_once Quiet (no_tree ∷ left) one other h k = absurd h
  leads_once Here (no_tree ∷ left) one other h k = absurd h

  -- and has one refusal
  refusal_once : (n : ℕ) (left : List Due) (i : Item) (r s : CheckRefusal) → IsRefusalOf net fault n left i r → IsRefusalOf net fault n left i s → r ≡ s
  refusal_once n [] i r s h k = h ∙ sym k
  refusal_once n (tree held ∷ left) (Line l) r s h k = h ∙ sym k
  refusal_once n (tree held ∷ left) (Split x first) r s h k = h ∙ sym k
  refusal_once n (tree held ∷ left) (Clash x) r s h k = decides_once _ _ _ r s h k
  refusal_once n (tree held ∷ left) Quiet r s h k = decides_once _ _ _ r s h k
  refusal_once n (tree held ∷ left) Here r s h k = h ∙ sym k
  refusal_once n (tree held ∷ left) Untried r s h k = h ∙ sym k
  refusal_once n (no_tree ∷ left) i r s h k = h ∙ sym k

  refused_once : (n : ℕ) (left : List Due) (rest : List Item) (r s : CheckRefusal) → IsRefused net fault form n left rest r → IsRefused net fault form n left rest s → r ≡ s
  refused_once n left [] r s h k = h.1 ∙ sym k.1
  refused_once n left (i ∷ rest) r s h k = refusal_once n left i r s h.1 k.1

  -- the first of the items isn't read, if there is one
  abbrev Stops : List Due → List Item → Type 0
  Stops left [] = Unit {0}
  Stops left (i ∷ items) = (next : List Due) → AreRead net fault form left (i ∷ []) next → ⊥

  stops : (n : ℕ) (left : List Due) (rest : List Item) (r : CheckRefusal) → IsRefused net fault form n left rest r → Stops left rest
  stops n left [] r h = tt
  stops n left (i ∷ rest) r h = h.0

  record AreSame (before before' rest rest' : List Item) (left left' : List Due) : Type 0 where
    pub before_same : before ≡ before'
    pub rest_same : rest ≡ rest'
    pub left_same : left ≡ left'

  never : (i : Item) (items more rest : List Item) (start left : List Due) → rest ≡ i ∷ more → AreRead net fault form start (i ∷ items) left → Stops start rest → ⊥
  never i items more rest start left e h none =
      let one : (next : List Due) × (AreRead net fault form start (i ∷ []) next × AreRead net fault form next items left) = reads_first net fault form i items start left h in
      subst (Stops start) e none one.0 one.1.0

  -- items are read up to one place
  one_place : (before before' rest rest' : List Item) (start left left' : List Due) → before ++ rest ≡ before' ++ rest' → AreRead net fault form start before left → AreRead net fault form start before' left' → Stops left rest → Stops left' rest' → AreSame before before' rest rest' left left'
  one_place [] [] rest rest' start left left' e h k none none' = record { before_same = refl; rest_same = e; left_same = sym h ∙ k }
  one_place [] (j ∷ before') rest rest' start left left' e h k none none' =
      absurd (never j before' (before' ++ rest') rest start left' e k (subst (λ (l : List Due). Stops l rest) (sym h) none))
  one_place (i ∷ before) [] rest rest' start left left' e h k none none' =
      absurd (never i before (before ++ rest) rest' start left (sym e) h (subst (λ (l : List Due). Stops l rest') (sym k) none'))
  one_place (i ∷ before) (j ∷ before') rest rest' start left left' e h k none none' =
      let e1 : i ≡ j = cc in
      let e2 : before ++ rest ≡ before' ++ rest' = cc in
      let one = reads_first net fault form i before start left h in
      let other = reads_first net fault form j before' start left' k in
      let same : one.0 ≡ other.0 = leads_once i start one.0 other.0 one.1.0 (subst (λ (a : Item). AreRead net fault form start (a ∷ []) other.0) (sym e1) other.1.0) in
      let r : AreSame before before' rest rest' left left' = one_place before before' rest rest' other.0 left left' e2 (subst (λ (l : List Due). AreRead net fault form l before left) same one.1.1) other.1.1 none none' in
      record { before_same = ap (λ (bs : List Item). i ∷ bs) r.before_same ∙ ap (λ (a : Item). a ∷ before') e1; rest_same = r.rest_same; left_same = r.left_same }

  read_not_refused : (items : List Item) (r : CheckRefusal) → AreReadToEnd net fault form items → IsFirstRefusal net fault form items r → ⊥
  read_not_refused items r h f =
      let n : ℕ = suc (length f.before) in
      let same : AreSame items f.before [] f.rest [] f.left =
      one_place items f.before [] f.rest (tree none_held ∷ []) [] f.left (append-nil items ∙ f.items_are) h f.read tt (stops n f.left f.rest r f.refused) in
      let none : IsRefused net fault form n [] [] r =
      subst (λ (l : List Due). IsRefused net fault form n l [] r) (sym same.left_same) (subst (λ (is : List Item). IsRefused net fault form n f.left is r) (sym same.rest_same) f.refused) in
      none.0 refl

  first_once : (items : List Item) (r s : CheckRefusal) → IsFirstRefusal net fault form items r → IsFirstRefusal net fault form items s → r ≡ s
  first_once items r s f g =
      let n : ℕ = suc (length f.before) in
      let same : AreSame g.before f.before g.rest f.rest g.left f.left =
      one_place g.before f.before g.rest f.rest (tree none_held ∷ []) g.left f.left (sym g.items_are ∙ f.items_are) g.read f.read (stops (suc (length g.before)) g.left g.rest s g.refused) (stops n f.left f.rest r f.refused) in
      let there : IsRefused net fault form n f.left f.rest s =
      subst (λ (l : List Due). IsRefused net fault form n l f.rest s) same.left_same
      (subst (λ (is : List Item). IsRefused net fault form n g.left is s) same.rest_same (subst (λ (bs : List Item). IsRefused net fault form (suc (length bs)) g.left g.rest s) same.before_same g.refused)) in
      refused_once n f.left f.rest r s f.refused there

pub refusals_agree : LinesGiveOne → RefusalsAgree
refusals_agree gives net fault form items r s f g = first_once gives net fault form items r s f g

pub accepted_not_refused : LinesGiveOne → ReadingsAccept → AcceptedAreNotRefused
accepted_not_refused gives accept net fault form items r accepted f = read_not_refused gives net fault form items r ((accept net fault form items).1 accepted) f
