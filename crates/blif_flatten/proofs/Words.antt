-- The words behind a command, by their indices.
use Rattle.std.proofs.Common.{◌≡◌, ℕ, ◌+◌, ◌≤◌, List, [], ◌∷◌, ◌++◌, length, take, drop, Bool, refl, sym, ◌∙◌, ap, None, Some, subst}
use Rattle.std.specs.Prelude.{fold, slice_get, nat_lt}
use Rattle.std.proofs.lemmas.List.{drop_all}
use Rattle.std.proofs.lemmas.Bool.{le-ltb}
use Rattle.rm_base.specs.Words.{Word}
use Rattle.rm_base.proofs.Public.{take_one_more}
use Rattle.blif_lines.specs.Layout.{Spot}
use Rattle.blif_format.specs.Uses.{parts_of, least_words}
use Rattle.blif_format.specs.declared.words.Command.{Command}
use Rattle.blif_format.specs.declared.words.Part.{Part}
use Rattle.blif_format.specs.FirstFault.{or_else, fault_if}
use Rattle.blif_format.specs.declared.refusal.FaultKind.TheVariants.{MissingWord}
use Rattle.blif_format.specs.declared.refusal.ReadRefusal.{ReadRefusal}
use Rattle.blif_reader.specs.Meant.{IsRefusal}
use Rattle.blif_reader.specs.Parts.{part_in}
use Rattle.blif_reader.proofs.Public.{drop_here, part_at, parts_length, take_whole}
use Rattle.blif_flatten.specs.LineFaults.{part_fault, parts_fault, outputs_with, command_fault}
use Rattle.blif_flatten.specs.Inner.Said.{Takes}
use Rattle.blif_flatten.proofs.Refusals.{refused}

pub fold-last : {A B : Type 0} (f : B → A → B) (b : B) (xs : List A) (x : A) → fold f b (xs ++ x ∷ []) ≡ f (fold f b xs) x
fold-last f b [] x = refl
fold-last f b (y ∷ ys) x = fold-last f (f b y) ys x

module _ (outputs now : List Word) (k : Command) (ss : List Spot) (i : ℕ) (part : Part) (s : Spot) (same : parts_fault outputs 0 (parts_of k ss) ≡ parts_fault now i (drop i (parts_of k ss))) (at : slice_get ss i ≡ Some s) (is : part ≡ part_in k (length ss) i) where
  there : slice_get (parts_of k ss) i ≡ Some (part, s)
  there = part_at k ss i s at ∙ ap (λ (p : Part). Some (p, s)) (sym is)

  rest : drop i (parts_of k ss) ≡ (part, s) ∷ drop (i + 1) (parts_of k ss)
  rest = drop_here (parts_of k ss) i (part, s) there

  pub words-refuse : (first : Spot) (e : ReadRefusal) → IsRefusal e (part_fault now i (part, s)) → IsRefusal e (command_fault outputs first k ss)
  words-refuse first e r = refused e (part_fault now i (part, s)) (command_fault outputs first k ss) (λ r f.
      ap (λ o. or_else o (fault_if (nat_lt (length ss) (least_words k)) MissingWord first.place)) (same ∙ ap (parts_fault now i) rest ∙ ap (λ o. or_else o (parts_fault (outputs_with now (part, s)) (i + 1) (drop (i + 1) (parts_of k ss)))) f)) r

  pub words-go : (after : List Word) → now ≡ fold outputs_with outputs (take i (parts_of k ss)) → Takes now i (part, s) after
      → (after ≡ fold outputs_with outputs (take (i + 1) (parts_of k ss))) × (parts_fault outputs 0 (parts_of k ss) ≡ parts_fault after (i + 1) (drop (i + 1) (parts_of k ss)))
  words-go after had t = (
    t.listed ∙ (ap (λ (os : List Word). outputs_with os (part, s)) had ∙ (sym (fold-last outputs_with outputs (take i (parts_of k ss)) (part, s)) ∙ ap (fold outputs_with outputs) (sym (take_one_more (parts_of k ss) i (part, s) there)))),
    same ∙ (ap (parts_fault now i) rest ∙ (ap (λ o. or_else o (parts_fault (outputs_with now (part, s)) (i + 1) (drop (i + 1) (parts_of k ss)))) t.faultless ∙ ap (λ (os : List Word). parts_fault os (i + 1) (drop (i + 1) (parts_of k ss))) (sym t.listed))),
  )

module _ (outputs now : List Word) (k : Command) (ss : List Spot) (i : ℕ) (far : length ss ≤ i) where
  short : length (parts_of k ss) ≤ i
  short = subst (λ (n : ℕ). n ≤ i) (sym (parts_length k ss)) far

  pub words-end : (first : Spot) → parts_fault outputs 0 (parts_of k ss) ≡ parts_fault now i (drop i (parts_of k ss)) → least_words k ≤ length ss → command_fault outputs first k ss ≡ None
  words-end first same enough =
      ap (λ o. or_else o (fault_if (nat_lt (length ss) (least_words k)) MissingWord first.place)) (same ∙ ap (parts_fault now i) (drop_all i (parts_of k ss) short))
      ∙ ap (λ (t : Bool). fault_if t MissingWord first.place) (le-ltb (length ss) (least_words k) enough)

  pub words-all : now ≡ fold outputs_with outputs (take i (parts_of k ss)) → now ≡ fold outputs_with outputs (parts_of k ss)
  words-all had = had ∙ ap (fold outputs_with outputs) (take_whole (parts_of k ss) i short)
