-- A gate has one whole chain.
use Rattle.std.proofs.Common.{List, [], arith, inl, inr, length, refl, subst, ℕ, ◌<◌, ◌∷◌, ◌≡◌, ◌≤◌, ◌⊎◌, suc, zero}
use Rattle.std.proofs.lemmas.Bool.{cases_eq}
use Rattle.gate_net.specs.Net.{Net}
use Rattle.gate_net.specs.Paths.{ChainTo, IsOnlyReader, next, start}
use Rattle.refutation.specs.Answers.{GoesOnTo}
use Rattle.candidate_wires.specs.Candidates.{IsWholeChain}

-- chains of one length are one
chains_one : (net : Net) (gate : ℕ) (b c : List ℕ) (y z : ℕ) → ChainTo net gate b y → ChainTo net gate c z → length b ≡ length c → y ∷ b ≡ z ∷ c
chains_one net gate [] [] y z start start e = refl
chains_one net gate [] (d ∷ c) y z chain other e = absurd (omega (arith, e))
chains_one net gate (a ∷ b) [] y z chain other e = absurd (omega (arith, e))
chains_one net gate (a ∷ b) (d ∷ c) y z (next chain unobserved only) (next other unobserved' only') e =
    let rest : a ∷ b ≡ d ∷ c = chains_one net gate b c a d chain other (omega (arith, e)) in
    let head : a ≡ d = cc in
    let same : y ≡ z = only'.only y only.reads.0 (subst (λ q. IsOnlyReader net q y) head only).reads.1 in
    cc

-- a chain that is longer goes on from the end of a shorter one
goes_on : (net : Net) (gate : ℕ) (b c : List ℕ) (y z : ℕ) → ChainTo net gate b y → ChainTo net gate c z → length b < length c → (x : ℕ) × GoesOnTo net y x
goes_on net gate b [] y z chain other less = absurd (omega (arith, less))
goes_on net gate b (d ∷ c) y z chain (next other unobserved only) less = elim (cases_eq (length b) (length c)) [
  | inl e ↦
      let same : y ∷ b ≡ d ∷ c = chains_one net gate b c y d chain other e in
      let head : d ≡ y = cc in
      (z, subst (λ q. GoesOnTo net q z) head (record { unobserved = unobserved; only = only }))
  | inr ne ↦ goes_on net gate b c y d chain other (omega (arith, ne, less))
]

less_or : (a b : ℕ) → (a < b) ⊎ (b ≤ a)
less_or a zero = inr (omega arith)
less_or zero (suc b) = inl (omega arith)
less_or (suc a) (suc b) = elim (less_or a b) [ inl less ↦ inl (omega (arith, less)) | inr le ↦ inr (omega (arith, le)) ]

pub whole_one : (net : Net) (gate : ℕ) (b c : List ℕ) → IsWholeChain net gate b → IsWholeChain net gate c → b ≡ c
whole_one net gate [] c whole other = absurd whole
whole_one net gate (y ∷ b) [] whole other = absurd other
whole_one net gate (y ∷ b) (z ∷ c) whole other = elim (less_or (length b) (length c)) [
  | inl less ↦ let further = goes_on net gate b c y z whole.0 other.0 less in absurd (whole.1 further.0 further.1)
  | inr le ↦ elim (less_or (length c) (length b)) [
    | inl less ↦ let further = goes_on net gate c b z y other.0 whole.0 less in absurd (other.1 further.0 further.1)
    | inr ge ↦ chains_one net gate b c y z whole.0 other.0 (omega (arith, le, ge))
  ]
]
