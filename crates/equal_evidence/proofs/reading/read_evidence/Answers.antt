use Rattle.std.proofs.Common.{IfOk, List, ap, subst, sym, ℕ, ◌++◌, ◌∙◌, ◌≡◌, ◌≢◌}
use Rattle.std.specs.Borrow.{Bor}
use Rattle.std.specs.Prelude.{codes}
use Rattle.std.proofs.lemmas.Bool.Decides.{Decides-eqb}
use Rattle.std.proofs.lemmas.Slice.Eq.{strip_prefix_is}
use Rattle.equal_evidence.specs.Evidence.{IsProof}
use Rattle.equal_evidence.specs.declared.evidence.Evidence.{Evidence}
use Rattle.equal_evidence.proofs.Readings.{at_some, merged_refused, plain_refused}
use Rattle.equal_evidence.proofs.reading.read_evidence.Goals as goal

pub returns-in-Some-clause-refused : goal.returns-in-Some-clause-refused
returns-in-Some-clause-refused c =
    let front : List ℕ = c.as_slice.result.now in
    let cut : c.args.text.now ≡ front ++ c.in-Some.rest.now =
    at_some ((rest : List ℕ) → c.args.text.now ≢ front ++ rest) (λ (x : Bor (List ℕ)). c.args.text.now ≡ front ++ x.now) c.strip_prefix.result c.in-Some.rest c.in-Some.is (strip_prefix_is Decides-eqb c.args.text.now front c.strip_prefix.result c.strip_prefix.ensures.cases) in
    plain_refused c.args.text.now c.in-Some.rest.now c.read_plain.result (cut ∙ ap (λ (l : List ℕ). l ++ c.in-Some.rest.now) c.as_slice.ensures) c.read_plain.ensures.refused

pub returns-in-Some-strip_prefix-clause-read : goal.returns-in-Some-strip_prefix-clause-read
returns-in-Some-strip_prefix-clause-read c =
    let front : List ℕ = c.as_slice-2.result.now in
    let cut : c.args.text.now ≡ front ++ c.in-Some-strip_prefix.rest.now =
    at_some ((rest : List ℕ) → c.args.text.now ≢ front ++ rest) (λ (x : Bor (List ℕ)). c.args.text.now ≡ front ++ x.now) c.strip_prefix-2.result c.in-Some-strip_prefix.rest c.in-Some-strip_prefix.is (strip_prefix_is Decides-eqb c.args.text.now front c.strip_prefix-2.result c.strip_prefix-2.ensures.cases) in
    let is : c.args.text.now ≡ codes "rambo-equal 2 " ++ c.in-Some-strip_prefix.rest.now = cut ∙ ap (λ (l : List ℕ). l ++ c.in-Some-strip_prefix.rest.now) c.as_slice-2.ensures in
    subst (λ (t : List ℕ). IfOk c.read_merged.result (λ p. IsProof t p.0 p.1)) (sym is) c.read_merged.ensures.read

pub returns-in-Some-strip_prefix-clause-refused : goal.returns-in-Some-strip_prefix-clause-refused
returns-in-Some-strip_prefix-clause-refused c =
    let front : List ℕ = c.as_slice-2.result.now in
    let cut : c.args.text.now ≡ front ++ c.in-Some-strip_prefix.rest.now =
    at_some ((rest : List ℕ) → c.args.text.now ≢ front ++ rest) (λ (x : Bor (List ℕ)). c.args.text.now ≡ front ++ x.now) c.strip_prefix-2.result c.in-Some-strip_prefix.rest c.in-Some-strip_prefix.is (strip_prefix_is Decides-eqb c.args.text.now front c.strip_prefix-2.result c.strip_prefix-2.ensures.cases) in
    merged_refused c.args.text.now c.in-Some-strip_prefix.rest.now c.read_merged.result (cut ∙ ap (λ (l : List ℕ). l ++ c.in-Some-strip_prefix.rest.now) c.as_slice-2.ensures) c.read_merged.ensures.refused
