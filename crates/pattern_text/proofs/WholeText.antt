-- The parts of a text, put together.
use Rattle.std.proofs.Common.{◌≡◌, ◌∙◌, ℕ, List, [], ◌++◌, ap}
use Rattle.std.proofs.lemmas.List.{append_assoc}
use Rattle.rm_model.specs.declared.parts.Model.{Model}
use Rattle.model_faults.specs.ModelFaults.{faults_of_model}
use Rattle.pattern_text.specs.Text.{Tests, counts_lines, counts_of, fault_lines, header_line, observed_line, pattern_lines, sources_line, tests_text}
use Rattle.pattern_text.specs.declared.counts.Counts.{Counts}

joined : (a b c d e f : List ℕ) → (((a ++ (b ++ c)) ++ d) ++ e) ++ f ≡ a ++ (b ++ (c ++ (d ++ (e ++ f))))
joined a b c d e f =
    append_assoc ((a ++ (b ++ c)) ++ d) e f ∙ append_assoc (a ++ (b ++ c)) d (e ++ f) ∙ append_assoc a (b ++ c) (d ++ (e ++ f)) ∙ ap (λ (xs : List ℕ). a ++ xs) (append_assoc b c (d ++ (e ++ f)))

pub whole_text : (m : Model) (t : Tests) (start head patterns covers whole : List ℕ) (counts : Counts) → start ≡ [] → head ≡ start ++ (header_line ++ (sources_line m ++ observed_line m)) → patterns ≡ head ++ pattern_lines 0 t.patterns
    → covers ≡ patterns ++ fault_lines (faults_of_model m) t.firsts → whole ≡ covers ++ counts_lines counts → counts ≡ counts_of t → whole ≡ tests_text m t
whole_text m t start head patterns covers whole counts e f g h i k =
    i ∙ ap (λ (c : Counts). covers ++ counts_lines c) k ∙ ap (λ (xs : List ℕ). xs ++ counts_lines (counts_of t)) (h ∙ ap (λ (xs : List ℕ). xs ++ fault_lines (faults_of_model m) t.firsts) (g ∙ ap (λ (xs : List ℕ). xs ++ pattern_lines 0 t.patterns)
    (f ∙ ap (λ (xs : List ℕ). xs ++ (header_line ++ (sources_line m ++ observed_line m))) e)))
    ∙ joined header_line (sources_line m) (observed_line m) (pattern_lines 0 t.patterns) (fault_lines (faults_of_model m) t.firsts) (counts_lines (counts_of t))
