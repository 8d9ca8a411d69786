-- The words of a latch.
use Rattle.std.proofs.Common.{◌≡◌, ◌≢◌, ℕ, ◌<◌, ◌≤◌, List, [], ◌∷◌, ◌++◌, length, get_or, true, refl, arith, None, Some}
use Rattle.rm_model.specs.Value.{is_among}
use Rattle.rm_model.specs.declared.parts.Timing.{Timing}
use Rattle.blif_lines.specs.Reading.{spot_of}
use Rattle.blif_lines.specs.declared.line.Token.{Token}
use Rattle.blif_format.specs.Text.{timing_words, init_words}
use Rattle.blif_format.specs.FirstFault.{latch_types, init_values}
use Rattle.blif_reader.specs.Lines.{words_at, IsLatchLine, init_part, timing_part}
use Rattle.rm_base.specs.Words.{Word}

abbrev pub word_at : List ℕ → Token → Word
word_at text t = (spot_of text t).word

pub init_three : (text : List ℕ) (ws : List Token) (d : Token) (r : ℕ) → length ws ≡ 3 → (is_among init_values (word_at text (get_or ws 2 d)) ≡ true → init_words (Some r) ≡ word_at text (get_or ws 2 d) ∷ []) → IsLatchLine (words_at text ws) → init_words (Some r) ≡ init_part (words_at text ws)
init_three text [] d r e f h = absurd h
init_three text (a ∷ []) d r e f h = absurd h
init_three text (a ∷ b ∷ []) d r e f h = absurd (omega arith)
init_three text (a ∷ b ∷ c ∷ []) d r e f h = f h
init_three text (a ∷ b ∷ c ∷ x ∷ xs) d r e f h = absurd (omega arith)

pub init_five : (text : List ℕ) (ws : List Token) (d : Token) (r : ℕ) → 4 < length ws → (is_among init_values (word_at text (get_or ws 4 d)) ≡ true → init_words (Some r) ≡ word_at text (get_or ws 4 d) ∷ []) → IsLatchLine (words_at text ws) → init_words (Some r) ≡ init_part (words_at text ws)
init_five text [] d r e f h = absurd h
init_five text (a ∷ []) d r e f h = absurd h
init_five text (a ∷ b ∷ []) d r e f h = absurd (omega arith)
init_five text (a ∷ b ∷ c ∷ []) d r e f h = absurd (omega arith)
init_five text (a ∷ b ∷ c ∷ x ∷ []) d r e f h = absurd (omega arith)
init_five text (a ∷ b ∷ c ∷ x ∷ y ∷ []) d r e f h = f h.1
init_five text (a ∷ b ∷ c ∷ x ∷ y ∷ z ∷ zs) d r e f h = absurd h

pub init_none : (text : List ℕ) (ws : List Token) → length ws ≢ 3 → length ws ≤ 4 → IsLatchLine (words_at text ws) → init_words None ≡ init_part (words_at text ws)
init_none text [] e f h = absurd h
init_none text (a ∷ []) e f h = absurd h
init_none text (a ∷ b ∷ []) e f h = refl
init_none text (a ∷ b ∷ c ∷ []) e f h = absurd (e refl)
init_none text (a ∷ b ∷ c ∷ x ∷ []) e f h = refl
init_none text (a ∷ b ∷ c ∷ x ∷ y ∷ ys) e f h = absurd (omega arith)

pub timing_some : (text : List ℕ) (ws : List Token) (d : Token) (t : Timing) → 3 < length ws → (is_among latch_types (word_at text (get_or ws 2 d)) ≡ true → timing_words (Some t) ≡ word_at text (get_or ws 2 d) ∷ word_at text (get_or ws 3 d) ∷ []) → IsLatchLine (words_at text ws) → timing_words (Some t) ≡ timing_part (words_at text ws)
timing_some text [] d t e f h = absurd h
timing_some text (a ∷ []) d t e f h = absurd h
timing_some text (a ∷ b ∷ []) d t e f h = absurd (omega arith)
timing_some text (a ∷ b ∷ c ∷ []) d t e f h = absurd (omega arith)
timing_some text (a ∷ b ∷ c ∷ x ∷ []) d t e f h = f h
timing_some text (a ∷ b ∷ c ∷ x ∷ y ∷ []) d t e f h = f h.0
timing_some text (a ∷ b ∷ c ∷ x ∷ y ∷ z ∷ zs) d t e f h = absurd h

pub timing_none : (text : List ℕ) (ws : List Token) → length ws ≤ 3 → IsLatchLine (words_at text ws) → timing_words None ≡ timing_part (words_at text ws)
timing_none text [] e h = absurd h
timing_none text (a ∷ []) e h = absurd h
timing_none text (a ∷ b ∷ []) e h = refl
timing_none text (a ∷ b ∷ c ∷ []) e h = refl
timing_none text (a ∷ b ∷ c ∷ x ∷ xs) e h = absurd (omega arith)

pub whole_latch : (text : List ℕ) (ws : List Token) (d : Token) → IsLatchLine (words_at text ws) → (word_at text (get_or ws 0 d) ∷ word_at text (get_or ws 1 d) ∷ timing_part (words_at text ws)) ++ init_part (words_at text ws) ≡ words_at text ws
whole_latch text [] d h = absurd h
whole_latch text (a ∷ []) d h = absurd h
whole_latch text (a ∷ b ∷ []) d h = refl
whole_latch text (a ∷ b ∷ c ∷ []) d h = refl
whole_latch text (a ∷ b ∷ c ∷ x ∷ []) d h = refl
whole_latch text (a ∷ b ∷ c ∷ x ∷ y ∷ []) d h = refl
whole_latch text (a ∷ b ∷ c ∷ x ∷ y ∷ z ∷ zs) d h = absurd h
