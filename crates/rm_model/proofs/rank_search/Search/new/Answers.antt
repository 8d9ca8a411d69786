use Rattle.std.proofs.Common.{◌≡◌, List, ℕ, Option}
use Rattle.rm_model.specs.Inner.Search.{State}
use Rattle.rm_model.specs.declared.rank_search.Looked.{Looked}
use Rattle.rm_model.proofs.rank_search.Search.new.Goals as goal

abbrev state : List (Option ℕ) → List Looked → List (List ℕ) → List ℕ → State
state r l w o = record { ranks = r; looked = l; waiting = w; order = o }

same_state : {r s : List (Option ℕ)} {l k : List Looked} {w v : List (List ℕ)} {o p : List ℕ} → r ≡ s → l ≡ k → w ≡ v → o ≡ p → state r l w o ≡ state s k v p
same_state a b c d = λ i. record { ranks = a i; looked = b i; waiting = c i; order = d i }

pub returns : goal.returns
returns c = same_state c.in_ok-ranks.ensures (c.in_ok-looked.ensures.items_if_clones_equal (λ y e. e)) c.in_ok-waiting.ensures c.new.ensures.items
