-- Numbers that are moved, one after another.
use Rattle.std.proofs.Common.{List, [], ap, append_assoc, map, sym, ℕ, ◌++◌, ◌∙◌, ◌∷◌, ◌≡◌}
use Rattle.std.proofs.lemmas.List.{map-append}
use Rattle.rm_base.specs.declared.numbers.NodeId.{NodeId}

pub moved_step : (f : ℕ → ℕ) (before after : List NodeId) (left rest all : List ℕ) (x y : NodeId) → after ≡ before ++ y ∷ [] → left ≡ x.0 ∷ rest → y.0 ≡ f x.0
    → map (λ (n : NodeId). n.0) before ++ map f left ≡ all → map (λ (n : NodeId). n.0) after ++ map f rest ≡ all
moved_step f before after left rest all x y pushed next is made =
    ap (λ (l : List NodeId). map (λ (n : NodeId). n.0) l ++ map f rest) pushed
    ∙ (ap (λ (l : List ℕ). l ++ map f rest) (map-append (λ (n : NodeId). n.0) before (y ∷ []))
    ∙ (append_assoc (map (λ (n : NodeId). n.0) before) (y.0 ∷ []) (map f rest)
    ∙ (ap (λ (i : ℕ). map (λ (n : NodeId). n.0) before ++ (i ∷ map f rest)) is ∙ (ap (λ (l : List ℕ). map (λ (n : NodeId). n.0) before ++ map f l) (sym next) ∙ made))))
