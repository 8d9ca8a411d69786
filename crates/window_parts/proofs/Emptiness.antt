-- What one byte of a file tells of it.
use Rattle.std.proofs.Common.{◌≡◌, ◌⊎◌, ◌==◌, ℕ, Bool, true, List, [], ◌∷◌, take, drop, length, refl, sym, ◌∙◌, subst, arith, inl, inr}
use Rattle.std.proofs.lemmas.Bool.{eqb-true}
use Rattle.std.specs.Prelude.{Option, None, Some, IfSome}
use Rattle.std.specs.Option.{option_map}
use Rattle.rm_base.specs.Files.{Files, file_of}
use Rattle.rm_base.specs.Shelves.{GivesPiece}
use Rattle.rm_base.specs.Words.{Word}
use Rattle.rm_model.specs.declared.parts.Model.{Model}
use Rattle.window_parts.specs.Part.{HasNoByte}
use Rattle.window_parts.specs.Refusals.{IsRefusedPart}
use Rattle.window_parts.specs.declared.refusal.PartRefusal.TheVariants as refusal

none_first : (o : Option (List ℕ)) → Some [] ≡ option_map (λ bytes. take 1 (drop 0 bytes)) o → (o ≡ None) ⊎ (o ≡ Some [])
none_first None e = cc
none_first (Some []) e = inr refl
none_first (Some (b ∷ bs)) e = cc

nothing_there : (o : Option (List ℕ)) → None ≡ option_map (λ bytes. take 1 (drop 0 bytes)) o → (o ≡ None) ⊎ (o ≡ Some [])
nothing_there None e = inl refl
nothing_there (Some bs) e = cc

empty_first : (name : Word) (files : Option Files) (bytes : List ℕ) (empty : Bool) → empty ≡ (length bytes == 0) → empty ≡ true → GivesPiece files name 0 1 (Some bytes) → IfSome files (HasNoByte name)
empty_first name None bytes empty is full gives = tt
empty_first name (Some told) [] empty is full gives = none_first (file_of told name) gives
empty_first name (Some told) (b ∷ bs) empty is full gives = let zero : length (b ∷ bs) ≡ 0 = eqb-true (length (b ∷ bs)) 0 (sym is ∙ full) in absurd (omega (arith, zero))

pub no_byte : (V : Type 0) (items : V → List ℕ) (name : Word) (files : Option Files) (found : Option V) (v : V) (empty : Bool) → found ≡ Some v → empty ≡ (length (items v) == 0) → empty ≡ true
    → GivesPiece files name 0 1 (option_map items found) → IfSome files (HasNoByte name)
no_byte V items name files found v empty e is full gives = empty_first name files (items v) empty is full (subst (λ (o : Option V). GivesPiece files name 0 1 (option_map items o)) e gives)

none_there : (name : Word) (files : Option Files) → GivesPiece files name 0 1 None → IfSome files (HasNoByte name)
none_there name None gives = tt
none_there name (Some told) gives = nothing_there (file_of told name) gives

pub not_there : (V : Type 0) (items : V → List ℕ) (name : Word) (files : Option Files) (found : Option V) → found ≡ None → GivesPiece files name 0 1 (option_map items found) → IfSome files (HasNoByte name)
not_there V items name files found e gives = none_there name files (subst (λ (o : Option V). GivesPiece files name 0 1 (option_map items o)) e gives)

pub outside_refused : (name : Word) (files : Option Files) (w : Model) → IfSome files (IsRefusedPart w name refusal.Fault)
outside_refused name None w = tt
outside_refused name (Some told) w = tt

pub memory_ran_out : (name : Word) (files : Option Files) (w : Model) → IfSome files (IsRefusedPart w name refusal.NoMemory)
memory_ran_out name None w = tt
memory_ran_out name (Some told) w = tt
