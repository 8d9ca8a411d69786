-- A file that is created and appended to is replaced, and after a fault it holds a prefix.
use Rattle.std.proofs.Common.{◌≡◌, ℕ, List, [], ◌∷◌, take, refl, sym, ap, ◌∙◌, length, arith, inl, inr, Result, Ok, Err, OnOk}
use Rattle.std.specs.Prelude.{Option, None, Some}
use Rattle.std.specs.Option.{option_map}
use Rattle.std.proofs.lemmas.List.{take_all}
use Rattle.rm_base.specs.Files.{Files, put_file, append_file}
use Rattle.rm_base.proofs.Public.{append_file-put_file}
use Rattle.rm_base.specs.Shelves.{IsAppended, IsCreated}
use Rattle.rm_base.specs.declared.outside.OutsideFault.{OutsideFault}
use Rattle.rm_base.specs.declared.outside.OutsideFault.TheVariants.{Failed, NoMemory}
use Rattle.rambo_cli.specs.Inner.Files.{BeginsFile}

appended : (name bytes : List ℕ) (old : Option Files) → option_map (append_file name bytes) (option_map (put_file name []) old) ≡ option_map (put_file name bytes) old
appended name bytes None = refl
appended name bytes (Some f) = ap Some (append_file-put_file name [] bytes f)

pub appended_done : {T : Type 0} (r : Result T OutsideFault) (name bytes : List ℕ) (old mid new : Option Files) → mid ≡ option_map (put_file name []) old → IsAppended r mid new name bytes → OnOk r (new ≡ option_map (put_file name bytes) old)
appended_done (Ok x) name bytes old mid new e h = h ∙ (ap (option_map (append_file name bytes)) e ∙ appended name bytes old)
appended_done (Err f) name bytes old mid new e h = tt

pub appended_begun : {T : Type 0} (r : Result T OutsideFault) (name bytes : List ℕ) (old mid new : Option Files) → mid ≡ option_map (put_file name []) old → IsAppended r mid new name bytes → BeginsFile name bytes old new
appended_begun (Ok x) name bytes old mid new e h =
    inr (length bytes, h ∙ (ap (option_map (append_file name bytes)) e ∙ (appended name bytes old ∙ ap (λ (xs : List ℕ). option_map (put_file name xs) old) (sym (take_all (length bytes) bytes (omega arith))))))
appended_begun (Err Failed) name bytes old mid new e h = inr (h.0, h.1 ∙ (ap (option_map (append_file name (take h.0 bytes))) e ∙ appended name (take h.0 bytes) old))
appended_begun (Err NoMemory) name bytes old mid new e h = inr (0, h ∙ (e ∙ ap (λ (xs : List ℕ). option_map (put_file name xs) old) (take_zero bytes)))
  where
    take_zero : (bytes : List ℕ) → [] ≡ take 0 bytes
    take_zero [] = refl
    take_zero (b ∷ bs) = refl

pub created_begun : {T : Type 0} (r : Result T OutsideFault) (name bytes : List ℕ) (old new : Option Files) → IsCreated r old new name → BeginsFile name bytes old new
created_begun (Ok x) name bytes old new h = inr (0, h)
created_begun (Err Failed) name bytes old new h = elim h [ inl e ↦ inl e | inr e ↦ inr (0, e) ]
created_begun (Err NoMemory) name bytes old new h = inl h
