-- Pieces of a file, put together.
use Rattle.std.proofs.Common.{◌≡◌, ◌≢◌, ℕ, zero, suc, ◌+◌, ◌^◌, ◌<◌, ◌≤◌, List, [], ◌∷◌, ◌++◌, length, take, drop, Option, Some, None, IfSome, IsSome, refl, ap, sym, subst, ◌∙◌, arith, append_assoc}
use Rattle.std.proofs.lemmas.List.{append-nil, length-append}
use Rattle.std.specs.Option.{option_map}
use Rattle.rm_base.specs.Files.{Files, file_of}
use Rattle.rm_base.specs.Shelves.{GivesPiece}
use Rattle.rm_base.specs.Words.{Word}
use Rattle.file_pieces.specs.Pieces.{FileBegins, IsReadSoFar, IsTooLong}

drop_seam : (xs ys : List ℕ) → drop (length xs) (xs ++ ys) ≡ ys
drop_seam [] ys = refl
drop_seam (x ∷ xs) ys = drop_seam xs ys

take_seam : (xs ys : List ℕ) → take (length xs) (xs ++ ys) ≡ xs
take_seam [] ys = refl
take_seam (x ∷ xs) ys = ap (λ (zs : List ℕ). x ∷ zs) (take_seam xs ys)

take_and_drop : (n : ℕ) (xs : List ℕ) → xs ≡ take n xs ++ drop n xs
take_and_drop zero xs = refl
take_and_drop (suc n) [] = refl
take_and_drop (suc n) (x ∷ xs) = ap (λ (zs : List ℕ). x ∷ zs) (take_and_drop n xs)

nothing_left : (most : ℕ) (rest : List ℕ) → 0 < most → take most rest ≡ [] → rest ≡ []
nothing_left zero rest l e = absurd (omega (arith, l))
nothing_left (suc n) [] l e = refl
nothing_left (suc n) (x ∷ xs) l e = cc

-- the file, and what is left of it behind the piece
record PieceAt (files : Files) (name : Word) (text piece : List ℕ) : Type 0 where
  pub bytes : List ℕ
  pub there : file_of files name ≡ Some bytes
  pub after : List ℕ
  pub is : bytes ≡ (text ++ piece) ++ after
  pub ends : piece ≡ [] → bytes ≡ text

piece_found : (o : Option (List ℕ)) (from most : ℕ) (piece : List ℕ) → Some piece ≡ option_map (λ (bytes : List ℕ). take most (drop from bytes)) o → (bytes : List ℕ) × ((o ≡ Some bytes) × (piece ≡ take most (drop from bytes)))
piece_found None from most piece e = cc
piece_found (Some bytes) from most piece e = (bytes, (refl, cc))

piece_at : (files : Files) (name : Word) (text piece : List ℕ) (from most : ℕ) → 0 < most → length text ≡ from → FileBegins files name text → GivesPiece (Some files) name from most (Some piece) → PieceAt files name text piece
piece_at files name text piece from most some size begins gives =
    let found = piece_found (file_of files name) from most piece gives in
    let rest = begins found.0 found.1.0 in
    let left : drop from found.0 ≡ rest.0 = ap (λ (n : ℕ). drop n found.0) (sym size) ∙ ap (λ (xs : List ℕ). drop (length text) xs) rest.1 ∙ drop_seam text rest.0 in
    let piece_is : piece ≡ take most rest.0 = found.1.1 ∙ ap (λ (xs : List ℕ). take most xs) left in
    let parts : rest.0 ≡ piece ++ drop most rest.0 = take_and_drop most rest.0 ∙ ap (λ (xs : List ℕ). xs ++ drop most rest.0) (sym piece_is) in
    record {
      bytes = found.0;
      there = found.1.0;
      after = drop most rest.0;
      is = rest.1 ∙ ap (λ (xs : List ℕ). text ++ xs) parts ∙ sym (append_assoc text piece (drop most rest.0));
      ends = λ e. rest.1 ∙ ap (λ (xs : List ℕ). text ++ xs) (nothing_left most rest.0 some (sym piece_is ∙ e)) ∙ append-nil text;
    }

same_bytes : (o : Option (List ℕ)) (a b : List ℕ) → o ≡ Some a → o ≡ Some b → a ≡ b
same_bytes o a b e f = cc

begins_on : (files : Option Files) (name : Word) (text piece : List ℕ) (from most : ℕ) → 0 < most → length text ≡ from → IfSome files (λ told. FileBegins told name text) → GivesPiece files name from most (Some piece) → IfSome files (λ told. FileBegins told name (text ++ piece))
begins_on None name text piece from most some size begins gives = tt
begins_on (Some told) name text piece from most some size begins gives =
    let at = piece_at told name text piece from most some size begins gives in
    λ bytes there. (at.after, same_bytes (file_of told name) bytes at.bytes there at.there ∙ at.is)

-- a piece more
pub read_on : (files : Option Files) (name : Word) (text piece : List ℕ) (from most now : ℕ) → 0 < most → IsReadSoFar files name text from → GivesPiece files name from most (Some piece) → now ≡ from + length piece → IsReadSoFar files name (text ++ piece) now
read_on files name text piece from most now some r gives e =
    let long : length (text ++ piece) ≡ length text + length piece = length-append text piece in
    record { size = omega (arith, long, r.size, e); begins = begins_on files name text piece from most some r.size r.begins gives }

-- the end
pub read_all : (files : Option Files) (name : Word) (text piece : List ℕ) (from most : ℕ) → 0 < most → IsReadSoFar files name text from → GivesPiece files name from most (Some piece) → piece ≡ [] → IfSome files (λ told. file_of told name ≡ Some text)
read_all None name text piece from most some r gives e = tt
read_all (Some told) name text piece from most some r gives e =
    let at = piece_at told name text piece from most some r.size r.begins gives in
    at.there ∙ ap (λ (bytes : List ℕ). Some bytes) (at.ends e)

-- more than is read
pub read_over : (files : Option Files) (name : Word) (text piece : List ℕ) (from most : ℕ) → 0 < most → from ≡ 2 ^ 62 → 0 < length piece → IsReadSoFar files name text from → GivesPiece files name from most (Some piece) → IfSome files (λ told. IsTooLong told name text)
read_over None name text piece from most some limit more r gives = tt
read_over (Some told) name text piece from most some limit more r gives =
    let at = piece_at told name text piece from most some r.size r.begins gives in
    let long : length at.bytes ≡ length text + length piece + length at.after = ap (λ (xs : List ℕ). length xs) at.is ∙ length-append (text ++ piece) at.after ∙ ap (λ (n : ℕ). n + length at.after) (length-append text piece) in
    let size : length text ≡ 2 ^ 62 = r.size ∙ limit in
    let first : take (2 ^ 62) at.bytes ≡ text =
    ap (λ (n : ℕ). take n at.bytes) (sym size) ∙ ap (λ (xs : List ℕ). take (length text) xs) (at.is ∙ append_assoc text piece at.after) ∙ take_seam text (piece ++ at.after) in
    (at.bytes, (at.there, (omega (arith, long, size, more), first)))

-- of a file that isn't there no piece is given
found_there : (o : Option (List ℕ)) (from most : ℕ) (piece : List ℕ) → Some piece ≡ option_map (λ (bytes : List ℕ). take most (drop from bytes)) o → IsSome o
found_there None from most piece e = cc
found_there (Some bytes) from most piece e = refl

pub read_there : (files : Option Files) (name : Word) (piece : List ℕ) (from most : ℕ) → GivesPiece files name from most (Some piece) → IfSome files (λ told. IsSome (file_of told name))
read_there None name piece from most gives = tt
read_there (Some told) name piece from most gives = found_there (file_of told name) from most piece gives
