-- A text as the list of its pieces: bytes that stand as they are, and numbers, each with what is said of it.
use Rattle.std.specs.Prelude.{◌≡◌, ℕ, List, [], ◌∷◌, ◌++◌}
use Rattle.forms.specs.Marks.{numeral}
use Rattle.forms.specs.Form.{Verdict, fine}

-- a byte, or a number of any size
pub data Piece (F : Type 0) : Type 0 where
  byte : ℕ → Piece F
  num : ℕ → Verdict F → Piece F

abbrev pub piece_text : {F : Type 0} → Piece F → List ℕ
piece_text (byte b) = b ∷ []
piece_text (num v w) = numeral v

-- the pieces' bytes, one after another
abbrev pub spelling : {F : Type 0} → List (Piece F) → List ℕ
spelling [] = []
spelling (p ∷ ps) = piece_text p ++ spelling ps

-- every number of the pieces is fine
abbrev pub Fine : {F : Type 0} → List (Piece F) → Type 0
Fine [] = Unit {0}
Fine (byte b ∷ ps) = Fine ps
Fine (num v w ∷ ps) = (w ≡ fine) × Fine ps
