-- Lines of a name and entries, each entry with a space before it, as parts of a form and as pieces.
use Rattle.std.specs.Prelude.{ℕ, zero, suc, List, [], ◌∷◌, ◌++◌, map, length}
use Rattle.forms.specs.Form.{Form, mark}
use Rattle.forms.specs.Pieces.{Piece, byte}

-- bytes that stand as they are
abbrev pub word : {F A : Type 0} → List ℕ → Form F A → Form F A
word [] k = k
word (b ∷ bs) k = mark b (word bs k)

-- n entries after those in acc; an entry may depend on how many stand before it
abbrev pub rows : {X F A : Type 0} → (ℕ → (X → Form F A) → Form F A) → ℕ → List X → (List X → Form F A) → Form F A
rows entry zero acc k = k acc
rows entry (suc n) acc k = mark 32 (entry (length acc) (λ x. rows entry n (acc ++ x ∷ []) k))

-- a name, n entries, and the newline
abbrev pub line : {X F A : Type 0} → List ℕ → (ℕ → (X → Form F A) → Form F A) → ℕ → (List X → Form F A) → Form F A
line name entry n k = word name (rows entry n [] (λ xs. mark 10 (k xs)))

-- the same as pieces
abbrev pub letters : {F : Type 0} → List ℕ → List (Piece F)
letters bs = map byte bs

-- the pieces of entries, the first of which has i before it
abbrev pub each : {X F : Type 0} → (ℕ → X → List (Piece F)) → ℕ → List X → List (Piece F)
each f i [] = []
each f i (x ∷ xs) = byte 32 ∷ f i x ++ each f (suc i) xs

-- the pieces of a line
abbrev pub line_pieces : {X F : Type 0} → List ℕ → (ℕ → X → List (Piece F)) → List X → List (Piece F)
line_pieces name f xs = letters name ++ (each f 0 xs ++ byte 10 ∷ [])
