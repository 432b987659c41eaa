-- The texts that pieces give, and what a reader of them may say. `Whole` are the values that have a text, `pieces` their pieces.
use Rattle.std.specs.Prelude.{◌≡◌, ℕ, ◌≤◌, false, List, ◌∷◌, ◌++◌, length, take}
use Rattle.forms.specs.Marks.{numeral, digit_first}
use Rattle.forms.specs.Form.{out, Outcome, got, broken, refused}
use Rattle.forms.specs.Pieces.{Piece, num, spelling, Fine}

-- t is the text of a, each of whose numbers is fine
pub record Text {F A : Type 0} (Whole : A → Type 0) (pieces : A → List (Piece F)) (t : List ℕ) (a : A) : Type 0 where
  pub whole : Whole a
  pub ranged : Fine (pieces a)
  pub spelt : t ≡ spelling (pieces a)

-- some text, with numbers of any size, begins with s
pub record Begun {F A : Type 0} (Whole : A → Type 0) (pieces : A → List (Piece F)) (s : List ℕ) : Type 0 where
  pub tells : A
  pub whole : Whole tells
  pub rest : List ℕ
  pub spelt : spelling (pieces tells) ≡ s ++ rest

-- The text goes along with that of some value up to and with a number, which begins at p, is complete there, and is refused
-- with m; all numbers before it are fine.
pub record Refused {F A : Type 0} (Whole : A → Type 0) (pieces : A → List (Piece F)) (t : List ℕ) (m : F) (p : ℕ) : Type 0 where
  pub tells : A
  pub whole : Whole tells
  pub before : List (Piece F)
  pub value : ℕ
  pub behind : List (Piece F)
  pub parts : pieces tells ≡ before ++ num value (out m) ∷ behind
  pub ranged : Fine before
  pub rest : List ℕ
  pub spelt : t ≡ spelling before ++ (numeral value ++ rest)
  pub complete : digit_first rest ≡ false
  pub place : p ≡ length (spelling before)

-- It is no text, no number of it is refused, and p is the length of its longest beginning with which a text begins.
pub record Broken {F A : Type 0} (Whole : A → Type 0) (pieces : A → List (Piece F)) (t : List ℕ) (p : ℕ) : Type 0 where
  pub within : p ≤ length t
  pub begun : Begun Whole pieces (take p t)
  pub longest : (n : ℕ) → n ≤ length t → Begun Whole pieces (take n t) → n ≤ p
  pub no_text : (a : A) → Text Whole pieces t a → ⊥
  pub no_number : (m : F) (q : ℕ) → Refused Whole pieces t m q → ⊥

-- what an outcome says of the text
abbrev pub Right : {F A : Type 0} → (A → Type 0) → (A → List (Piece F)) → List ℕ → Outcome F A → Type 0
Right Whole pieces t (got a) = Text Whole pieces t a
Right Whole pieces t (broken p) = Broken Whole pieces t p
Right Whole pieces t (refused m p) = Refused Whole pieces t m p
