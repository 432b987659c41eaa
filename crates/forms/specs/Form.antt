-- A form: which texts there are, and what each tells. F are the faults that a number can have, A is what a text tells.
use Rattle.std.specs.Prelude.{ℕ, ◌+◌, true, false, List, [], ◌∷◌, drop, Some, None, Option, ◌==◌}
use Rattle.forms.specs.Marks.{Lexed, none, led, number, number_at}

-- what is said of a number that stands where it may: it is fine, or it is refused with a fault
pub data Verdict (F : Type 0) : Type 0 where
  fine : Verdict F
  out : F → Verdict F

-- A form is a way of going on: nothing more, with what the text told; a byte, and then a form; a number, and then a form
-- that may depend on it; or a dash, or else a number.
pub data Form (F A : Type 0) : Type 0 where
  done : A → Form F A
  mark : ℕ → Form F A → Form F A
  numb : (ℕ → Verdict F) → (ℕ → Form F A) → Form F A
  dash_or : (ℕ → Verdict F) → (Option ℕ → Form F A) → Form F A

-- what a reader of a text finds: what the text tells, the place where it leaves the form, or a number's fault and its place
pub data Outcome (F A : Type 0) : Type 0 where
  got : A → Outcome F A
  broken : ℕ → Outcome F A
  refused : F → ℕ → Outcome F A

-- a number is judged as soon as it is complete, before what follows it is read
abbrev pub judged : {F A : Type 0} → Verdict F → ℕ → Outcome F A → Outcome F A
judged fine at o = o
judged (out m) at o = refused m at

-- no number breaks the form at its place, and a 0 with a digit behind it at that digit
abbrev pub numbered : {F A : Type 0} → Lexed → (ℕ → Verdict F) → ℕ → (ℕ → ℕ → Outcome F A) → Outcome F A
numbered none j at go = broken at
numbered led j at go = broken (at + 1)
numbered (number v n) j at go = judged (j v) at (go v n)

-- reading the form from a place on, where the list is what is left of the text
abbrev pub run : {F A : Type 0} → ℕ → Form F A → List ℕ → Outcome F A
run at (done a) [] = got a
run at (done a) (c ∷ cs) = broken at
run at (mark b k) [] = broken at
run at (mark b k) (c ∷ cs) = elim (c == b) [ true ↦ run (at + 1) k cs | false ↦ broken at ]
run at (numb j k) cs = numbered (number_at cs) j at (λ v n. run (at + n) (k v) (drop n cs))
run at (dash_or j k) [] = broken at
run at (dash_or j k) (c ∷ cs) =
    elim (c == 45) [
      | true ↦ run (at + 1) (k None) cs
      | false ↦ numbered (number_at (c ∷ cs)) j at (λ v n. run (at + n) (k (Some v)) (drop n (c ∷ cs)))
    ]
