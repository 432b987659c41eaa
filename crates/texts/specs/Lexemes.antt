-- What the lexer makes of a byte: the five marks, the digits, and all others.
use Rattle.std.specs.Prelude.{ℕ, ◌-◌, Bool, cond, ◌||◌, List, [], ◌∷◌, take, ◌==◌, Some, None, Option}
use Rattle.std.specs.List.{position_or_len}
use Rattle.forms.specs.Marks.{is_digit}
use Rattle.texts.specs.declared.lexer.Mark.{Mark}
use Rattle.texts.specs.declared.lexer.Mark.TheVariants.{Space, Newline, Arrow, Colon, Dash}
use Rattle.texts.specs.declared.lexer.Lexeme.{Lexeme}
use Rattle.texts.specs.declared.lexer.Lexeme.TheVariants.{Sign, Digit, Other}

-- the byte of each mark
abbrev pub byte_of : Mark → ℕ
byte_of Space = 32
byte_of Newline = 10
byte_of Arrow = 62
byte_of Colon = 58
byte_of Dash = 45

abbrev pub lexeme_of : ℕ → Lexeme
lexeme_of b =
    cond (b == 32) (Sign Space)
    (cond (b == 10) (Sign Newline)
    (cond (b == 62) (Sign Arrow)
    (cond (b == 58) (Sign Colon) (cond (b == 45) (Sign Dash) (cond (is_digit b) (Digit (b - 48)) Other)))))

-- what stands at the front of what is left, if anything does
abbrev pub lexeme_at : List ℕ → Option Lexeme
lexeme_at [] = None
lexeme_at (c ∷ cs) = Some (lexeme_of c)

-- the space, the newline, '>', ':' and '-'
abbrev pub is_mark : ℕ → Bool
is_mark b = b == 32 || (b == 10 || (b == 62 || (b == 58 || b == 45)))

-- what stands before the first mark, or all of it
abbrev pub word_of : List ℕ → List ℕ
word_of bs = take (position_or_len is_mark bs) bs
