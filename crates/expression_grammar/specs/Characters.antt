-- What characters are to an expression (HLASM Language Reference SC26-4940, "Character set", "Self-defining terms").
use Rattle.std.specs.Prelude.{ℕ, ◌==◌, ◌||◌, if◌then◌else◌}
use Rattle.std.specs.Char.{is_ascii_digit}
use Rattle.hl_base.specs.Symbols.{is_letter}
use Rattle.expression_grammar.specs.declared.character.Kind.{Kind}
use Rattle.expression_grammar.specs.declared.character.Kind.TheVariants.{Mark, Open, Close, Comma, Blank, Quote, Ampersand, Digit, Letter, Other}
use Rattle.expression_grammar.specs.declared.tree.Operator.{Operator}
use Rattle.expression_grammar.specs.declared.tree.Operator.TheVariants.{Add, Subtract, Multiply, Divide, And, Or, Xor}
use Rattle.expression_grammar.specs.declared.tree.Sign.{Sign}
use Rattle.expression_grammar.specs.declared.tree.Sign.TheVariants.{Plus, Minus}
use Rattle.expression_grammar.specs.declared.tree.Attribute.{Attribute}
use Rattle.expression_grammar.specs.declared.tree.Attribute.TheVariants as attribute

-- what a character is
unfoldable pub kind_of : ℕ → Kind
kind_of c =
    if c == 43 then Mark Add
    else (if c == 45 then Mark Subtract
    else (if c == 42 then Mark Multiply
    else (if c == 47 then Mark Divide
    else (if c == 40 then Open
    else (if c == 41 then Close
    else (if c == 44 then Comma
    else (if (c == 32) || (c == 9) then Blank
    else (if c == 39 then Quote
    else (if c == 38 then Ampersand
    else (if is_ascii_digit c then Digit
    else (if is_letter c then Letter
    else Other)))))))))))

-- the operator that is written as the sign is
abbrev pub mark_of : Sign → Operator
mark_of Plus = Add
mark_of Minus = Subtract

-- the letter of an attribute
abbrev pub letter_of : Attribute → ℕ
letter_of attribute.Count = 75
letter_of attribute.Number = 78
letter_of attribute.Length = 76
letter_of attribute.Defined = 68
letter_of attribute.Type = 84

-- how strongly an operator binds
abbrev pub strength : Operator → ℕ
strength Xor = 0
strength Or = 1
strength And = 2
strength Add = 5
strength Subtract = 5
strength Multiply = 6
strength Divide = 6
