-- Literals by whether all of a text is one.
use Rattle.std.proofs.Common.{◌≡◌, ◌∙◌, ℕ, true, false, List, [], Option, Some, None, is_some, refl, sym, ap}
use Rattle.constant_grammar.specs.Constants.{Constant}
use Rattle.constant_operands.specs.declared.operand.ConstantUse.TheVariants as used
use Rattle.constant_operands.specs.Operands.{operand}
use Rattle.literal_operands.specs.Literals.{Literal, parted, up_to, literal_by, literal}
use Rattle.literal_operands.specs.Pairs.{last_pair}

by_some : (found : Option Constant) (body : List ℕ) → is_some found ≡ true → literal_by found body ≡ parted body []
by_some (Some whole) body some = refl
by_some None body some = absurd cc

by_none : (found : Option Constant) (body : List ℕ) → is_some found ≡ false → literal_by found body ≡ up_to (last_pair body) body
by_none (Some whole) body none = absurd cc
by_none None body none = refl

-- all of the text is a constant
pub literal-whole : (body : List ℕ) → is_some (operand used.Literal body).constant ≡ true → literal body ≡ parted body []
literal-whole body some = by_some (operand used.Literal body).constant body some

-- it is none
pub literal-up_to : (body : List ℕ) (pair : Option ℕ) → is_some (operand used.Literal body).constant ≡ false → pair ≡ last_pair body →
    literal body ≡ up_to pair body
literal-up_to body pair none is = by_none (operand used.Literal body).constant body none ∙ ap (λ p. up_to p body) (sym is)
