-- What stands in parentheses behind the displacement of an address (HLASM Language Reference SC26-4940, "Addresses"): one
-- expression or two with a comma between them, and behind the closing parenthesis nothing. What is read stands behind so many
-- characters of its operand; where it cannot be read, that tells how many characters a right operand begins with.
use Rattle.std.specs.Prelude.{ℕ, ◌+◌, ◌==◌, ◌&&◌, List, [], ◌∷◌, length, take, drop, Option, Some, None, Result, Ok, Err, if◌then◌else◌}
use Rattle.constant_grammar.specs.Elements.{tree_in}
use Rattle.expression_grammar.specs.declared.character.Grammar.TheVariants.{Ordinary}
use Rattle.expression_grammar.specs.Readings.{Front, read, read_front}
use Rattle.expression_grammar.specs.Trees.{Tree}
use Rattle.machine_operands.specs.declared.form.AddressForm.{AddressForm}
use Rattle.machine_operands.specs.declared.form.AddressForm.TheVariants.{Based, Indexed, Counted}
use Rattle.machine_operands.specs.Forms.{has_two, may_omit_first}

-- what stands in parentheses: an index, a length or a register in its place, and a base
pub record Parts : Type 0 where
  pub first : Option Tree
  pub base : Option Tree

-- an expression with its closing parenthesis, which is the last character of its text
abbrev pub closed : ℕ → List ℕ → Front → Result Tree ℕ
closed count text front =
    if (front.before + 1) == length text then Ok front.tree else Err (count + (front.before + 1))

-- the last expression
abbrev pub last_by : ℕ → List ℕ → Result Front ℕ → Result Tree ℕ
last_by count text (Ok front) = closed count text front
last_by count text (Err at) = Err (count + at)

unfoldable pub last : ℕ → List ℕ → Result Tree ℕ
last count text = last_by count text (read_front Ordinary text)

-- a base behind what stands before the comma
abbrev pub with_base : Option Tree → Result Tree ℕ → Result Parts ℕ
with_base first (Ok base) = Ok (record { first = first; base = Some base })
with_base first (Err at) = Err at

-- an only expression is the base where two cannot stand there
abbrev pub only : AddressForm → Tree → Parts
only Based tree = record { first = None; base = Some tree }
only Indexed tree = record { first = Some tree; base = None }
only Counted tree = record { first = Some tree; base = None }

abbrev pub alone : AddressForm → Result Tree ℕ → Result Parts ℕ
alone form (Ok tree) = Ok (only form tree)
alone form (Err at) = Err at

-- an expression before a comma, and then a base
abbrev pub with_first : Option Tree → (count at : ℕ) → List ℕ → Result Parts ℕ
with_first None count at rest = Err (count + at)
with_first (Some first) count at rest = with_base (Some first) (last ((count + at) + 1) rest)

-- what stands where no expression goes on: a comma (44), where two expressions may stand there
abbrev pub two_by : AddressForm → ℕ → List ℕ → ℕ → List ℕ → Result Parts ℕ
two_by form count text at [] = Err (count + at)
two_by form count text at (c ∷ rest) =
    if (c == 44) && has_two form then with_first (tree_in (read Ordinary (take at text))) count at rest else Err (count + at)

unfoldable pub two : AddressForm → ℕ → List ℕ → ℕ → Result Parts ℕ
two form count text at = two_by form count text at (drop at text)

-- what begins with an expression
abbrev pub given_by : AddressForm → ℕ → List ℕ → Result Front ℕ → Result Parts ℕ
given_by form count text (Ok front) = alone form (closed count text front)
given_by form count text (Err at) = two form count text at

unfoldable pub given : AddressForm → ℕ → List ℕ → Result Parts ℕ
given form count text = given_by form count text (read_front Ordinary text)

-- what begins with a comma
abbrev pub omitted : ℕ → List ℕ → Result Parts ℕ
omitted count rest = with_base None (last (count + 1) rest)

-- what stands behind an opening parenthesis: the first of two expressions may be left away
abbrev pub parts_by : AddressForm → ℕ → List ℕ → List ℕ → Result Parts ℕ
parts_by form count text [] = Err count
parts_by form count text (c ∷ rest) = if (c == 44) && may_omit_first form then omitted count rest else given form count text

unfoldable pub parts : AddressForm → ℕ → List ℕ → Result Parts ℕ
parts form count text = parts_by form count text text
