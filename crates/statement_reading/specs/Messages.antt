-- How the operands of MNOTE are read (HLASM Language Reference SC26-4940, "MNOTE instruction"): a message, alone or behind a
-- severity, which is a number, an asterisk, or left out.
use Rattle.std.specs.Prelude.{ℕ, ◌==◌, List, [], ◌∷◌, Option, Some, None, Result, Ok, Err, if◌then◌else◌}
use Rattle.expression_grammar.specs.declared.character.Grammar.TheVariants.{Arithmetic}
use Rattle.expression_grammar.specs.Readings.{read}
use Rattle.expression_grammar.specs.Trees.{Tree}
use Rattle.character_grammar.specs.TextReadings.{read_text}
use Rattle.conditional_fields.specs.Split.{operands_of}

-- a message and its severity; no severity where there is none, or an asterisk
pub record Message : Type 0 where
  pub severity : Option Tree
  pub text : Tree

-- an asterisk stands alone
abbrev pub starred : (behind : List ℕ) → Result (Option Tree) ℕ
starred [] = Ok None
starred (c ∷ rest) = Err 1

-- a severity that is a number
abbrev pub counted : Result Tree ℕ → Result (Option Tree) ℕ
counted (Ok tree) = Ok (Some tree)
counted (Err at) = Err at

-- the severity before a message
abbrev pub severity : List ℕ → Result (Option Tree) ℕ
severity [] = Ok None
severity (c ∷ behind) = if c == 42 then starred behind else counted (read Arithmetic (c ∷ behind))

-- a third operand is one too many
abbrev pub ended : (more : List (List ℕ)) → Message → Result Message ℕ
ended [] message = Ok message
ended (operand ∷ more) message = Err 0

-- severity and text, from left to right
abbrev pub both : Result (Option Tree) ℕ → Result Tree ℕ → (more : List (List ℕ)) → Result Message ℕ
both (Ok severity) (Ok text) more = ended more (record { severity = severity; text = text })
both (Ok severity) (Err at) more = Err at
both (Err at) text more = Err at

-- a message that is the one operand
abbrev pub alone : List ℕ → Result Message ℕ
alone operand = both (Ok None) (read_text operand) []

-- a message behind a severity, with these operands behind it
abbrev pub weighed : (before operand : List ℕ) (more : List (List ℕ)) → Result Message ℕ
weighed before operand more = both (severity before) (read_text operand) more

-- the operands: none is wrong at once
abbrev pub worded : List (List ℕ) → Result Message ℕ
worded [] = Err 0
worded (operand ∷ []) = alone operand
worded (before ∷ operand ∷ more) = weighed before operand more

-- the operand field of MNOTE
abbrev pub message : List ℕ → Result Message ℕ
message field = worded (operands_of field)
