-- What the variable symbols of a field stand for (HLASM Language Reference SC26-4940, "Variable symbols", "Concatenating
-- symbols and characters"): each is replaced by its value, a number in decimal.
use Rattle.std.specs.Prelude.{ℕ, List, [], ◌∷◌, ◌++◌}
use Rattle.expression_grammar.specs.Trees.{Variable}
use Rattle.cond_expr.specs.Told.{Told}
use Rattle.cond_expr.specs.Outcome.{Outcome, gives, and_then}
use Rattle.cond_expr.specs.Values.{inserted}
use Rattle.statement_reading.specs.Templates.{Part, plain, variable}

-- plain characters as they are, a variable symbol by its value
abbrev pub part_text : Part → Told → Outcome (List ℕ)
part_text (plain characters) told = gives characters
part_text (variable (Variable asked symbol subscripts)) told = inserted symbol subscripts told
part_text (variable other) told = gives []

-- the texts of some parts behind one another, from left to right
abbrev pub substituted : List Part → Told → Outcome (List ℕ)
substituted [] told = gives []
substituted (one ∷ parts) told = and_then (part_text one told) (λ text. and_then (substituted parts told) (λ rest. gives (text ++ rest)))
