-- The rows of the assembler's own operations, as the code holds them.
use Rattle.std.specs.Prelude.{ℕ, ◌==◌, List, [], ◌∷◌, map, Option, Some, None, if◌then◌else◌}
use Rattle.std.specs.Borrow.{Bor}
use Rattle.instruction_table.specs.declared.format.Format.{Format}
use Rattle.instruction_table.specs.declared.meaning.Operation.{Operation}
use Rattle.instruction_table.specs.declared.meaning.Operation.TheVariants.{Conditional, Ordinary, Both, Silent, LeftOut, Machine, Unknown}
use Rattle.instruction_table.specs.declared.others.TheConstants.{A, C, D, E, G, I, L, M, O, P, R, S, T, U, W, X}
use Rattle.instruction_table.specs.Instructions.{same_name}

-- rows as names and meanings
abbrev pub pairs : List (Bor (List ℕ) × Operation) → List (List ℕ × Operation)
pairs rows = map (λ row. (row.0.now, row.1)) rows

-- the rows of each letter
unfoldable pub by_letter : List (ℕ × List (List ℕ × Operation))
by_letter =
    (65, map (λ row. (row.0.now, row.1)) A)
    ∷ (67, map (λ row. (row.0.now, row.1)) C)
    ∷ (68, map (λ row. (row.0.now, row.1)) D)
    ∷ (69, map (λ row. (row.0.now, row.1)) E)
    ∷ (71, map (λ row. (row.0.now, row.1)) G)
    ∷ (73, map (λ row. (row.0.now, row.1)) I)
    ∷ (76, map (λ row. (row.0.now, row.1)) L)
    ∷ (77, map (λ row. (row.0.now, row.1)) M)
    ∷ (79, map (λ row. (row.0.now, row.1)) O)
    ∷ (80, map (λ row. (row.0.now, row.1)) P)
    ∷ (82, map (λ row. (row.0.now, row.1)) R)
    ∷ (83, map (λ row. (row.0.now, row.1)) S)
    ∷ (84, map (λ row. (row.0.now, row.1)) T)
    ∷ (85, map (λ row. (row.0.now, row.1)) U)
    ∷ (87, map (λ row. (row.0.now, row.1)) W)
    ∷ (88, map (λ row. (row.0.now, row.1)) X)
    ∷ []

-- what stands beside a letter
abbrev pub rows_in : ℕ → List (ℕ × List (List ℕ × Operation)) → List (List ℕ × Operation)
rows_in c [] = []
rows_in c (letter ∷ letters) = if c == letter.0 then letter.1 else rows_in c letters

-- the rows of names that begin with this character
unfoldable pub rows_of : ℕ → List (List ℕ × Operation)
rows_of c = rows_in c by_letter

-- the meaning beside a name, in rows; none that is known where the name is not there
abbrev pub meaning_in : List ℕ → List (List ℕ × Operation) → Operation
meaning_in name [] = Unknown
meaning_in name (row ∷ rows) = if same_name row.0 name then row.1 else meaning_in name rows

-- the format of a machine instruction
abbrev pub format_in : Operation → Option Format
format_in (Machine format) = Some format
format_in Conditional = None
format_in Ordinary = None
format_in Both = None
format_in Silent = None
format_in LeftOut = None
format_in Unknown = None
