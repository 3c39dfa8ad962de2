-- A number, or a condition, in parentheses and a sequence symbol.
use Rattle.std.proofs.Common.{◌≡◌, ◌+◌, ◌≤◌, ℕ, List, [], ◌∷◌, inl, inr, drop, length, get_or, refl, subst, arith}
use Rattle.std.specs.Prelude.{Err}
use Rattle.expression_grammar.specs.declared.fault.SyntaxFault.{SyntaxFault}
use Rattle.expression_grammar.specs.declared.fault.SyntaxFault.TheVariants.{At, OutOfMemory}
use Rattle.expression_grammar.specs.Trees.{Tree}
use Rattle.conditional_fields.specs.declared.front.Sought.{Sought}
use Rattle.conditional_fields.specs.declared.front.Sought.TheVariants.{Number}
use Rattle.conditional_fields.specs.Answers.{IsPlaced, IsWant, Says, each}
use Rattle.conditional_fields.specs.Fronts.{IsFirstClosed, IsNeverClosed}
use Rattle.conditional_fields.specs.Sequences.{sequence}
use Rattle.conditional_fields.specs.Branches.{IsAmong, IsChoice, IsChoiceRead, IsReachFault}

-- it goes wrong within its number
pub inner_fault : (sought : Sought) (operand : List ℕ) (fault : SyntaxFault) → IsNeverClosed sought (drop 1 operand) → IsReachFault sought (drop 1 operand) fault → IsChoiceRead sought operand (Err fault)
inner_fault sought operand (At at) none reach = inl (record { none = none; inside = reach.0; reach = reach.1; place = reach.2 })
inner_fault sought operand OutOfMemory none reach = tt

-- or behind it
pub label_fault : (sought : Sought) (operand : List ℕ) (before : ℕ) (tree : Tree) (fault out : SyntaxFault) → IsFirstClosed sought (drop 1 operand) before tree →
    Says (λ (name : List ℕ). name) (sequence (drop (before + 2) operand)) (Err fault) →
    ((place : ℕ) → IsPlaced place fault → IsPlaced (place + (before + 2)) out) → (IsWant fault → IsWant out) → IsChoiceRead sought operand (Err out)
label_fault sought operand before tree (At inside) (At at) first is place want =
    inr (record { before = before; tree = tree; inner = first; inside = inside; label = is; place = place inside refl })
label_fault sought operand before tree OutOfMemory (At at) first is place want = absurd (want tt)
label_fault sought operand before tree fault OutOfMemory first is place want = tt

-- the others go wrong behind a first that is right
pub others_fault : (operands : List (List ℕ)) (first : List ℕ) (tree : Tree) (name : List ℕ) (fault : SyntaxFault) → 1 ≤ length operands → first ≡ get_or operands 0 first →
    IsChoice Number first tree name → Says (λ (names : List (List ℕ)). names) (each sequence (drop 1 operands)) (Err fault) → IsAmong operands (Err fault)
others_fault [] first tree name fault some is choice wrong = absurd (omega arith)
others_fault (x ∷ xs) first tree name (At at) some is choice wrong =
    inr (record { tree = tree; name = name; choice = subst (λ (text : List ℕ). IsChoice Number text tree name) is choice; names = wrong })
others_fault (x ∷ xs) first tree name OutOfMemory some is choice wrong = tt
