-- Operands that are a term alone.
use Rattle.std.proofs.Common.{◌≡◌, ◌∙◌, ℕ, ◌&&◌, Bool, true, false, cond, List, Some, None, refl, sym, ap, ◌≤◌, length, arith}
use Rattle.std.specs.Prelude.{Ok, Option, IfSome}
use Rattle.expression_grammar.specs.declared.character.Grammar.TheVariants.{Ordinary}
use Rattle.expression_grammar.specs.Readings.{read}
use Rattle.expression_grammar.specs.Spelling.{most_parts}
use Rattle.expression_grammar.specs.Trees.{Tree, size}
use Rattle.expression_grammar.specs.declared.tree.Expr.{Expr}
use Rattle.expression_grammar.specs.Views.{tree_of}
use Rattle.instruction_table.specs.declared.encodings.Kind.{Kind}
use Rattle.machine_operands.specs.declared.form.OperandForm.{OperandForm}
use Rattle.machine_operands.specs.declared.form.OperandForm.TheVariants as form
use Rattle.machine_operands.specs.Forms.{form_of, needs_parts}
use Rattle.machine_operands.specs.Operands.{Written, Operand, IsAlone, written_alone, may_be_alone, operand, begins_literal, takes_literal, plain, plain_value, plain_address, value_by, address_by, wrong, address, expression}
use Rattle.plain_terms.specs.Glances.{IsRead}
use Rattle.machine_operands.proofs.LiteralLaws.{without_literal}

both_false : (a b : Bool) → b ≡ false → (a && b) ≡ false
both_false true b is = is
both_false false b is = refl

plain_alone : (form : OperandForm) (text : List ℕ) (tree : Tree) → may_be_alone form ≡ true → read Ordinary text ≡ Ok tree → plain form text ≡ written_alone form tree
unfolding plain_value plain_address
plain_alone form.Value text tree may is = ap value_by is
plain_alone form.Target text tree may is = ap value_by is
plain_alone (form.Address form) text tree may is =
    let whole : needs_parts form ≡ false = grind arith in
    ap (address_by form text) is
    ∙ ap (λ b. cond b (wrong (length text)) (address (record { displacement = expression tree; first = None; base = None }))) whole

abbrev without : Written → Operand
without w = record { literal = None; written = w }

alone_by : (kind : Kind) (text : List ℕ) (tree : Tree) → may_be_alone (form_of kind) ≡ true → begins_literal text ≡ false → read Ordinary text ≡ Ok tree → size tree ≤ most_parts →
    IsAlone kind text tree
unfolding operand
alone_by kind text tree may literal whole small = record {
  alone = λ targets.
      sym (without_literal (form_of kind) targets text (both_false (takes_literal (form_of kind) targets) (begins_literal text) literal))
      ∙ ap without (plain_alone (form_of kind) text tree may whole);
  small = small;
}

-- what is read of all of a text whose operand may be an expression alone, and begins with no equals sign
pub found_alone : (kind : Kind) (text : List ℕ) (found : Option Expr) → may_be_alone (form_of kind) ≡ true → begins_literal text ≡ false →
    IfSome found (λ tree. IsRead text (tree_of tree)) → IfSome found (λ tree. IsAlone kind text (tree_of tree))
found_alone kind text None may literal is = is
found_alone kind text (Some tree) may literal is = alone_by kind text (tree_of tree) may literal is.whole is.small
