-- What is read of a text, in the words of its readers.
use Rattle.std.proofs.Common.{◌≡◌, ℕ, List}
use Rattle.std.specs.Prelude.{Result, Ok, Err, MatchResult}
use Rattle.expression_grammar.specs.declared.character.Grammar.TheVariants.{Arithmetic}
use Rattle.expression_grammar.specs.declared.fault.SyntaxFault.{SyntaxFault}
use Rattle.expression_grammar.specs.declared.fault.SyntaxFault.TheVariants.{At, OutOfMemory}
use Rattle.expression_grammar.specs.declared.tree.Expr.{Expr}
use Rattle.expression_grammar.specs.Answers.{IsFault}
use Rattle.expression_grammar.specs.Readings.{read}
use Rattle.expression_grammar.specs.Spelling.{IsExpression, Spells, most_parts}
use Rattle.expression_grammar.specs.Trees.{Tree}
use Rattle.expression_grammar.specs.Views.{tree_of}
use Rattle.expression_grammar.proofs.Finds.{one-tree}
use Rattle.expression_grammar.proofs.FrontLaws.{read-finds}
use Rattle.expression_grammar.proofs.ReadLaws.{Finds, read-tree, read-fault}
use Rattle.conditional_fields.specs.LogicReadings.{read_logic}
use Rattle.conditional_fields.specs.Logics.{SpellsLogic}
use Rattle.conditional_fields.proofs.LogicFinds.{one_logic-tree, read_logic-finds}
use Rattle.character_grammar.specs.TextReadings.{read_text}
use Rattle.character_grammar.specs.Texts.{SpellsText}
use Rattle.character_grammar.proofs.TextFinds.{one_text-tree, read_text-finds}
use Rattle.conditional_fields.specs.Answers.{Says}

-- a reader says what is read that finds what is written
says_read : (Written : List ℕ → Tree → Type 0) (text : List ℕ) (found : Result Tree ℕ) → Finds Written text found → ((t : List ℕ) (tree other : Tree) → Written t tree → Written t other → tree ≡ other) →
    (r : Result Expr SyntaxFault) → MatchResult r (λ e. IsExpression Written most_parts text (tree_of e)) (IsFault Written text) → Says tree_of found r
says_read Written text found finds one (Ok e) m = (read-tree Written text found finds one (tree_of e)).1 m
says_read Written text found finds one (Err (At count)) m = (read-fault Written text found finds count).1 m
says_read Written text found finds one (Err OutOfMemory) m = tt

pub says_number : (text : List ℕ) (r : Result Expr SyntaxFault) → MatchResult r (λ e. IsExpression (Spells Arithmetic) most_parts text (tree_of e)) (IsFault (Spells Arithmetic) text) → Says tree_of (read Arithmetic text) r
says_number text r m = says_read (Spells Arithmetic) text (read Arithmetic text) (read-finds Arithmetic text) (one-tree Arithmetic) r m

pub says_logic : (text : List ℕ) (r : Result Expr SyntaxFault) → MatchResult r (λ e. IsExpression SpellsLogic most_parts text (tree_of e)) (IsFault SpellsLogic text) → Says tree_of (read_logic text) r
says_logic text r m = says_read SpellsLogic text (read_logic text) (read_logic-finds text) one_logic-tree r m

pub says_text : (text : List ℕ) (r : Result Expr SyntaxFault) → MatchResult r (λ e. IsExpression SpellsText most_parts text (tree_of e)) (IsFault SpellsText text) → Says tree_of (read_text text) r
says_text text r m = says_read SpellsText text (read_text text) (read_text-finds text) one_text-tree r m
