-- Severities and messages of MNOTE.
use Rattle.std.proofs.Common.{◌≡◌, ◌∙◌, ℕ, zero, suc, ◌<◌, ◌≤◌, ◌==◌, Bool, true, false, List, [], ◌∷◌, ◌++◌, length, take, refl, sym, subst, arith}
use Rattle.std.specs.Prelude.{Result, Ok, Err, if◌then◌else◌}
use Rattle.std.proofs.lemmas.Bool.{false≢true, eqb-true, eq-eqb}
use Rattle.expression_grammar.specs.declared.character.Grammar.TheVariants.{Arithmetic}
use Rattle.expression_grammar.specs.Characters.{kind_of}
use Rattle.expression_grammar.specs.Reading.{advance, step}
use Rattle.expression_grammar.specs.Readings.{read}
use Rattle.expression_grammar.specs.Spelling.{IsAt, IsExpression, Spells, most_parts}
use Rattle.expression_grammar.specs.Trees.{Tree}
use Rattle.expression_grammar.proofs.Finds.{one-tree}
use Rattle.expression_grammar.proofs.FrontLaws.{read-finds}
use Rattle.expression_grammar.proofs.ReadLaws.{Finds, read-tree}
use Rattle.character_grammar.specs.TextReadings.{read_text}
use Rattle.character_grammar.specs.Texts.{SpellsText}
use Rattle.character_grammar.proofs.TextFinds.{read_text-finds}
use Rattle.statement_reading.specs.Messages.{counted, severity, starred}
use Rattle.operand_laws.specs.Right.{IsLongest}
use Rattle.operand_laws.specs.Fields.{IsMessage, IsSeverity, asterisk, number, omitted}
use Rattle.operand_laws.proofs.Longest.{Reads}

-- Messages.

message-at : (text : List ℕ) (n : ℕ) → IsAt SpellsText most_parts text n → IsLongest IsMessage text n
message-at text n at =
    let viable = at.viable in
    record {
      within = at.within;
      begun = record { rest = viable.rest; right = record { tree = viable.tree; expression = viable.expression } };
      longest = λ more h le b. at.longest more h le (record { rest = b.rest; tree = b.right.tree; expression = b.right.expression });
      none = λ m. at.none m.tree m.expression;
    }

message-by : (text : List ℕ) (found : Result Tree ℕ) → Finds SpellsText text found → Reads IsMessage text found
message-by text (Ok tree) f = record { tree = tree; expression = f }
message-by text (Err n) f = message-at text n f

pub reads-message : (text : List ℕ) → Reads IsMessage text (read_text text)
reads-message text = message-by text (read_text text) (read_text-finds text)

-- Severities.

-- nothing is read of a text that begins with an asterisk
unread : (xs : List ℕ) → read Arithmetic (42 ∷ xs) ≡ Err 0
unfolding advance step kind_of
unread xs = refl

apart : (tree : Tree) (found : Result Tree ℕ) → found ≡ Err 0 → found ≡ Ok tree → ⊥
apart tree (Ok other) e is = cc
apart tree (Err at) e is = cc

-- no expression begins so
starless : (xs : List ℕ) (tree : Tree) → IsExpression (Spells Arithmetic) most_parts (42 ∷ xs) tree → ⊥
starless xs tree e =
    apart tree (read Arithmetic (42 ∷ xs)) (unread xs)
    ((read-tree (Spells Arithmetic) (42 ∷ xs) (read Arithmetic (42 ∷ xs)) (read-finds Arithmetic (42 ∷ xs)) (one-tree Arithmetic) tree).1 e)

-- an asterisk with something behind it
behind-star : (x : ℕ) (rest : List ℕ) → IsLongest IsSeverity (42 ∷ x ∷ rest) 1
behind-star x rest = record {
  within = omega arith;
  begun = record { rest = []; right = asterisk refl };
  longest = λ more h le b. longer more h b.rest b.right;
  none = whole;
}
  where
    whole : IsSeverity (42 ∷ x ∷ rest) → ⊥
    whole (omitted is) = cc
    whole (asterisk is) = cc
    whole (number tree expression) = starless (x ∷ rest) tree expression

    longer : (more : ℕ) → 1 < more → (r : List ℕ) → IsSeverity (take more (42 ∷ x ∷ rest) ++ r) → ⊥
    longer zero h r s = absurd (omega arith)
    longer (suc zero) h r s = absurd (omega arith)
    longer (suc (suc k)) h r (omitted is) = cc
    longer (suc (suc k)) h r (asterisk is) = cc
    longer (suc (suc k)) h r (number tree expression) = starless (x ∷ (take k rest ++ r)) tree expression

starred-by : (behind : List ℕ) → Reads IsSeverity (42 ∷ behind) (starred behind)
starred-by [] = asterisk refl
starred-by (x ∷ rest) = behind-star x rest

-- what begins otherwise goes as far as a number
number-at : (c : ℕ) (behind : List ℕ) (n : ℕ) → (c == 42) ≡ false → IsAt (Spells Arithmetic) most_parts (c ∷ behind) n → IsLongest IsSeverity (c ∷ behind) n
number-at c behind n e at =
    let viable = at.viable in
    record {
      within = at.within;
      begun = record { rest = viable.rest; right = number viable.tree viable.expression };
      longest = λ more h le b. longer more h le b.rest b.right;
      none = whole;
    }
  where
    other : c ≡ 42 → ⊥
    other same = false≢true (sym e ∙ eq-eqb c 42 same)

    whole : IsSeverity (c ∷ behind) → ⊥
    whole (omitted is) = cc
    whole (asterisk is) = let same : c ≡ 42 = cc in other same
    whole (number tree expression) = at.none tree expression

    longer : (more : ℕ) → n < more → more ≤ length (c ∷ behind) → (r : List ℕ) → IsSeverity (take more (c ∷ behind) ++ r) → ⊥
    longer zero h le r s = absurd (omega arith)
    longer (suc k) h le r (omitted is) = cc
    longer (suc k) h le r (asterisk is) = let same : c ≡ 42 = cc in other same
    longer (suc k) h le r (number tree expression) = at.longest (suc k) h le (record { rest = r; tree = tree; expression = expression })

number-by : (c : ℕ) (behind : List ℕ) → (c == 42) ≡ false → (found : Result Tree ℕ) → Finds (Spells Arithmetic) (c ∷ behind) found → Reads IsSeverity (c ∷ behind) (counted found)
number-by c behind e (Ok tree) f = number tree f
number-by c behind e (Err n) f = number-at c behind n e f

pub reads-severity : (text : List ℕ) → Reads IsSeverity text (severity text)
reads-severity [] = omitted refl
reads-severity (c ∷ behind) = by (c == 42) refl
  where
    by : (b : Bool) → (c == 42) ≡ b → Reads IsSeverity (c ∷ behind) (if b then starred behind else counted (read Arithmetic (c ∷ behind)))
    by true e = subst (λ (x : ℕ). Reads IsSeverity (x ∷ behind) (starred behind)) (sym (eqb-true c 42 e)) (starred-by behind)
    by false e = number-by c behind e (read Arithmetic (c ∷ behind)) (read-finds Arithmetic (c ∷ behind))
