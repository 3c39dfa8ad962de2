-- Self-defining terms between apostrophes that are all of a text (HLASM Language Reference SC26-4940, "Self-defining terms"): those
-- with hexadecimal digits, and those of one character. No public contract speaks of them.
use Rattle.std.specs.Prelude.{◌≡◌, ℕ, ◌<◌, ◌≤◌, ◌==◌, ◌&&◌, not, nat_lt, Bool, true, List, [], ◌∷◌, ◌++◌, length}
use Rattle.std.specs.Char.{to_ascii_uppercase}
use Rattle.std.specs.List.{list_all}
use Rattle.expression_grammar.specs.declared.tree.Form.TheVariants.{Hexadecimal, Character}
use Rattle.expression_grammar.specs.Spelling.{figures, is_figure}
use Rattle.expression_grammar.specs.Trees.{Tree, Number}
use Rattle.hl_base.specs.Order.{ebcdic}

-- digits that write a number of 32 bits
pub record IsHexadecimal (text : List ℕ) (bits : ℕ) : Type 0 where
  pub some : 0 < length text
  pub few : length text ≤ 8
  pub all : list_all (is_figure Hexadecimal) text ≡ true
  pub valued : figures Hexadecimal 0 text ≡ bits
  pub small : bits ≤ 4294967295

-- a character of ASCII that is written once: no apostrophe (39) and no ampersand (38)
abbrev pub is_single : ℕ → Bool
is_single c = nat_lt c 128 && (not (c == 39) && not (c == 38))

-- one such character, with its byte on the mainframe
pub record IsCharacter (text : List ℕ) (bits : ℕ) : Type 0 where
  pub one : ℕ
  pub only : text ≡ one ∷ []
  pub single : is_single one ≡ true
  pub valued : bits ≡ ebcdic one
  pub small : bits ≤ 4294967295

-- a term with this letter (`X` or `C`) before its apostrophes, and this between them
pub data IsTermOf (letter : ℕ) (inner : List ℕ) (tree : Tree) : Type 0 where
  hexadecimal : (bits : ℕ) → to_ascii_uppercase letter ≡ 88 → IsHexadecimal inner bits → tree ≡ Number Hexadecimal bits → IsTermOf letter inner tree
  character : (bits : ℕ) → to_ascii_uppercase letter ≡ 67 → IsCharacter inner bits → tree ≡ Number Character bits → IsTermOf letter inner tree

-- a text is such a term
pub record IsQuoted (text : List ℕ) (tree : Tree) : Type 0 where
  pub letter : ℕ
  pub inner : List ℕ
  pub written : text ≡ letter ∷ 39 ∷ inner ++ 39 ∷ []
  pub term : IsTermOf letter inner tree
