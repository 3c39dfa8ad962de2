use Rattle.std.proofs.Common.{ℕ, List, ◌≤◌, length, zero-add, subst, arith}
use Rattle.std.specs.Str.{chars}
use Rattle.std.specs.Prelude.{IsUtf8}
use Rattle.std.proofs.lemmas.Str.{encodes-chars, length-le-encodes}
use Rattle.constant_grammar.specs.Digits.{characters}
use Rattle.constant_grammar.proofs.digits.value_character_count.Goals as goal

-- a text has no more characters than bytes
few : (bytes : List ℕ) → IsUtf8 bytes → length (chars bytes) ≤ length bytes
few bytes utf8 = let P : List ℕ → Type 0 = λ all. length (chars bytes) ≤ length all in subst P (encodes-chars bytes utf8) (length-le-encodes (chars bytes))

pub loop-c-init : goal.loop-c-init
loop-c-init c = (c.utf8.text, (zero-add (characters (chars c.args.text.now)), omega (arith, few c.args.text.now c.utf8.text)))
