use Rattle.std.proofs.Common.{sym, ◌∙◌, inl, inr}
use Rattle.expression_grammar.proofs.CharacterLaws.{kind-letter_symbol, kind-digit_symbol}
use Rattle.character_grammar.proofs.text_reader.go_word.Goals as goal

pub with-requires-clause-character : goal.with-requires-clause-character
with-requires-clause-character c =
    elim c.in-Letter.is [
      | inl e ↦ kind-letter_symbol c.args.c (sym c.requires ∙ e)
      | inr e ↦ kind-digit_symbol c.args.c (sym c.requires ∙ e)
    ]
