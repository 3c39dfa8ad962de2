use Rattle.std.proofs.Common.{sym, ◌∙◌}
use Rattle.expression_grammar.proofs.CharacterLaws.{kind-letter}
use Rattle.character_grammar.proofs.text_reader.after_asked.Goals as goal

pub new-requires : goal.new-requires
new-requires c = kind-letter c.args.c (sym c.requires ∙ c.in-Letter.is)
