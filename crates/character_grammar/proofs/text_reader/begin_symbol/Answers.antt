use Rattle.expression_grammar.proofs.CharacterLaws.{kind-letter}
use Rattle.character_grammar.proofs.text_reader.begin_symbol.Goals as goal

pub new-requires : goal.new-requires
new-requires c = kind-letter c.args.c c.requires
