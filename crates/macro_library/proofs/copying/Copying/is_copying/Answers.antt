use Rattle.std.proofs.Common.{◌∙◌, ap, arith, is_some}
use Rattle.std.proofs.lemmas.List.{length-map}
use Rattle.std.specs.Map.{lookup}
use Rattle.macro_library.specs.Copying.{outside_of}
use Rattle.macro_library.specs.Definitions.{deepest}
use Rattle.macro_library.proofs.CopyingLaws.{names-lookup}
use Rattle.macro_library.proofs.MemberLaws.{spells}
use Rattle.macro_library.proofs.copying.Copying.is_copying.Goals as goal

pub returns-clause-value : goal.returns-clause-value
returns-clause-value c =
    c.contains_key.ensures
    ∙ ap (λ name. is_some (lookup (spells name) c.args.self.now.outer.entries)) c.text.ensures
    ∙ names-lookup c.args.name.now c.args.self.now.outer.entries

pub returns-clause-shallow : goal.returns-clause-shallow
unfolding deepest
returns-clause-shallow c = omega (arith, length-map c.args.self.now.outer.entries outside_of)
