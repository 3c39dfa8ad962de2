use Rattle.std.proofs.Common.{◌∙◌, is_some, sym, ap}
use Rattle.std.specs.Prelude.{◌||◌}
use Rattle.std.specs.List.{list_any}
use Rattle.std.specs.Str.{bytes_eq}
use Rattle.call_knowledge.specs.Deeds.{names_of}
use Rattle.call_knowledge.proofs.DeedLaws.{names-declared}
use Rattle.call_knowledge.proofs.knowledge.Knowledge.is_taken.Goals as goal

pub returns-else-is_known : goal.returns-else-is_known
returns-else-is_known c =
    let name = c.args.name.now in
    c.is_some.ensures
    ∙ ap is_some c.declared.ensures
    ∙ sym (ap (λ b. b || list_any (bytes_eq name) (names_of c.args.earlier.now)) (sym c.is_known.ensures ∙ c.if-is_known.false) ∙ names-declared name c.args.earlier.now)
