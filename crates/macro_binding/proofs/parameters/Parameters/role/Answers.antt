use Rattle.std.proofs.Common.{ap, sym, ◌∙◌}
use Rattle.std.specs.Map.{lookup}
use Rattle.macro_binding.specs.Prototypes.{role_of}
use Rattle.macro_binding.proofs.ParameterLaws.{spells, role-lookup}
use Rattle.macro_binding.proofs.parameters.Parameters.role.Goals as goal

pub returns : goal.returns
returns c =
    c.get.ensures.value
    ∙ ap (λ bytes. lookup (spells bytes) c.self.inside.roles.entries) c.text.ensures
    ∙ sym (role-lookup c.args.name.now c.self.inside.roles.entries)
    ∙ ap (λ list. role_of list c.args.name.now) c.self.view_is
