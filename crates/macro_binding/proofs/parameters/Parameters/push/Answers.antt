use Rattle.std.proofs.Common.{◌+◌, ◌∙◌, ap, sym, cond, is_some}
use Rattle.macro_binding.specs.Prototypes.{is_positional, is_system, positional_count, role_of}
use Rattle.macro_binding.proofs.ParameterLaws.{neither, parameters_from-admitted, positional_count-push}
use Rattle.macro_binding.proofs.parameters.Parameters.push.Goals as goal

pub returns : goal.returns
returns c =
    parameters_from-admitted c.self.inside.roles _ c.in_ok-key.key c.args.role c.args.name.now c.args.self.now c.self.view_is
    (neither (is_system c.args.name.now) (is_some (role_of c.args.self.now c.args.name.now)) c.requires)
    (c.in_ok-key.ensures.ok ∙ c.text.ensures) c.in_ok-insert.ensures.entries

pub invariant_of-self-2 : goal.invariant_of-self-2
invariant_of-self-2 c =
    let pushed = parameters_from-admitted c.self.inside.roles _ c.in_ok-key.key c.args.role c.args.name.now c.args.self.now c.self.view_is
    (neither (is_system c.args.name.now) (is_some (role_of c.args.self.now c.args.name.now)) c.requires)
    (c.in_ok-key.ensures.ok ∙ c.text.ensures) c.in_ok-insert.ensures.entries in
    c.in_ok-positionals.ensures
    ∙ ap (λ n. n + cond (is_positional c.args.role) 1 0) (c.self.invariant ∙ ap positional_count c.self.view_is)
    ∙ sym (ap positional_count pushed ∙ positional_count-push c.args.self.now (record { name = c.args.name.now; role = c.args.role }))
