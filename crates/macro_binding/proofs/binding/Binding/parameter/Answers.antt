use Rattle.std.proofs.Common.{◌≡◌, ◌∙◌, Some, ap, sym}
use Rattle.std.specs.Option.{option_map}
use Rattle.macro_binding.specs.Bindings.{Binding}
use Rattle.macro_binding.specs.Held.{value_held, value_in}
use Rattle.macro_binding.specs.Prototypes.{Prototype, role_of}
use Rattle.macro_binding.specs.Values.{bound_of}
use Rattle.macro_binding.proofs.BindingLaws.{value-role}
use Rattle.macro_binding.proofs.binding.Binding.parameter.Goals as goal

pub returns-in-Some : goal.returns-in-Some
returns-in-Some c =
    let entry = c.self.inside.name_entry in
    let texts = c.self.inside.positionals in
    let keywords = c.self.inside.keywords in
    let name = c.args.name.now in
    let parameters = c.self.inside.prototype.value.parameters in
    let lent : c.parameters.result.now ≡ parameters = c.parameters.ensures ∙ ap (λ (p : Prototype). p.parameters) c.deref.ensures in
    ap Some (c.worth_of.ensures ∙ ap (λ n. value_held entry texts keywords n c.in-Some.role.now) c.text.ensures)
    ∙ ap (option_map (value_held entry texts keywords name)) (c.in-Some.ensures ∙ ap (λ ps. role_of ps name) lent)
    ∙ sym (value-role entry texts keywords name parameters)
    ∙ ap (λ (b : Binding). option_map value_in (bound_of b.parameters name)) c.self.view_is

pub returns-in-None : goal.returns-in-None
returns-in-None c =
    let entry = c.self.inside.name_entry in
    let texts = c.self.inside.positionals in
    let keywords = c.self.inside.keywords in
    let name = c.args.name.now in
    let parameters = c.self.inside.prototype.value.parameters in
    let lent : c.parameters.result.now ≡ parameters = c.parameters.ensures ∙ ap (λ (p : Prototype). p.parameters) c.deref.ensures in
    ap (option_map (value_held entry texts keywords name)) (c.in-None.ensures ∙ ap (λ ps. role_of ps name) lent)
    ∙ sym (value-role entry texts keywords name parameters)
    ∙ ap (λ (b : Binding). option_map value_in (bound_of b.parameters name)) c.self.view_is
