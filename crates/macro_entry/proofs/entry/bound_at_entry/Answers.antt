use Rattle.std.proofs.Common.{◌≡◌, ◌∙◌, [], sym, ap}
use Rattle.std.specs.Option.{option_map_or}
use Rattle.std.specs.Str.{chars}
use Rattle.macro_binding.specs.Bindings.{binding_of}
use Rattle.macro_binding.specs.Prototypes.{Prototype}
use Rattle.macro_library.specs.Contents.{content_of}
use Rattle.macro_library.specs.Definitions.{Definition}
use Rattle.macro_entry.specs.Entries.{parameters_in, parameters_of}
use Rattle.macro_entry.proofs.entry.bound_at_entry.Goals as goal

pub shown_at_entry-requires : goal.shown_at_entry-requires
shown_at_entry-requires c =
    let call = c.args.call.now in
    let d = c.deref.result.now in
    let said : parameters_in (content_of d) ≡ c.prototype-prototype.result.now.value.parameters =
    ap (λ p. option_map_or parameters_of p []) c.prototype-prototype.ensures.read
    ∙ sym (ap (λ (p : Prototype). p.parameters) c.prototype-prototype.ensures.value) in
    c.in_ok-binding.ensures.binding
    ∙ ap (λ ps. binding_of ps (chars c.as_str.result.now) call.operands) (sym said)
    ∙ ap (λ name. binding_of (parameters_in (content_of d)) name call.operands) c.as_str.ensures.characters
    ∙ ap (λ (m : Definition). binding_of (parameters_in (content_of m)) call.name_entry call.operands) c.deref.ensures
