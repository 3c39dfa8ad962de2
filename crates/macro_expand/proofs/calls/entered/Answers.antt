use Rattle.std.proofs.Common.{◌≡◌, ◌∙◌, ◌++◌, List, [], Some, sym, ap, subst}
use Rattle.std.specs.Option.{option_map_or}
use Rattle.kept_values.specs.Keys.{key_tree}
use Rattle.kept_values.specs.Trees.{Pair}
use Rattle.hl_base.specs.declared.note.Note.{Note}
use Rattle.hl_base.specs.declared.place.Origin.{Origin}
use Rattle.asking_core.specs.Places.{pairs_of}
use Rattle.plain_expansion.specs.Language.{Calling, Effect, Enters}
use Rattle.plain_expansion.specs.Questions.{Comes}
use Rattle.conditional_asm.specs.Repeating.{once}
use Rattle.macro_binding.specs.Bindings.{binding_notes}
use Rattle.macro_binding.specs.Prototypes.{Prototype}
use Rattle.macro_library.specs.Contents.{content_of}
use Rattle.macro_library.specs.Definitions.{Definition, heading, prototype_at}
use Rattle.call_sites.specs.Calls.{Call, call_of, call_tree, macro_called}
use Rattle.call_sites.specs.Values.{known_tree}
use Rattle.call_sites.specs.declared.call_site.CallSite.TheVariants as site
use Rattle.call_sites.specs.declared.call_site.MacroCall.{MacroCall}
use Rattle.call_sites.proofs.CallLaws.{call_of-call_tree}
use Rattle.macro_entry.specs.Entries.{parameters_in, parameters_of}
use Rattle.macro_expand.specs.Acts.{said_call_at, words}
use Rattle.macro_expand.specs.declared.said.Said.{Said}
use Rattle.macro_expand.proofs.calls.entered.Goals as goal

pub returns : goal.returns
returns c = λ k.
    let D = c.args.definition.definition.value in
    let before = c.args.before in
    let all = once (before ++ c.args.more.now) in
    let operands = c.args.values.operands in
    let shown : Said → Said → Call → List Pair → Effect words = λ said limited call puts. record { said = said; act = Enters limited (Calling call puts) } in
    let origin : c.origin-origin.result ≡ D.origin = c.origin-origin.ensures ∙ ap (λ (d : Definition). d.origin) c.deref.ensures in
    let read : prototype_at (heading D) ≡ Some D.prototype =
    subst (λ (d : Definition). prototype_at (heading d) ≡ Some d.prototype) c.deref-2.ensures c.prototype-prototype.ensures.read in
    let parameters : D.prototype.parameters ≡ parameters_in (content_of D) = sym (ap (λ o. option_map_or parameters_of o []) read) in
    let repeated : c.in_ok-_binding.repeated ≡ binding_notes (parameters_in (content_of D)) operands =
    c.in_ok-_binding.ensures.notes
    ∙ ap (λ (p : Prototype). binding_notes p.parameters operands) c.prototype-prototype.ensures.value
    ∙ ap (λ (d : Definition). binding_notes d.prototype.parameters operands) c.deref-2.ensures
    ∙ ap (λ ps. binding_notes ps operands) parameters in
    let notes : c.in_ok-notes-2.notes ≡ all ++ binding_notes (parameters_in (content_of D)) operands =
    c.in_ok-notes-2.ensures
    ∙ ap (λ (ns : List Note). ns ++ c.in_ok-_binding.repeated) c.in_ok-notes.ensures
    ∙ ap (λ (ns : List Note). all ++ ns) repeated in
    let said : c.in_ok-said_call.field-0.value ≡ said_call_at D.origin (all ++ binding_notes (parameters_in (content_of D)) operands) =
    c.in_ok-said_call.ensures
    ∙ ap (λ (o : Origin). said_call_at o c.in_ok-notes-2.notes) origin
    ∙ ap (said_call_at D.origin) notes in
    let limited : c.in_ok-limited.limited.value ≡ said_call_at D.origin before =
    c.in_ok-limited.ensures ∙ ap (λ (o : Origin). said_call_at o before) origin in
    let made : MacroCall = record { definition = c.args.definition; name_entry = c.args.values.label; operands = operands } in
    let called : call_of (call_tree (site.Macro c.in_ok-new.field-0)) ≡ macro_called made =
    call_of-call_tree (site.Macro c.in_ok-new.field-0) ∙ ap (λ (m : MacroCall). macro_called m) c.in_ok-new.ensures.ok in
    let puts = pairs_of key_tree known_tree c.args.puts.items in
    let first = call_of (call_tree (site.Macro c.in_ok-new.field-0)) in
    let told = said_call_at D.origin (all ++ binding_notes (parameters_in (content_of D)) operands) in
    ap (λ e. Some (Comes e)) (
    ap (λ s. shown s c.in_ok-limited.limited.value first puts) said
    ∙ ap (λ l. shown told l first puts) limited
    ∙ ap (λ x. shown told (said_call_at D.origin before) x puts) called)
