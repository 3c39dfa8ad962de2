use Rattle.std.proofs.Common.{◌∙◌, sym, ap}
use Rattle.std.proofs.lemmas.Result.{IfOk-weaker}
use Rattle.macro_library.specs.Contents.{content_of}
use Rattle.macro_library.specs.Definitions.{Definition}
use Rattle.call_sites.specs.Calls.{called}
use Rattle.call_sites.specs.declared.call_site.MacroCall.{MacroCall}
use Rattle.call_sites.proofs.CallLaws.{call_of-call_tree}
use Rattle.macro_entry.specs.Entries as entries
use Rattle.macro_expand.specs.Language.{entry_keys}
use Rattle.macro_expand.proofs.language.HlasmLanguageCodedLanguage.entry_keys.Goals as goal

pub returns-in-Macro : goal.returns-in-Macro
returns-in-Macro c =
    let call = c.args.call.now in
    IfOk-weaker c.entry_keys.result _ _
    (λ keys is.
    is
    ∙ ap (λ (d : Definition). entries.entry_keys (content_of d))
    (c.deref-in-Macro.ensures ∙ ap (λ (m : MacroCall). m.definition.definition.value) c.deref.ensures)
    ∙ ap (λ s. entry_keys (called s)) (sym c.in-Macro.is)
    ∙ sym (ap entry_keys (call_of-call_tree call)))
    c.entry_keys.ensures
