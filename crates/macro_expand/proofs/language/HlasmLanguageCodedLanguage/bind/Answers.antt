use Rattle.std.proofs.Common.{◌∙◌, sym, ap}
use Rattle.std.proofs.lemmas.Result.{IfOk-weaker}
use Rattle.kept_values.specs.Keys.{key_tree}
use Rattle.asking_core.specs.Places.{pairs_of}
use Rattle.call_sites.specs.Calls.{called, macro_called}
use Rattle.call_sites.specs.Values.{known_tree}
use Rattle.call_sites.specs.declared.call_site.MacroCall.{MacroCall}
use Rattle.call_sites.proofs.CallLaws.{call_of-call_tree}
use Rattle.macro_expand.specs.Language.{bound}
use Rattle.macro_expand.proofs.language.HlasmLanguageCodedLanguage.bind.Goals as goal

pub returns-in-Macro : goal.returns-in-Macro
returns-in-Macro c =
    let call = c.args.call.now in
    let pairs = pairs_of key_tree known_tree c.args.answers.now in
    IfOk-weaker c.bound_at_entry.result _ _
    (λ k is.
    is
    ∙ ap (λ (m : MacroCall). bound (macro_called m) pairs) c.deref.ensures
    ∙ ap (λ s. bound (called s) pairs) (sym c.in-Macro.is)
    ∙ sym (ap (λ x. bound x pairs) (call_of-call_tree call)))
    c.bound_at_entry.ensures
