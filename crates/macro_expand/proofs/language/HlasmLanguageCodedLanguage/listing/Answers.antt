use Rattle.std.proofs.Common.{◌≡◌, sym, ap, ◌∙◌}
use Rattle.call_sites.specs.Calls.{called, call_of, call_tree}
use Rattle.call_sites.proofs.CallLaws.{call_of-call_tree}
use Rattle.expansion_step.proofs.Steps.{if_ok-map}
use Rattle.macro_expand.specs.Codes.{passage_by}
use Rattle.macro_expand.specs.Passages.{passage_of}
use Rattle.macro_expand.proofs.language.HlasmLanguageCodedLanguage.listing.Goals as goal

pub returns : goal.returns
returns c =
    let call = c.args.call.now in
    if_ok-map c.passage_of.result (λ l. passage_by l ≡ passage_of (called call)) (λ l. passage_by l ≡ passage_of (call_of (call_tree call)))
    (λ l is. is ∙ sym (ap passage_of (call_of-call_tree call))) c.passage_of.ensures
