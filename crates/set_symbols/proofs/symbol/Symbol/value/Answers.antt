use Rattle.std.proofs.Common.{ap, sym, ◌∙◌, unwrap_or}
use Rattle.std.proofs.lemmas.Result.{IfOk-weaker}
use Rattle.set_symbols.specs.Kinds.{unset}
use Rattle.set_symbols.proofs.TableLemmas.{get-values_of}
use Rattle.set_symbols.proofs.symbol.Symbol.value.Goals as goal

pub returns-in-Some : goal.returns-in-Some
returns-in-Some c =
    IfOk-weaker c.copy.result _ _
    (λ v is.
    is
    ∙ ap (λ o. unwrap_or o (unset c.args.self.now.declared.kind)) c.in-Some.ensures.value
    ∙ sym (ap (λ o. unwrap_or o (unset c.args.self.now.declared.kind)) (get-values_of c.args.self.now c.args.at)))
    c.copy.ensures

pub returns-in-None : goal.returns-in-None
returns-in-None c =
    c.unset.ensures
    ∙ ap (λ o. unwrap_or o (unset c.args.self.now.declared.kind)) c.in-None.ensures.value
    ∙ sym (ap (λ o. unwrap_or o (unset c.args.self.now.declared.kind)) (get-values_of c.args.self.now c.args.at))
