use Rattle.std.proofs.Common.{◌≡◌, ◌++◌, ◌∷◌, [], ap, sym, ◌∙◌, Option, None, Some, List, ℕ}
use Rattle.std.proofs.lemmas.Result.{IfOk-weaker}
use Rattle.set_symbols.specs.Table.{holding, fresh, local_of, put}
use Rattle.set_symbols.specs.Entries.{named}
use Rattle.set_symbols.proofs.TableLemmas.{put-new, named-first}
use Rattle.set_symbols.proofs.table.SetTable.admit_local.Goals as goal

pub returns-clause-ok : goal.returns-clause-ok
returns-clause-ok c =
    IfOk-weaker c.admit.result _ _
    (λ _ is.
    is
    ∙ ap (λ s. c.args.self.now ++ s ∷ []) (named-first c.args.name.now c.kind_of.result c.new-values.result c.insert.new.self c.args.at c.args.value c.kind_of.ensures
    c.new-values.ensures.empty c.in_ok-insert.ensures.updates)
    ∙ sym (put-new c.args.self.now c.args.name.now c.args.at c.args.value c.requires))
    c.admit.ensures.ok
