use Rattle.std.proofs.Common.{◌∙◌, ◌+◌, ◌++◌, [], ◌∷◌, sym, ap, append-nil}
use Rattle.std.specs.Prelude.{drop, map}
use Rattle.std.specs.Str.{chars}
use Rattle.macro_entry.specs.Shown.{held, parameter_shown}
use Rattle.macro_entry.proofs.ShownLaws.{drop_past, parameter_more}
use Rattle.macro_entry.proofs.showing.add_parameters.Goals as goal

pub loop-bound-preserved : goal.loop-bound-preserved
loop-bound-preserved c =
    let bounds = c.args.binding.now.parameters in
    let i = c.loop-bound.place in
    let value = chars c.in-Some.bound.value.now in
    ap (λ k. c.add.new.settings ++ map parameter_shown (drop k bounds)) c.in_ok-place.ensures
    ∙ ap (λ s. s ++ map parameter_shown (drop (i + 1) bounds))
    (c.in_ok-add.ensures ∙ ap (λ name. c.loop-bound.settings ++ held name 0 value ∷ []) c.in_ok-name.ensures)
    ∙ parameter_more c.loop-bound.settings _ bounds i (record { name = c.in-Some.bound.name.now; value = value }) (sym c.in-Some.ensures) c.loop-bound.invariant

pub returns : goal.returns
returns c =
    let bounds = c.args.binding.now.parameters in
    sym (append-nil c.loop-bound.settings)
    ∙ ap (λ bs. c.loop-bound.settings ++ map parameter_shown bs) (sym (drop_past bounds c.loop-bound.place (sym c.in_default.ensures)))
    ∙ c.loop-bound.invariant
