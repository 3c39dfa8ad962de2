use Rattle.std.proofs.Common.{Result, Ok, Err, List, map, sym, ap, subst, append-nil, ◌∙◌}
use Rattle.std.proofs.lemmas.Result.{err_from_is_err_and}
use Rattle.std.proofs.Math.ListN.{drop_of_length-le}
use Rattle.serde_json.specs.View.{view}
use Rattle.program_config.specs.declared.programs.Entry.{Entry}
use Rattle.program_config.specs.declared.members.Member.{Member}
use Rattle.json_view.specs.Answers.{Answers}
use Rattle.program_config.specs.Members.{each, named_by}
use Rattle.program_config.specs.Files.{entry_in}
use Rattle.program_config.proofs.ListLaws.{behind, behind-nil, behind-drop-ok, Answers-behind-drop}
use Rattle.program_config.proofs.files.programs_among.Goals as goal

pub loop-element-init : goal.loop-element-init
loop-element-init c = rw c.new-programs.ensures (sym (behind-nil (each entry_in (map view c.args.elements.now))))

pub returns-in_err-entry : goal.returns-in_err-entry
returns-in_err-entry c =
    let p = err_from_is_err_and c.from_residual.result c.from_residual.ensures.1 in
    let refused : Result (List Entry) Member → Type 0 = λ wanted. Answers {A = List Entry} named_by (Err c.in_err-entry.field-0.0) wanted in
    rw (p.1, p.2)
    (subst refused (sym c.loop-element.invariant)
    (Answers-behind-drop entry_in view _ _ _ _ c.in_err-entry.field-0.0 c.loop-element-test.true c.element-item.is c.in_err-entry.ensures))

pub loop-element-preserved : goal.loop-element-preserved
loop-element-preserved c =
    rw c.in_ok-push.ensures.ok
    (c.loop-element.invariant
    ∙ behind-drop-ok entry_in view _ _ _ _ _ c.loop-element-test.true c.element-item.is c.in_ok-entry.ensures)

pub returns : goal.returns
returns c =
    c.loop-element.invariant
    ∙ ap (λ rest. behind c.loop-element.programs (each entry_in (map view rest))) (drop_of_length-le _ c.loop-element-test.false)
    ∙ ap Ok (append-nil c.loop-element.programs)
