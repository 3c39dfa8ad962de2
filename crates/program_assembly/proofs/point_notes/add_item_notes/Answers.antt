use Rattle.std.proofs.Common.{◌≡◌, ◌++◌, true, false, cond, ap, sym, ◌∙◌}
use Rattle.std.proofs.lemmas.Result.{IfOk-weaker}
use Rattle.program_assembly.specs.PointNotes.{notes_at, stands_in, without_columns}
use Rattle.program_assembly.proofs.PointLaws.{others_flat}
use Rattle.program_assembly.proofs.point_notes.add_item_notes.Goals as goal

pub returns-then-stands_in : goal.returns-then-stands_in
returns-then-stands_in c =
    let item = c.args.item.now in
    let stack = c.args.stack.now in
    let said = c.as_slice-said.result.now in
    let own : stands_in c.args.path.0 item ≡ true = sym c.stands_in.ensures ∙ c.if-stands_in.true in
    IfOk-weaker c.add_others_at_stack.result _ _
    (λ _ is.
    is
    ∙ ap (λ ns. c.args.notes.now ++ ns)
    (others_flat stack said
    ∙ ap (λ ns. notes_at stack (without_columns ns)) c.as_slice-said.ensures
    ∙ ap (λ b. notes_at stack (cond b (without_columns item.notes) item.notes)) (sym own)))
    c.add_others_at_stack.ensures

pub returns : goal.returns
returns c =
    let item = c.args.item.now in
    let stack = c.args.stack.now in
    let elsewhere : stands_in c.args.path.0 item ≡ false = sym c.stands_in.ensures ∙ c.if-stands_in.false in
    IfOk-weaker c.add_at_stack.result _ _
    (λ _ is.
    is
    ∙ ap (λ ns. c.args.notes.now ++ ns)
    (ap (notes_at stack) c.as_slice-said.ensures
    ∙ ap (λ b. notes_at stack (cond b (without_columns item.notes) item.notes)) (sym elsewhere)))
    c.add_at_stack.ensures
