use Rattle.std.proofs.Common.{rules, ◌≡◌, ◌∙◌, ◌<◌, [], ◌∷◌, refl, false, true, length, vec_len, sym, ap, arith}
use Rattle.std.specs.Prelude.{chars}
use Rattle.hlasm_statements.proofs.StatementLaws.{reads-init, reads-line, reads-alone, reads-statement, reads-last, marked_behind}
use Rattle.hlasm_statements.specs.Building.{whole_statement}
use Rattle.hlasm_statements.specs.Reading.{bodies_of}
use Rattle.hlasm_statements.proofs.ListLaws.{above_zero}
use Rattle.hlasm_statements.proofs.statement.read_statements.Goals as goal

pub loop-line-init : goal.loop-line-init
loop-line-init c =
    reads-init c.in_ok-statements.statements c.new-bodies.result.items c.into_iter-line-iterator.result (chars c.args.text.now) c.in_ok-statements.ensures c.new-bodies.ensures.items
    (c.into_iter-line-iterator.ensures.into_iter_gives ∙ c.lines-line-items.ensures)

pub loop-line-preserved : goal.loop-line-preserved
loop-line-preserved c =
    reads-line c.loop-line.statements c.loop-line.number c.loop-line.bodies.items c.push.new.self.items c.loop-line.line-iterator c.next.new.self _ (chars c.in-Some.line.now) c.split_columns.result.0 c.loop-line.invariant c.in-Some.ensures.steps
    (sym (marked_behind (chars c.in-Some.line.now) _ c.split_columns.ensures.back) ∙ sym c.begins_marked-is_marked.ensures ∙ c.if-not-is_marked-2.false)
    c.split_columns.ensures.front c.in_ok-push.ensures.items

pub loop-line-preserved-then-not-is_marked : goal.loop-line-preserved-then-not-is_marked
loop-line-preserved-then-not-is_marked c =
    let none : length c.loop-line.bodies.items ≡ 0 = search rules in
    reads-alone c.loop-line.statements c.push_line.new.statements c.loop-line.number c.in_ok-number.number c.loop-line.bodies.items c.loop-line.line-iterator c.next.new.self _
    (chars c.in-Some.line.now) c.split_columns.result.0 (whole_statement c.loop-line.number false (chars c.split_columns.result.0.now ∷ [])) c.loop-line.invariant c.in-Some.ensures.steps none
    (sym (marked_behind (chars c.in-Some.line.now) _ c.split_columns.ensures.back) ∙ sym c.begins_marked-is_marked.ensures ∙ c.if-not-is_marked.true)
    c.split_columns.ensures.front refl c.in_ok-push_line.ensures c.in_ok-number.ensures

pub loop-line-preserved-then-not-is_marked-2 : goal.loop-line-preserved-then-not-is_marked-2
loop-line-preserved-then-not-is_marked-2 c =
    reads-statement c.loop-line.statements c.push_lines.new.statements c.loop-line.number c.in_ok-number-2.number c.loop-line.bodies.items c.push.new.self.items c.clear.new.self.items c.loop-line.line-iterator c.next.new.self _
    (chars c.in-Some.line.now) c.split_columns.result.0 (whole_statement c.loop-line.number false (bodies_of c.as_slice.result.now)) c.loop-line.invariant c.in-Some.ensures.steps
    (sym (marked_behind (chars c.in-Some.line.now) _ c.split_columns.ensures.back) ∙ sym c.begins_marked-is_marked.ensures ∙ c.if-not-is_marked-2.true)
    c.split_columns.ensures.front c.in_ok-push.ensures.items
    (ap (λ bodies. whole_statement c.loop-line.number false (bodies_of bodies)) c.as_slice.ensures.value)
    c.in_ok-push_lines.ensures
    (omega (arith, c.in_ok-number-2.ensures, c.len.ensures, c.as_slice.ensures.len, ap length c.as_slice.ensures.value)) c.clear.ensures.items

pub returns : goal.returns
returns c =
    let some : 0 < vec_len c.loop-line.bodies = above_zero _ (sym c.is_empty-2.ensures ∙ c.if-is_empty-2.false) in
    reads-last c.loop-line.statements c.push_lines-2.new.statements c.loop-line.number c.loop-line.bodies.items c.loop-line.line-iterator _ (whole_statement c.loop-line.number true (bodies_of c.as_slice-2.result.now)) c.loop-line.invariant c.in-None.ensures.steps.0
    (omega (arith, some, c.as_slice-2.ensures.len, ap length c.as_slice-2.ensures.value))
    (ap (λ bodies. whole_statement c.loop-line.number true (bodies_of bodies)) c.as_slice-2.ensures.value)
    c.in_ok-push_lines-2.ensures
