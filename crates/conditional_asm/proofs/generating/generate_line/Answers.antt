use Rattle.std.proofs.Common.{List, ℕ, refl, ap}
use Rattle.hl_base.specs.declared.set.Line.{Line}
use Rattle.cond_expr.specs.Outcome.{Outcome, Gives, gives, and_then}
use Rattle.cond_expr.proofs.OutcomeLemmas.{Tells-and_then, Tells-failed, Tells-gives}
use Rattle.statement_reading.specs.Views.{entry_of}
use Rattle.conditional_asm.specs.Generating.{open_quote, entry_text, operand_text}
use Rattle.conditional_asm.proofs.generating.generate_line.Goals as goal

-- a line of these texts
abbrev line : (op label operands : List ℕ) → Outcome Line
line op label operands = gives (record { label = label; op = op; operands = operands })

pub returns : goal.returns
returns g c =
    let told = g.Q.Lookups.told c.args.q.now in
    let op = c.args.op.now in
    let before = entry_of c.args.fields.now.label in
    let behind = entry_of c.args.fields.now.operands in
    let label = c.in_ok-label.label in
    let operands = c.in_ok-operands.operands in
    Tells-and_then (Gives op (open_quote c.args.fields.now.open_end)) (λ _. and_then (entry_text before told) (λ text. and_then (operand_text behind told) (line op text)))
    c.args.notes.now c.judge.new.notes c.fill_operands.new.notes op _ (refl, c.in_ok-judge.ensures)
    (Tells-and_then (entry_text before told) (λ text. and_then (operand_text behind told) (line op text))
    c.judge.new.notes c.fill.new.notes c.fill_operands.new.notes label _ c.in_ok-label.ensures
    (Tells-and_then (operand_text behind told) (line op label)
    c.fill.new.notes c.fill_operands.new.notes c.fill_operands.new.notes operands _ c.in_ok-operands.ensures
    (Tells-gives _ _ c.fill_operands.new.notes (ap (λ (o : List ℕ). record { label = label; op = o; operands = operands }) c.in_ok-op.ensures))))

pub returns-in_err-label : goal.returns-in_err-label
returns-in_err-label g c =
    let told = g.Q.Lookups.told c.args.q.now in
    let op = c.args.op.now in
    let before = entry_of c.args.fields.now.label in
    let behind = entry_of c.args.fields.now.operands in
    let stopped = c.from_residual-in_err-label.result in
    Tells-and_then (Gives op (open_quote c.args.fields.now.open_end)) (λ _. and_then (entry_text before told) (λ text. and_then (operand_text behind told) (line op text)))
    c.args.notes.now c.judge.new.notes c.fill.new.notes op stopped (refl, c.in_ok-judge.ensures)
    (Tells-failed (entry_text before told) (λ text. and_then (operand_text behind told) (line op text))
    c.judge.new.notes c.fill.new.notes c.fill.new.notes _ stopped c.from_residual-in_err-label.ensures.1 c.in_err-label.ensures)

pub returns-in_err-operands : goal.returns-in_err-operands
returns-in_err-operands g c =
    let told = g.Q.Lookups.told c.args.q.now in
    let op = c.args.op.now in
    let before = entry_of c.args.fields.now.label in
    let behind = entry_of c.args.fields.now.operands in
    let label = c.in_ok-label.label in
    let stopped = c.from_residual-in_err-operands.result in
    Tells-and_then (Gives op (open_quote c.args.fields.now.open_end)) (λ _. and_then (entry_text before told) (λ text. and_then (operand_text behind told) (line op text)))
    c.args.notes.now c.judge.new.notes c.fill_operands.new.notes op stopped (refl, c.in_ok-judge.ensures)
    (Tells-and_then (entry_text before told) (λ text. and_then (operand_text behind told) (line op text))
    c.judge.new.notes c.fill.new.notes c.fill_operands.new.notes label stopped c.in_ok-label.ensures
    (Tells-failed (operand_text behind told) (line op label)
    c.fill.new.notes c.fill_operands.new.notes c.fill_operands.new.notes _ stopped c.from_residual-in_err-operands.ensures.1 c.in_err-operands.ensures))
