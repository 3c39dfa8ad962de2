use Rattle.std.proofs.Common.{◌≡◌, ◌∙◌, ℕ, List, ◌++◌, OnOk, map, subst, ap}
use Rattle.std.specs.List.{filter}
use Rattle.note_rows.specs.declared.row.Row.TheVariants.{UnusedRegister}
use Rattle.using_ranges.specs.Ranges.{is_unused}
use Rattle.using_statements.proofs.Once.{marked-unused}
use Rattle.using_statements.specs.Said.{each_once, is_marked}
use Rattle.using_statements.proofs.dropping.drop_known.Goals as goal

pub returns-clause-said : goal.returns-clause-said
returns-clause-said c =
    let held = c.args.ranges.now in
    let registers = c.args.registers.now in
    let same : filter (is_marked c.drop_these-unused.result) (each_once registers) ≡ filter (is_unused held) (each_once registers) =
    ap (λ mask. filter (is_marked mask) (each_once registers)) c.drop_these-unused.ensures.unused ∙ marked-unused held registers c.requires in
    subst (λ (kept : List ℕ). OnOk c.push_marked.result
    (c.push_marked.new.rows.items ≡ c.args.rows.now.items ++ map (λ register. UnusedRegister register) kept)) same c.push_marked.ensures
