use Rattle.std.proofs.Common.{◌-◌, length, ap, ◌∙◌}
use Rattle.std.specs.Str.{chars}
use Rattle.hl_base.specs.declared.place.PathId.{PathId}
use Rattle.hl_base.specs.Texts.{lines}
use Rattle.program_assembly.specs.ColumnNotes.{column_notes}
use Rattle.program_assembly.proofs.OpenCode.{report_is_plain}
use Rattle.program_assembly.proofs.KeptRootLaws.{kept_with_next, last_is_owned}
use Rattle.program_assembly.proofs.kept_expansions.KeptExpansions.notes.Goals as goal

pub returns : goal.returns
returns g c = report_is_plain c.runs_are_expansions.ensures _ _ _ _ _ _ _ _ c.in_ok-report.ensures.report

pub report_of-requires-clause-columns : goal.report_of-requires-clause-columns
report_of-requires-clause-columns g c =
    c.in_ok-columns.ensures.notes
    ∙ ap (λ (p : PathId). column_notes p.0 c.in_ok-file.file.text) c.in_ok-file.ensures.path
    ∙ ap (column_notes c.args.path.0) (c.in_ok-file.ensures.text ∙ ap chars c.in_ok-clone.ensures.cases)

pub report_of-requires-clause-last : goal.report_of-requires-clause-last
report_of-requires-clause-last g c =
    c.in_ok-columns.ensures.last ∙ ap (λ text. length (lines text) - 1) (c.in_ok-file.ensures.text ∙ ap chars c.in_ok-clone.ensures.cases)

pub retire_root-requires : goal.retire_root-requires
retire_root-requires g c = record {
  kept = record {
    stand = c.in_ok-report.ensures.stand;
    owned = last_is_owned c.memo.inside.arena.nodes c.report_of.new.arena.nodes c.report_of.new.arena.nodes c.in_ok-report.report.root.0 c.in_ok-report.ensures.handed c.memo.inside.root c.memo.invariant.owned;
  };
}

pub invariant_of-drop : goal.invariant_of-drop
invariant_of-drop g c =
    kept_with_next c.memo.inside.arena.nodes c.report_of.new.arena.nodes c.retire_root.new.arena.nodes c.in_ok-report.report.root.0 c.in_ok-report.ensures.handed
    c.retire_root.new.memo c.memo.inside.root c.in_ok-report.report.root (λ i. c.in_ok-report.report.root.0) c.retire_root.ensures.kept.stand c.memo.invariant.owned c.retire_root.ensures.owners
