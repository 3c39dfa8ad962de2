use Rattle.std.proofs.Common.{◌≡◌, ◌∙◌, codes, Option, None, Some, sym}
use Rattle.std.specs.Str.{chars}
use Rattle.session_core.specs.DeclaredFigures.{Figures}
use Rattle.bulk_session.specs.Bulk.{figures_behind}
use Rattle.bulk_session.proofs.ProgramLaws.{figures_told, uri_is}
use Rattle.bulk_session.proofs.running.figures.Goals as goal

pub unreachable-requires : goal.unreachable-requires
unreachable-requires g c =
    let told = figures_told c.args.session.now.state (chars (codes "file:///bulk/BULK.hlasm")) c.in_ok-figures.field-0 c.args.count c.args.edits uri_is c.requires.listed
    c.in_ok-figures.ensures.figures in
    let bad : ◌≡◌ {A = Option Figures} None (Some (figures_behind c.args.count c.args.edits)) = sym c.in-None.is ∙ told in
    cc

pub returns-clause-figures : goal.returns-clause-figures
returns-clause-figures g c =
    let told = figures_told c.args.session.now.state (chars (codes "file:///bulk/BULK.hlasm")) c.in_ok-figures.field-0 c.args.count c.args.edits uri_is c.requires.listed
    c.in_ok-figures.ensures.figures in
    let same : ◌≡◌ {A = Option Figures} (Some c.in-Some.figures) (Some (figures_behind c.args.count c.args.edits)) = sym c.in-Some.is ∙ told in
    cc
