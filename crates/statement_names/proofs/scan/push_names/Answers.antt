use Rattle.std.proofs.Common.{◌≡◌, ℕ, List, ◌∷◌, rules}
use Rattle.std.specs.Str.{chars}
use Rattle.statement_names.specs.Names.{name_at}
use Rattle.statement_names.specs.Scans.{Stands}
use Rattle.statement_names.proofs.ScanLaws.{scan-init, scan-more, scan-end}
use Rattle.statement_names.proofs.scan.push_names.Goals as goal

pub loop-c-init : goal.loop-c-init
loop-c-init c = (
  search rules,
  scan-init c.args.sought c.args.field c.args.at c.new-marks.result c.args.found.now (chars c.args.text.now) c.new-marks.ensures,
)

pub loop-c-preserved : goal.loop-c-preserved
loop-c-preserved c = (
  search rules,
  (let place = c.loop-c.place in
      rw c.in_ok-place.ensures
      (scan-more c.args.sought c.args.field c.args.at c.loop-c.marks c.in_ok-marks.marks place c.loop-c.found c.push_at.new.self c.in_ok-named.named
      c.in-Some.c (chars c.loop-c.left.now) (chars c.in-Some.rest.now) _
      c.loop-c.invariant.1 c.in-Some.ensures c.in_ok-marks.ensures c.in_ok-named.ensures c.in_ok-push_at.ensures)),
)

pub returns : goal.returns
returns c = scan-end c.args.sought c.args.field c.args.at c.loop-c.marks c.loop-c.place c.loop-c.found _ _ c.loop-c.invariant.1 c.in_default.ensures
