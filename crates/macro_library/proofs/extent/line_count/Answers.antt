use Rattle.std.proofs.Common.{◌∙◌, arith, sym, ap}
use Rattle.macro_library.specs.Extents.{line_count}
use Rattle.macro_library.proofs.ExtentLaws.{more, more-none, line_count-closed, line_count-passed}
use Rattle.macro_library.proofs.extent.line_count.Goals as goal

pub loop-left-init : goal.loop-left-init
loop-left-init c = (omega arith, more-none (line_count 0 c.args.lines.now))
