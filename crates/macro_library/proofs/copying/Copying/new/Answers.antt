use Rattle.std.proofs.Common.{refl, ap, map}
use Rattle.macro_library.specs.Copying.{outside_of}
use Rattle.macro_library.specs.Definitions.{most_statements}
use Rattle.macro_library.proofs.copying.Copying.new.Goals as goal

pub returns : goal.returns
unfolding most_statements
returns c = record {
  lines = c.new-lines.ensures.items;
  room = refl;
  begun = refl;
  current = c.in_ok-current.ensures;
  outer = ap (map outside_of) c.new-outer.ensures.empty;
  ended_is = refl;
}
