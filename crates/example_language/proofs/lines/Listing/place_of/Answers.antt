use Rattle.std.proofs.Common.{arith}
use Rattle.plain_expansion.specs.Example.{has_example_label}
use Rattle.example_language.specs.Lines.{line_by}
use Rattle.example_language.proofs.LineLaws.{first-here, first-on, first-none}
use Rattle.example_language.proofs.lines.Listing.place_of.Goals as goal

pub returns-then-has_label : goal.returns-then-has_label
returns-then-has_label c =
    first-here line_by (λ s. has_example_label s c.args.label) c.args.self.now.lines.items c.as_slice-line-items.result.now
    c.loop-line.line-index _ c.loop-line.position c.as_slice-line-items.ensures.value c.loop-line-test.true c.loop-line.invariant.at c.if-has_label.ensures
    c.loop-line.invariant.rest

pub loop-line-preserved : goal.loop-line-preserved
loop-line-preserved c = record {
  at = omega arith;
  rest =
      first-on line_by (λ s. has_example_label s c.args.label) c.args.self.now.lines.items c.as_slice-line-items.result.now
      c.loop-line.line-index _ c.as_slice-line-items.ensures.value c.loop-line-test.true c.if-has_label.ensures c.loop-line.invariant.rest;
}

pub returns : goal.returns
returns c =
    first-none line_by (λ s. has_example_label s c.args.label) c.args.self.now.lines.items c.as_slice-line-items.result.now
    c.loop-line.line-index c.as_slice-line-items.ensures.value c.loop-line-test.false c.loop-line.invariant.rest
