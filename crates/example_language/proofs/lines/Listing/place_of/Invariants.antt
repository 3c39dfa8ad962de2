use Rattle.std.proofs.Common.{◌≡◌, ◌+◌, drop}
use Rattle.std.specs.Prelude.{option_map, map}
use Rattle.plain_expansion.specs.Expansion.{first_where}
use Rattle.plain_expansion.specs.Example.{has_example_label}
use Rattle.example_language.specs.Lines.{line_by}
use Rattle.example_language.proofs.lines.Listing.place_of.Given as goal

-- the first in what is left, counted from the beginning, is the first
abbrev pub invariant-loop-line : goal.invariant-loop-line
invariant-loop-line l = record {
  at : l.position ≡ l.line-index;
  rest :
      option_map (λ n. n + l.line-index)
      (first_where (λ s. has_example_label s l.label) (map line_by (drop l.line-index l.self.lines.items)))
      ≡ first_where (λ s. has_example_label s l.label) (map line_by l.self.lines.items);
}
