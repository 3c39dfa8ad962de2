-- Lines of code as lines of the language. This project.
use Rattle.std.specs.Prelude.{List, map}
use Rattle.plain_expansion.specs.Example as example
use Rattle.example_language.specs.declared.lines.Line.{Line}
use Rattle.example_language.specs.declared.lines.Line.TheVariants as line
use Rattle.example_language.specs.declared.lines.Listing.{Listing}

abbrev pub line_by : Line → example.Line
line_by (line.Says number) = example.Says number
line_by line.SaysValue = example.SaysValue
line_by line.SaysCalls = example.SaysCalls
line_by (line.Sets number) = example.Sets number
line_by (line.SkipsTo place) = example.SkipsTo place
line_by (line.BranchesTo label) = example.BranchesTo label
line_by (line.BranchesIf label) = example.BranchesIf label
line_by (line.Labelled label) = example.Labelled label
line_by (line.CallsList list) = example.CallsList list
line_by (line.CopiesList list) = example.CopiesList list
line_by line.CopiesNothing = example.CopiesNothing
line_by line.ReturnsNow = example.ReturnsNow
line_by line.FinishesNow = example.FinishesNow

abbrev pub lines_by : Listing → List example.Line
lines_by l = map line_by l.lines.items

abbrev pub lists_by : List Listing → List (List example.Line)
lists_by ls = map lines_by ls
