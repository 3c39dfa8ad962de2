use Rattle.std.proofs.Common.{sym, ap, ◌∙◌}
use Rattle.macro_debugger.specs.Stops.{is_set}
use Rattle.macro_debugger.specs.Seen.{seen}
use Rattle.macro_debugger.proofs.BreakLemmas.{set_there, none_there}
use Rattle.macro_debugger.proofs.breakpoints.Breakpoints.hold.Goals as goal

pub returns-in-Some-get : goal.returns-in-Some-get
returns-in-Some-get c =
    c.contains.ensures
    ∙ set_there c.in-Some.files.entries c.args.at c.in-Some-get.lines.now c.in-Some-get.ensures.value
    ∙ ap (λ fs. is_set fs c.args.at) (ap seen (sym c.in-Some.is) ∙ c.self.view_is)

pub returns-in-None : goal.returns-in-None
returns-in-None c =
    none_there c.in-Some.files.entries c.args.at c.in-None.ensures.value
    ∙ ap (λ fs. is_set fs c.args.at) (ap seen (sym c.in-Some.is) ∙ c.self.view_is)
