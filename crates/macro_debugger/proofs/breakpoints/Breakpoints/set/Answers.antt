use Rattle.std.proofs.Common.{◌≡◌, ℕ, map, sym, ap, ◌∙◌}
use Rattle.std.specs.BTreeMap.{BTreeMap}
use Rattle.std.specs.BTreeSet.{BTreeSet}
use Rattle.macro_debugger.specs.Seen.{seen, seen_file}
use Rattle.macro_debugger.proofs.BreakLemmas.{file_put}
use Rattle.macro_debugger.proofs.breakpoints.Breakpoints.set.Goals as goal
use Rattle.macro_debugger.proofs.breakpoints.Breakpoints.set.Goals.{in-Some, in-None}

pub returns-clause-set : goal.returns-clause-set
returns-clause-set c =
    let files_of : BTreeMap ℕ (BTreeSet ℕ) → _ = λ m. map seen_file m.entries in
    let before : map seen_file c.match-take.files.entries ≡ c.args.self.now =
    elim c.match-take.branch [
      | in-Some w ↦ ap files_of w.files-is ∙ ap seen (sym w.in-Some.is ∙ c.take.ensures.value) ∙ c.self.view_is
      | in-None w ↦ ap files_of w.files-is ∙ ap (map seen_file) w.new-files.ensures.empty ∙ ap seen (sym w.in-None.is ∙ c.take.ensures.value) ∙ c.self.view_is
    ] in
    file_put c.args.self.now c.match-take.files c.insert-inserted.new.self c.args.path.0 c.in_ok-set.set c.args.lines.now before
    c.in_ok-inserted.ensures.entries c.in_ok-set.ensures
