use Rattle.std.proofs.Common.{◌≡◌, ◌∙◌, ◌<◌, ◌-◌, suc, [], Some, refl, ap, sym, subst, length, drop, arith}
use Rattle.std.specs.Prelude.{slice_get}
use Rattle.std.proofs.lemmas.Option.{slice_get-get_or}
use Rattle.macro_debugger.specs.Walks.{Walk}
use Rattle.macro_debugger.specs.Stops.{Breaks}
use Rattle.macro_debugger.proofs.BreakLemmas.{breakpoints_are_replaced}
use Rattle.debug_sessions.specs.Inside.{AreNumbered}
use Rattle.debug_sessions.proofs.NumberLemmas.{set_behind, none_behind}
use Rattle.debug_sessions.proofs.numbering.set_breakpoints.Goals as goal

pub loop-left-init : goal.loop-left-init
loop-left-init c =
    let none : c.clear_breakpoints.new.self.breakpoints ≡ [] = ap (λ (w : Walk). w.breakpoints) c.clear_breakpoints.ensures in
    record {
      rest = c.clear_breakpoints.ensures ∙ ap (λ (breaks : Breaks). record c.args.debug.now { breakpoints = breaks }) (sym none);
      within = omega arith;
      numbered =
          none_behind c.args.store.now.store.paths c.args.breakpoints.now (length c.args.breakpoints.now)
          c.clear_breakpoints.new.self.breakpoints refl none;
    }

pub loop-left-preserved : goal.loop-left-preserved
loop-left-preserved c =
    let paths = c.args.store.now.store.paths in
    let all = c.args.breakpoints.now in
    let at = c.loop-left.left - 1 in
    let b = c.index-breakpoints-left.result in
    let inside : at < length all = omega arith in
    let there : slice_get all at ≡ Some b = slice_get-get_or all at b inside ∙ ap Some (sym c.index-breakpoints-left.is) in
    let behind : c.loop-left.left ≡ suc at = omega arith in
    record {
      rest = c.set_lines.ensures.rest ∙ ap (λ (w : Walk). record w { breakpoints = c.set_lines.new.debug.breakpoints }) c.loop-left.invariant.rest;
      within = omega arith;
      numbered =
          set_behind paths c.paths_have_files.ensures.differ breakpoints_are_replaced all at b c.loop-left.debug.breakpoints c.set_lines.new.debug.breakpoints there
          (subst (λ n. AreNumbered paths (drop n all) c.loop-left.debug.breakpoints) behind c.loop-left.invariant.numbered)
          c.in_ok-set_lines.ensures.set;
    }

pub returns-clause-set : goal.returns-clause-set
returns-clause-set c =
    let done : c.loop-left.left ≡ 0 = omega arith in
    subst (λ n. AreNumbered c.args.store.now.store.paths (drop n c.args.breakpoints.now) c.loop-left.debug.breakpoints) done c.loop-left.invariant.numbered
