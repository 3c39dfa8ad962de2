use Rattle.plain_expansion.specs.Engine.{expander}
use Rattle.plain_expansion.specs.Marks.{is_marked, is_quiet, expander_emits_once, expander_quietens}
use Rattle.plain_expansion.specs.GuardLaws.{guarded_falls, guarded_emits_once, guarded_is_modest}
use Rattle.plain_expansion.proofs.laws.the_watch_keeps_the_laws.Goals as goal

pub returns : goal.returns
returns g c =
    let L = g.L.MacroLanguage.language in
    record {
      falls = λ full moving writable. guarded_falls (expander L) full moving writable is_quiet;
      emits_once = λ full moving writable. guarded_emits_once (expander L) full moving writable is_quiet is_marked (expander_emits_once L);
      modest = λ full moving writable. guarded_is_modest (expander L) full moving writable is_quiet (expander_quietens L);
    }
