use Rattle.std.proofs.Common.{◌≡◌, ◌∙◌, Some, None, ap, sym}
use Rattle.std.specs.Prelude.{position}
use Rattle.debug_sessions.specs.Launches.{has_path}
use Rattle.debug_sessions.proofs.PlaceLemmas.{set_at, push_at}
use Rattle.debug_sessions.proofs.breakpoints.put.Goals as goal

pub returns-in-Some-clause-put : goal.returns-in-Some-clause-put
returns-in-Some-clause-put c =
    let at : position (has_path c.args.new.path) c.args.settings.now.items ≡ Some c.in-Some.at =
    sym (c.in-Some.ensures
    ∙ ap (λ path. position (has_path path) c.as_slice.result.now) c.as_str.ensures.characters
    ∙ ap (position (has_path c.args.new.path)) c.as_slice.ensures.value) in
    c.replace_at.ensures ∙ set_at (has_path c.args.new.path) c.args.settings.now.items c.in-Some.at at c.args.new

pub returns-in_ok-push_lines-in-None-clause-put : goal.returns-in_ok-push_lines-in-None-clause-put
returns-in_ok-push_lines-in-None-clause-put c =
    let at : position (has_path c.args.new.path) c.args.settings.now.items ≡ None =
    sym (c.in-None.ensures
    ∙ ap (λ path. position (has_path path) c.as_slice.result.now) c.as_str.ensures.characters
    ∙ ap (position (has_path c.args.new.path)) c.as_slice.ensures.value) in
    c.in_ok-push_lines-in-None.ensures.pushed ∙ push_at (has_path c.args.new.path) c.args.settings.now.items at c.args.new
