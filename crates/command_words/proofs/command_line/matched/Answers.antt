use Rattle.std.proofs.Common.{rules, ◌≡◌, [], ap, subst, ◌∙◌, map, string_bytes}
use Rattle.clap.specs.Faults.{fault_of, is_simple_and_free}
use Rattle.clap.specs.Kinds.{Kinds, HasKind}
use Rattle.clap.specs.Simple.{App, is_simple, matches_of}
use Rattle.command_words.proofs.ShapeLaws.{line_is_free, line_is_simple, memory_alone}
use Rattle.command_words.proofs.command_line.matched.Goals as goal

pub returns-in-Ok-clause-taken : goal.returns-in-Ok-clause-taken
returns-in-Ok-clause-taken c =
    let line = c.in_ok-command_line.ensures in
    let fails = c.try_get_matches_from.ensures.kinds (ap is_simple_and_free line ∙ line_is_free) in
    subst (λ (a : App). fault_of a (map string_bytes c.args.words.now) ≡ []) line (rw c.in-Ok.is at fails)

pub returns-in-Ok-clause-rows : goal.returns-in-Ok-clause-rows
returns-in-Ok-clause-rows c =
    let line = c.in_ok-command_line.ensures in
    (c.in-Ok.ensures.matches (ap is_simple line ∙ line_is_simple)).0
    ∙ ap (λ (a : App). matches_of a (map string_bytes c.args.words.now)) line

pub returns-in-Err-clause-refused : goal.returns-in-Err-clause-refused
returns-in-Err-clause-refused c = λ bad none.
    let line = c.in_ok-command_line.ensures in
    let fails = c.try_get_matches_from.ensures.kinds (ap is_simple_and_free line ∙ line_is_free) in
    let here = subst (λ (a : App). HasKind (fault_of a (map string_bytes c.args.words.now)) c.in-Err.error) line (rw c.in-Err.is at fails) in
    let kind = memory_alone c.in-Err.error (subst (λ (kinds : Kinds). HasKind kinds c.in-Err.error) none here) in
    c.fault_of_kind.ensures.words (search (rules, bad)) (c.kind.ensures ∙ kind)
