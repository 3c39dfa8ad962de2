use Rattle.std.proofs.Common.{rules, ap, ap₂, refl, codes, true, sym, None, Some, ◌≡◌, ◌∙◌}
use Rattle.clap.specs.Walk.{Rule, rule_of}
use Rattle.clap.specs.Simple.{App, app_of, app_of_fields, new_app, new_rule, with_rule}
use Rattle.command_words.specs.CommandLine.{command_line, option_named, program_named}
use Rattle.command_words.proofs.command_line.command_line.Goals as goal

pub returns : goal.returns
unfolding command_line
returns c =
    let program_is : app_of c.after_help-program.result ≡ program_named (codes "hlasm_ls") = search rules in
    let file_is : rule_of c.hide-file.result ≡ new_rule (codes "file") = ap rule_of c.hide-file.ensures ∙ c.position.ensures.rule in
    c.in_ok-arg-4.ensures.shape (search rules)
    ∙ ap₂ with_rule (c.in_ok-arg-3.ensures.shape (search rules)
    ∙ ap₂ with_rule (c.in_ok-arg-2.ensures.shape (search rules)
    ∙ ap₂ with_rule (c.in_ok-arg.ensures.shape (search rules)
    ∙ ap₂ with_rule program_is c.number_option-budget.ensures.rule) c.number_option-count.ensures.rule) c.position-command.ensures.rule) file_is
