use Rattle.std.proofs.Common.{◌≡◌, ℤ, to_z, of_z, w32, sym, subst, rules, arith}
use Rattle.std.proofs.lemmas.Int.{to_z-of_z}
use Rattle.dap_messages.specs.declared.requests.DapCommand.{DapCommand}
use Rattle.debug_sessions.specs.Answers.{effect, variables_told}
use Rattle.debug_sessions.specs.Done.{Comes}
use Rattle.debug_sessions.specs.Shown.{asked}
use Rattle.debug_sessions.proofs.debugger.Debugger.obey.Goals as goal

pub returns-in-Variables : goal.returns-in-Variables
returns-in-Variables c =
    let same : to_z w32 (of_z w32 c.in-Variables.reference) ≡ c.in-Variables.reference =
    first_of (search rules, first_of (grind (arith, to_z-of_z), search (rules, to_z-of_z))) in
    subst
    (λ (command : DapCommand). Comes c.variables.result c.variables.new.self (effect c.args.store.now.store.paths c.args.launched c.args.self.now command))
    (sym c.in-Variables.is)
    (subst (λ (z : ℤ). Comes c.variables.result c.variables.new.self (variables_told c.args.self.now (asked z))) same c.variables.ensures)
