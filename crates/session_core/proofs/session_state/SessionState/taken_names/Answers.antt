use Rattle.std.proofs.Common.{◌≡◌, IfOk, sym, ap, subst}
use Rattle.std.specs.Option.{option_map}
use Rattle.std.specs.Prelude.{IfSome, vec_items}
use Rattle.session_core.specs.Names.{program_names}
use Rattle.session_core.specs.State.{State}
use Rattle.session_core.proofs.NameLaws.{names_kept}
use Rattle.session_core.proofs.session_state.SessionState.taken_names.Goals as goal

pub returns-in-Some-clause-names : goal.returns-in-Some-clause-names
returns-in-Some-clause-names g c =
    let kept = c.self.inside.names in
    names_kept c.args.self.now (option_map vec_items kept) c.in-Some.names.items (ap (option_map vec_items) (sym c.in-Some.ensures.value))
    (subst (λ (z : State). IfSome (option_map vec_items kept) (λ told. told ≡ program_names z)) c.self.view_is c.self.invariant.names_are)

pub returns-in-None-clause-names : goal.returns-in-None-clause-names
returns-in-None-clause-names g c = subst (λ (z : State). IfOk c.program_names.result (λ names. names.items ≡ program_names z)) c.self.view_is c.program_names.ensures
