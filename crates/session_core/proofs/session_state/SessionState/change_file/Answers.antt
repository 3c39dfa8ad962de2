use Rattle.std.proofs.Common.{Some, refl, sym, ap, ◌∙◌, chars}
use Rattle.library_reading.proofs.AskedLaws.{is_failure, asks_stopped}
use Rattle.session_core.specs.Inside.{watched_so_far}
use Rattle.session_core.specs.Message.{is_configuration}
use Rattle.session_core.specs.State.{State}
use Rattle.session_core.proofs.ShortLaws.{short_change}
use Rattle.session_core.proofs.WatchingLaws.{asks_as, asks_alone, change_rootless, change_of_configuration, change_of_member, change_of_other}
use Rattle.session_core.proofs.session_state.SessionState.change_file.Goals as goal

pub returns-in_default : goal.returns-in_default
returns-in_default g c =
    let w = watched_so_far c.args.self.now c.args.watch.now in
    asks_alone _ w (λ _. w) _ _ _ (change_rootless _ _ _ w (ap (λ (z : State). z.root) (sym c.self.view_is) ∙ c.in_default.is)) refl

pub returns-in_err-of_configuration : goal.returns-in_err-of_configuration
returns-in_err-of_configuration g c = asks_stopped _ _ _ _ _ (is_failure _ _ c.from_residual.ensures.1) (short_change c.args.self.now.root (Some (chars c.args.path.now)) c.args.kind (watched_so_far c.args.self.now c.args.watch.now))

pub returns-then-of_configuration : goal.returns-then-of_configuration
returns-then-of_configuration g c =
    let w = watched_so_far c.args.self.now c.args.watch.now in
    asks_as _ _ _ _ _ _ _ _
    (change_of_configuration _ _ _ _ w (ap (λ (z : State). z.root) (sym c.self.view_is) ∙ c.in-Some.is)
    (sym (c.in_ok-of_configuration.ensures ∙ ap (λ z. is_configuration z (chars c.args.path.now)) c.as_str.ensures.characters) ∙ c.if-of_configuration.true))
    c.configure.ensures

pub returns-then-is_member_file : goal.returns-then-is_member_file
returns-then-is_member_file g c =
    let w = watched_so_far c.args.self.now c.args.watch.now in
    asks_as _ _ _ _ _ _ _ _
    (change_of_member _ _ _ _ w (ap (λ (z : State). z.root) (sym c.self.view_is) ∙ c.in-Some.is)
    (sym (c.in_ok-of_configuration.ensures ∙ ap (λ z. is_configuration z (chars c.args.path.now)) c.as_str.ensures.characters) ∙ c.if-of_configuration.false)
    (sym c.is_member_file.ensures ∙ c.if-is_member_file.true))
    c.change_member.ensures

pub returns-else-is_member_file : goal.returns-else-is_member_file
returns-else-is_member_file g c =
    let w = watched_so_far c.args.self.now c.args.watch.now in
    asks_alone _ w (λ _. w) _ _ _
    (change_of_other _ _ _ _ w (ap (λ (z : State). z.root) (sym c.self.view_is) ∙ c.in-Some.is)
    (sym (c.in_ok-of_configuration.ensures ∙ ap (λ z. is_configuration z (chars c.args.path.now)) c.as_str.ensures.characters) ∙ c.if-of_configuration.false)
    (sym c.is_member_file.ensures ∙ c.if-is_member_file.false))
    refl
