use Rattle.std.proofs.Common.{◌≡◌, ◌∙◌, ap, sym, subst}
use Rattle.std.specs.Prelude.{IfOk}
use Rattle.macro_library.specs.declared.member.Member.{Member}
use Rattle.text_pool.specs.Members as found
use Rattle.text_pool.specs.Pool.{Pool, text_of}
use Rattle.called_definitions.specs.Readings.{told_as}
use Rattle.called_definitions.proofs.AskingLaws.{if_ok}
use Rattle.called_definitions.proofs.ToldLaws.{answered_absent, answered_file, answered_unreadable}
use Rattle.called_definitions.proofs.member.member_of.Goals as goal
use Rattle.called_definitions.proofs.member.member_of.Goals.{in-File, in-Unreadable, in_default}

pub returns : goal.returns
returns g c =
    let m = g.P.Present.members c.args.present.now c.args.name.now in
    elim c.match-member.branch [
      | in-File w ↦
          subst (λ r. IfOk r (λ (member : Member). member ≡ told_as m)) (sym w.result-is)
          (if_ok w.file_of.result (λ (member : Member). member ≡ told_as (found.File w.in-File.path.0 (text_of w.pool.result.now w.in-File.text.0))) (λ (member : Member). member ≡ told_as m)
          (λ member is.
          is
          ∙ ap (λ (pool : Pool). told_as (found.File w.in-File.path.0 (text_of pool w.in-File.text.0))) w.pool.ensures
          ∙ answered_file _ m w.in-File.path w.in-File.text w.in-File.ensures)
          w.file_of.ensures)
      | in-Unreadable w ↦ subst (λ r. IfOk r (λ (member : Member). member ≡ told_as m)) (sym w.result-is) (answered_unreadable _ m w.in-Unreadable.ensures)
      | in_default w ↦ subst (λ r. IfOk r (λ (member : Member). member ≡ told_as m)) (sym w.result-is) (answered_absent _ m c.member.result c.member.ensures w.in_default.not-Unreadable w.in_default.not-File)
    ]
