use Rattle.std.proofs.Common.{◌≡◌, ◌∙◌, Some, ap, sym}
use Rattle.std.specs.Prelude.{is_some}
use Rattle.std.proofs.lemmas.Result.{IfOk-weaker}
use Rattle.debug_sessions.specs.Refusals.{refusal}
use Rattle.debug_sessions.specs.Answers.{head_of, obeyed, unless_refused, judged}
use Rattle.debug_sessions.proofs.sessions.DebugSessions.judge.Goals as goal

pub returns-in-Some-clause-answer : goal.returns-in-Some-clause-answer
unfolding judged
returns-in-Some-clause-answer c =
    let paths = c.args.store.now.store.paths in
    let ds = c.args.self.now in
    let number = c.args.number in
    let read = c.args.read in
    let program = c.args.launched in
    let reason : refusal ds number read (is_some program) ≡ Some c.in-Some.why =
    ap (λ b. refusal ds number read b) (sym c.is_some.ensures) ∙ sym c.in_ok-why.ensures ∙ c.in-Some.is in
    IfOk-weaker c.refuse.result _ _
    (λ said is. ap (λ o. unless_refused o ds number (head_of read) (obeyed paths program ds number read)) reason ∙ is)
    c.refuse.ensures.answer
