use Rattle.std.proofs.Common.{◌∙◌, Some, sym, ap, subst}
use Rattle.macro_library.specs.Members.{lines_of, member_of}
use Rattle.macro_library.proofs.CopyingLaws.{HasText, absent-comes, asks-comes, cycle-comes, entered-comes, unreadable-comes}
use Rattle.macro_library.proofs.copying.Copying.copy.Goals as goal

pub returns-then-is_copying : goal.returns-then-is_copying
returns-then-is_copying c = λ operation.
    cycle-comes (member_of c.args.members.now) operation c.args.self.now c.args.name c.is_copying.ensures.shallow
    (sym c.is_copying.ensures.value ∙ c.if-is_copying.true)

pub returns-in_default : goal.returns-in_default
returns-in_default c = λ operation.
    asks-comes (member_of c.args.members.now) operation c.args.self.now c.args.name c.is_copying.ensures.shallow
    (sym c.is_copying.ensures.value ∙ c.if-is_copying.false) c.in_default.ensures

pub returns-in-Absent : goal.returns-in-Absent
returns-in-Absent c = λ operation.
    absent-comes (member_of c.args.members.now) operation c.args.self.now c.args.name c.is_copying.ensures.shallow
    (sym c.is_copying.ensures.value ∙ c.if-is_copying.false) (ap Some (sym c.in-Absent.is) ∙ c.in-Some.ensures)

pub returns-in-Unreadable : goal.returns-in-Unreadable
returns-in-Unreadable c = λ operation.
    unreadable-comes (member_of c.args.members.now) operation c.args.self.now c.args.name c.is_copying.ensures.shallow
    (sym c.is_copying.ensures.value ∙ c.if-is_copying.false) (ap Some (sym c.in-Unreadable.is) ∙ c.in-Some.ensures)

pub returns-in_ok-enter-in-File : goal.returns-in_ok-enter-in-File
returns-in_ok-enter-in-File c = λ operation.
    let file = c.in-File.is in
    entered-comes (member_of c.args.members.now) operation c.args.self.now c.enter.new.self c.args.name c.lines.result.now c.in-Some.member.now
    c.is_copying.ensures.shallow (sym c.is_copying.ensures.value ∙ c.if-is_copying.false) c.in-Some.ensures
    (subst (λ member. HasText member c.lines.result.now) (sym file) (c.lines.ensures ∙ c.list.ensures)) c.in_ok-enter-in-File.ensures
