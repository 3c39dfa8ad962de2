use Rattle.std.proofs.Common.{refl}
use Rattle.macro_library.specs.Members.{member_of}
use Rattle.macro_library.proofs.CopyingLaws.{Goes_on-as, same-comes}
use Rattle.macro_library.proofs.copying.Copying.step.Goals as goal

pub returns-in-None : goal.returns-in-None
returns-in-None c =
    let told = member_of c.args.members.now in
    let popped = record c.args.self.now { current = record { lines = c.pop_front.new.self } } in
    Goes_on-as told c.args.operation.now c.args.self.now popped c.back.new.self c.back.result
    (same-comes told c.args.operation.now c.args.self.now popped c.in-None.ensures.items refl refl refl refl refl)
    (c.back.ensures told c.args.operation.now)
