use Rattle.std.proofs.Common.{subst}
use Rattle.macro_library.specs.Copying.{IsBody}
use Rattle.macro_library.proofs.CopyingLaws.{new-comes}
use Rattle.macro_library.proofs.copying.read_body.Goals as goal

pub returns : goal.returns
returns c =
    subst (λ wanted. IsBody wanted c.finish.result)
    (new-comes c.args.members.now c.args.operation.now c.in_ok-copying.copying c.args.rest.now c.args.ended c.in_ok-copying.ensures) c.finish.ensures
