use Rattle.std.proofs.Common.{◌≡◌, ◌∙◌, ◌-◌, Err, suc, refl, sym, ap, arith}
use Rattle.macro_library.specs.declared.fault.DefFault.TheVariants.{TooLong}
use Rattle.macro_library.specs.Copying.{comes, comes_behind, comes_with}
use Rattle.macro_library.specs.Members.{member_of}
use Rattle.macro_library.proofs.CopyingLaws.{Comes-as, copies-comes, kept-comes, too_long-comes}
use Rattle.macro_library.proofs.copying.Copying.meet.Goals as goal

pub returns-then-self-eq0 : goal.returns-then-self-eq0
returns-then-self-eq0 c = too_long-comes (member_of c.args.members.now) c.args.operation.now c.args.self.now c.args.line (omega arith)
    ∙ ap (λ name. Err (TooLong name)) (sym c.copy.ensures)

pub returns-in-Some : goal.returns-in-Some
returns-in-Some c =
    let told = member_of c.args.members.now in
    let counted = record c.args.self.now { room = c.args.self.now.room - 1 } in
    let room : c.args.self.now.room ≡ suc (c.args.self.now.room - 1) = omega arith in
    Comes-as (comes_with told c.args.operation.now c.args.self.now c.args.line) (comes_behind told c.args.operation.now counted c.in-Some.name)
    (comes told c.args.operation.now c.copy-in-Some.new.self) c.copy-in-Some.result
    (copies-comes told c.args.operation.now c.args.self.now counted c.args.line c.in-Some.name room refl refl refl refl refl (sym c.in-Some.ensures))
    (c.copy-in-Some.ensures c.args.operation.now)

pub returns-in_ok-keep-in-None : goal.returns-in_ok-keep-in-None
returns-in_ok-keep-in-None c =
    let told = member_of c.args.members.now in
    let counted = record c.args.self.now { room = c.args.self.now.room - 1 } in
    let room : c.args.self.now.room ≡ suc (c.args.self.now.room - 1) = omega arith in
    kept-comes told c.args.operation.now c.args.self.now counted c.keep.new.self c.args.line room refl refl refl refl refl (sym c.in-None.ensures) c.in_ok-keep-in-None.ensures
