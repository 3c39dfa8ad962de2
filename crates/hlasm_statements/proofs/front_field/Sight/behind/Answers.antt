use Rattle.std.proofs.Common.{◌∙◌, sym, refl}
use Rattle.hlasm_statements.proofs.FrontFieldLaws.{seen-more}
use Rattle.hlasm_statements.proofs.front_field.Sight.behind.Goals as goal

pub returns-clause-seen : goal.returns-clause-seen
returns-clause-seen c = λ before is. seen-more c.args.self _ before c.args.byte is (sym c.is_unclear.ensures ∙ c.if-is_unclear.false) c.quoted_behind.ensures c.in_ok-depth_behind.ensures refl
