use Rattle.std.proofs.Common.{◌≡◌, ◌∷◌, [], sym, Some, Option, List, ℕ, subst, encode_utf8_all}
use Rattle.std.specs.Option.{option_map_or}
use Rattle.hl_base.specs.Symbols.{symbol_of}
use Rattle.cond_expr.specs.Outcome.{Tells, gives}
use Rattle.cond_expr.specs.Symbols.{type_of}
use Rattle.cond_expr.proofs.variable.type_of_name.Goals as goal

pub returns-in-Some : goal.returns-in-Some
returns-in-Some g c = λ notes.
    let told = g.Q.Lookups.told c.args.q.now in
    let found : symbol_of (encode_utf8_all c.args.text.now) ≡ Some c.in-Some.name = cc in
    subst (λ (o : Option (List ℕ)). Tells (option_map_or (type_of told) o (gives (85 ∷ []))) notes notes c.type_of.result) (sym found) (c.type_of.ensures notes)
