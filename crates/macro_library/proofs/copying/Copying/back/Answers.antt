use Rattle.std.proofs.Common.{◌∙◌, ◌++◌, ◌∷◌, [], refl, ap, map}
use Rattle.std.proofs.lemmas.List.{map-append}
use Rattle.std.specs.Prelude.{string_bytes}
use Rattle.macro_library.specs.Copying.{outside_of}
use Rattle.macro_library.proofs.CopyingLaws.{back-comes, empty_of, ended-comes}
use Rattle.macro_library.proofs.copying.Copying.back.Goals as goal

pub returns-in-Some : goal.returns-in-Some
returns-in-Some c = λ told operation.
    back-comes told operation c.args.self.now (record c.args.self.now { outer = c.pop.new.self; current = c.in-Some.left }) (string_bytes c.in-Some._name)
    c.in-Some.left.lines.items c.requires
    (ap (map outside_of) c.in-Some.ensures.entries ∙ map-append outside_of c.pop.new.self.entries ((c.in-Some._name, c.in-Some.left) ∷ []))
    refl refl refl refl refl

pub returns-in-None : goal.returns-in-None
returns-in-None c = λ told operation.
    ended-comes told operation c.args.self.now c.requires (ap (map outside_of) (empty_of c.args.self.now.outer.entries (λ more. c.in-None.ensures.found.1 more)))
