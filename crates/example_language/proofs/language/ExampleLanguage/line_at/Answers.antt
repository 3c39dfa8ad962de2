use Rattle.std.proofs.Common.{◌≡◌, [], Some, None, length, refl, sym, ap, ◌∙◌, arith}
use Rattle.std.specs.Prelude.{slice_get}
use Rattle.std.proofs.lemmas.Option.{slice_get_read, slice_get_past}
use Rattle.plain_expansion.specs.Example.{Line, example_list}
use Rattle.example_language.proofs.LineLaws.{list-some, list-none}
use Rattle.example_language.proofs.language.ExampleLanguage.line_at.Goals as goal

pub returns-in-Some : goal.returns-in-Some
returns-in-Some g c =
    let slice = c.as_slice.result.now in
    let lists = c.args.self.now.lists.items in
    let found = c.in-Some.ensures.lookup in
    let there : slice_get slice c.args.list ≡ Some c.in-Some.listing.now =
    slice_get_read slice (length slice) c.args.list c.in-Some.listing.now refl found.3.0 found.1 in
    let at : slice_get lists c.args.list ≡ Some c.in-Some.listing.now = ap (λ l. slice_get l c.args.list) (sym c.as_slice.ensures.value) ∙ there in
    c.line_at.ensures
    ∙ ap (λ l. slice_get l c.args.position) (sym (list-some lists c.args.list c.in-Some.listing.now at))
    ∙ ap (λ p. slice_get (example_list p c.args.list) c.args.position) c.args.self.now.lists_are

pub returns-in-None : goal.returns-in-None
returns-in-None g c =
    let slice = c.as_slice.result.now in
    let lists = c.args.self.now.lists.items in
    let past = c.in-None.ensures.lookup.3 in
    let at : slice_get lists c.args.list ≡ None =
    ap (λ l. slice_get l c.args.list) (sym c.as_slice.ensures.value) ∙ slice_get_past slice c.args.list past in
    let empty : slice_get {X = Line} [] c.args.position ≡ None = slice_get_past {X = Line} [] c.args.position (omega arith) in
    sym (
    ap (λ p. slice_get (example_list p c.args.list) c.args.position) (sym c.args.self.now.lists_are)
    ∙ ap (λ l. slice_get l c.args.position) (list-none lists c.args.list at)
    ∙ empty
    )
