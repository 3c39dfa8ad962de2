use Rattle.std.proofs.Common.{◌≡◌, Some, None, length, refl, sym, ap, ◌∙◌}
use Rattle.std.specs.Prelude.{slice_get}
use Rattle.std.proofs.lemmas.Option.{slice_get_read, slice_get_past}
use Rattle.plain_expansion.specs.Expansion.{first_where}
use Rattle.plain_expansion.specs.Example.{example_list, has_example_label}
use Rattle.example_language.proofs.LineLaws.{list-some, list-none}
use Rattle.example_language.proofs.language.ExampleLanguageCodedLanguage.place_of.Goals as goal

pub returns-in-Some : goal.returns-in-Some
returns-in-Some g c =
    let slice = c.as_slice.result.now in
    let lists = c.args.self.now.lists.items in
    let list = c.args.listing.now in
    let label = c.args.label.now in
    let found = c.in-Some.ensures.lookup in
    let there : slice_get slice list ≡ Some c.in-Some.listing.now =
    slice_get_read slice (length slice) list c.in-Some.listing.now refl found.3.0 found.1 in
    let at : slice_get lists list ≡ Some c.in-Some.listing.now = ap (λ l. slice_get l list) (sym c.as_slice.ensures.value) ∙ there in
    c.place_of.ensures
    ∙ ap (first_where (λ s. has_example_label s label)) (sym (list-some lists list c.in-Some.listing.now at))
    ∙ ap (λ p. first_where (λ s. has_example_label s label) (example_list p list)) c.args.self.now.lists_are

pub returns-in-None : goal.returns-in-None
returns-in-None g c =
    let slice = c.as_slice.result.now in
    let lists = c.args.self.now.lists.items in
    let list = c.args.listing.now in
    let label = c.args.label.now in
    let at : slice_get lists list ≡ None =
    ap (λ l. slice_get l list) (sym c.as_slice.ensures.value) ∙ slice_get_past slice list c.in-None.ensures.lookup.3 in
    sym (
    ap (λ p. first_where (λ s. has_example_label s label) (example_list p list)) (sym c.args.self.now.lists_are)
    ∙ ap (first_where (λ s. has_example_label s label)) (list-none lists list at)
    )
