use Rattle.std.proofs.Common.{◌≡◌, ◌∙◌, length, refl, sym, ap}
use Rattle.std.specs.List.{slice_get}
use Rattle.std.proofs.lemmas.Option.{slice_get_read, slice_get_past}
use Rattle.statement_listing.specs.declared.listing.Body.{Body}
use Rattle.statement_listing.proofs.listing.Listing.line_at.Goals as goal

pub returns-in-Some : goal.returns-in-Some
returns-in-Some c =
    let slice = c.deref-2.result.now in
    let found = c.in-Some.ensures.lookup in
    let lines : slice ≡ c.args.self.now = c.deref-2.ensures.value ∙ ap (λ (b : Body). b.lines.items) c.deref.ensures ∙ c.self.view_is in
    sym (slice_get_read slice (length slice) c.args.number c.in-Some.line.now refl found.3.0 found.1) ∙ ap (λ ls. slice_get ls c.args.number) lines

pub returns-in-None : goal.returns-in-None
returns-in-None c =
    let slice = c.deref-2.result.now in
    let lines : slice ≡ c.args.self.now = c.deref-2.ensures.value ∙ ap (λ (b : Body). b.lines.items) c.deref.ensures ∙ c.self.view_is in
    sym (slice_get_past slice c.args.number c.in-None.ensures.lookup.3) ∙ ap (λ ls. slice_get ls c.args.number) lines
