use Rattle.std.proofs.Common.{◌≡◌, ◌∙◌, ◌+◌, ◌≤◌, ℕ, List, length, drop, refl, sym, ap, subst, arith, drop_of_length-le}
use Rattle.std.specs.Option.{option_copied}
use Rattle.std.specs.Map.{lookup}
use Rattle.statement_reading.specs.Views.{instruction_of, reading_of}
use Rattle.statement_listing.specs.Listings.{Listed, elements, elements_from, place_of}
use Rattle.statement_listing.specs.Sources.{IsIndex, IsNumbering, noted_found, spells}
use Rattle.statement_listing.specs.declared.listing.Body.{Body}
use Rattle.statement_listing.proofs.ListingLaws.{begun-most, elements-idle, line-in, line-noted, place_behind, place_behind-end, place_behind-start}
use Rattle.statement_listing.proofs.listing.Listing.of_lines.Goals as goal

pub loop-line-init : goal.loop-line-init
loop-line-init c =
    let all = c.args.lines.items in (
      λ name. place_behind-start (lookup (spells name) c.new-places.result.entries) 0 (place_of name (elements all))
          (ap (lookup (spells name)) c.new-places.ensures.empty) refl,
      omega arith,
      omega arith,
    )

pub loop-line-preserved-in_default : goal.loop-line-preserved-in_default
loop-line-preserved-in_default c =
    let all = c.args.lines.items in
    let i = c.loop-line.line-index in
    let one = c.line-item.result in
    let rest = drop (i + 1) all in
    let left = line-in all c.as_slice-line-items.result.now i one c.as_slice-line-items.ensures.value c.loop-line-test.true c.line-item.is in
    let place = c.loop-line.place in
    let begun = c.loop-line.begun in
    let none = sym c.in_default.ensures in (
      λ name.
          let known = lookup (spells name) c.loop-line.places.entries in
          c.loop-line.invariant.0 name
          ∙ ap (λ ls. place_behind known place (place_of name (elements_from begun ls))) left
          ∙ ap (λ es. place_behind known place (place_of name es)) (elements-idle begun one rest none),
      omega (arith, c.loop-line.invariant.1),
      omega (arith, c.loop-line.invariant.2),
    )

pub loop-line-preserved : goal.loop-line-preserved
loop-line-preserved c =
    let all = c.args.lines.items in
    let i = c.loop-line.line-index in
    let one = c.line-item.result in
    let rest = drop (i + 1) all in
    let left = line-in all c.as_slice-line-items.result.now i one c.as_slice-line-items.ensures.value c.loop-line-test.true c.line-item.is in
    let place = c.loop-line.place in
    let begun = c.loop-line.begun in
    let reading = reading_of c.in-Some.reading.now in
    let some = sym c.in-Some.ensures in
    let label = option_copied c.found_label-label.result in (
      λ name.
          let known = lookup (spells name) c.loop-line.places.entries in
          line-noted name (place_of name (elements all)) known (lookup (spells name) c.note_found.new.places.entries) place (place + 1) begun c.begun_behind-begun.result one rest reading label some
          (c.loop-line.invariant.0 name ∙ ap (λ ls. place_behind known place (place_of name (elements_from begun ls))) left)
          c.found_label-label.ensures (c.in_ok-note_found.ensures name) refl c.begun_behind-begun.ensures,
      subst (λ (b : ℕ). b ≤ i + 1) (sym c.begun_behind-begun.ensures) (begun-most begun (instruction_of c.in-Some.reading.now.instruction) i c.loop-line.invariant.1),
      omega (arith, c.loop-line.invariant.2),
    )

-- what a list's body holds of itself
abbrev Holds : Body → Type 0
Holds b = IsIndex b.places.entries (elements b.lines.items) × IsNumbering b.numbering b.lines.items

pub invariant_of-result : goal.invariant_of-result
invariant_of-result c =
    let all = c.args.lines.items in
    let past = subst (λ (ls : List Listed). length ls ≤ c.loop-line.line-index) c.as_slice-line-items.ensures.value c.loop-line-test.false in
    let none = drop_of_length-le all past in
    subst Holds (sym c.in_ok-new.ensures.ok) (
      λ name.
          let known = lookup (spells name) c.loop-line.places.entries in
          sym (
          c.loop-line.invariant.0 name
          ∙ ap (λ ls. place_behind known c.loop-line.place (place_of name (elements_from c.loop-line.begun ls))) none
          ∙ place_behind-end known c.loop-line.place),
      subst (λ (ls : List Listed). IsNumbering c.in_ok-numbering.numbering ls) c.as_slice.ensures.value c.in_ok-numbering.ensures,
    )
