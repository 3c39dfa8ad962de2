-- What is said of the values of a constant, one after the other.
use Rattle.std.proofs.Common.{◌≡◌, ◌∙◌, ℕ, ◌+◌, ◌<◌, List, [], ◌∷◌, ◌++◌, length, take, get_or, map, sym, ap, append-nil}
use Rattle.std.proofs.lemmas.Grind.{flat_map-append}
use Rattle.std.proofs.lemmas.List.{map_more}
use Rattle.trace_values.specs.declared.section.Reloc.{Reloc}
use Rattle.note_rows.specs.declared.row.Row.{Row}
use Rattle.std.specs.Prelude.{Option}
use Rattle.constant_grammar.specs.declared.element.Element as declared
use Rattle.constant_grammar.specs.Elements.{Element}
use Rattle.constant_grammar.specs.Views.{element_of}
use Rattle.ordinary_symbols.specs.Known.{Knowledge}
use Rattle.expression_notes.specs.Repeating.{once_behind}
use Rattle.expression_notes.proofs.Turns.{in_turn}
use Rattle.constant_expressions.specs.Notes.{said_of_element, said_of_elements}

said_of_elements-push : (known : Knowledge) (here : Option Reloc) (xs : List Element) (x : Element) →
    said_of_elements known here (xs ++ x ∷ []) ≡ said_of_elements known here xs ++ said_of_element known here x
said_of_elements-push known here xs x =
    flat_map-append (said_of_element known here) xs (x ∷ [])
    ∙ ap (λ rows. said_of_elements known here xs ++ rows) (append-nil (said_of_element known here x))

-- one more value
pub elements_more : (known : Knowledge) (here : Option Reloc) (before middle after : List Row) (elements : List declared.Element) (i : ℕ) (e : declared.Element) →
    middle ≡ before ++ once_behind before (said_of_elements known here (map element_of (take i elements))) →
    after ≡ middle ++ once_behind middle (said_of_element known here (element_of e)) →
    i < length elements → e ≡ get_or elements i e →
    after ≡ before ++ once_behind before (said_of_elements known here (map element_of (take (i + 1) elements)))
elements_more known here before middle after elements i e first second h at =
    let front = map element_of (take i elements) in
    in_turn before middle after (said_of_elements known here front) (said_of_element known here (element_of e)) first second
    ∙ ap (λ rows. before ++ once_behind before rows)
    (sym (said_of_elements-push known here front (element_of e))
    ∙ ap (λ y. said_of_elements known here (front ++ element_of y ∷ [])) at
    ∙ ap (said_of_elements known here) (sym (map_more element_of elements i e h)))
