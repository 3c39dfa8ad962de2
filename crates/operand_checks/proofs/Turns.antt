-- What is said of operands and of the values of a constant, one after the other.
use Rattle.std.proofs.Common.{◌≡◌, ◌∙◌, ℕ, suc, ◌+◌, ◌<◌, ◌≤◌, Bool, List, [], ◌∷◌, ◌++◌, length, take, drop, get_or, map, refl, sym, ap, append-nil, add-one, drop-cons}
use Rattle.std.specs.Prelude.{Option}
use Rattle.std.proofs.Math.ListN.{drop_of_length-le}
use Rattle.std.proofs.lemmas.Grind.{flat_map-append}
use Rattle.std.proofs.lemmas.List.{map_more}
use Rattle.constant_grammar.specs.declared.element.Element as declared
use Rattle.constant_grammar.specs.Elements.{Element}
use Rattle.constant_grammar.specs.Views.{element_of}
use Rattle.expression_notes.specs.Repeating.{once_behind}
use Rattle.expression_notes.proofs.Turns.{in_turn}
use Rattle.instruction_table.specs.declared.encodings.Kind.{Kind}
use Rattle.note_rows.specs.declared.row.Row.{Row}
use Rattle.trace_values.specs.declared.section.Reloc.{Reloc}
use Rattle.operand_checks.specs.Literals.{said_of_element, said_of_elements}
use Rattle.operand_checks.specs.Machine.{said_of_next, said_of_operands, places_behind, others_of}
use Rattle.operand_checks.specs.Settings.{Setting}

said_of_elements-push : (setting : Setting) (xs : List Element) (x : Element) →
    said_of_elements setting (xs ++ x ∷ []) ≡ said_of_elements setting xs ++ said_of_element setting x
said_of_elements-push setting xs x =
    flat_map-append (said_of_element setting) xs (x ∷ [])
    ∙ ap (λ rows. said_of_elements setting xs ++ rows) (append-nil (said_of_element setting x))

-- one more value
pub elements_more : (setting : Setting) (before middle after : List Row) (elements : List declared.Element) (i : ℕ) (e : declared.Element) →
    middle ≡ before ++ once_behind before (said_of_elements setting (map element_of (take i elements))) →
    after ≡ middle ++ once_behind middle (said_of_element setting (element_of e)) →
    i < length elements → e ≡ get_or elements i e →
    after ≡ before ++ once_behind before (said_of_elements setting (map element_of (take (i + 1) elements)))
elements_more setting before middle after elements i e first second h at =
    let front = map element_of (take i elements) in
    in_turn before middle after (said_of_elements setting front) (said_of_element setting (element_of e)) first second
    ∙ ap (λ rows. before ++ once_behind before rows)
    (sym (said_of_elements-push setting front (element_of e))
    ∙ ap (λ y. said_of_elements setting (front ++ element_of y ∷ [])) at
    ∙ ap (said_of_elements setting) (sym (map_more element_of elements i e h)))

-- an operand, and then those behind it
pub operands_next : (setting : Setting) (targets : Bool) (places others : List (Option Reloc)) (kinds behind : List Kind)
    (text : List ℕ) (texts : List (List ℕ)) (old new : List Row) →
    others ≡ places_behind text places → behind ≡ others_of kinds →
    new ≡ old ++ once_behind old (said_of_next setting targets places kinds text) →
    new ++ once_behind new (said_of_operands setting targets others behind texts)
    ≡ old ++ once_behind old (said_of_operands setting targets places kinds (text ∷ texts))
operands_next setting targets places others kinds behind text texts old new first second is =
    ap (λ (p : List (Option Reloc)). new ++ once_behind new (said_of_operands setting targets p behind texts)) first
    ∙ ap (λ (k : List Kind). new ++ once_behind new (said_of_operands setting targets (places_behind text places) k texts)) second
    ∙ in_turn old new (new ++ once_behind new (said_of_operands setting targets (places_behind text places) (others_of kinds) texts))
    (said_of_next setting targets places kinds text)
    (said_of_operands setting targets (places_behind text places) (others_of kinds) texts) is refl

-- the same where the operands are those behind some
pub operands_more : (setting : Setting) (targets : Bool) (places others : List (Option Reloc)) (kinds behind : List Kind)
    (texts : List (List ℕ)) (i : ℕ) (text : List ℕ) (old new whole : List Row) →
    others ≡ places_behind text places → behind ≡ others_of kinds →
    old ++ once_behind old (said_of_operands setting targets places kinds (drop i texts)) ≡ whole →
    new ≡ old ++ once_behind old (said_of_next setting targets places kinds text) →
    i < length texts → text ≡ get_or texts i text →
    new ++ once_behind new (said_of_operands setting targets others behind (drop (i + 1) texts)) ≡ whole
operands_more setting targets places others kinds behind texts i text old new whole first second so_far is h at =
    let cut : drop i texts ≡ text ∷ drop (i + 1) texts =
    drop-cons texts i text h ∙ ap (λ t. t ∷ drop (suc i) texts) (sym at) ∙ ap (λ k. text ∷ drop k texts) (sym (add-one i)) in
    operands_next setting targets places others kinds behind text (drop (i + 1) texts) old new first second is
    ∙ ap (λ t. old ++ once_behind old (said_of_operands setting targets places kinds t)) (sym cut)
    ∙ so_far

-- where none is left
pub operands_end : (setting : Setting) (targets : Bool) (places : List (Option Reloc)) (kinds : List Kind) (texts : List (List ℕ)) (i : ℕ)
    (rows whole : List Row) → length texts ≤ i →
    rows ++ once_behind rows (said_of_operands setting targets places kinds (drop i texts)) ≡ whole → rows ≡ whole
operands_end setting targets places kinds texts i rows whole h so_far =
    sym (ap (λ t. rows ++ once_behind rows (said_of_operands setting targets places kinds t)) (drop_of_length-le texts h) ∙ append-nil rows)
    ∙ so_far
