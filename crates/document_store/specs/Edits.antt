-- Changes of a text (Language Server Protocol 3.17, "TextDocumentContentChangeEvent").
use Rattle.std.specs.Prelude.{ℕ, ◌+◌, Bool, false, ◌==◌, ◌||◌, ◌&&◌, nat_lt, List, [], ◌∷◌, ◌++◌, Option, None, Some, Result, Ok, Err, length, take, drop, encode_utf8_all, if◌then◌else◌}
use Rattle.hl_base.specs.declared.edit.Position.{Position}
use Rattle.hl_base.specs.declared.edit.Edit.{Edit}
use Rattle.text_pool.specs.declared.pool.TheConstants.{LONGEST_TEXT}
use Rattle.document_store.specs.Positions.{place_of}
use Rattle.document_store.specs.declared.fault.StoreFault.{StoreFault}
use Rattle.document_store.specs.declared.fault.StoreFault.TheVariants.{BadRange, TextTooLong}

-- what follows of a text that was not refused
abbrev pub and_then : {A : Type 0} → (List ℕ → Result A StoreFault) → Result (List ℕ) StoreFault → Result A StoreFault
and_then f (Ok text) = f text
and_then f (Err fault) = Err fault

-- whether a position lies behind another, as pairs of numbers
abbrev pub is_after : Position → Position → Bool
is_after a b = nat_lt b.line a.line || (a.line == b.line && nat_lt b.character a.character)

-- whether the start of a change lies behind its end
abbrev pub is_backward : Option Position → Option Position → Bool
is_backward (Some from) (Some to) = is_after from to
is_backward (Some from) None = false
is_backward None to = false

-- where a change begins: without a start, where the text does
abbrev pub start_of : List ℕ → Option Position → ℕ
start_of text (Some at) = place_of text at
start_of text None = 0

-- where a change ends: without an end, where the text does
abbrev pub stop_of : List ℕ → Option Position → ℕ
stop_of text (Some at) = place_of text at
stop_of text None = length text

-- the text after a change
abbrev pub edited : List ℕ → Edit → List ℕ
edited text edit = take (start_of text edit.from) text ++ edit.text ++ drop (stop_of text edit.to) text

-- whether a text has more bytes in UTF-8 than a document may have
abbrev pub is_too_long : List ℕ → Bool
is_too_long text = nat_lt LONGEST_TEXT (length (encode_utf8_all text))

-- the text after a change that is the one of this number, or why it is refused
abbrev pub after_edit : List ℕ → ℕ → Edit → Result (List ℕ) StoreFault
after_edit text number edit =
    if is_backward edit.from edit.to then Err (BadRange number)
    else (if is_too_long (edited text edit) then Err TextTooLong else Ok (edited text edit))

-- the text after each of these changes in turn, the first of which has this number; the first that is refused refuses all
abbrev pub after_edits : List Edit → ℕ → List ℕ → Result (List ℕ) StoreFault
after_edits [] number text = Ok text
after_edits (edit ∷ edits) number text = and_then (after_edits edits (number + 1)) (after_edit text number edit)
