-- Names behind other names, and where they stand.
use Rattle.std.proofs.Common.{◌≡◌, ◌∙◌, ◌+◌, ◌<◌, ℕ, List, [], ◌∷◌, ◌++◌, length, take, get_or, sym, ap, append_assoc, append-nil}
use Rattle.std.specs.Prelude.{slice_index_or}
use Rattle.std.specs.List.{fold}
use Rattle.std.proofs.lemmas.List.{get_or_default, take_more}
use Rattle.std.proofs.lemmas.List.Sums.{fold-append}
use Rattle.hl_base.specs.declared.place.PathId.{PathId}
use Rattle.hlasm_statements.specs.Statements.{places}
use Rattle.hlasm_statements.specs.declared.statement.Statement.{Statement}
use Rattle.statement_names.specs.Spans.{IsSpan, span}
use Rattle.statement_names.specs.declared.name.WrittenName.{WrittenName}
use Rattle.statement_names.specs.declared.spans.Span.{Span}
use Rattle.trace_values.specs.declared.occurrence.Occurrence.{Occurrence}
use Rattle.standing_occurrences.specs.Standing.{with_first}
use Rattle.statement_occurrences.specs.Named.{Circumstances, of_name, of_names}

-- where a name stands that has a place
pub placed : (statement : Statement) (name : WrittenName) (found : Span) → name.at < length (places statement name.field) →
    (name.at < length (places statement name.field) → IsSpan statement name found) →
    found ≡ span (slice_index_or (places statement name.field) name.at (0, 0)) name.count
placed statement name found within is =
    is within (slice_index_or (places statement name.field) name.at (0, 0))
    (get_or_default (places statement name.field) name.at (0, 0) (slice_index_or (places statement name.field) name.at (0, 0)) within)

-- one name more
pub of_names-append : (s : Circumstances) (path : PathId) (statement : Statement) (earlier names : List WrittenName) (name : WrittenName) →
    of_names s path statement earlier (names ++ name ∷ []) ≡ of_names s path statement earlier names ++ of_name s path statement (earlier ++ names) name
of_names-append s path statement earlier [] name =
    append-nil (of_name s path statement earlier name) ∙ ap (λ (before : List WrittenName). of_name s path statement before name) (sym (append-nil earlier))
of_names-append s path statement earlier (n ∷ ns) name =
    ap (λ rest. of_name s path statement earlier n ++ rest) (of_names-append s path statement (earlier ++ n ∷ []) ns name)
    ∙ sym (append_assoc (of_name s path statement earlier n) (of_names s path statement (earlier ++ n ∷ []) ns) (of_name s path statement ((earlier ++ n ∷ []) ++ ns) name))
    ∙ ap (λ (before : List WrittenName). of_names s path statement earlier (n ∷ ns) ++ of_name s path statement before name) (append_assoc earlier (n ∷ []) ns)

-- the occurrences of the first so many names, and that of the next one
pub names_next : (s : Circumstances) (path : PathId) (statement : Statement) (names : List WrittenName) (i : ℕ) (name : WrittenName) (old now new : List Occurrence) →
    i < length names → name ≡ get_or names i name →
    now ≡ fold with_first old (of_names s path statement [] (take i names)) →
    new ≡ fold with_first now (of_name s path statement (take i names) name) →
    new ≡ fold with_first old (of_names s path statement [] (take (i + 1) names))
names_next s path statement names i name old now new within is so_far grown =
    grown
    ∙ ap (λ kept. fold with_first kept (of_name s path statement (take i names) name)) so_far
    ∙ sym (fold-append with_first old (of_names s path statement [] (take i names)) (of_name s path statement (take i names) name))
    ∙ ap (fold with_first old) (sym (of_names-append s path statement [] (take i names) name))
    ∙ ap (λ (n : WrittenName). fold with_first old (of_names s path statement [] (take i names ++ n ∷ []))) is
    ∙ ap (λ ns. fold with_first old (of_names s path statement [] ns)) (sym (take_more names i name within))
