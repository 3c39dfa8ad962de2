-- When two lists of reports are the same: member by member, as they are shown. This project.
use Rattle.std.specs.Prelude.{Bool, ◌==◌, ◌&&◌, List}
use Rattle.std.specs.Cmp.{IsEquivalence, and_equiv, on_equiv, nat_eq_equiv}
use Rattle.std.specs.Cmp.Lexicographic.{pointwise, nat_list_eq_equiv, lists_equiv}
use Rattle.std.specs.Str.{bytes_eq}
use Rattle.hl_base.specs.declared.edit.Position.{Position}
use Rattle.lsp_messages.specs.declared.outgoing.Span.{Span}
use Rattle.lsp_messages.specs.declared.outgoing.Relation.{Relation}
use Rattle.lsp_messages.specs.declared.outgoing.Diagnostic.{Diagnostic}

-- one place
abbrev pub is_same_position : Position → Position → Bool
is_same_position a b = a.line == b.line && a.character == b.character

-- from one place to one other
abbrev pub is_same_span : Span → Span → Bool
is_same_span a b = is_same_position a.start b.start && is_same_position a.end b.end

-- one other place that is spoken of
abbrev pub is_same_relation : Relation → Relation → Bool
is_same_relation a b = bytes_eq a.uri b.uri && (is_same_span a.range b.range && bytes_eq a.message b.message)

-- the same other places in the same order
abbrev pub are_same_relations : List Relation → List Relation → Bool
are_same_relations = pointwise is_same_relation

-- one report
abbrev pub is_same_diagnostic : Diagnostic → Diagnostic → Bool
is_same_diagnostic a b =
    bytes_eq a.code b.code
    && (bytes_eq a.message b.message
    && (is_same_span a.range b.range
    && (a.severity == b.severity
    && are_same_relations a.related b.related)))

-- the same reports in the same order
abbrev pub is_same_list : List Diagnostic → List Diagnostic → Bool
is_same_list = pointwise is_same_diagnostic

-- ---- these are equivalences, as `==` must be

positions : IsEquivalence is_same_position
positions = and_equiv (on_equiv (λ (p : Position). p.line) nat_eq_equiv) (on_equiv (λ (p : Position). p.character) nat_eq_equiv)

spans : IsEquivalence is_same_span
spans = and_equiv (on_equiv (λ (s : Span). s.start) positions) (on_equiv (λ (s : Span). s.end) positions)

pub is_same_relation-laws : IsEquivalence is_same_relation
is_same_relation-laws =
    and_equiv (on_equiv (λ (r : Relation). r.uri) nat_list_eq_equiv)
    (and_equiv (on_equiv (λ (r : Relation). r.range) spans) (on_equiv (λ (r : Relation). r.message) nat_list_eq_equiv))

pub are_same_relations-laws : IsEquivalence are_same_relations
are_same_relations-laws = lists_equiv is_same_relation-laws

pub is_same_diagnostic-laws : IsEquivalence is_same_diagnostic
is_same_diagnostic-laws =
    and_equiv (on_equiv (λ (d : Diagnostic). d.code) nat_list_eq_equiv)
    (and_equiv (on_equiv (λ (d : Diagnostic). d.message) nat_list_eq_equiv)
    (and_equiv (on_equiv (λ (d : Diagnostic). d.range) spans)
    (and_equiv (on_equiv (λ (d : Diagnostic). d.severity) nat_eq_equiv) (on_equiv (λ (d : Diagnostic). d.related) are_same_relations-laws))))

pub is_same_list-laws : IsEquivalence is_same_list
is_same_list-laws = lists_equiv is_same_diagnostic-laws
