-- Lists of reports are the same exactly if they are equal.
use Rattle.std.proofs.Common.{◌≡◌, ℕ, ◌&&◌, Bool, true, false, List, refl, ap, ◌∙◌}
use Rattle.std.specs.Prelude.{◌==◌}
use Rattle.std.specs.Bool.{Decides}
use Rattle.std.specs.Cmp.{IsPartialEquivalence, partial_equiv_from_equiv, decided, unsigned_Decides}
use Rattle.std.specs.Cmp.Lexicographic.{pointwise, pointwise_decides}
use Rattle.std.specs.Str.{bytes_eq}
use Rattle.std.proofs.lemmas.Slice.Eq.{bytes_eq-Decides}
use Rattle.hl_base.specs.declared.edit.Position.{Position}
use Rattle.lsp_messages.specs.declared.outgoing.Span.{Span}
use Rattle.lsp_messages.specs.declared.outgoing.Relation.{Relation}
use Rattle.lsp_messages.specs.declared.outgoing.Diagnostic.{Diagnostic}
use Rattle.lsp_messages.specs.Same.{is_same_position, is_same_span, is_same_relation, are_same_relations, is_same_diagnostic, is_same_list}

-- two tests, each of which decides whether something is so, decide together whether both are
both : {P Q : Type 0} (a b : Bool) → Decides a P → Decides b Q → Decides (a && b) (P × Q)
both true true p q = (λ is. (p.0 refl, q.0 refl), λ so. refl)
both true false p q = (λ is. cc, λ so. q.1 so.1)
both false b p q = (λ is. cc, λ so. p.1 so.0)

-- a test decides what comes to the same as what it decides
by_parts : {P Q : Type 0} (a : Bool) → Decides a P → (P → Q) → (Q → P) → Decides a Q
by_parts a is there back = (λ so. there (is.0 so), λ so. is.1 (back so))

pub is_same_position-Decides : (a b : Position) → Decides (is_same_position a b) (a ≡ b)
is_same_position-Decides a b =
    by_parts (is_same_position a b)
    (both (a.line == b.line) (a.character == b.character) (unsigned_Decides a.line b.line) (unsigned_Decides a.character b.character))
    (λ is. λ i. record { line = is.0 i; character = is.1 i })
    (λ is. (ap (λ (p : Position). p.line) is, ap (λ (p : Position). p.character) is))

pub is_same_span-Decides : (a b : Span) → Decides (is_same_span a b) (a ≡ b)
is_same_span-Decides a b =
    by_parts (is_same_span a b)
    (both (is_same_position a.start b.start) (is_same_position a.end b.end) (is_same_position-Decides a.start b.start) (is_same_position-Decides a.end b.end))
    (λ is. λ i. record { start = is.0 i; end = is.1 i })
    (λ is. (ap (λ (s : Span). s.start) is, ap (λ (s : Span). s.end) is))

pub is_same_relation-Decides : (a b : Relation) → Decides (is_same_relation a b) (a ≡ b)
is_same_relation-Decides a b =
    by_parts (is_same_relation a b)
    (both (bytes_eq a.uri b.uri) (is_same_span a.range b.range && bytes_eq a.message b.message) (bytes_eq-Decides a.uri b.uri)
    (both (is_same_span a.range b.range) (bytes_eq a.message b.message) (is_same_span-Decides a.range b.range) (bytes_eq-Decides a.message b.message)))
    (λ is. λ i. record { uri = is.0 i; range = is.1.0 i; message = is.1.1 i })
    (λ is. (ap (λ (r : Relation). r.uri) is, (ap (λ (r : Relation). r.range) is, ap (λ (r : Relation). r.message) is)))

pub are_same_relations-Decides : (a b : List Relation) → Decides (are_same_relations a b) (a ≡ b)
are_same_relations-Decides = pointwise_decides is_same_relation-Decides

pub is_same_diagnostic-Decides : (a b : Diagnostic) → Decides (is_same_diagnostic a b) (a ≡ b)
is_same_diagnostic-Decides a b =
    by_parts (is_same_diagnostic a b)
    (both (bytes_eq a.code b.code) _ (bytes_eq-Decides a.code b.code)
    (both (bytes_eq a.message b.message) _ (bytes_eq-Decides a.message b.message)
    (both (is_same_span a.range b.range) _ (is_same_span-Decides a.range b.range)
    (both (a.severity == b.severity) (are_same_relations a.related b.related) (unsigned_Decides a.severity b.severity) (are_same_relations-Decides a.related b.related)))))
    (λ is. λ i. record { code = is.0 i; message = is.1.0 i; range = is.1.1.0 i; severity = is.1.1.1.0 i; related = is.1.1.1.1 i })
    (λ is. (
      ap (λ (d : Diagnostic). d.code) is,
      (
        ap (λ (d : Diagnostic). d.message) is,
        (
          ap (λ (d : Diagnostic). d.range) is,
          (ap (λ (d : Diagnostic). d.severity) is, ap (λ (d : Diagnostic). d.related) is),
        ),
      ),
    ))

pub is_same_list-Decides : (a b : List Diagnostic) → Decides (is_same_list a b) (a ≡ b)
is_same_list-Decides = pointwise_decides is_same_diagnostic-Decides
