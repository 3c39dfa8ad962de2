use Rattle.std.proofs.Common.{◌≡◌, ◌∙◌, ◌+◌, true, false, ℕ, List, [], ◌∷◌, ◌++◌, length, refl, sym, ap}
use Rattle.std.specs.Prelude.{chars, nat_lt}
use Rattle.std.specs.List.{list_all, list_any}
use Rattle.std.specs.Borrow.{Bor}
use Rattle.std.proofs.lemmas.List.{length-map}
use Rattle.hlasm_statements.specs.declared.statement.Shape.TheVariants.{Plain, Blank}
use Rattle.hlasm_statements.specs.Columns.{is_blank, source_of, text_of}
use Rattle.hlasm_statements.specs.Reading.{IsRead, bodies_of}
use Rattle.hlasm_statements.specs.Shape.{shape_of}
use Rattle.hlasm_statements.specs.Statements.{lines_read}
use Rattle.hlasm_statements.specs.Faults.{has_margin_text, faults_met}
use Rattle.hlasm_statements.proofs.ResultLaws.{OnOk-map}
use Rattle.hlasm_statements.proofs.BuildLaws.{empty-made, filled-made, shape-comment, shape-plain, plain-is, plain-not, blank-not, blank-whole, alternate-is, read-first, read-all, all_not_blank, faults-first, faults-all}
use Rattle.hlasm_statements.proofs.build.push_statement.Goals as goal

count : (rest : List (Bor (List ℕ))) (number last : ℕ) → last ≡ number + length rest → last ≡ number + length (bodies_of rest)
count rest number last is = is ∙ ap (λ n. number + n) (sym (length-map rest (λ (b : Bor (List ℕ)). chars b.now)))

surplus : (rest : List (Bor (List ℕ))) → nat_lt 9 (length rest) ≡ nat_lt 9 (length (bodies_of rest))
surplus rest = ap (nat_lt 9) (sym (length-map rest (λ (b : Bor (List ℕ)). chars b.now)))

pub returns-then-not-is_plain : goal.returns-then-not-is_plain
returns-then-not-is_plain c =
    let first = chars c.args.first.now in
    let rest = bodies_of c.args.rest.now in
    let other = plain-not c.opening-shape.result (sym c.is_plain.ensures ∙ c.if-not-is_plain.true) in
    OnOk-map c.push.result
    (λ added. added ∙ ap (λ s. c.args.statements.now ++ s ∷ []) (
    c.without_fields.ensures
    ∙ empty-made c.args.number c.in_ok-last.last c.args.is_marked first rest c.opening-shape.result c.of-faults.result (count c.args.rest.now c.args.number c.in_ok-last.last c.in_ok-last.ensures)
    (shape-comment first (text_of (source_of lines_read c.args.number (first ∷ rest))) c.opening-shape.result c.opening-shape.ensures other) other
    (faults-first c.args.is_marked first rest (bodies_of c.lines_read-read.result.now) c.have_margin_text.result _ c.of-faults.result c.lines_read-read.ensures c.have_margin_text.ensures (surplus c.args.rest.now) c.of-faults.ensures)))
    c.push.ensures.ok

pub returns-then-is_blank : goal.returns-then-is_blank
returns-then-is_blank c =
    let first = chars c.args.first.now in
    let rest = bodies_of c.args.rest.now in
    let source = source_of lines_read c.args.number (first ∷ rest) in
    let plain = plain-is c.opening-shape.result (sym c.is_plain.ensures ∙ c.if-not-is_plain.false) in
    let read : IsRead c.read_fields.new.reader false source = read-first c.read_fields.new.reader false c.args.number first (bodies_of c.lines_read-read.result.now) rest c.lines_read-read.ensures c.in_ok-read_fields.ensures in
    let blank : list_all is_blank (text_of source) ≡ true = sym (blank-whole c.read_fields.new.reader false source read) ∙ sym c.is_blank.ensures ∙ c.if-is_blank.true in
    OnOk-map c.push-then-is_blank.result
    (λ added. added ∙ ap (λ s. c.args.statements.now ++ s ∷ []) (
    c.without_fields-then-is_blank.ensures
    ∙ empty-made c.args.number c.in_ok-last.last c.args.is_marked first rest Blank c.of-faults.result (count c.args.rest.now c.args.number c.in_ok-last.last c.in_ok-last.ensures)
    (shape-plain first (text_of source) c.opening-shape.result true c.opening-shape.ensures plain blank) blank-not
    (faults-first c.args.is_marked first rest (bodies_of c.lines_read-read.result.now) c.have_margin_text.result _ c.of-faults.result c.lines_read-read.ensures c.have_margin_text.ensures (surplus c.args.rest.now) c.of-faults.ensures)))
    c.push-then-is_blank.ensures.ok

pub returns-then-not-goes_on_with : goal.returns-then-not-goes_on_with
returns-then-not-goes_on_with c =
    let first = chars c.args.first.now in
    let rest = bodies_of c.args.rest.now in
    let source = source_of lines_read c.args.number (first ∷ rest) in
    let plain = plain-is c.opening-shape.result (sym c.is_plain.ensures ∙ c.if-not-is_plain.false) in
    let read : IsRead c.read_fields.new.reader false source = read-first c.read_fields.new.reader false c.args.number first (bodies_of c.lines_read-read.result.now) rest c.lines_read-read.ensures c.in_ok-read_fields.ensures in
    let some : list_all is_blank (text_of source) ≡ false = sym (blank-whole c.read_fields.new.reader false source read) ∙ sym c.is_blank.ensures ∙ c.if-is_blank.false in
    let shape : shape_of first (text_of source) ≡ Plain = shape-plain first (text_of source) c.opening-shape.result false c.opening-shape.ensures plain some in
    OnOk-map c.push-then-not-goes_on_with.result
    (λ added. added ∙ ap (λ s. c.args.statements.now ++ s ∷ []) (
    c.with_fields.ensures
    ∙ filled-made c.args.number c.in_ok-last.last c.args.is_marked false first rest c.read_fields.new.reader c.of-faults.result (count c.args.rest.now c.args.number c.in_ok-last.last c.in_ok-last.ensures) shape
    (alternate-is c.args.number first rest c.read_fields.new.reader read shape ∙ sym c.goes_on_with.ensures ∙ c.if-not-goes_on_with.true) read
    (faults-first c.args.is_marked first rest (bodies_of c.lines_read-read.result.now) c.have_margin_text.result _ c.of-faults.result c.lines_read-read.ensures c.have_margin_text.ensures (surplus c.args.rest.now) c.of-faults.ensures)))
    c.push-then-not-goes_on_with.ensures.ok

pub returns : goal.returns
returns c =
    let first = chars c.args.first.now in
    let rest = bodies_of c.args.rest.now in
    let source = source_of lines_read c.args.number (first ∷ rest) in
    let plain = plain-is c.opening-shape.result (sym c.is_plain.ensures ∙ c.if-not-is_plain.false) in
    let read : IsRead c.read_fields.new.reader false source = read-first c.read_fields.new.reader false c.args.number first (bodies_of c.lines_read-read.result.now) rest c.lines_read-read.ensures c.in_ok-read_fields.ensures in
    let some : list_all is_blank (text_of source) ≡ false = sym (blank-whole c.read_fields.new.reader false source read) ∙ sym c.is_blank.ensures ∙ c.if-is_blank.false in
    let shape : shape_of first (text_of source) ≡ Plain = shape-plain first (text_of source) c.opening-shape.result false c.opening-shape.ensures plain some in
    let all = source_of (length (first ∷ rest)) c.args.number (first ∷ rest) in
    OnOk-map c.push_alternate.result
    (λ is. is.added ∙ ap (λ s. c.args.statements.now ++ s ∷ [])
    (filled-made c.args.number c.in_ok-last.last c.args.is_marked true first rest is.reader (faults_met (list_any has_margin_text rest) false c.args.is_marked) (count c.args.rest.now c.args.number c.in_ok-last.last c.in_ok-last.ensures)
    (shape-plain first (text_of all) c.opening-shape.result false c.opening-shape.ensures plain (all_not_blank c.args.number first rest some))
    (alternate-is c.args.number first rest c.read_fields.new.reader read shape ∙ sym c.goes_on_with.ensures ∙ c.if-not-goes_on_with.false)
    (read-all is.reader true c.args.number first rest is.read)
    (faults-all c.args.is_marked first rest (list_any has_margin_text rest) (faults_met (list_any has_margin_text rest) false c.args.is_marked) refl refl)))
    c.push_alternate.ensures
