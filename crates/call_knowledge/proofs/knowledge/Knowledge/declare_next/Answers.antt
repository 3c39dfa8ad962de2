use Rattle.std.proofs.Common.{◌≡◌, ◌∙◌, ◌++◌, List, [], ◌∷◌, sym, ap, append_assoc}
use Rattle.std.proofs.lemmas.List.{map_push}
use Rattle.set_symbols.specs.Table.{Symbol}
use Rattle.call_knowledge.specs.Deeds.{names_of, new_ones, repeated}
use Rattle.call_knowledge.proofs.DeedLaws.{new_ones-taken, repeated-taken, new_ones-new, repeated-new}
use Rattle.call_knowledge.proofs.knowledge.Knowledge.declare_next.Goals as goal

-- what stands before the rest, pushed behind what there was
pushed : {X : Type 0} (before after rest : List X) (x y : X) → after ≡ before ++ y ∷ [] → y ≡ x → before ++ x ∷ rest ≡ after ++ rest
pushed before after rest x y is same =
    sym (append_assoc before (x ∷ []) rest) ∙ ap (λ z. (before ++ z ∷ []) ++ rest) (sym same) ∙ ap (λ xs. xs ++ rest) (sym is)

pub returns-then-is_taken-clause-declared : goal.returns-then-is_taken-clause-declared
returns-then-is_taken-clause-declared c = λ rest.
    let all = c.args.all.now in
    ap (λ ds. all.declared ++ ds) (new_ones-taken c.args.self.now (names_of all.earlier) c.args.d.now rest (sym c.is_taken.ensures ∙ c.if-is_taken.true))

pub returns-then-is_taken-clause-notes : goal.returns-then-is_taken-clause-notes
returns-then-is_taken-clause-notes c = λ rest.
    let all = c.args.all.now in
    let names = names_of all.earlier in
    ap (λ ns. all.notes ++ ns) (repeated-taken c.args.self.now names c.args.d.now rest (sym c.is_taken.ensures ∙ c.if-is_taken.true))
    ∙ pushed all.notes c.push.new.self (repeated c.args.self.now names rest) _ c.in_ok-note.note c.in_ok-push.ensures.ok c.in_ok-note.ensures

pub returns-clause-declared : goal.returns-clause-declared
returns-clause-declared c = λ rest.
    let all = c.args.all.now in
    let k = c.args.self.now in
    let names = names_of all.earlier in
    let d = c.args.d.now in
    let named : names_of c.declare_in.new.table ≡ names ++ d.name ∷ [] = ap names_of c.in_ok-declare_in.ensures ∙ map_push (λ (s : Symbol). s.name) all.earlier _ in
    ap (λ ds. all.declared ++ ds) (new_ones-new k names d rest (sym c.is_taken.ensures ∙ c.if-is_taken.false))
    ∙ ap (λ ns. all.declared ++ d ∷ new_ones k ns rest) (sym named)
    ∙ pushed all.declared c.push-2.new.self (new_ones k (names_of c.declare_in.new.table) rest) d c.copy.result c.in_ok-push-2.ensures.ok c.copy.ensures

pub returns-clause-notes : goal.returns-clause-notes
returns-clause-notes c = λ rest.
    let all = c.args.all.now in
    let k = c.args.self.now in
    let names = names_of all.earlier in
    let d = c.args.d.now in
    let named : names_of c.declare_in.new.table ≡ names ++ d.name ∷ [] = ap names_of c.in_ok-declare_in.ensures ∙ map_push (λ (s : Symbol). s.name) all.earlier _ in
    ap (λ ns. all.notes ++ ns) (repeated-new k names d rest (sym c.is_taken.ensures ∙ c.if-is_taken.false))
    ∙ ap (λ ns. all.notes ++ repeated k ns rest) (sym named)
