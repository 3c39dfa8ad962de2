-- Occurrences that are added one list behind the other.
use Rattle.std.proofs.Common.{◌≡◌, ◌∙◌, ◌==◌, ◌<◌, ℕ, zero, suc, Bool, true, false, cond, List, [], ◌∷◌, ◌++◌, length, Result, Ok, Err, refl, sym, ap, subst, arith}
use Rattle.std.specs.Prelude.{IfOk, OnOk}
use Rattle.std.specs.List.{fold}
use Rattle.std.proofs.lemmas.Bool.Decides.{nat_tests}
use Rattle.std.proofs.lemmas.List.Sums.{fold-append}
use Rattle.hl_base.specs.declared.place.PathId.{PathId}
use Rattle.hlasm_statements.specs.Statements.{field, places}
use Rattle.hlasm_statements.specs.declared.statement.Field.TheVariants.{Label}
use Rattle.hlasm_statements.specs.declared.statement.Statement.{Statement}
use Rattle.standing_occurrences.specs.Standing.{with_first}
use Rattle.statement_names.specs.declared.name.WrittenName.{WrittenName}
use Rattle.statement_occurrences.specs.Named.{occurrence_of}
use Rattle.statement_occurrences.specs.declared.naming.Naming.{Naming}
use Rattle.text_lists.specs.Lists.{IsWhole}
use Rattle.trace_values.specs.declared.occurrence.Entity.TheVariants as entity
use Rattle.trace_values.specs.declared.occurrence.Occurrence.{Occurrence}
use Rattle.trace_values.specs.declared.occurrence.Role.TheVariants as role
use Rattle.program_occurrences.specs.Labels.{label_name, label_of}

-- what follows of an answer without a fault
pub on_ok : {V E : Type 0} (r : Result V E) (P Q : Type 0) → (P → Q) → OnOk r P → OnOk r Q
on_ok (Ok v) P Q f h = f h
on_ok (Err e) P Q f h = tt

pub if_ok : {V E : Type 0} (r : Result V E) (P Q : V → Type 0) → ((v : V) → P v → Q v) → IfOk r P → IfOk r Q
if_ok (Ok v) P Q f h = f v h
if_ok (Err e) P Q f h = tt

-- one list and another one behind it
pub pushed-both : (k0 k1 k2 one other : List Occurrence) → k1 ≡ fold with_first k0 one → k2 ≡ fold with_first k1 other → k2 ≡ fold with_first k0 (one ++ other)
pushed-both k0 k1 k2 one other first second =
    second ∙ ap (λ (k : List Occurrence). fold with_first k other) first ∙ sym (fold-append with_first k0 one other)

-- four lists
pub pushed-four : (k0 k1 k2 k3 k4 a b c d : List Occurrence) → k1 ≡ fold with_first k0 a → k2 ≡ fold with_first k1 b → k3 ≡ fold with_first k2 c → k4 ≡ fold with_first k3 d →
    k4 ≡ fold with_first k0 (a ++ (b ++ (c ++ d)))
pushed-four k0 k1 k2 k3 k4 a b c d first second third fourth =
    pushed-both k0 k1 k4 a (b ++ (c ++ d)) first (pushed-both k1 k2 k4 b (c ++ d) second (pushed-both k2 k3 k4 c d third fourth))

-- ---- labels

-- a label that has a character has a place
pub label-has-place : (statement : Statement) (name : List ℕ) (label : WrittenName) → IsWhole statement → label ≡ label_name statement name → ((label.count ≡ 0) → ⊥) →
    label.at < length (places statement label.field)
label-has-place statement name label whole is some =
    let same : length (places statement Label) ≡ length (field statement Label) = whole Label in
    let count : label.count ≡ length statement.label = ap (λ (l : WrittenName). l.count) is in
    let inside : 0 < length (places statement Label) = omega arith in
    subst (λ (l : WrittenName). l.at < length (places statement l.field)) (sym is) inside

abbrev plain : List ℕ → Naming
plain name = record { entity = entity.Symbol name; defines = true; role = role.Plain }

nonzero : (n : ℕ) → ((n ≡ 0) → ⊥) → n == 0 ≡ false
nonzero n some = grind (arith, nat_tests)

-- a label that has a character is the one occurrence
pub label-pushed : (path : PathId) (statement : Statement) (name : List ℕ) (label : WrittenName) (copied : List ℕ) (one : Occurrence) (kept new : List Occurrence) →
    label ≡ label_name statement name → ((label.count ≡ 0) → ⊥) → copied ≡ name → one ≡ occurrence_of path statement label (plain copied) → new ≡ with_first kept one →
    new ≡ fold with_first kept (label_of path statement name)
label-pushed path statement name label copied one kept new is some copies made pushes =
    let count : label.count ≡ length statement.label = ap (λ (l : WrittenName). l.count) is in
    let none : length statement.label == 0 ≡ false = nonzero (length statement.label) (λ zero. some (count ∙ zero)) in
    pushes
    ∙ ap (with_first kept)
    (made
    ∙ ap (λ (l : WrittenName). occurrence_of path statement l (plain copied)) is
    ∙ ap (λ (n : List ℕ). occurrence_of path statement (label_name statement name) (plain n)) copies)
    ∙ sym (ap (λ (b : Bool). fold with_first kept (cond b [] (occurrence_of path statement (label_name statement name) (plain name) ∷ []))) none)
