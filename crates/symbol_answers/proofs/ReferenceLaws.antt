-- What references are.
use Rattle.std.proofs.Common.{◌≡◌, ◌↔◌, ℕ, suc, zero, ◌<◌, Bool, true, false, cond, ◌&&◌, ◌||◌, not, List, [], ◌∷◌, length, get_or, filter, find, Contains, All, Option, Some, None, refl, sym, ◌∙◌, arith}
use Rattle.std.proofs.lemmas.List.Elements.{filter_passes}
use Rattle.hl_base.specs.declared.edit.Position.{Position}
use Rattle.document_store.specs.Store.{Store}
use Rattle.lsp_messages.specs.declared.outgoing.SymbolAnswer.TheVariants.{Nothing}
use Rattle.trace_values.specs.declared.occurrence.Entity.{Entity}
use Rattle.trace_values.specs.declared.occurrence.Occurrence.{Occurrence}
use Rattle.trace_values.specs.declared.section.Section.{Section}
use Rattle.trace_values.specs.declared.symbol_row.SymbolRow.{SymbolRow}
use Rattle.symbol_answers.specs.Answers.{hover, hover_told}
use Rattle.symbol_answers.specs.Entities.{is_same_entity}
use Rattle.symbol_answers.specs.Questions.{asked, is_definition, is_reference, definition_of, references_of}

-- ---- lists that pass a test

first_half : (a b : Bool) → (a && b) ≡ true → a ≡ true
first_half true b e = refl
first_half false b e = e

All-weaker : {X : Type 0} (p q : X → Bool) → ((x : X) → p x ≡ true → q x ≡ true) → (xs : List X) → All (λ x. p x ≡ true) xs → All (λ x. q x ≡ true) xs
All-weaker p q weaker xs all = λ k d within. weaker (get_or xs k d) (all k d within)

-- each reference names what is asked
pub references_named : (occurrences : List Occurrence) (entity : Entity) (declarations : Bool) → All (λ one. is_same_entity one.entity entity ≡ true) (references_of occurrences entity declarations)
references_named occurrences entity declarations =
    All-weaker (is_reference entity declarations) (λ one. is_same_entity one.entity entity)
    (λ one passes. first_half (is_same_entity one.entity entity) (declarations || not one.defines) passes)
    (references_of occurrences entity declarations) (filter_passes (is_reference entity declarations) occurrences)

-- what is found first is among what passes a wider test
behind_first : {X : Type 0} (x y : X) (ys : List X) → Contains ys x → Contains (y ∷ ys) x
behind_first x y ys at = (suc at.0, (let within : at.0 < length ys = at.1 in let h : suc at.0 < suc (length ys) = omega arith in h), at.2)

found_passes : {X : Type 0} (p q : X → Bool) → ((x : X) → p x ≡ true → q x ≡ true) → (xs : List X) (found : X) → find p xs ≡ Some found → Contains (filter q xs) found
found_passes p q wider [] found is = cc
found_passes {X} p q wider (x ∷ xs) found is = by (p x) (q x) refl refl (found_passes p q wider xs found) is where
  by : (b c : Bool) → p x ≡ b → q x ≡ c → (find p xs ≡ Some found → Contains (filter q xs) found)
      → cond b (Some x) (find p xs) ≡ Some found → Contains (cond c (x ∷ filter q xs) (filter q xs)) found
  by true true e f rest at = let same : x ≡ found = cc in (zero, (let h : 0 < suc (length (filter q xs)) = omega arith in h), same)
  by true false e f rest at = let never : true ≡ false = sym (wider x e) ∙ f in cc
  by false true e f rest at = behind_first found x (filter q xs) (rest at)
  by false false e f rest at = rest at

definition_refers : (entity : Entity) (one : Occurrence) → is_definition entity one ≡ true → is_reference entity true one ≡ true
definition_refers entity one is = by one.defines (is_same_entity one.entity entity) is where
  by : (b c : Bool) → (b && c) ≡ true → (c && (true || not b)) ≡ true
  by true c e = by_half c e where
    by_half : (d : Bool) → d ≡ true → (d && true) ≡ true
    by_half true f = refl
    by_half false f = f
  by false c e = cc

-- where something is defined is one of its references
pub definition_is_reference : (occurrences : List Occurrence) (entity : Entity) (first : Occurrence) → definition_of occurrences entity ≡ Some first → Contains (references_of occurrences entity true) first
definition_is_reference occurrences entity first is =
    found_passes (is_definition entity) (is_reference entity true) (definition_refers entity) occurrences first is

-- ---- answers

nothing_told : (rows : List SymbolRow) (sections : List Section) (store : Store) (found : Option Occurrence) → (hover_told rows sections store found ≡ Nothing) ↔ (found ≡ None)
nothing_told rows sections store None = (λ e. refl, λ e. refl)
nothing_told rows sections store (Some one) = (λ e. cc, λ e. cc)

-- nothing is said exactly where no occurrence is meant
pub nothing_is_said : (rows : List SymbolRow) (sections : List Section) (store : Store) (occurrences : List Occurrence) (path : ℕ) (at : Position)
    → (hover rows sections store occurrences path at ≡ Nothing) ↔ (asked store occurrences path at ≡ None)
unfolding hover
nothing_is_said rows sections store occurrences path at = nothing_told rows sections store (asked store occurrences path at)
