-- Each name of a statement begins at a character of its field.
use Rattle.std.proofs.Common.{◌≡◌, ◌∙◌, ◌+◌, ◌-◌, ◌<◌, ◌≤◌, ◌==◌, ℕ, zero, suc, Bool, true, false, cond, List, [], ◌∷◌, ◌++◌, length, take, drop, Option, Some, None, refl, sym, ap, subst, arith}
use Rattle.std.specs.List.{All, AllByRecursion, onto_first}
use Rattle.std.proofs.lemmas.List.{length-take, length-drop}
use Rattle.std.proofs.lemmas.List.Elements.{All-from_recursion}
use Rattle.hlasm_statements.specs.Statements.{field, places}
use Rattle.hlasm_statements.specs.declared.statement.Field.{Field}
use Rattle.hlasm_statements.specs.declared.statement.Field.TheVariants.{Label, Op, Operands}
use Rattle.hlasm_statements.specs.declared.statement.Statement.{Statement}
use Rattle.operand_list.specs.Split.{is_separator, operands_of, parts}
use Rattle.statement_names.specs.Constants.{amount_count, apart, begins_length, behind_amount, behind_factor, behind_letters, behind_type, constant_symbols, symbols, type_count}
use Rattle.statement_names.specs.Names.{name_at, named, name_of, names, names_from, stands}
use Rattle.statement_names.specs.Operands.{copied_name, each_operand, field_names, has_ampersand, instruction_symbols, member_name, operand_names, operands_names, read_names, variables}
use Rattle.statement_names.specs.Statements.{label_name, label_names, names_in, operation_names}
use Rattle.statement_names.specs.declared.name.NameKind.TheVariants as kind
use Rattle.statement_names.specs.declared.name.WrittenName.{WrittenName}
use Rattle.statement_names.specs.declared.uses.OperandUse.{OperandUse}
use Rattle.statement_names.specs.declared.uses.OperandUse.TheVariants.{Remarks, Unread, Expressions, Constants, Instruction, Branches, Member}
use Rattle.text_lists.specs.Lists.{IsWhole}

-- a name stands in a field of so many characters
record Stands (one : Field) (n : ℕ) (name : WrittenName) : Type 0 where
  in_field : name.field ≡ one
  within : name.at < n

abbrev AllStand : Field → ℕ → List WrittenName → Type 0
AllStand one n names = AllByRecursion (Stands one n) names

each-append : {X : Type 0} (P : X → Type 0) (xs ys : List X) → AllByRecursion P xs → AllByRecursion P ys → AllByRecursion P (xs ++ ys)
each-append P [] ys all more = more
each-append P (x ∷ xs) ys all more = (all.0, each-append P xs ys all.1 more)

-- a text that stands behind so many characters ends with the field
abbrev Fits : (at : ℕ) → List ℕ → (n : ℕ) → Type 0
Fits at text n = 0 < length text → at + length text ≤ n

stands_in : (one : Field) (at n : ℕ) (found : _) → at < n → AllStand one n (stands one at found)
stands_in one at n None within = tt
stands_in one at n (Some found) within = (record { in_field = refl; within = within }, tt)

from_in : (s : _) (one : Field) (at n : ℕ) (before text : List ℕ) → (0 < length text → at + (length before + length text) ≤ n) → AllStand one n (names_from s one at before text)
from_in s one at n before [] fits = tt
from_in s one at n before (c ∷ behind) fits =
    let all : at + (length before + suc (length behind)) ≤ n = fits (omega arith) in
    each-append (Stands one n) (stands one (at + length before) (name_at s before c behind)) (names_from s one at (c ∷ before) behind)
    (stands_in one (at + length before) n (name_at s before c behind) (omega arith))
    (from_in s one at n (c ∷ before) behind (λ some. omega arith))

names_fit : (s : _) (one : Field) (at n : ℕ) (text : List ℕ) → Fits at text n → AllStand one n (names s one at text)
unfolding names
names_fit s one at n text fits = from_in s one at n [] text (λ some. let all = fits some in omega (arith, all))

fits_take : (at n k : ℕ) (text : List ℕ) → Fits at text n → Fits at (take k text) n
fits_take at n k text fits some =
    let short = length-take k text in
    let all : at + length text ≤ n = fits (omega (arith, short)) in
    omega (arith, short, all)

fits_drop : (at n k : ℕ) (text : List ℕ) → Fits at text n → Fits (at + k) (drop k text) n
fits_drop at n k text fits some =
    let short = length-drop k text in
    let all : at + length text ≤ n = fits (omega (arith, short)) in
    omega (arith, short, all)

symbols_fit : (at n : ℕ) (text : List ℕ) → Fits at text n → AllStand Operands n (symbols at text)
symbols_fit at n text fits = names_fit _ Operands at n text fits

apart_fit : (count at n : ℕ) (text : List ℕ) → Fits at text n → AllStand Operands n (apart count at text)
apart_fit count at n text fits =
    each-append (Stands Operands n) (symbols at (take count text)) (symbols (at + count) (drop count text))
    (symbols_fit at n (take count text) (fits_take at n count text fits))
    (symbols_fit (at + count) n (drop count text) (fits_drop at n count text fits))

either_fit : (b : Bool) (n : ℕ) (some others : List WrittenName) → AllStand Operands n some → AllStand Operands n others → AllStand Operands n (cond b some others)
either_fit true n some others first second = first
either_fit false n some others first second = second

type_fit : (at n : ℕ) (text : List ℕ) → Fits at text n → AllStand Operands n (behind_type at text)
type_fit at n text fits =
    either_fit (begins_length text) n (apart (amount_count (drop 1 text)) (at + 1) (drop 1 text)) (symbols at text)
    (apart_fit (amount_count (drop 1 text)) (at + 1) n (drop 1 text) (fits_drop at n 1 text fits)) (symbols_fit at n text fits)

letters_fit : (letters at n : ℕ) (text : List ℕ) → Fits at text n → AllStand Operands n (behind_letters letters at text)
letters_fit letters at n text fits =
    either_fit (letters == 0) n (symbols at text) (behind_type (at + letters) (drop letters text)) (symbols_fit at n text fits)
    (type_fit (at + letters) n (drop letters text) (fits_drop at n letters text fits))

constant_fit : (at n : ℕ) (text : List ℕ) → Fits at text n → AllStand Operands n (constant_symbols at text)
unfolding constant_symbols
constant_fit at n text fits =
    let count = amount_count text in
    each-append (Stands Operands n) (symbols at (take count text)) (behind_factor (at + count) (drop count text))
    (symbols_fit at n (take count text) (fits_take at n count text fits))
    (letters_fit (type_count (drop count text)) (at + count) n (drop count text) (fits_drop at n count text fits))

instruction_fit : (at n : ℕ) (text : List ℕ) → Fits at text n → AllStand Operands n (instruction_symbols at text)
instruction_fit at n [] fits = tt
instruction_fit at n (c ∷ rest) fits =
    either_fit (c == 61) n (constant_symbols (at + 1) rest) (symbols at (c ∷ rest))
    (constant_fit (at + 1) n rest (fits_drop at n 1 (c ∷ rest) fits)) (symbols_fit at n (c ∷ rest) fits)

operand_fit : (used : OperandUse) (at n : ℕ) (text : List ℕ) → Fits at text n → AllStand Operands n (operand_names used at text)
operand_fit Remarks at n text fits = tt
operand_fit Unread at n text fits = tt
operand_fit Expressions at n text fits = symbols_fit at n text fits
operand_fit Constants at n text fits = constant_fit at n text fits
operand_fit Instruction at n text fits = instruction_fit at n text fits
operand_fit Branches at n text fits = names_fit _ Operands at n text fits
operand_fit Member at n text fits = tt

-- how many characters some operands take, with one more behind each
abbrev spread : List (List ℕ) → ℕ
spread [] = 0
spread (text ∷ texts) = (length text + 1) + spread texts

each_fit : (used : OperandUse) (at n : ℕ) (texts : List (List ℕ)) → at + spread texts ≤ n + 1 → AllStand Operands n (each_operand used at texts)
each_fit used at n [] fits = tt
each_fit used at n (text ∷ texts) fits =
    each-append (Stands Operands n) (operand_names used at text) (each_operand used (at + length text + 1) texts)
    (operand_fit used at n text (λ some. omega arith)) (each_fit used (at + length text + 1) n texts (omega arith))

longer : (c : ℕ) (texts : List (List ℕ)) (n : ℕ) → spread texts ≡ suc n → spread (onto_first c texts) ≡ suc (suc n)
longer c [] n is = absurd (omega arith)
longer c (text ∷ texts) n is = omega arith

parted : (b : Bool) (c : ℕ) (texts : List (List ℕ)) (n : ℕ) → spread texts ≡ suc n → spread (cond b ([] ∷ texts) (onto_first c texts)) ≡ suc (suc n)
parted true c texts n is = omega arith
parted false c texts n is = longer c texts n is

spread-parts : (level : ℕ) (before text : List ℕ) → spread (parts level before text) ≡ suc (length text)
spread-parts level before [] = refl
spread-parts level before (c ∷ rest) = parted (is_separator level c before) c (parts level (c ∷ before) rest) (length rest) (spread-parts level (c ∷ before) rest)

spread-operands : (text : List ℕ) → spread (operands_of text) ≤ length text + 1
spread-operands [] = omega arith
spread-operands (c ∷ rest) = let whole = spread-parts 0 [] (c ∷ rest) in omega (arith, whole)

operands_fit : (used : OperandUse) (text : List ℕ) → AllStand Operands (length text) (operands_names used text)
unfolding operands_names
operands_fit used text = let all = spread-operands text in each_fit used 0 (length text) (operands_of text) (omega (arith, all))

variables_fit : (one : Field) (text : List ℕ) → AllStand one (length text) (variables one text)
variables_fit one text = names_fit _ one 0 (length text) text (λ some. omega arith)

read_fit : (used : OperandUse) (text : List ℕ) → AllStand Operands (length text) (read_names used text)
unfolding read_names
read_fit used text = either_fit (has_ampersand text) (length text) (variables Operands text) (operands_names used text) (variables_fit Operands text) (operands_fit used text)

member_fit : (text : List ℕ) → AllStand Operands (length text) (member_name text)
member_fit [] = tt
member_fit (c ∷ rest) = stands_in Operands 0 (suc (length rest)) (named kind.Member (suc (length rest)) (name_of (c ∷ rest))) (omega arith)

copied_fit : (text : List ℕ) → AllStand Operands (length text) (copied_name text)
unfolding copied_name
copied_fit text = either_fit (has_ampersand text) (length text) (variables Operands text) (member_name text) (variables_fit Operands text) (member_fit text)

field_fit : (used : OperandUse) (text : List ℕ) → AllStand Operands (length text) (field_names used text)
unfolding field_names
field_fit Remarks text = tt
field_fit Unread text = variables_fit Operands text
field_fit Expressions text = read_fit Expressions text
field_fit Constants text = read_fit Constants text
field_fit Instruction text = read_fit Instruction text
field_fit Branches text = operands_fit Branches text
field_fit Member text = copied_fit text

both_fit : (one : Field) (b : Bool) (n : ℕ) (some others : List WrittenName) → AllStand one n some → AllStand one n others → AllStand one n (cond b some others)
both_fit one true n some others first second = first
both_fit one false n some others first second = second

label_name_fit : (text : List ℕ) → AllStand Label (length text) (label_name text)
label_name_fit [] = tt
label_name_fit (c ∷ rest) =
    both_fit Label (c == 46) (suc (length rest)) (stands Label 0 (named kind.SequenceLabel (length rest + 1) (name_of rest))) (stands Label 0 (named kind.Label (suc (length rest)) (name_of (c ∷ rest))))
    (stands_in Label 0 (suc (length rest)) (named kind.SequenceLabel (length rest + 1) (name_of rest)) (omega arith))
    (stands_in Label 0 (suc (length rest)) (named kind.Label (suc (length rest)) (name_of (c ∷ rest))) (omega arith))

label_fit : (text : List ℕ) → AllStand Label (length text) (label_names text)
label_fit text = both_fit Label (has_ampersand text) (length text) (variables Label text) (label_name text) (variables_fit Label text) (label_name_fit text)

operation_name_fit : (text : List ℕ) → AllStand Op (length text) (stands Op 0 (named kind.Operation (length text) (name_of text)))
operation_name_fit [] = tt
operation_name_fit (c ∷ rest) = stands_in Op 0 (suc (length rest)) (named kind.Operation (suc (length rest)) (name_of (c ∷ rest))) (omega arith)

operation_fit : (text : List ℕ) → AllStand Op (length text) (operation_names text)
operation_fit text =
    both_fit Op (has_ampersand text) (length text) (variables Op text) (stands Op 0 (named kind.Operation (length text) (name_of text))) (variables_fit Op text) (operation_name_fit text)

-- each has a place in the text
abbrev HasPlace : Statement → WrittenName → Type 0
HasPlace statement name = name.at < length (places statement name.field)

has_place : (statement : Statement) (one : Field) (name : WrittenName) → IsWhole statement → Stands one (length (field statement one)) name → HasPlace statement name
has_place statement one name whole there =
    let at_field : name.at < length (places statement one) = let same = whole one in let inside = there.within in omega (arith, same, inside) in
    subst (λ (f : Field). name.at < length (places statement f)) (sym there.in_field) at_field

have_places : (statement : Statement) (one : Field) (names : List WrittenName) → IsWhole statement → AllStand one (length (field statement one)) names → AllByRecursion (HasPlace statement) names
have_places statement one [] whole there = tt
have_places statement one (name ∷ names) whole there = (has_place statement one name whole there.0, have_places statement one names whole there.1)

each_has_place : (used : OperandUse) (statement : Statement) → IsWhole statement → AllByRecursion (HasPlace statement) (names_in used statement)
unfolding names_in
each_has_place used statement whole =
    each-append (HasPlace statement) (label_names statement.label ++ operation_names statement.op) (field_names used statement.operands)
    (each-append (HasPlace statement) (label_names statement.label) (operation_names statement.op)
    (have_places statement Label (label_names statement.label) whole (label_fit statement.label))
    (have_places statement Op (operation_names statement.op) whole (operation_fit statement.op)))
    (have_places statement Operands (field_names used statement.operands) whole (field_fit used statement.operands))

-- the names of a statement of a text have places
pub names_have_places : (used : OperandUse) (statement : Statement) → IsWhole statement → All (λ name. name.at < length (places statement name.field)) (names_in used statement)
names_have_places used statement whole = All-from_recursion (HasPlace statement) (names_in used statement) (each_has_place used statement whole)
