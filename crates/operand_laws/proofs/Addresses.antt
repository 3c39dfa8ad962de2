-- How far operands without literal can be read.
use Rattle.std.proofs.Common.{◌≡◌, ◌∙◌, ◌↔◌, ℕ, ◌+◌, ◌==◌, Bool, true, false, List, [], ◌∷◌, ◌++◌, length, take, drop, refl, sym, ap, subst, arith, append_assoc}
use Rattle.std.specs.Prelude.{Option, Some, None, Result, Ok, Err, if◌then◌else◌}
use Rattle.std.proofs.lemmas.Bool.{false≢true, eqb-true, eq-eqb}
use Rattle.std.proofs.lemmas.List.{length-take-le}
use Rattle.std.proofs.Math.Seq.{take-length}
use Rattle.expression_grammar.specs.declared.character.Grammar.TheVariants.{Ordinary}
use Rattle.expression_grammar.specs.Readings.{read}
use Rattle.expression_grammar.specs.Spelling.{Spells, IsAt, IsViable, most_parts}
use Rattle.expression_grammar.specs.Trees.{Tree}
use Rattle.expression_grammar.proofs.Finds.{take-all}
use Rattle.constant_grammar.specs.Elements.{tree_in}
use Rattle.instruction_table.specs.declared.encodings.Kind.{Kind}
use Rattle.machine_operands.specs.declared.form.AddressForm.{AddressForm}
use Rattle.machine_operands.specs.declared.form.OperandForm.{OperandForm}
use Rattle.machine_operands.specs.declared.form.OperandForm.TheVariants as form
use Rattle.machine_operands.specs.Forms.{form_of, needs_parts}
use Rattle.literal_operands.specs.Literals as literals
use Rattle.machine_operands.specs.Operands as operands
use Rattle.machine_operands.specs.Operands.{Written, Operand, value_by, plain_value, bare as bare_written, with_parts, opened, behind_by, behind_expression, address_by, plain_address, plain, begins_literal, literal_if, takes_literal, operand_by, operand}
use Rattle.machine_operands.specs.Parts.{Parts, parts}
use Rattle.operand_laws.specs.Right.{IsOrdinary, IsEnclosed, IsAddress, bare, enclosed, IsRight, IsBegun, IsLongest}
use Rattle.operand_laws.proofs.Ends.{opens, nothing_behind, viable, viable_front, same_ends, stops_at}
use Rattle.operand_laws.proofs.Inner.{FindsParts, parts_finds, some_enclosed, crossed}
use Rattle.operand_laws.proofs.Lists.{rejoin}
use Rattle.operand_laws.proofs.Longest.{lifted, longest_once}
use Rattle.operand_laws.proofs.Readers.{read_ok, read_err, tree_some, tree_there}

-- what is read of an operand says whether it is right
abbrev pub Finds : (List ℕ → Type 0) → List ℕ → Written → Type 0
Finds Right text (operands.value tree) = Right text
Finds Right text (operands.address found) = Right text
Finds Right text operands.literal_target = ⊥
Finds Right text operands.no_literal = ⊥
Finds Right text (operands.wrong n) = IsLongest Right text n

-- Values and targets.

begun-value : (text : List ℕ) → IsViable (Spells Ordinary) most_parts text → IsBegun IsOrdinary text
begun-value text v = record { rest = v.rest; right = record { tree = v.tree; expression = v.expression } }

value-by : (text : List ℕ) (found : Result Tree ℕ) → read Ordinary text ≡ found → Finds IsOrdinary text (value_by found)
value-by text (Ok tree) e = read_ok text tree e
value-by text (Err at) e =
    let a = read_err text at e in
    record {
      within = a.within;
      begun = begun-value (take at text) a.viable;
      longest = λ more h le b. a.longest more h le (record { rest = b.rest; tree = b.right.tree; expression = b.right.expression });
      none = λ o. a.none o.tree o.expression;
    }

value-finds : (text : List ℕ) → Finds IsOrdinary text (plain_value text)
unfolding plain_value
value-finds text = value-by text (read Ordinary text) refl

-- Addresses.

address-into : (form : AddressForm) (d : List ℕ) → IsOrdinary d → (w : List ℕ) → IsEnclosed form w → IsAddress form ((d ++ 40 ∷ []) ++ w)
address-into form d o w right = enclosed d w (append_assoc d (40 ∷ []) w) o right

address-out : (form : AddressForm) (d w : List ℕ) → IsOrdinary d → IsAddress form (d ++ 40 ∷ w) → IsEnclosed form w
address-out form d w o (bare needs other) = absurd (nothing_behind d o 40 (opens refl) w (viable (d ++ 40 ∷ w) other))
address-out form d w o (enclosed other rest is p right) =
    let s = same_ends d other 40 40 w rest o p (opens refl) (opens refl) is in subst (IsEnclosed form) (sym s.rest) right

length-open : (d : List ℕ) → length (d ++ 40 ∷ []) ≡ length d + 1
length-open [] = refl
length-open (x ∷ d) = let r = length-open d in omega arith

address-longest : (form : AddressForm) (d z : List ℕ) (m : ℕ) → IsOrdinary d → IsLongest (IsEnclosed form) z m → IsLongest (IsAddress form) (d ++ 40 ∷ z) ((length d + 1) + m)
address-longest form d z m o inner =
    let all = lifted (IsEnclosed form) (IsAddress form) (d ++ 40 ∷ []) z m (address-into form d o)
    (λ w right. address-out form d w o (subst (IsAddress form) (append_assoc d (40 ∷ []) w) right)) inner in
    subst (λ (n : ℕ). IsLongest (IsAddress form) (d ++ 40 ∷ z) (n + m)) (length-open d)
    (subst (λ (l : List ℕ). IsLongest (IsAddress form) l (length (d ++ 40 ∷ []) + m)) (append_assoc d (40 ∷ []) z) all)

-- a text that some expression begins with begins an address
begun-address : (form : AddressForm) (text : List ℕ) → IsViable (Spells Ordinary) most_parts text → IsBegun (IsAddress form) text
begun-address form text v =
    let inner = some_enclosed form in
    record {
      rest = v.rest ++ 40 ∷ inner.rest;
      right = enclosed (text ++ v.rest) inner.rest (sym (append_assoc text v.rest (40 ∷ inner.rest))) (record { tree = v.tree; expression = v.expression }) inner.right;
    }

-- a displacement that is all of a text
bare-finds : (form : AddressForm) (displacement : operands.Displacement) (text : List ℕ) → IsOrdinary text → (b : Bool) → needs_parts form ≡ b →
    Finds (IsAddress form) text (if b then operands.wrong (length text) else operands.address (record { displacement = displacement; first = None; base = None }))
bare-finds form displacement text o true e = record {
  within = omega arith;
  begun = subst (IsBegun (IsAddress form)) (sym (take-length text)) (begun-address form text (viable text o));
  longest = λ more h le b. absurd (omega arith);
  none = λ right. never right;
}
  where
    never : IsAddress form text → ⊥
    never (bare needs other) = false≢true (sym needs ∙ e)
    never (enclosed d rest is p right) = nothing_behind d p 40 (opens refl) rest (subst (IsViable (Spells Ordinary) most_parts) is (viable text o))
bare-finds form displacement text o false e = bare e o

-- a text that is no expression, behind whose front no parenthesis opens
stuck-address : (form : AddressForm) (text : List ℕ) (at : ℕ) → IsAt (Spells Ordinary) most_parts text at →
    ((z : List ℕ) → drop at text ≡ 40 ∷ z → IsOrdinary (take at text) → ⊥) → IsLongest (IsAddress form) text at
stuck-address form text at a no_open = record {
  within = a.within;
  begun = begun-address form (take at text) a.viable;
  longest = λ more h le b. longer more (a.longest more h le) b.rest b.right;
  none = λ right. whole right;
}
  where
    drop-all : (d rest : List ℕ) → drop (length d) (d ++ rest) ≡ rest
    drop-all [] rest = refl
    drop-all (x ∷ d) rest = drop-all d rest

    never : (d z : List ℕ) → text ≡ d ++ 40 ∷ z → IsOrdinary d → ⊥
    never d z is o =
        let there : at ≡ length d = stops_at text at a.viable a.longest d 40 z is o (opens refl) in
        let front : take at text ≡ d = ap (λ n. take n text) there ∙ ap (take (length d)) is ∙ take-all d (40 ∷ z) in
        let behind : drop at text ≡ 40 ∷ z = ap (λ n. drop n text) there ∙ ap (drop (length d)) is ∙ drop-all d (40 ∷ z) in
        no_open z behind (subst IsOrdinary (sym front) o)

    whole : IsAddress form text → ⊥
    whole (bare needs o) = a.none o.tree o.expression
    whole (enclosed d rest is o right) = never d rest is o

    longer : (more : ℕ) → (IsViable (Spells Ordinary) most_parts (take more text) → ⊥) → (r : List ℕ) → IsAddress form (take more text ++ r) → ⊥
    longer more far r (bare needs o) = far (viable_front (take more text) r (viable (take more text ++ r) o))
    longer more far r (enclosed d rest is o right) = crossed text more far r d rest 40 o (λ z there. never d z there o) is

-- what stands in parentheses
parts-by : (form : AddressForm) (displacement : operands.Displacement) (text : List ℕ) (at : ℕ) (rest : List ℕ) → length (take at text) ≡ at →
    text ≡ take at text ++ 40 ∷ rest → IsOrdinary (take at text) → (found : Result Parts ℕ) → FindsParts form (at + 1) rest found →
    Finds (IsAddress form) text (with_parts displacement found)
parts-by form displacement text at rest size is o (Ok found) f = enclosed (take at text) rest is o f
parts-by form displacement text at rest size is o (Err n) f =
    let m = f.more in
    let sum = f.sum in
    subst (IsLongest (IsAddress form) text) (sym sum)
    (subst (λ (l : List ℕ). IsLongest (IsAddress form) l ((at + 1) + m)) (sym is)
    (subst (λ (n : ℕ). IsLongest (IsAddress form) (take at text ++ 40 ∷ rest) ((n + 1) + m)) size
    (address-longest form (take at text) rest m o f.longest)))

opened-finds : (form : AddressForm) (text : List ℕ) (at : ℕ) (rest : List ℕ) → IsAt (Spells Ordinary) most_parts text at → drop at text ≡ 40 ∷ rest →
    (found : Option Tree) → tree_in (read Ordinary (take at text)) ≡ found → Finds (IsAddress form) text (opened found form at rest)
opened-finds form text at rest a is None none = stuck-address form text at a (λ z there o. tree_some (take at text) o none)
opened-finds form text at rest a is (Some tree) some =
    parts-by form (operands.expression tree) text at rest (length-take-le at text a.within) (rejoin text at ∙ ap (λ l. take at text ++ l) is)
    (tree_there (take at text) tree some) (parts form (at + 1) rest) (parts_finds form (at + 1) rest)

open-at : (form : AddressForm) (text : List ℕ) (at c : ℕ) (rest : List ℕ) → IsAt (Spells Ordinary) most_parts text at → drop at text ≡ c ∷ rest →
    (b : Bool) → (c == 40) ≡ b →
    Finds (IsAddress form) text (if b then opened (tree_in (read Ordinary (take at text))) form at rest else operands.wrong at)
open-at form text at c rest a is true e =
    opened-finds form text at rest a (is ∙ ap (λ y. y ∷ rest) (eqb-true c 40 e)) (tree_in (read Ordinary (take at text))) refl
open-at form text at c rest a is false e =
    stuck-address form text at a (λ z there o.
    let same : c ≡ 40 = let head : c ∷ rest ≡ 40 ∷ z = sym is ∙ there in cc in false≢true (sym e ∙ eq-eqb c 40 same))

behind-finds : (form : AddressForm) (text : List ℕ) (at : ℕ) → IsAt (Spells Ordinary) most_parts text at → (left : List ℕ) → drop at text ≡ left →
    Finds (IsAddress form) text (behind_by form text at left)
behind-finds form text at a [] is = stuck-address form text at a (λ z there o. let never : [] ≡ 40 ∷ z = sym is ∙ there in cc)
behind-finds form text at a (c ∷ rest) is = open-at form text at c rest a is (c == 40) refl

address-by : (form : AddressForm) (text : List ℕ) (found : Result Tree ℕ) → read Ordinary text ≡ found → Finds (IsAddress form) text (address_by form text found)
unfolding behind_expression
address-by form text (Ok tree) e = bare-finds form (operands.expression tree) text (read_ok text tree e) (needs_parts form) refl
address-by form text (Err at) e = behind-finds form text at (read_err text at e) (drop at text) refl

address-finds : (form : AddressForm) (text : List ℕ) → Finds (IsAddress form) text (plain_address form text)
unfolding plain_address
address-finds form text = address-by form text (read Ordinary text) refl

-- All operands.

plain-finds : (form : OperandForm) (text : List ℕ) → Finds (IsRight form) text (plain form text)
plain-finds form.Value text = value-finds text
plain-finds form.Target text = value-finds text
plain-finds (form.Address form) text = address-finds form text

finds-wrong : (Right : List ℕ → Type 0) (text : List ℕ) (count : ℕ) (found : Written) → Finds Right text found → (found ≡ operands.wrong count) ↔ IsLongest Right text count
finds-wrong Right text count (operands.value tree) f = (λ e. absurd (let x = e in cc), λ l. absurd (l.none f))
finds-wrong Right text count (operands.address found) f = (λ e. absurd (let x = e in cc), λ l. absurd (l.none f))
finds-wrong Right text count operands.literal_target f = absurd f
finds-wrong Right text count operands.no_literal f = absurd f
finds-wrong Right text count (operands.wrong n) f = (
  λ e. let same : n ≡ count = cc in subst (IsLongest Right text) same f,
  λ l. ap operands.wrong (longest_once Right text n count f l),
)

-- an operand that does not begin with an equals sign has no literal
no-literal : (takes : Bool) (text : List ℕ) → begins_literal text ≡ false → literal_if takes text ≡ None
no-literal false text e = refl
no-literal true [] e = refl
no-literal true (c ∷ rest) e = ap (λ b. if b then Some (literals.literal rest) else None) e

pub wrong-longest : (k : Kind) (targets : Bool) (text : List ℕ) (count : ℕ) → begins_literal text ≡ false →
    ((operand k targets text).written ≡ operands.wrong count) ↔ IsLongest (IsRight (form_of k)) text count
unfolding operand
wrong-longest k targets text count e =
    let form = form_of k in
    let none = no-literal (takes_literal form targets) text e in
    let written : (operand_by form text (literal_if (takes_literal form targets) text)).written ≡ plain form text =
    ap (λ found. (operand_by form text found).written) none in
    let w = finds-wrong (IsRight form) text count (plain form text) (plain-finds form text) in
    (λ is. w.0 (sym written ∙ is), λ l. written ∙ w.1 l)
