-- What is said one after the other of bounds and registers.
use Rattle.std.proofs.Common.{◌≡◌, ◌∙◌, ℕ, ◌+◌, ◌<◌, length, take, get_or, Bool, true, false, List, [], ◌∷◌, ◌++◌, ◌&&◌, ◌||◌, not, map, refl, sym, ap, subst, append-nil}
use Rattle.std.specs.List.{filter, list_any}
use Rattle.std.specs.Prelude.{Option, Some, None, Result, Ok, Err, OnOk, IfOk}
use Rattle.std.proofs.lemmas.Grind.{flat_map-append}
use Rattle.std.proofs.lemmas.List.{map_more}
use Rattle.std.proofs.lemmas.List.Folds.{list_any-append}
use Rattle.constant_grammar.specs.declared.tree.Formula.{Formula}
use Rattle.constant_grammar.specs.Views.{tree_in}
use Rattle.using_statements.specs.Views.{trees_of}
use Rattle.expression_grammar.specs.Trees.{Tree}
use Rattle.expression_notes.proofs.Turns.{in_turn, said_after}
use Rattle.expression_notes.specs.declared.values.Wanted.TheVariants.{Value, Number}
use Rattle.expression_notes.specs.Expressions.{said_of}
use Rattle.expression_notes.specs.Repeating.{once_behind}
use Rattle.note_rows.specs.declared.row.Row.{Row}
use Rattle.note_rows.specs.declared.row.Row.TheVariants.{UnusedRegister}
use Rattle.ordinary_symbols.specs.Known.{Knowledge}
use Rattle.ordinary_symbols.specs.Values.{value}
use Rattle.trace_values.specs.declared.section.Reloc.{Reloc}
use Rattle.using_statements.proofs.Bad.{any-behind, any-said_of, left-append, left-behind, left-nil, once-behind, once-behind_others, once-clean}
use Rattle.using_ranges.specs.Ranges.{Held, is_unused}
use Rattle.using_statements.specs.Said.{bad_if, bad_left, bad_once, each_once, is_bad, is_bad_pair, is_no_register, said_of_bounds, said_of_dropped, said_of_end, said_of_end_in, said_of_read_using, said_of_register, said_of_registers}
use Rattle.using_statements.specs.Written.{Bounds, UsingOperands}

-- ---- of a register

pub left-register : (known : Knowledge) (here : Option Reloc) (said : Bool) (tree : Tree) →
    bad_left said (said_of_register known here tree) ≡ said_of known here Number tree ++ bad_if (is_no_register (value known here tree) && not said)
unfolding said_of_register
left-register known here said tree =
    left-behind said (said_of known here Number tree) (is_no_register (value known here tree)) (any-said_of known here Number tree)

pub any-register : (known : Knowledge) (here : Option Reloc) (tree : Tree) → list_any is_bad (said_of_register known here tree) ≡ is_no_register (value known here tree)
unfolding said_of_register
any-register known here tree =
    any-behind (said_of known here Number tree) (is_no_register (value known here tree)) (any-said_of known here Number tree)

said_of_registers-push : (known : Knowledge) (here : Option Reloc) (xs : List Tree) (x : Tree) →
    said_of_registers known here (xs ++ x ∷ []) ≡ said_of_registers known here xs ++ said_of_register known here x
said_of_registers-push known here xs x =
    flat_map-append (said_of_register known here) xs (x ∷ [])
    ∙ ap (λ rows. said_of_registers known here xs ++ rows) (append-nil (said_of_register known here x))

grown : (known : Knowledge) (here : Option Reloc) (formulas : List Formula) (i : ℕ) (one : Formula) → i < length formulas → one ≡ get_or formulas i one →
    said_of_registers known here (trees_of (take (i + 1) formulas))
    ≡ said_of_registers known here (trees_of (take i formulas)) ++ said_of_register known here (tree_in one)
grown known here formulas i one h at =
    ap (said_of_registers known here) (map_more tree_in formulas i one h ∙ ap (λ (f : Formula). trees_of (take i formulas) ++ tree_in f ∷ []) (sym at))
    ∙ said_of_registers-push known here (trees_of (take i formulas)) (tree_in one)

-- one more register
pub registers_more : (known : Knowledge) (here : Option Reloc) (said flag : Bool) (old middle new : List Row) (formulas : List Formula) (i : ℕ) (one : Formula) →
    middle ≡ old ++ once_behind old (bad_left said (said_of_registers known here (trees_of (take i formulas)))) →
    flag ≡ (said || list_any is_bad (said_of_registers known here (trees_of (take i formulas)))) →
    new ≡ middle ++ once_behind middle (bad_left flag (said_of_register known here (tree_in one))) →
    i < length formulas → one ≡ get_or formulas i one →
    new ≡ old ++ once_behind old (bad_left said (said_of_registers known here (trees_of (take (i + 1) formulas))))
registers_more known here said flag old middle new formulas i one first is second h at =
    let front = said_of_registers known here (trees_of (take i formulas)) in
    let last = said_of_register known here (tree_in one) in
    in_turn old middle new (bad_left said front) (bad_left flag last) first second
    ∙ ap (λ b. old ++ once_behind old (bad_left said front ++ bad_left b last)) is
    ∙ ap (λ rows. old ++ once_behind old rows) (sym (left-append said front last))
    ∙ ap (λ rows. old ++ once_behind old (bad_left said rows)) (sym (grown known here formulas i one h at))

or-assoc : (a b c : Bool) → ((a || b) || c) ≡ (a || (b || c))
or-assoc true b c = refl
or-assoc false b c = refl

-- whether it is said of one more that the statement cannot be read
pub registers_flag : (known : Knowledge) (here : Option Reloc) (said flag now : Bool) (formulas : List Formula) (i : ℕ) (one : Formula) →
    flag ≡ (said || list_any is_bad (said_of_registers known here (trees_of (take i formulas)))) →
    now ≡ (flag || list_any is_bad (said_of_register known here (tree_in one))) →
    i < length formulas → one ≡ get_or formulas i one →
    now ≡ (said || list_any is_bad (said_of_registers known here (trees_of (take (i + 1) formulas))))
registers_flag known here said flag now formulas i one is then h at =
    let front = said_of_registers known here (trees_of (take i formulas)) in
    let last = said_of_register known here (tree_in one) in
    then
    ∙ ap (λ b. b || list_any is_bad last) is
    ∙ or-assoc said (list_any is_bad front) (list_any is_bad last)
    ∙ ap (λ b. said || b) (sym (list_any-append is_bad front last))
    ∙ ap (λ rows. said || list_any is_bad rows) (sym (grown known here formulas i one h at))

-- ---- of bounds

once-end : (known : Knowledge) (here : Option Reloc) (start end : Tree) → bad_once (said_of_end known here start end) ≡ said_of_end known here start end
unfolding said_of_end
once-end known here start end =
    once-behind (said_of known here Value end) (is_bad_pair (value known here start) (value known here end)) (any-said_of known here Value end)

once-end_in : (known : Knowledge) (here : Option Reloc) (start : Tree) (end : Option Tree) →
    bad_once (said_of_end_in known here start end) ≡ said_of_end_in known here start end
once-end_in known here start None = refl
once-end_in known here start (Some end) = once-end known here start end

once-bounds : (known : Knowledge) (here : Option Reloc) (bounds : Bounds) → bad_once (said_of_bounds known here bounds) ≡ said_of_bounds known here bounds
unfolding said_of_bounds
once-bounds known here bounds =
    once-clean (said_of known here Value bounds.start) (said_of_end_in known here bounds.start bounds.end) (any-said_of known here Value bounds.start)
    ∙ ap (λ rest. said_of known here Value bounds.start ++ rest) (once-end_in known here bounds.start bounds.end)

-- of bounds, and then of registers
pub bounds_and_registers : (known : Knowledge) (here : Option Reloc) (bounds : Bounds) (rows : List Row) →
    bad_once (said_of_bounds known here bounds ++ rows) ≡ said_of_bounds known here bounds ++ bad_left (list_any is_bad (said_of_bounds known here bounds)) rows
bounds_and_registers known here bounds rows = once-behind_others (said_of_bounds known here bounds) rows (once-bounds known here bounds)

-- ---- of registers that are not in use

-- it is never left out
pub once_behind-unused : (given : List Row) (registers : List ℕ) →
    once_behind given (map (λ register. UnusedRegister register) registers) ≡ map (λ register. UnusedRegister register) registers
once_behind-unused given [] = refl
once_behind-unused given (register ∷ registers) =
    ap (λ rest. UnusedRegister register ∷ rest) (once_behind-unused (given ++ UnusedRegister register ∷ []) registers)

-- ---- calls one after the other

-- of a register, which may be none
pub register_said : {T E : Type 0} (r : Result T E) (known : Knowledge) (here : Option Reloc) (said none : Bool) (tree : Tree) (before middle after : List Row) →
    middle ≡ before ++ once_behind before (said_of known here Number tree) → none ≡ is_no_register (value known here tree) →
    OnOk r (after ≡ middle ++ once_behind middle (bad_if (none && not said))) →
    OnOk r (after ≡ before ++ once_behind before (bad_left said (said_of_register known here tree)))
register_said r known here said none tree before middle after first is second =
    subst (λ (rows : List Row). OnOk r (after ≡ before ++ once_behind before rows)) (sym (left-register known here said tree))
    (subst (λ (b : Bool). OnOk r (after ≡ before ++ once_behind before (said_of known here Number tree ++ bad_if (b && not said)))) is
    (said_after r before middle after (said_of known here Number tree) (bad_if (none && not said)) first second))

pub register_flag : {E : Type 0} (r : Result Bool E) (known : Knowledge) (here : Option Reloc) (said none : Bool) (tree : Tree) →
    none ≡ is_no_register (value known here tree) → IfOk r (λ b. b ≡ (said || none)) →
    IfOk r (λ b. b ≡ (said || list_any is_bad (said_of_register known here tree)))
register_flag r known here said none tree is second =
    subst (λ (b : Bool). IfOk r (λ flag. flag ≡ (said || b))) (is ∙ sym (any-register known here tree)) second

any-end : (known : Knowledge) (here : Option Reloc) (start end : Tree) →
    list_any is_bad (said_of_end known here start end) ≡ is_bad_pair (value known here start) (value known here end)
unfolding said_of_end
any-end known here start end =
    any-behind (said_of known here Value end) (is_bad_pair (value known here start) (value known here end)) (any-said_of known here Value end)

not-said : (b : Bool) → (b && not false) ≡ b
not-said true = refl
not-said false = refl

-- of an end, and of it and its base
pub end_said : {T E : Type 0} (r : Result T E) (known : Knowledge) (here : Option Reloc) (bad : Bool) (start end : Tree) (before middle after : List Row) →
    middle ≡ before ++ once_behind before (said_of known here Value end) → bad ≡ is_bad_pair (value known here start) (value known here end) →
    OnOk r (after ≡ middle ++ once_behind middle (bad_if (bad && not false))) →
    OnOk r (after ≡ before ++ once_behind before (said_of_end known here start end))
unfolding said_of_end
end_said r known here bad start end before middle after first is second =
    subst (λ (b : Bool). OnOk r (after ≡ before ++ once_behind before (said_of known here Value end ++ bad_if b))) (not-said bad ∙ is)
    (said_after r before middle after (said_of known here Value end) (bad_if (bad && not false)) first second)

pub end_flag : {E : Type 0} (r : Result Bool E) (known : Knowledge) (here : Option Reloc) (bad : Bool) (start end : Tree) →
    bad ≡ is_bad_pair (value known here start) (value known here end) → IfOk r (λ b. b ≡ (false || bad)) →
    IfOk r (λ b. b ≡ list_any is_bad (said_of_end known here start end))
end_flag r known here bad start end is second =
    subst (λ (b : Bool). IfOk r (λ flag. flag ≡ b)) (is ∙ sym (any-end known here start end)) second

-- of a base, and then of an end
pub bounds_said : {T E : Type 0} (r : Result T E) (known : Knowledge) (here : Option Reloc) (bounds : Bounds) (before middle after : List Row) →
    middle ≡ before ++ once_behind before (said_of known here Value bounds.start) →
    OnOk r (after ≡ middle ++ once_behind middle (said_of_end_in known here bounds.start bounds.end)) →
    OnOk r (after ≡ before ++ once_behind before (said_of_bounds known here bounds))
unfolding said_of_bounds
bounds_said r known here bounds before middle after first second =
    said_after r before middle after (said_of known here Value bounds.start) (said_of_end_in known here bounds.start bounds.end) first second

pub bounds_flag : {E : Type 0} (r : Result Bool E) (known : Knowledge) (here : Option Reloc) (bounds : Bounds) →
    IfOk r (λ b. b ≡ list_any is_bad (said_of_end_in known here bounds.start bounds.end)) →
    IfOk r (λ b. b ≡ list_any is_bad (said_of_bounds known here bounds))
unfolding said_of_bounds
bounds_flag r known here bounds second =
    subst (λ (b : Bool). IfOk r (λ flag. flag ≡ b))
    (sym (list_any-append is_bad (said_of known here Value bounds.start) (said_of_end_in known here bounds.start bounds.end)
    ∙ ap (λ b. b || list_any is_bad (said_of_end_in known here bounds.start bounds.end)) (any-said_of known here Value bounds.start)))
    second

-- of the bounds and then the registers of a USING
pub using_said : {T E : Type 0} (r : Result T E) (known : Knowledge) (here : Option Reloc) (using : UsingOperands) (bad : Bool) (before middle after : List Row) →
    middle ≡ before ++ once_behind before (said_of_bounds known here using.bounds) → bad ≡ list_any is_bad (said_of_bounds known here using.bounds) →
    OnOk r (after ≡ middle ++ once_behind middle (bad_left bad (said_of_registers known here using.registers))) →
    OnOk r (after ≡ before ++ once_behind before (said_of_read_using known here (Some using)))
using_said r known here using bad before middle after first is second =
    subst (λ (rows : List Row). OnOk r (after ≡ before ++ once_behind before rows))
    (ap (λ b. said_of_bounds known here using.bounds ++ bad_left b (said_of_registers known here using.registers)) is
    ∙ sym (bounds_and_registers known here using.bounds (said_of_registers known here using.registers)))
    (said_after r before middle after (said_of_bounds known here using.bounds) (bad_left bad (said_of_registers known here using.registers)) first second)

-- of the registers of a DROP, and then of those that are not in use
pub dropped_said : {T E : Type 0} (r : Result T E) (held : Held) (registers : Option (List ℕ)) (before middle after rows : List Row) →
    middle ≡ before ++ once_behind before rows → OnOk r (after ≡ middle ++ said_of_dropped held registers) →
    OnOk r (after ≡ before ++ once_behind before (rows ++ said_of_dropped held registers))
dropped_said r held registers before middle after rows first second =
    said_after r before middle after rows (said_of_dropped held registers) first
    (subst (λ (more : List Row). OnOk r (after ≡ middle ++ more)) (sym (never registers)) second)
  where
    never : (found : Option (List ℕ)) → once_behind middle (said_of_dropped held found) ≡ said_of_dropped held found
    never None = refl
    never (Some registers) = once_behind-unused middle (filter (is_unused held) (each_once registers))
