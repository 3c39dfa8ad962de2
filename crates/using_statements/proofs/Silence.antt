-- Of what is in order nothing is said.
use Rattle.std.proofs.Common.{◌≡◌, ◌≢◌, ◌∙◌, ℕ, ℤ, Bool, true, false, cond, not, ◌&&◌, List, [], ◌∷◌, ◌++◌, map, refl, sym, ap, if◌then◌else◌}
use Rattle.std.specs.List.{filter, list_any}
use Rattle.std.specs.Option.{is_none}
use Rattle.std.specs.Prelude.{Option, Some, None, Result, Ok, Err, pos, negsuc}
use Rattle.std.proofs.lemmas.Bool.{false≢true}
use Rattle.expression_grammar.specs.Trees.{Tree, Ordinary, Signed, Pair, Paren}
use Rattle.expression_grammar.specs.declared.tree.Reference.{Reference}
use Rattle.expression_grammar.specs.declared.tree.Reference.TheVariants.{Value as ValueOf, Of}
use Rattle.expression_notes.proofs.Turns.{undefined-append}
use Rattle.expression_notes.specs.declared.values.Wanted.{Wanted}
use Rattle.expression_notes.specs.declared.values.Wanted.TheVariants.{Value, Number}
use Rattle.expression_notes.specs.Expressions.{listed, said_of, said_of_section, said_of_value, undefined}
use Rattle.note_rows.specs.declared.row.Row.{Row}
use Rattle.note_rows.specs.declared.row.Row.TheVariants.{UndefinedSymbol, UnusedRegister}
use Rattle.ordinary_symbols.specs.declared.fault.EvalFault.{EvalFault}
use Rattle.ordinary_symbols.specs.declared.known.Known.{Known}
use Rattle.ordinary_symbols.specs.Known.{Knowledge, names}
use Rattle.ordinary_symbols.specs.Sections.{is_absolute, left_over}
use Rattle.ordinary_symbols.specs.Values.{and_then, joined, number, number_of_symbol, placed, signed, value}
use Rattle.trace_values.specs.declared.section.Reloc.{Reloc}
use Rattle.trace_values.specs.declared.section.SectionId.{SectionId}
use Rattle.using_ranges.specs.Ranges.{Held, is_unused}
use Rattle.using_statements.specs.declared.values.Span.{Span}
use Rattle.using_statements.specs.Behind.{behind_begun, behind_dropped, behind_drop, behind_read_drop, behind_read_using, behind_using}
use Rattle.using_statements.specs.Faults.{has_fault, is_fault}
use Rattle.using_statements.specs.Said.{bad_if, bad_once, each_once, is_bad_pair, is_no_register, said_of_bounds, said_of_drop, said_of_dropped, said_of_end, said_of_end_in, said_of_read_drop, said_of_read_using, said_of_register, said_of_registers, said_of_unused, said_of_using}
use Rattle.using_statements.specs.Values.{may_end, register_at, register_of, registers_of, span_before, span_by, span_of}
use Rattle.using_statements.specs.Wholes.{with_others}
use Rattle.using_statements.specs.Written.{Bounds, UsingOperands, DropOperands, Everything, Named, drop_of, using_of}

-- ---- each symbol of an expression that has a value is known

-- what comes first has a value too
first_of : {A B : Type 0} (first : Result A EvalFault) (next : A → Result B EvalFault) (b : B) → and_then first next ≡ Ok b →
    (a : A) × (first ≡ Ok a) × (next a ≡ Ok b)
first_of (Ok a) next b is = (a, refl, is)
first_of (Err fault) next b is = absurd cc

symbol-known : (known : Knowledge) (asked : Reference) (name : List ℕ) (n : ℤ) → number_of_symbol asked name (known name) ≡ Ok n →
    undefined known (name ∷ []) ≡ []
symbol-known known asked name n is = by (known name) refl is
  where
    none : (r : Reference) → number_of_symbol r name None ≡ Ok n → ⊥
    none ValueOf h = cc
    none (Of attribute) h = cc

    by : (found : Option Known) → known name ≡ found → number_of_symbol asked name found ≡ Ok n → undefined known (name ∷ []) ≡ []
    by None found_is h = absurd (none asked h)
    by (Some one) found_is h = ap (λ o. map (λ (s : List ℕ). UndefinedSymbol s) (cond (is_none o) (name ∷ []) [])) found_is

names-known : (known : Knowledge) (here : Option Reloc) (tree : Tree) (n : ℤ) → number known here tree ≡ Ok n → undefined known (names tree) ≡ []
names-known known here (Ordinary asked symbol) n is = symbol-known known asked symbol.name n is
names-known known here (Signed sign operand) n is =
    let first = first_of (number known here operand) (signed sign) n is in
    names-known known here operand first.0 first.1
names-known known here (Pair operator left right) n is =
    let absolute = is_absolute known here left && is_absolute known here right in
    let first = first_of (number known here left) (λ a. and_then (number known here right) (λ b. joined operator absolute a b)) n is in
    let second = first_of (number known here right) (λ b. joined operator absolute first.0 b) n first.2 in
    undefined-append known (names left) (names right)
    ∙ ap (λ rows. rows ++ undefined known (names right)) (names-known known here left first.0 first.1)
    ∙ names-known known here right second.0 second.1
names-known known here (Paren inner) n is = names-known known here inner n is
names-known known here other n is = refl

value-known : (known : Knowledge) (here : Option Reloc) (tree : Tree) (found : Reloc) → value known here tree ≡ Ok found → undefined known (names tree) ≡ []
value-known known here tree found is =
    let first = first_of (number known here tree) (λ n. placed known here tree n (left_over known here tree None)) found is in
    names-known known here tree first.0 first.1

-- of an expression with a value of the kind that is wanted
said-none : (known : Knowledge) (here : Option Reloc) (purpose : Wanted) (tree : Tree) (found : Reloc) → value known here tree ≡ Ok found →
    said_of_section purpose found.section ≡ None → said_of known here purpose tree ≡ []
said-none known here purpose tree found is fits =
    ap (λ v. listed (said_of_value purpose v) ++ undefined known (names tree)) is
    ∙ ap (λ row. listed row ++ undefined known (names tree)) fits
    ∙ value-known known here tree found is

-- ---- registers

found-none : (known : Knowledge) (here : Option Reloc) (tree : Tree) (section : Option SectionId) (z : ℤ) (r : ℕ) →
    value known here tree ≡ Ok (record { section = section; value = z }) → register_of (Ok (record { section = section; value = z })) ≡ Some r →
    said_of known here Number tree ++ bad_if (is_no_register (value known here tree)) ≡ []
found-none known here tree (Some section) z r is register = absurd cc
found-none known here tree None z r is register =
    ap (λ rows. rows ++ bad_if (is_no_register (value known here tree)))
    (said-none known here Number tree (record { section = None; value = z }) is refl)
    ∙ ap (λ v. bad_if (is_no_register v)) is
    ∙ ap (λ o. bad_if (is_none o)) register

register-none : (known : Knowledge) (here : Option Reloc) (tree : Tree) (r : ℕ) → register_at known here tree ≡ Some r → said_of_register known here tree ≡ []
unfolding register_at said_of_register
register-none known here tree r is = by (value known here tree) refl is
  where
    by : (found : Result Reloc EvalFault) → value known here tree ≡ found → register_of found ≡ Some r →
        said_of known here Number tree ++ bad_if (is_no_register (value known here tree)) ≡ []
    by (Ok found) found_is register = found-none known here tree found.section found.value r found_is register
    by (Err fault) found_is register = absurd cc

registers-none : (known : Knowledge) (here : Option Reloc) (trees : List Tree) (registers : List ℕ) → registers_of known here trees ≡ Some registers →
    said_of_registers known here trees ≡ []
registers-none known here [] registers is = refl
registers-none known here (tree ∷ trees) registers is =
    by (register_at known here tree) (registers_of known here trees) refl is (λ rs rest. registers-none known here trees rs rest)
  where
    by : (one : Option ℕ) (others : Option (List ℕ)) → register_at known here tree ≡ one →
        with_others one others ≡ Some registers → ((rs : List ℕ) → others ≡ Some rs → said_of_registers known here trees ≡ []) →
        said_of_registers known here (tree ∷ trees) ≡ []
    by None others first all none = absurd cc
    by (Some r) None first all none = absurd cc
    by (Some r) (Some rs) first all none =
        ap (λ rows. rows ++ said_of_registers known here trees) (register-none known here tree r first) ∙ none rs refl

-- ---- bounds

pair-none : (base end : Reloc) (b : Bool) (span : Span) → may_end base end ≡ b →
    (if b then Some (record { base = base; end = Some end.value }) else None) ≡ Some span → bad_if (not (may_end base end)) ≡ []
pair-none base end true span may is = ap (λ b. bad_if (not b)) may
pair-none base end false span may is = absurd cc

end-none : (known : Knowledge) (here : Option Reloc) (start end : Tree) (base : Reloc) (span : Span) → value known here start ≡ Ok base →
    span_before base (value known here end) ≡ Some span → said_of_end known here start end ≡ []
unfolding said_of_end
end-none known here start end base span base_is is = by (value known here end) refl is
  where
    by : (found : Result Reloc EvalFault) → value known here end ≡ found → span_before base found ≡ Some span →
        said_of known here Value end ++ bad_if (is_bad_pair (value known here start) (value known here end)) ≡ []
    by (Ok found) found_is span_is =
        ap (λ rows. rows ++ bad_if (is_bad_pair (value known here start) (value known here end))) (said-none known here Value end found found_is refl)
        ∙ ap (λ v. bad_if (is_bad_pair v (value known here end))) base_is
        ∙ ap (λ v. bad_if (is_bad_pair (Ok base) v)) found_is
        ∙ pair-none base found (may_end base found) span refl span_is
    by (Err fault) found_is span_is = absurd cc

end_in-none : (known : Knowledge) (here : Option Reloc) (start : Tree) (end : Option Tree) (base : Reloc) (span : Span) → value known here start ≡ Ok base →
    span_by known here (Ok base) end ≡ Some span → said_of_end_in known here start end ≡ []
end_in-none known here start None base span base_is is = refl
end_in-none known here start (Some end) base span base_is is = end-none known here start end base span base_is is

bounds-none : (known : Knowledge) (here : Option Reloc) (bounds : Bounds) (span : Span) → span_of known here bounds ≡ Some span → said_of_bounds known here bounds ≡ []
unfolding said_of_bounds
bounds-none known here bounds span is = by (value known here bounds.start) refl is
  where
    by : (found : Result Reloc EvalFault) → value known here bounds.start ≡ found → span_by known here found bounds.end ≡ Some span →
        said_of known here Value bounds.start ++ said_of_end_in known here bounds.start bounds.end ≡ []
    by (Ok base) found_is span_is =
        ap (λ rows. rows ++ said_of_end_in known here bounds.start bounds.end) (said-none known here Value bounds.start base found_is refl)
        ∙ end_in-none known here bounds.start bounds.end base span found_is span_is
    by (Err fault) found_is span_is = absurd cc

-- ---- USING

read_using-kept : (known : Knowledge) (here : Option Reloc) (held : Held) (using : UsingOperands) (span : Option Span) (registers : Option (List ℕ)) →
    span_of known here using.bounds ≡ span → registers_of known here using.registers ≡ registers →
    said_of_read_using known here (Some using) ≢ [] → behind_begun held span registers ≡ held
read_using-kept known here held using None registers span_is registers_are faulty = refl
read_using-kept known here held using (Some span) None span_is registers_are faulty = refl
read_using-kept known here held using (Some span) (Some registers) span_is registers_are faulty =
    absurd (faulty (
    ap (λ rows. bad_once (rows ++ said_of_registers known here using.registers)) (bounds-none known here using.bounds span span_is)
    ∙ ap bad_once (registers-none known here using.registers registers registers_are)))

using_in-kept : (known : Knowledge) (here : Option Reloc) (held : Held) (using : Option UsingOperands) → said_of_read_using known here using ≢ [] →
    behind_read_using known here held using ≡ held
using_in-kept known here held None faulty = refl
using_in-kept known here held (Some using) faulty =
    read_using-kept known here held using (span_of known here using.bounds) (registers_of known here using.registers) refl refl faulty

pub using-kept : (known : Knowledge) (here : Option Reloc) (held : Held) (field : List ℕ) → said_of_using known here field ≢ [] →
    behind_using known here held field ≡ held
unfolding said_of_using behind_using
using-kept known here held field faulty = using_in-kept known here held (using_of field) faulty

-- ---- DROP

unused-no_fault : (registers : List ℕ) → has_fault (map (λ register. UnusedRegister register) registers) ≡ false
unused-no_fault [] = refl
unused-no_fault (register ∷ registers) = unused-no_fault registers

named-kept : (known : Knowledge) (here : Option Reloc) (held : Held) (trees : List Tree) (registers : Option (List ℕ)) → registers_of known here trees ≡ registers →
    has_fault (bad_once (said_of_registers known here trees) ++ said_of_dropped held registers) ≡ true → behind_dropped held registers ≡ held
named-kept known here held trees None registers_are faulty = refl
named-kept known here held trees (Some registers) registers_are faulty =
    absurd (false≢true (
    sym (ap (λ rows. has_fault (bad_once rows ++ said_of_unused held registers)) (registers-none known here trees registers registers_are)
    ∙ unused-no_fault (filter (is_unused held) (each_once registers)))
    ∙ faulty))

drop_in-kept : (known : Knowledge) (here : Option Reloc) (held : Held) (drop : Option DropOperands) →
    has_fault (said_of_read_drop known here held drop) ≡ true → behind_read_drop known here held drop ≡ held
drop_in-kept known here held None faulty = refl
drop_in-kept known here held (Some Everything) faulty = absurd (false≢true faulty)
drop_in-kept known here held (Some (Named trees)) faulty = named-kept known here held trees (registers_of known here trees) refl faulty

pub drop-kept : (known : Knowledge) (here : Option Reloc) (held : Held) (field : List ℕ) → has_fault (said_of_drop known here held field) ≡ true →
    behind_drop known here held field ≡ held
unfolding said_of_drop behind_drop
drop-kept known here held field faulty = drop_in-kept known here held (drop_of field) faulty
