-- The ranges of all registers as a list, and registers that are below 16.
use Rattle.std.proofs.Common.{◌≡◌, ◌∙◌, ℕ, ◌+◌, ◌<◌, ℤ, Bool, true, false, ◌==◌, ◌||◌, List, [], ◌∷◌, length, get_or, refl, sym, ap, subst, arith, if◌then◌else◌}
use Rattle.std.specs.Prelude.{Option, Some, None, Result, Ok, Err, pos, negsuc, nat_lt}
use Rattle.std.specs.List.{All}
use Rattle.std.proofs.lemmas.Bool.{ltb-true}
use Rattle.std.proofs.lemmas.List.Elements.{All-nil, All-cons}
use Rattle.std.proofs.lemmas.List.FromFn.{fill_by_all}
use Rattle.expression_grammar.specs.Trees.{Tree}
use Rattle.ordinary_symbols.specs.declared.fault.EvalFault.{EvalFault}
use Rattle.ordinary_symbols.specs.Known.{Knowledge}
use Rattle.ordinary_symbols.specs.Values.{value}
use Rattle.trace_values.specs.declared.section.Reloc.{Reloc}
use Rattle.trace_values.specs.declared.section.SectionId.{SectionId}
use Rattle.using_ranges.specs.declared.range.Range.{Range}
use Rattle.using_ranges.specs.Ranges.{Held, IsUsing, IsDropped, range_at, named_range, last_place, is_among}
use Rattle.using_statements.specs.Held.{each_register, no_ranges, used, dropped}
use Rattle.using_statements.specs.Values.{register_at, register_in, register_of, registers_of}
use Rattle.using_statements.specs.Wholes.{with_others}

-- sixteen registers with these ranges
pub is_each : (held : Held) (range : ℕ → Option Range) → length held ≡ 16 → ((r : ℕ) → r < 16 → range_at held r ≡ range r) → held ≡ each_register range
unfolding each_register
is_each held range all same = fill_by_all range held 16 None all same

pub is_none : (held : Held) → length held ≡ 16 → ((r : ℕ) → range_at held r ≡ None) → held ≡ no_ranges
is_none held all none = is_each held (λ register. None) all (λ r h. none r)

pub is_used : (old new : Held) (section : Option SectionId) (start : ℤ) (end : Option ℤ) (registers : List ℕ) →
    IsUsing old new section start end registers → length new ≡ 16 → new ≡ used old section start end registers
is_used old new section start end registers is all =
    is_each new (λ register. named_range section start end (last_place 0 registers register) (range_at old register)) all is.ranges

pub is_dropped : (old new : Held) (registers : List ℕ) → IsDropped old new registers → length new ≡ 16 → new ≡ dropped old registers
is_dropped old new registers is all =
    is_each new (λ register. if is_among register registers then None else range_at old register) all is.ranges

-- ---- registers that are below 16

in_small : (n r : ℕ) (b : Bool) → nat_lt n 16 ≡ b → (if b then Some n else None) ≡ Some r → r < 16
in_small n r true less is = let P : ℕ → Type 0 = λ k. k < 16 in let same : n ≡ r = cc in subst P same (ltb-true n 16 less)
in_small n r false less is = absurd cc

number-small : (z : ℤ) (r : ℕ) → register_in None z ≡ Some r → r < 16
number-small (pos n) r is = in_small n r (nat_lt n 16) refl is
number-small (negsuc n) r is = absurd cc

section-small : (section : Option SectionId) (z : ℤ) (r : ℕ) → register_in section z ≡ Some r → r < 16
section-small None z r is = number-small z r is
section-small (Some section) z r is = absurd cc

value-small : (found : Result Reloc EvalFault) (r : ℕ) → register_of found ≡ Some r → r < 16
value-small (Ok found) r is = section-small found.section found.value r is
value-small (Err fault) r is = absurd cc

register-small : (known : Knowledge) (here : Option Reloc) (tree : Tree) (r : ℕ) → register_at known here tree ≡ Some r → r < 16
unfolding register_at
register-small known here tree r is = value-small (value known here tree) r is

pub registers-small : (known : Knowledge) (here : Option Reloc) (trees : List Tree) (registers : List ℕ) →
    registers_of known here trees ≡ Some registers → All (λ r. r < 16) registers
registers-small known here [] registers is =
    let same : [] ≡ registers = cc in subst (λ (rs : List ℕ). All (λ r. r < 16) rs) same (All-nil (λ r. r < 16))
registers-small known here (tree ∷ trees) registers is =
    by (register_at known here tree) (registers_of known here trees) refl is (λ rs rest. registers-small known here trees rs rest)
  where
    by : (one : Option ℕ) (others : Option (List ℕ)) → register_at known here tree ≡ one →
        with_others one others ≡ Some registers → ((rs : List ℕ) → others ≡ Some rs → All (λ r. r < 16) rs) → All (λ r. r < 16) registers
    by None others first all small = absurd cc
    by (Some r) None first all small = absurd cc
    by (Some r) (Some rs) first all small =
        let same : r ∷ rs ≡ registers = cc in
        subst (λ (ns : List ℕ). All (λ n. n < 16) ns) same
        (All-cons (λ n. n < 16) r rs (register-small known here tree r first) (small rs refl))
