-- How types, values and symbols are stored as sums and tuples, so that tables are values that can be told apart. This
-- project.
use Rattle.std.specs.Prelude.{◌≡◌, ◌⊎◌, ◌==◌, ℕ, ℤ, Bool, List, if◌then◌else◌, refl}
use Rattle.std.proofs.Common.{inl, inr}
use Rattle.std.specs.Ordering.{nat_cmp}
use Rattle.std.specs.FinMap as map
use Rattle.std.specs.Coded.{Coded, code_by, coded×, coded⊎, coded_ℕ, coded_ℤ, coded_bool, coded_list}
use Rattle.hl_base.specs.declared.set.SetKind.{SetKind}
use Rattle.hl_base.specs.declared.set.SetKind.TheVariants as kind
use Rattle.hl_base.specs.declared.set.SetValue.{SetValue}
use Rattle.hl_base.specs.declared.set.SetValue.TheVariants as value
use Rattle.set_symbols.specs.Table.{Table, Symbol}

abbrev number_of : SetKind → ℕ
number_of kind.A = 0
number_of kind.B = 1
number_of kind.C = 2

abbrev of_number : ℕ → SetKind
of_number n = if n == 0 then kind.A else (if n == 1 then kind.B else kind.C)

pub of_number-number_of : (k : SetKind) → of_number (number_of k) ≡ k
of_number-number_of kind.A = refl
of_number-number_of kind.B = refl
of_number-number_of kind.C = refl

abbrev pub kind_code : Coded SetKind
kind_code = code_by ℕ coded_ℕ number_of of_number of_number-number_of

abbrev parts_of : SetValue → ℤ ⊎ (Bool ⊎ List ℕ)
parts_of (value.A number) = inl number
parts_of (value.B bit) = inr (inl bit)
parts_of (value.C text) = inr (inr text)

abbrev of_bit : Bool ⊎ List ℕ → SetValue
of_bit (inl bit) = value.B bit
of_bit (inr text) = value.C text

abbrev of_parts : ℤ ⊎ (Bool ⊎ List ℕ) → SetValue
of_parts (inl number) = value.A number
of_parts (inr rest) = of_bit rest

pub of_parts-parts_of : (v : SetValue) → of_parts (parts_of v) ≡ v
of_parts-parts_of (value.A number) = refl
of_parts-parts_of (value.B bit) = refl
of_parts-parts_of (value.C text) = refl

abbrev pub value_code : Coded SetValue
value_code = code_by (ℤ ⊎ (Bool ⊎ List ℕ)) (coded⊎ coded_ℤ (coded⊎ coded_bool (coded_list coded_ℕ))) parts_of of_parts of_parts-parts_of

abbrev pub symbol_code : Coded Symbol
symbol_code =
    code_by
    (List ℕ × ((SetKind × Bool) × map.FinMap nat_cmp SetValue))
    (coded× (coded_list coded_ℕ) (coded× (coded× kind_code coded_bool) (map.code coded_ℕ value_code)))
    (λ s. (s.name, ((s.declared.kind, s.declared.global), s.values)))
    (λ t. record { name = t.0; declared = record { kind = t.1.0.0; global = t.1.0.1 }; values = t.1.1 })
    (λ _. refl)

abbrev pub table_code : Coded Table
table_code = coded_list symbol_code
