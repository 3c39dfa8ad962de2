-- Types, values and elements of SET symbols (HLASM Language Reference SC26-4940, "SET symbols").
use Rattle.std.specs.Prelude.{◌==◌, ◌||◌, ℕ, false, [], Option, Some, None, nat_lt, pos, if◌then◌else◌}
use Rattle.hl_base.specs.declared.set.SetKind.{SetKind}
use Rattle.hl_base.specs.declared.set.SetKind.TheVariants as kind
use Rattle.hl_base.specs.declared.set.SetValue.{SetValue}
use Rattle.hl_base.specs.declared.set.SetValue.TheVariants as value

-- the type of a symbol that holds a value
abbrev pub kind_of : SetValue → SetKind
kind_of (value.A number) = kind.A
kind_of (value.B bit) = kind.B
kind_of (value.C text) = kind.C

-- what a symbol holds where nothing was set: 0, 0 or the empty text
abbrev pub unset : SetKind → SetValue
unset kind.A = value.A (pos 0)
unset kind.B = value.B false
unset kind.C = value.C []

-- where the value of an element is held, without a subscript at 0; nowhere for elements 0 and above 4,096
abbrev pub place : Option ℕ → Option ℕ
place None = Some 0
place (Some element) = if (element == 0) || nat_lt 4096 element then None else Some element
