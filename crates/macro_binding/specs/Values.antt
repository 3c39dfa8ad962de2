-- What variable symbols are worth in a call: parameters, and &SYSLIST, with their subscripts (HLASM Language Reference
-- SC26-4940, "Sublists in operands", "Multilevel sublists", "&SYSLIST system variable symbol").
use Rattle.std.specs.Prelude.{ℕ, zero, suc, List, [], ◌∷◌, ℤ, pos, negsuc, codes, find, nat_le, nat_lt, slice_index_or, option_map, Option, Some, None, if◌then◌else◌}
use Rattle.std.specs.Str.{bytes_eq}
use Rattle.operand_list.specs.SplitSublist.{elements_of}
use Rattle.macro_binding.specs.declared.value.Worth.{Worth}
use Rattle.macro_binding.specs.declared.value.Worth.TheVariants.{Text, OutOfRange}
use Rattle.macro_binding.specs.Bindings.{Binding, Bound}

-- the place of an element, from 0, by its subscript: elements are numbered from 1 to 4,096
abbrev pub place_of : ℤ → Option ℕ
place_of (pos zero) = None
place_of (pos (suc n)) = if nat_lt n 4096 then Some n else None
place_of (negsuc n) = None

-- the element at a place of a value: past the last one of a sublist it is empty; what is no sublist is its own first element
abbrev pub element_in : Option (List (List ℕ)) → (value : List ℕ) → ℕ → List ℕ
element_in None value zero = value
element_in None value (suc n) = []
element_in (Some elements) value n = slice_index_or elements n []

abbrev pub element : List ℕ → ℕ → List ℕ
element value n = element_in (elements_of value) value n

-- a value, where there is one, with these subscripts: the first names an element of it, the next one an element of that
abbrev pub subscripted_at : Option (List ℕ) → List ℤ → Worth
subscripted_at None subscripts = OutOfRange
subscripted_at (Some value) [] = Text value
subscripted_at (Some value) (n ∷ rest) = subscripted_at (option_map (element value) (place_of n)) rest

abbrev pub subscripted : List ℕ → List ℤ → Worth
subscripted value subscripts = subscripted_at (Some value) subscripts

-- the name entry of a call has number 0, and positional operands are numbered from 1; past the last one they are empty
abbrev pub operand : Binding → ℕ → List ℕ
operand binding zero = binding.name_entry
operand binding (suc n) = slice_index_or binding.positionals n []

-- the number of an operand by its subscript: up to 4,096
abbrev pub number_of : ℤ → Option ℕ
number_of (pos n) = if nat_le n 4096 then Some n else None
number_of (negsuc n) = None

-- &SYSLIST with these subscripts, of which there is one at least
abbrev pub listed : Binding → List ℤ → Worth
listed binding [] = OutOfRange
listed binding (n ∷ rest) = subscripted_at (option_map (operand binding) (number_of n)) rest

-- the value of a parameter, where it is one
abbrev pub of_parameter : Option Bound → List ℤ → Option Worth
of_parameter None subscripts = None
of_parameter (Some p) subscripts = Some (subscripted p.value subscripts)

-- the parameter of a name
abbrev pub bound_of : List Bound → List ℕ → Option Bound
bound_of parameters name = find (λ p. bytes_eq name p.name) parameters

-- what a variable symbol is worth in a call, where it is a parameter or &SYSLIST
abbrev pub value_of : Binding → (name : List ℕ) → List ℤ → Option Worth
value_of binding name subscripts =
    if bytes_eq name (codes "SYSLIST") then Some (listed binding subscripts) else of_parameter (bound_of binding.parameters name) subscripts
