-- How many symbols there are behind a definition.
use Rattle.std.proofs.Common.{◌≡◌, ◌+◌, Bool, true, false, cond, nat_lt, [], ◌∷◌, ◌++◌, length, arith, length-append}
use Rattle.std.proofs.lemmas.Bool.Decides.{nat_tests}
use Rattle.ordinary_symbols.specs.Table.{Table, Entry, name_of}
use Rattle.symbol_definitions.specs.Definitions.{with_entry, is_new}

-- there are more of them exactly where the name was free
pub new_by_count : (entry : Entry) (table : Table) → is_new table (name_of entry) ≡ nat_lt (length table) (length (with_entry entry table))
new_by_count entry table = by (is_new table (name_of entry))
  where
    by : (b : Bool) → b ≡ nat_lt (length table) (length (cond b (table ++ entry ∷ []) table))
    by true = grind (arith, nat_tests, length-append table (entry ∷ []))
    by false = grind (arith, nat_tests)
