-- Which system variables a list of statements names (HLASM Language Reference SC26-4940, "System variable symbols").
use Rattle.std.specs.Prelude.{ℕ, ◌==◌, ◌||◌, Bool, true, false, List, [], ◌∷◌, codes, take_while, Option, Some, None, if◌then◌else◌}
use Rattle.std.specs.Str.{bytes_eq}
use Rattle.hl_base.specs.Symbols.{is_symbol_character}
use Rattle.hlasm_statements.specs.declared.statement.Statement.{Statement}
use Rattle.macro_binding.specs.Prototypes.{name_of}
use Rattle.statement_listing.specs.Listings.{Listed, is_plain}
use Rattle.macro_library.specs.declared.variables.SystemVariables.{SystemVariables}
use Rattle.macro_library.specs.Extents.{behind}

-- none of them
abbrev pub none_named : SystemVariables
none_named = record { sysndx = false; sysect = false; syslist = false; sysmac = false; sysnest = false; sysparm = false }

-- those of two
abbrev pub joined : SystemVariables → SystemVariables → SystemVariables
joined a b = record {
  sysndx = a.sysndx || b.sysndx;
  sysect = a.sysect || b.sysect;
  syslist = a.syslist || b.syslist;
  sysmac = a.sysmac || b.sysmac;
  sysnest = a.sysnest || b.sysnest;
  sysparm = a.sysparm || b.sysparm;
}

-- the one that has this name
abbrev pub with_name : Option (List ℕ) → SystemVariables
with_name None = none_named
with_name (Some name) = record {
  sysndx = bytes_eq name (codes "SYSNDX");
  sysect = bytes_eq name (codes "SYSECT");
  syslist = bytes_eq name (codes "SYSLIST");
  sysmac = bytes_eq name (codes "SYSMAC");
  sysnest = bytes_eq name (codes "SYSNEST");
  sysparm = bytes_eq name (codes "SYSPARM");
}

-- the one that is named by the letters and digits at the front of a text, in either case of letters
abbrev pub named_first : List ℕ → SystemVariables
named_first text = with_name (name_of (take_while is_symbol_character text))

-- those that are named behind an ampersand in a text, of which the first character may stand behind one itself; the second of
-- two ampersands begins no variable symbol, since both are one character
abbrev pub named_from : List ℕ → (after : Bool) → SystemVariables
named_from [] after = none_named
named_from (c ∷ rest) true = if c == 38 then named_from rest false else joined (named_first (c ∷ rest)) (named_from rest false)
named_from (c ∷ rest) false = named_from rest (c == 38)

abbrev pub named_in : List ℕ → SystemVariables
named_in text = named_from text false

-- those that a statement names in its fields
abbrev pub named_by : Statement → SystemVariables
named_by statement =
    if is_plain statement.shape
    then joined (named_in statement.label) (joined (named_in statement.op) (named_in statement.operands))
    else none_named

-- those that statements name which stand in no inner definition, where so many are begun before them
abbrev pub variables_from : (begun : ℕ) → List Listed → SystemVariables
variables_from begun [] = none_named
variables_from begun (one ∷ rest) =
    joined (if begun == 0 then named_by one.statement else none_named) (variables_from (behind begun one) rest)

abbrev pub variables_of : List Listed → SystemVariables
variables_of lines = variables_from 0 lines
