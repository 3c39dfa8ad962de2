-- What a statement is to a look ahead. HLASM Language Reference SC26-4940, "Lookahead", "Attribute references".
use Rattle.std.specs.Prelude.{ℕ, Bool, true, List, [], ◌∷◌, Option, Some, None, codes, encode_utf8_all, if◌then◌else◌}
use Rattle.std.specs.Option.{option_map_or}
use Rattle.std.specs.Str.{bytes_eq}
use Rattle.hl_base.specs.Symbols.{symbol_of}
use Rattle.hlasm_statements.specs.declared.statement.Statement.{Statement}
use Rattle.symbol_attributes.specs.declared.meaning.OpMeaning.{OpMeaning}
use Rattle.symbol_attributes.specs.declared.meaning.OpMeaning.TheVariants as meaning
use Rattle.symbol_attributes.specs.Meanings.{built_in, defines}
use Rattle.symbol_attributes.specs.Attributes.{attributes}
use Rattle.lookahead_scan.specs.declared.sight.Label.{Label}
use Rattle.lookahead_scan.specs.declared.sight.Role.{Role}
use Rattle.lookahead_scan.specs.declared.sight.Role.TheVariants.{Opens, Closes, Copies, Ends, Stands}
use Rattle.lookahead_scan.specs.declared.sight.Sight.{Sight}
use Rattle.lookahead_scan.specs.declared.sight.Sight.TheVariants.{Passed, Labelled, Ended, Copied}

-- what an operation of this name does
abbrev pub role_named : List ℕ → Role
role_named name =
    if bytes_eq name (codes "MACRO") then Opens else
    (if bytes_eq name (codes "MEND") then Closes else
    (if bytes_eq name (codes "COPY") then Copies else
    (if bytes_eq name (codes "END") then Ends else
    Stands)))

-- the name that a text spells, upper-cased
abbrev pub name_of : List ℕ → Option (List ℕ)
name_of text = symbol_of (encode_utf8_all text)

-- what an operation does, as it is written
abbrev pub role_by : Option (List ℕ) → Role
role_by (Some name) = role_named name
role_by None = Stands

abbrev pub role_of : List ℕ → Role
role_of op = role_by (name_of op)

-- what an operation means, as it is written: one with variable symbols is none that is built in
abbrev pub meaning_by : Option (List ℕ) → OpMeaning
meaning_by (Some name) = built_in name
meaning_by None = meaning.Other

abbrev pub meaning_of : List ℕ → OpMeaning
meaning_of op = meaning_by (name_of op)

-- whether a label on an operation is found: where it defines a symbol, or the operation is none that is built in
abbrev pub is_found : OpMeaning → Bool
is_found meaning.Other = true
is_found (meaning.Machine format) = defines (meaning.Machine format)
is_found (meaning.Assembler name) = defines (meaning.Assembler name)

-- a label of this name on the operation of a statement
abbrev pub label_named : List ℕ → Statement → Option Label
label_named name statement =
    if is_found (meaning_of statement.op)
    then Some (record { name = name; attr = attributes (meaning_of statement.op) statement.operands })
    else None

abbrev pub label_by : Option (List ℕ) → Statement → Option Label
label_by (Some name) statement = label_named name statement
label_by None statement = None

-- the label of a statement with this operation; where there is none, the label stands alone
abbrev pub label_on : (op : List ℕ) → Statement → Option Label
label_on [] statement = None
label_on (c ∷ cs) statement = label_by (name_of statement.label) statement

abbrev pub label_of : Statement → Option Label
label_of statement = label_on statement.op statement

-- the member that a COPY names; one that names none is passed
abbrev pub copied_by : Option (List ℕ) → Sight
copied_by (Some name) = Copied name
copied_by None = Passed

abbrev pub copied : (operands : List ℕ) → Sight
copied operands = copied_by (name_of operands)

-- a statement with or without a label
abbrev pub labelled : Option Label → Sight
labelled (Some label) = Labelled label
labelled None = Passed

-- what a statement is that stands in no definition
abbrev pub sight : Role → Statement → Sight
sight Opens statement = Passed
sight Closes statement = Passed
sight Copies statement = copied statement.operands
sight Ends statement = Ended (label_of statement)
sight Stands statement = labelled (label_of statement)
