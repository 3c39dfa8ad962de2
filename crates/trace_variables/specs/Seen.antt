-- Values, symbols and calls as the code holds and finds them. No public clause cites this file. This project.
use Rattle.std.specs.Prelude.{◌==◌, ℕ, Bool, zero, suc, ◌-◌, if◌then◌else◌, nat_le, nat_lt, Option, Some, None, List, [], ◌∷◌, ◌++◌, length, map, reverse, slice_get}
use Rattle.std.specs.List.{fold, list_any}
use Rattle.std.specs.Option.{option_map_or}
use Rattle.std.specs.BTreeMap.{BTreeMap, is_at}
use Rattle.std.specs.BTreeSet.{BTreeSet, insert_key}
use Rattle.hl_base.specs.declared.set.Declaration.{Declaration}
use Rattle.hl_base.specs.declared.set.SetKind.{SetKind}
use Rattle.hl_base.specs.declared.set.SetKind.TheVariants as kind
use Rattle.hl_base.specs.declared.set.SetValue.{SetValue}
use Rattle.trace_values.specs.CallFrames.{frames_of}
use Rattle.trace_values.specs.declared.item.TraceItem.{TraceItem}
use Rattle.trace_arena.specs.Nodes.{Node, node_at}
use Rattle.trace_cursor.specs.declared.descent.ItemPlace.{ItemPlace}
use Rattle.trace_variables.specs.declared.key.Key.{Key}
use Rattle.trace_variables.specs.declared.key.Kind.{Kind}
use Rattle.trace_variables.specs.declared.key.Kind.TheVariants as own
use Rattle.trace_variables.specs.Values.{VariableKey, Values, key_order}

abbrev pub set_kind : Kind → SetKind
set_kind own.A = kind.A
set_kind own.B = kind.B
set_kind own.C = kind.C

abbrev pub seen_key : Key → VariableKey
seen_key key = record { name = key.name; kind = set_kind key.kind; element = key.element }

abbrev pub seen_entry : Key × SetValue → VariableKey × SetValue
seen_entry entry = (seen_key entry.0, entry.1)

abbrev pub seen : BTreeMap Key SetValue → Values
seen values = map seen_entry values.entries

-- a symbol by the key of its element 0, if it has one, or of its element 1
abbrev pub symbol_of : VariableKey → VariableKey
symbol_of key = record key { element = if nat_lt 0 key.element then 1 else 0 }

abbrev pub declared_symbol : Declaration → VariableKey
declared_symbol d = record { name = d.name; kind = d.kind; element = if d.array then 1 else 0 }

-- symbols in the order of their keys, with one that is declared if it is global
abbrev pub noted : List VariableKey → Declaration → List VariableKey
noted symbols d = if d.global then insert_key key_order symbols (declared_symbol d) else symbols

abbrev pub all_noted : List VariableKey → List Declaration → List VariableKey
all_noted symbols declarations = fold noted symbols declarations

abbrev pub seen_symbols : BTreeSet Key → List VariableKey
seen_symbols symbols = map seen_key symbols.keys

-- the symbol of a value is one of these
abbrev pub is_among : List VariableKey → VariableKey × SetValue → Bool
is_among symbols entry = list_any (is_at (key_order (symbol_of entry.0))) symbols

-- what the call of a level had done, one point later: a point within fewer calls enters it anew
abbrev pub done_with : ℕ → ℕ → TraceItem → List TraceItem → List TraceItem
done_with level calls item done = if nat_lt calls level then [] else (if calls == level then done ++ item ∷ [] else done)

-- how many frames the item of a place has
abbrev pub frames_at : List (Node TraceItem) → ItemPlace → ℕ
frames_at nodes place =
    option_map_or (λ item. length (frames_of item.frames)) (slice_get (node_at nodes place.node.0).items place.at) 0

-- the level of the call of a frame, where the items of a point stand at these places, the innermost first
abbrev pub level_within : List (Node TraceItem) → ℕ → List ItemPlace → Option ℕ
level_within nodes frame [] = None
level_within nodes frame (p ∷ ps) =
    if nat_le frame (frames_at nodes p) then Some (length ps) else level_within nodes (frame - frames_at nodes p) ps

-- the same, where the outermost stands first; there is no frame 0
abbrev pub level_in : List (Node TraceItem) → List ItemPlace → ℕ → Option ℕ
level_in nodes places zero = None
level_in nodes places (suc n) = level_within nodes (suc n) (reverse places)
