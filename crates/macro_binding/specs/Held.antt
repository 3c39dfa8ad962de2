-- A binding as what holds it. No public clause cites this file. This project.
use Rattle.std.specs.Prelude.{ℕ, List, [], map, slice_index_or, Option, Some, None}
use Rattle.std.specs.Str.{chars}
use Rattle.std.specs.Borrow.{Bor}
use Rattle.std.specs.declared.string.String.{String}
use Rattle.std.specs.declared.alloc.Global.{Global}
use Rattle.std.specs.declared.hash.FoldHasher.{FoldHasher}
use Rattle.std.specs.declared.hash.BuildHasherDefault.{BuildHasherDefault}
use Rattle.indexmap.specs.IndexMap.{IndexMap, get_by_text}
use Rattle.macro_binding.specs.declared.binding.KeywordValue.{KeywordValue}
use Rattle.macro_binding.specs.declared.role.Role.{Role}
use Rattle.macro_binding.specs.declared.role.Role.TheVariants.{NameEntry, Positional, Keyword}
use Rattle.macro_binding.specs.Bindings.{Binding, Bound}
use Rattle.macro_binding.specs.Prototypes.{Parameter}

-- the values given to keywords, by their names
abbrev pub Keywords : Type 0
Keywords = IndexMap (String Global) KeywordValue (BuildHasherDefault FoldHasher)

-- the value that was given, or this where none was
abbrev pub value_or : List ℕ → Option KeywordValue → List ℕ
value_or default None = default
value_or default (Some given) = given.value

-- what a parameter of this name is worth by what it stands for
abbrev pub value_held : (name_entry : List ℕ) (positionals : List (List ℕ)) → Keywords → (name : List ℕ) → Role → List ℕ
value_held name_entry positionals keywords name NameEntry = name_entry
value_held name_entry positionals keywords name (Positional place) = slice_index_or positionals place []
value_held name_entry positionals keywords name (Keyword default) = value_or default (get_by_text keywords name)

abbrev pub bound_held : (name_entry : List ℕ) (positionals : List (List ℕ)) → Keywords → Parameter → Bound
bound_held name_entry positionals keywords parameter =
    record { name = parameter.name; value = value_held name_entry positionals keywords parameter.name parameter.role }

-- the binding of these parts
abbrev pub binding_in : List Parameter → (name_entry : List ℕ) (positionals : List (List ℕ)) → Keywords → Binding
binding_in parameters name_entry positionals keywords = record {
  name_entry = name_entry;
  positionals = positionals;
  parameters = map (bound_held name_entry positionals keywords) parameters;
}

-- what a bound parameter is worth
abbrev pub value_in : Bound → List ℕ
value_in bound = bound.value

-- the characters of a text
abbrev pub text_seen : Bor (List ℕ) → List ℕ
text_seen text = chars text.now
