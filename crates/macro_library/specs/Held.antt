-- Members and definitions as they are held. No public clause cites this file. This project.
use Rattle.std.specs.Prelude.{◌≡◌, ℕ, Bool, List, map, Some, string_bytes}
use Rattle.std.specs.declared.string.String.{String}
use Rattle.std.specs.declared.alloc.Global.{Global}
use Rattle.std.specs.declared.hash.FoldHasher.{FoldHasher}
use Rattle.std.specs.declared.hash.BuildHasherDefault.{BuildHasherDefault}
use Rattle.indexmap.specs.IndexMap.{IndexMap}
use Rattle.macro_binding.specs.Prototypes.{Prototype}
use Rattle.statement_listing.specs.Listings.{Listed}
use Rattle.macro_library.specs.declared.member.Member.{Member}
use Rattle.macro_library.specs.declared.variables.SystemVariables.{SystemVariables}
use Rattle.macro_library.specs.Members.{Told}
use Rattle.macro_library.specs.Definitions.{Definition, prototype_at}
use Rattle.macro_library.specs.Contents.{content_number, content_of}
use Rattle.macro_library.specs.Later.{copies_later}
use Rattle.macro_library.specs.Variables.{variables_of}

-- a member under its name
abbrev pub told_at : String Global × Member → Told
told_at entry = record { name = string_bytes entry.0; member = entry.1 }

-- the members that these entries are
abbrev pub told_from : List (String Global × Member) → List Told
told_from entries = map told_at entries

-- the members that a map is
abbrev pub told_in : IndexMap (String Global) Member (BuildHasherDefault FoldHasher) → List Told
told_in held = told_from held.entries

-- the definition of these parts
abbrev pub definition_in : Listed → Prototype → List Listed → SystemVariables → Definition
definition_in line prototype list variables = record {
  origin = line.origin;
  statement = line.statement;
  prototype = prototype;
  list = list;
  variables = variables;
}

-- what follows from what is written follows so, and the number is that of the content
pub record IsKept (line : Listed) (prototype : Prototype) (list : List Listed) (variables : SystemVariables) (later : Bool) (number : ℕ) : Type 0 where
  pub read : prototype_at line ≡ Some prototype
  pub named : variables ≡ variables_of list
  pub copies : later ≡ copies_later list
  pub numbered : number ≡ content_number (content_of (definition_in line prototype list variables))
