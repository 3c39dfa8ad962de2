-- When two names in texts name the same (this project).
use Rattle.std.specs.Prelude.{Bool, true, false, ◌==◌, ◌&&◌}
use Rattle.std.specs.Str.{bytes_eq}
use Rattle.hl_base.specs.declared.place.Origin.{Origin}
use Rattle.hl_base.specs.declared.set.SetKind.{SetKind}
use Rattle.hl_base.specs.declared.set.SetKind.TheVariants as kind
use Rattle.trace_values.specs.declared.occurrence.Entity.{Entity}
use Rattle.trace_values.specs.declared.occurrence.Entity.TheVariants.{Symbol, Variable, Sequence, Macro, Member}
use Rattle.trace_values.specs.declared.occurrence.Scope.{Scope}
use Rattle.trace_values.specs.declared.occurrence.Scope.TheVariants.{Program, Definition, Global}

abbrev pub is_same_kind : SetKind → SetKind → Bool
is_same_kind kind.A kind.A = true
is_same_kind kind.B kind.B = true
is_same_kind kind.C kind.C = true
is_same_kind one other = false

-- one line of one path
abbrev pub is_same_origin : Origin → Origin → Bool
is_same_origin one other = one.path.0 == other.path.0 && one.line == other.line

-- the program, one definition, or the globals of one type
abbrev pub is_same_scope : Scope → Scope → Bool
is_same_scope Program Program = true
is_same_scope (Definition one) (Definition other) = is_same_origin one other
is_same_scope (Global one) (Global other) = is_same_kind one other
is_same_scope one other = false

-- One ordinary symbol; one variable or sequence symbol of one scope; the macro of one prototype; one member. A variable symbol
-- and a sequence symbol never name the same.
abbrev pub is_same_entity : Entity → Entity → Bool
is_same_entity (Symbol one) (Symbol other) = bytes_eq one other
is_same_entity (Variable scope one) (Variable within other) = is_same_scope scope within && bytes_eq one other
is_same_entity (Sequence scope one) (Sequence within other) = is_same_scope scope within && bytes_eq one other
is_same_entity (Macro origin one) (Macro place other) = is_same_origin origin place && bytes_eq one other
is_same_entity (Member one) (Member other) = one.0 == other.0
is_same_entity one other = false
