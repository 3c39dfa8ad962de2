-- A definition that is being read, with the members that are copied. No public clause cites this file. This project.
use Rattle.std.specs.Prelude.{◌≡◌, ℕ, ◌+◌, ◌-◌, ◌<◌, Bool, true, false, List, [], ◌∷◌, ◌++◌, length, map, string_bytes, Option, Some, None, Result, Ok, Err, Vec, if◌then◌else◌}
use Rattle.std.specs.declared.string.String.{String}
use Rattle.std.specs.declared.alloc.Global.{Global}
use Rattle.macro_library.specs.declared.copying.Left.{Left}
use Rattle.statement_listing.specs.Listings.{Listed}
use Rattle.macro_library.specs.declared.copying.Copying.{Copying}
use Rattle.macro_library.specs.declared.copying.Progress.{Progress}
use Rattle.macro_library.specs.declared.copying.Progress.TheVariants.{Goes, Ends}
use Rattle.macro_library.specs.declared.fault.DefFault.{DefFault}
use Rattle.macro_library.specs.declared.fault.DefFault.TheVariants.{NoMend}
use Rattle.macro_library.specs.declared.member.Member.{Member}
use Rattle.macro_library.specs.Extents.{behind}
use Rattle.macro_library.specs.Definitions.{IsFault, Met, and_behind, copied_at, deepest, ending, lines_met, met_at, met_in, met_in_member, most_statements, replaced}

-- a member that is being copied, and what is left of the list that copies it
pub record Outside : Type 0 where
  pub name : List ℕ
  pub left : List Listed

abbrev pub outside_of : String Global × Left → Outside
outside_of entry = record { name = string_bytes entry.0; left = entry.1.lines.items }

-- the members that are being copied, the outermost first
abbrev pub outer_of : Copying → List Outside
outer_of copying = map outside_of copying.outer.entries

abbrev pub name_in : Outside → List ℕ
name_in outside = outside.name

abbrev pub names_of : List Outside → List (List ℕ)
names_of outer = map name_in outer

abbrev pub names_in : Copying → List (List ℕ)
names_in copying = names_of (outer_of copying)

-- what is met in the lists outside the one that is read, where this is met behind them all; copies in the outermost of them may
-- nest as deeply as the number says, within these members
abbrev pub met_outside : (List ℕ → Option Member) → (levels : ℕ) → (copying : List (List ℕ)) → List Outside → (final : ℕ → List Met) → ℕ → List Met
met_outside told levels copying [] final begun = final begun
met_outside told levels copying (one ∷ more) final begun =
    met_outside told (levels - 1) (copying ++ one.name ∷ []) more
    (λ behind_it. and_behind behind_it (met_in (met_in_member levels told copying) behind_it one.left) final) begun

-- what is met in a member that the innermost list copies
abbrev pub met_inside : (List ℕ → Option Member) → List Outside → ℕ → List ℕ → List Met
met_inside told outer = met_in_member (deepest - length outer) told (names_of outer)

-- what is met in all that is left: in the innermost list, in those outside it, and at the end
abbrev pub met_in_all : (List ℕ → Option Member) → (ended : Bool) → List Outside → (current : List Listed) → (begun : ℕ) → List Met
met_in_all told ended outer current begun =
    and_behind begun (met_in (met_inside told outer) begun current) (met_outside told deepest [] outer (λ all. ending ended))

-- these lines, and then others
abbrev pub behind_lines : List Listed → Result (List Listed) DefFault → Result (List Listed) DefFault
behind_lines lines (Ok more) = Ok (lines ++ more)
behind_lines lines (Err fault) = Err fault

-- what comes of all where this is met next, and then what is left
abbrev pub comes_of : (operation : List ℕ) → Copying → (room : ℕ) → List Met → Result (List Listed) DefFault
comes_of operation copying room met = behind_lines copying.lines.items (lines_met operation met room)

abbrev pub met_next : (List ℕ → Option Member) → Copying → (current : List Listed) → List Met
met_next told copying current = met_in_all told copying.ended (outer_of copying) current copying.begun

-- what comes of all
abbrev pub comes : (List ℕ → Option Member) → (operation : List ℕ) → Copying → Result (List Listed) DefFault
comes told operation copying = comes_of operation copying copying.room (met_next told copying copying.current.lines.items)

-- what comes of all where this line stands before what is left
abbrev pub comes_with : (List ℕ → Option Member) → (operation : List ℕ) → Copying → Listed → Result (List Listed) DefFault
comes_with told operation copying line =
    comes_of operation copying copying.room (met_next told copying (line ∷ copying.current.lines.items))

-- what comes of all where this member is copied before what is left
abbrev pub comes_behind : (List ℕ → Option Member) → (operation : List ℕ) → Copying → (name : List ℕ) → Result (List Listed) DefFault
comes_behind told operation copying name =
    comes_of operation copying copying.room
    (and_behind copying.begun (met_inside told (outer_of copying) copying.begun name) (λ behind_it. met_in_all told copying.ended (outer_of copying) copying.current.lines.items behind_it))

-- nothing was read of these lines
pub record IsNew (rest : List Listed) (ended : Bool) (copying : Copying) : Type 0 where
  pub lines : copying.lines.items ≡ []
  pub room : copying.room ≡ most_statements
  pub begun : copying.begun ≡ 0
  pub current : copying.current.lines.items ≡ rest
  pub outer : outer_of copying ≡ []
  pub ended_is : copying.ended ≡ ended

-- a line was kept
pub record Keeps (old new : Copying) (line : Listed) : Type 0 where
  pub lines : new.lines.items ≡ old.lines.items ++ line ∷ []
  pub room : new.room ≡ old.room
  pub begun : new.begun ≡ behind old.begun line
  pub current : new.current.lines.items ≡ old.current.lines.items
  pub outer : outer_of new ≡ outer_of old
  pub ended_is : new.ended ≡ old.ended

-- a member was begun
pub record Enters (old new : Copying) (name : List ℕ) (list : List Listed) : Type 0 where
  pub lines : new.lines.items ≡ old.lines.items
  pub room : new.room ≡ old.room
  pub begun : new.begun ≡ old.begun
  pub current : new.current.lines.items ≡ list
  pub outer : outer_of new ≡ outer_of old ++ record { name = name; left = old.current.lines.items } ∷ []
  pub ended_is : new.ended ≡ old.ended

-- it is done, or it cannot be done
abbrev pub Comes : (wanted now : Result (List Listed) DefFault) → Result (Unit {0}) DefFault → Type 0
Comes wanted now (Ok done) = now ≡ wanted
Comes wanted now (Err fault) = IsFault wanted fault

-- a member was copied
abbrev pub Copies : (List ℕ → Option Member) → (operation : List ℕ) → (old new : Copying) → (name : List ℕ) → Result (Unit {0}) DefFault → Type 0
Copies told operation old new name result = Comes (comes_behind told operation old name) (comes told operation new) result

-- a line was taken in
abbrev pub Meets : (List ℕ → Option Member) → (operation : List ℕ) → (old new : Copying) → Listed → Result (Unit {0}) DefFault → Type 0
Meets told operation old new line result = Comes (comes_with told operation old line) (comes told operation new) result

-- these lines, where a MEND ends the definition
abbrev pub ended_with : List Listed → (ended : Bool) → Result (List Listed) DefFault
ended_with lines ended = if ended then Ok lines else Err NoMend

-- one step on the same comes of all; at the end it has come
abbrev pub Goes_on : (List ℕ → Option Member) → (operation : List ℕ) → (old new : Copying) → Progress → Type 0
Goes_on told operation old new Goes = comes told operation new ≡ comes told operation old
Goes_on told operation old new Ends = ended_with new.lines.items new.ended ≡ comes told operation old

abbrev pub Steps : (List ℕ → Option Member) → (operation : List ℕ) → (old new : Copying) → Result Progress DefFault → Type 0
Steps told operation old new (Ok progress) = Goes_on told operation old new progress
Steps told operation old new (Err fault) = IsFault (comes told operation old) fault

-- these are the lines, or the fault
abbrev pub IsBody : (wanted : Result (List Listed) DefFault) → Result (Vec Listed Global) DefFault → Type 0
IsBody wanted (Ok lines) = wanted ≡ Ok lines.items
IsBody wanted (Err fault) = IsFault wanted fault
