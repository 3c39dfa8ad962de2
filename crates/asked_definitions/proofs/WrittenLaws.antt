-- What a definition says depends on what is written alone, and not on the columns in which it stands.
use Rattle.std.proofs.Common.{◌≡◌, ◌∙◌, ◌+◌, ℕ, zero, suc, Bool, true, false, cond, List, [], ◌∷◌, ◌++◌, map, take, drop, Option, Some, None, Result, Ok, Err, refl, sym, ap}
use Rattle.std.specs.Option.{option_map, is_some}
use Rattle.statement_listing.specs.Listings.{Listed, is_plain}
use Rattle.macro_binding.specs.Prototypes.{Prototype}
use Rattle.macro_library.specs.Contents.{Content, Written, listed_in, written}
use Rattle.macro_library.specs.Definitions.{Definition, Met, stays, replaced, fails, and_behind, and_line, behind_met, begun_with, copied_at, deepest, defined, definition_behind, definition_of, ending, lines_met, met_at, met_behind, met_in, met_in_member, most_statements, prototype_at, with_lines, with_prototype}
use Rattle.macro_library.specs.Extents.{Headed, behind, closes, counted, extent, headed, line_count, one_further}
use Rattle.macro_library.specs.Members.{Told, member_of}
use Rattle.macro_library.specs.declared.fault.DefFault.{DefFault}
use Rattle.asked_definitions.specs.Asked.{said_of}

-- a line that says the same without its columns, and lines that do
abbrev pub bare_line : Listed → Listed
bare_line one = listed_in (written one)

abbrev pub bare_lines : List Listed → List Listed
bare_lines list = map listed_in (map written list)

pub drop-bare : (n : ℕ) (list : List Listed) → drop n (bare_lines list) ≡ bare_lines (drop n list)
drop-bare zero list = refl
drop-bare (suc n) [] = refl
drop-bare (suc n) (one ∷ rest) = drop-bare n rest

pub take-bare : (n : ℕ) (list : List Listed) → take n (bare_lines list) ≡ bare_lines (take n list)
take-bare zero list = refl
take-bare (suc n) [] = refl
take-bare (suc n) (one ∷ rest) = ap (λ ls. bare_line one ∷ ls) (take-bare n rest)

line_count-bare : (begun : ℕ) (list : List Listed) → line_count begun (bare_lines list) ≡ line_count begun list
line_count-bare begun [] = refl
line_count-bare begun (one ∷ rest) =
    ap (λ count. cond (closes begun one) (Some 1) (option_map (λ n. n + 1) count)) (line_count-bare (behind begun one) rest)

counted-bare : (list : List Listed) (count : Option ℕ) → counted (bare_lines list) count ≡ bare_lines (counted list count)
counted-bare list None = refl
counted-bare list (Some n) = take-bare n list

pub extent-bare : (list : List Listed) → extent (bare_lines list) ≡ bare_lines (extent list)
extent-bare list = ap (counted (bare_lines list)) (line_count-bare 0 list) ∙ counted-bare list (line_count 0 list)

-- the first line that is neither a comment nor blank
abbrev bare_headed : Headed → Headed
bare_headed h = record { at = h.at; line = bare_line h.line; rest = bare_lines h.rest }

further-bare : (found : Option Headed) → option_map one_further (option_map bare_headed found) ≡ option_map bare_headed (option_map one_further found)
further-bare None = refl
further-bare (Some h) = refl

headed-by : (one : Listed) (rest : List Listed) (plain : Bool) → headed (bare_lines rest) ≡ option_map bare_headed (headed rest) →
    cond plain (Some (record { at = 0; line = bare_line one; rest = bare_lines rest })) (option_map one_further (headed (bare_lines rest)))
    ≡ option_map bare_headed (cond plain (Some (record { at = 0; line = one; rest = rest })) (option_map one_further (headed rest)))
headed-by one rest true is = refl
headed-by one rest false is = ap (option_map one_further) is ∙ further-bare (headed rest)

headed-bare : (list : List Listed) → headed (bare_lines list) ≡ option_map bare_headed (headed list)
headed-bare [] = refl
headed-bare (one ∷ rest) = headed-by one rest (is_plain one.statement.shape) (headed-bare rest)

-- ---- what is met

abbrev bare : Met → Met
bare (stays line) = stays (bare_line line)
bare replaced = replaced
bare (fails fault) = fails fault

map-append : (xs ys : List Met) → map bare (xs ++ ys) ≡ map bare xs ++ map bare ys
map-append [] ys = refl
map-append (x ∷ xs) ys = ap (λ l. bare x ∷ l) (map-append xs ys)

module _ (in_member : ℕ → List ℕ → List Met) where
  met_at-bare : (begun : ℕ) (one : Listed) (name : Option (List ℕ)) (others same : ℕ → List Met) →
      ((k : ℕ) → map bare (others k) ≡ map bare (same k)) →
      map bare (met_at in_member begun (bare_line one) name others) ≡ map bare (met_at in_member begun one name same)
  met_at-bare begun one None others same is = ap (λ ms. stays (bare_line one) ∷ ms) (is (behind begun one))
  met_at-bare begun one (Some name) others same is =
      let inside = in_member begun name in
      ap (λ ms. replaced ∷ ms) (
      map-append inside (others (behind_met begun inside))
      ∙ ap (λ ms. map bare inside ++ ms) (is (behind_met begun inside))
      ∙ sym (map-append inside (same (behind_met begun inside))))

  met_in-bare : (begun : ℕ) (list : List Listed) → map bare (met_in in_member begun (bare_lines list)) ≡ map bare (met_in in_member begun list)
  met_in-bare begun [] = refl
  met_in-bare begun (one ∷ rest) =
      met_at-bare begun one (copied_at begun one) (λ k. met_in in_member k (bare_lines rest)) (λ k. met_in in_member k rest) (λ k. met_in-bare k rest)

met_behind-bare : (members : List Told) (ended : Bool) (list : List Listed) →
    map bare (met_behind members ended (bare_lines list)) ≡ map bare (met_behind members ended list)
met_behind-bare members ended list =
    let in_member = met_in_member deepest (member_of members) [] in
    map-append (met_in in_member 0 (bare_lines list)) (ending ended)
    ∙ ap (λ ms. ms ++ map bare (ending ended)) (met_in-bare in_member 0 list)
    ∙ sym (map-append (met_in in_member 0 list) (ending ended))

-- ---- the statements

abbrev lines_said : Result (List Listed) DefFault → Result (List Written) DefFault
lines_said (Ok lines) = Ok (map written lines)
lines_said (Err fault) = Err fault

abbrev and_written : Written → Result (List Written) DefFault → Result (List Written) DefFault
and_written one (Ok lines) = Ok (one ∷ lines)
and_written one (Err fault) = Err fault

and_line-said : (one : Listed) (lines : Result (List Listed) DefFault) → lines_said (and_line one lines) ≡ and_written (written one) (lines_said lines)
and_line-said one (Ok lines) = refl
and_line-said one (Err fault) = refl

lines_met-bare : (name : List ℕ) (met : List Met) (room : ℕ) → lines_said (lines_met name (map bare met) room) ≡ lines_said (lines_met name met room)
lines_met-bare name [] room = refl
lines_met-bare name (fails fault ∷ rest) room = refl
lines_met-bare name (stays line ∷ rest) zero = refl
lines_met-bare name (stays line ∷ rest) (suc room) =
    and_line-said (bare_line line) (lines_met name (map bare rest) room)
    ∙ ap (and_written (written line)) (lines_met-bare name rest room)
    ∙ sym (and_line-said line (lines_met name rest room))
lines_met-bare name (replaced ∷ rest) zero = refl
lines_met-bare name (replaced ∷ rest) (suc room) = lines_met-bare name rest room

lines_met-same : (name : List ℕ) (met other : List Met) (room : ℕ) → map bare met ≡ map bare other →
    lines_said (lines_met name met room) ≡ lines_said (lines_met name other room)
lines_met-same name met other room is =
    sym (lines_met-bare name met room) ∙ ap (λ ms. lines_said (lines_met name ms room)) is ∙ lines_met-bare name other room

-- ---- the definition

abbrev with_said : Written → Result (List Written) DefFault → Result Content DefFault
with_said one (Ok lines) = Ok (record { prototype = one; list = lines })
with_said one (Err fault) = Err fault

with_lines-said : (one : Listed) (prototype : Prototype) (lines : Result (List Listed) DefFault) →
    said_of (with_lines one prototype lines) ≡ with_said (written one) (lines_said lines)
with_lines-said one prototype (Ok lines) = refl
with_lines-said one prototype (Err fault) = refl

module _ (members : List Told) (ended : Bool) where
  with_prototype-bare : (h : Headed) (prototype : Option Prototype) →
      said_of (with_prototype members ended (bare_headed h) prototype) ≡ said_of (with_prototype members ended h prototype)
  with_prototype-bare h None = refl
  with_prototype-bare h (Some prototype) =
      let name = prototype.operation in
      with_lines-said (bare_line h.line) prototype (lines_met name (met_behind members ended (bare_lines h.rest)) most_statements)
      ∙ ap (with_said (written h.line)) (lines_met-same name (met_behind members ended (bare_lines h.rest)) (met_behind members ended h.rest) most_statements
      (met_behind-bare members ended h.rest))
      ∙ sym (with_lines-said h.line prototype (lines_met name (met_behind members ended h.rest) most_statements))

  begun_with-bare : (found : Option Headed) →
      said_of (begun_with members ended (option_map bare_headed found)) ≡ said_of (begun_with members ended found)
  begun_with-bare None = refl
  begun_with-bare (Some h) = with_prototype-bare h (prototype_at h.line)

definition_behind-bare : (members : List Told) (list : List Listed) →
    said_of (definition_behind members (bare_lines list)) ≡ said_of (definition_behind members list)
definition_behind-bare members list =
    ap (λ count. said_of (begun_with members (is_some count) (headed (extent (bare_lines list))))) (line_count-bare 0 list)
    ∙ ap (λ h. said_of (begun_with members (is_some (line_count 0 list)) h)) (ap headed (extent-bare list) ∙ headed-bare (extent list))
    ∙ begun_with-bare members (is_some (line_count 0 list)) (headed (extent list))

-- the definition that begins at a MACRO says the same
pub definition_bare : (members : List Told) (list : List Listed) (start : ℕ) →
    said_of (definition_of members (map listed_in (map written list)) start) ≡ said_of (definition_of members list start)
definition_bare members list start =
    ap (λ rest. said_of (definition_behind members rest)) (drop-bare (start + 1) list) ∙ definition_behind-bare members (drop (start + 1) list)
