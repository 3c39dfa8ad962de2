-- What a definition comes to where more is told of members: all that it came to without a question.
use Rattle.std.proofs.Common.{◌≡◌, ◌∙◌, ◌+◌, ℕ, zero, suc, Bool, true, false, cond, List, [], ◌∷◌, ◌++◌, Option, Some, None, Result, Ok, Err, refl, sym, ap, subst, is_some}
use Rattle.std.specs.Prelude.{drop, IfOk, OnOk}
use Rattle.macro_binding.specs.Prototypes.{Prototype}
use Rattle.macro_library.specs.Definitions.{Definition, IsFault, Met, stays, replaced, fails, and_behind, and_line, behind_met, begun_with, copied_at, deepest, defined, definition_of, ending, is_open, lines_met, met_at, met_behind, met_in, met_in_member, met_in_told, most_statements, prototype_at, with_lines, with_prototype}
use Rattle.macro_library.specs.Extents.{Headed, behind, extent, headed, line_count}
use Rattle.macro_library.specs.Members.{Told, lines_of, member_of}
use Rattle.macro_library.specs.declared.fault.DefFault.{DefFault}
use Rattle.macro_library.specs.declared.fault.DefFault.TheVariants.{NoMend, BadPrototype, CopyAbsent, CopyUnreadable, CopyCycle, TooLong, Asks, OutOfMemory}
use Rattle.macro_library.specs.declared.member.Member.{Member}
use Rattle.macro_library.specs.declared.member.Member.TheVariants.{Absent, Unreadable, File}
use Rattle.statement_listing.specs.Listings.{Listed}
use Rattle.called_definitions.specs.Readings.{list_begun, list_in, list_with, met_by, unless_refused}

-- what is met where more is told is the same up to the first question
pub data Leads : List Met → List Met → Type 0 where
  done : Leads [] []
  asks : (name : List ℕ) (told more : List Met) → Leads (fails (Asks name) ∷ told) more
  both : (one : Met) (told more : List Met) → Leads told more → Leads (one ∷ told) (one ∷ more)

-- an answer that is no question
abbrev pub IsRead : {V : Type 0} → Result V DefFault → Type 0
IsRead (Ok value) = Unit {0}
IsRead (Err (Asks name)) = ⊥
IsRead (Err other) = Unit {0}

read_behind : (line : Listed) (r : Result (List Listed) DefFault) → IsRead (and_line line r) → IsRead r
read_behind line (Ok lines) is = tt
read_behind line (Err fault) is = is

pub lines_lead : (name : List ℕ) (told more : List Met) → Leads told more → (room : ℕ) → IsRead (lines_met name told room) →
    lines_met name more room ≡ lines_met name told room
lines_lead name told more done room is = refl
lines_lead name told more (asks question t m) room is = absurd is
lines_lead name told more (both (stays line) t m leads) zero is = refl
lines_lead name told more (both (stays line) t m leads) (suc room) is =
    ap (and_line line) (lines_lead name t m leads room (read_behind line (lines_met name t room) is))
lines_lead name told more (both replaced t m leads) zero is = refl
lines_lead name told more (both replaced t m leads) (suc room) is = lines_lead name t m leads room is
lines_lead name told more (both (fails fault) t m leads) room is = refl

-- then what is behind it
behind_lead : (told more : List Met) → Leads told more → (begun : ℕ) (next other : ℕ → List Met) → ((n : ℕ) → Leads (next n) (other n)) →
    Leads (and_behind begun told next) (and_behind begun more other)
behind_lead told more done begun next other lead = lead begun
behind_lead told more (asks name t m) begun next other lead = asks name _ _
behind_lead told more (both (stays line) t m leads) begun next other lead =
    both (stays line) _ _ (behind_lead t m leads (behind begun line) next other lead)
behind_lead told more (both replaced t m leads) begun next other lead = both replaced _ _ (behind_lead t m leads begun next other lead)
behind_lead told more (both (fails fault) t m leads) begun next other lead = both (fails fault) _ _ (behind_lead t m leads begun next other lead)

-- in lines
at_lead : (here there : ℕ → List ℕ → List Met) (begun : ℕ) (one : Listed) (copied : Option (List ℕ)) (next other : ℕ → List Met) →
    ((n : ℕ) (name : List ℕ) → Leads (here n name) (there n name)) → ((n : ℕ) → Leads (next n) (other n)) →
    Leads (met_at here begun one copied next) (met_at there begun one copied other)
at_lead here there begun one None next other inside lead = both (stays one) _ _ (lead (behind begun one))
at_lead here there begun one (Some name) next other inside lead =
    both replaced _ _ (behind_lead (here begun name) (there begun name) (inside begun name) begun next other lead)

in_lead : (here there : ℕ → List ℕ → List Met) → ((n : ℕ) (name : List ℕ) → Leads (here n name) (there n name)) →
    (list : List Listed) (begun : ℕ) → Leads (met_in here begun list) (met_in there begun list)
in_lead here there inside [] begun = done
in_lead here there inside (one ∷ rest) begun =
    at_lead here there begun one (copied_at begun one) (λ n. met_in here n rest) (λ n. met_in there n rest) inside (λ n. in_lead here there inside rest n)

-- more is told: what was told is told so
abbrev pub TellsMore : (told more : List ℕ → Option Member) → Type 0
TellsMore told more = (name : List ℕ) (member : Member) → told name ≡ Some member → more name ≡ Some member

same_lead : (list : List Met) → Leads list list
same_lead [] = done
same_lead (one ∷ rest) = both one rest rest (same_lead rest)

told_lead : (here there : List Listed → List Met) (name : List ℕ) (told more : Option Member) → ((member : Member) → told ≡ Some member → more ≡ Some member) →
    ((list : List Listed) → Leads (here list) (there list)) → Leads (met_in_told here name told) (met_in_told there name more)
told_lead here there name None more tells inside = asks name _ _
told_lead here there name (Some Absent) more tells inside =
    subst (λ (m : Option Member). Leads (fails (CopyAbsent name) ∷ []) (met_in_told there name m)) (sym (tells Absent refl)) (same_lead _)
told_lead here there name (Some Unreadable) more tells inside =
    subst (λ (m : Option Member). Leads (fails (CopyUnreadable name) ∷ []) (met_in_told there name m)) (sym (tells Unreadable refl)) (same_lead _)
told_lead here there name (Some (File file)) more tells inside =
    subst (λ (m : Option Member). Leads (here (lines_of (File file))) (met_in_told there name m)) (sym (tells (File file) refl)) (inside (lines_of (File file)))

cycle_lead : (nests : Bool) (name : List ℕ) (here there : List Met) → Leads here there →
    Leads (cond nests (fails (CopyCycle name) ∷ []) here) (cond nests (fails (CopyCycle name) ∷ []) there)
cycle_lead true name here there lead = same_lead _
cycle_lead false name here there lead = lead

member_lead : (told more : List ℕ → Option Member) → TellsMore told more → (levels : ℕ) (copying : List (List ℕ)) (begun : ℕ) (name : List ℕ) →
    Leads (met_in_member levels told copying begun name) (met_in_member levels more copying begun name)
member_lead told more tells zero copying begun name = done
member_lead told more tells (suc levels) copying begun name =
    cycle_lead (is_open copying name) name _ _
    (told_lead
    (met_in (met_in_member levels told (copying ++ name ∷ [])) begun)
    (met_in (met_in_member levels more (copying ++ name ∷ [])) begun)
    name (told name) (more name) (tells name)
    (λ list. in_lead _ _ (λ n inner. member_lead told more tells levels (copying ++ name ∷ []) n inner) list begun))

all_lead : (told more : List ℕ → Option Member) → TellsMore told more → (levels : ℕ) (ended : Bool) (rest : List Listed) →
    Leads (met_in (met_in_member levels told []) 0 rest ++ ending ended) (met_in (met_in_member levels more []) 0 rest ++ ending ended)
all_lead told more tells levels ended rest =
    behind_lead _ _
    (in_lead _ _ (λ n name. member_lead told more tells levels [] n name) rest 0)
    0 (λ n. ending ended) (λ n. ending ended) (λ n. same_lead (ending ended))

-- ---- the statements

-- what an answer has of statements
abbrev pub said : Result Definition DefFault → List Listed
said (Ok definition) = definition.list
said (Err fault) = []

read_lines : (one : Listed) (prototype : Prototype) (r : Result (List Listed) DefFault) → IsRead (with_lines one prototype r) → IsRead r
read_lines one prototype (Ok lines) is = tt
read_lines one prototype (Err fault) is = is

said_lines : (one : Listed) (prototype : Prototype) (r : Result (List Listed) DefFault) → said (with_lines one prototype r) ≡ unless_refused r
said_lines one prototype (Ok lines) = refl
said_lines one prototype (Err fault) = refl

with_said : (members : List Told) (more : List ℕ → Option Member) → TellsMore (member_of members) more → (ended : Bool) (h : Headed) (prototype : Option Prototype) →
    IsRead (with_prototype members ended h prototype) → list_with more ended h prototype ≡ said (with_prototype members ended h prototype)
with_said members more tells ended h None is = refl
with_said members more tells ended h (Some prototype) is =
    let told : Result (List Listed) DefFault = lines_met prototype.operation (met_behind members ended h.rest) most_statements in
    ap unless_refused
    (lines_lead prototype.operation _ _ (all_lead (member_of members) more tells deepest ended h.rest) most_statements (read_lines h.line prototype told is))
    ∙ sym (said_lines h.line prototype told)

begun_said : (members : List Told) (more : List ℕ → Option Member) → TellsMore (member_of members) more → (ended : Bool) (h : Option Headed) →
    IsRead (begun_with members ended h) → list_begun more ended h ≡ said (begun_with members ended h)
begun_said members more tells ended None is = refl
begun_said members more tells ended (Some h) is = with_said members more tells ended h (prototype_at h.line) is

-- a definition that was read without a question has the statements that it has where more is told
pub definition_said : (members : List Told) (more : List ℕ → Option Member) → TellsMore (member_of members) more → (list : List Listed) (before : ℕ) →
    IsRead (definition_of members list before) → list_in more (drop (before + 1) list) ≡ said (definition_of members list before)
definition_said members more tells list before is =
    let rest : List Listed = drop (before + 1) list in
    begun_said members more tells (is_some (line_count 0 rest)) (headed (extent rest)) is

-- a fault that is no question, and no want of memory
pub refused_said : (wanted : Result Definition DefFault) (fault : DefFault) → IsFault wanted fault → ((name : List ℕ) → fault ≡ Asks name → ⊥) → (fault ≡ OutOfMemory → ⊥) →
    IsRead wanted × (said wanted ≡ [])
refused_said wanted NoMend is asked full = (subst IsRead (sym is) tt, ap said is)
refused_said wanted BadPrototype is asked full = (subst IsRead (sym is) tt, ap said is)
refused_said wanted (CopyAbsent name) is asked full = (subst IsRead (sym is) tt, ap said is)
refused_said wanted (CopyUnreadable name) is asked full = (subst IsRead (sym is) tt, ap said is)
refused_said wanted (CopyCycle name) is asked full = (subst IsRead (sym is) tt, ap said is)
refused_said wanted (TooLong name) is asked full = (subst IsRead (sym is) tt, ap said is)
refused_said wanted (Asks name) is asked full = absurd (asked name refl)
refused_said wanted OutOfMemory is asked full = absurd (full refl)

-- ---- answers

pub on_ok : {V E : Type 0} (r : Result V E) (P Q : Type 0) → (P → Q) → OnOk r P → OnOk r Q
on_ok (Ok v) P Q f h = f h
on_ok (Err e) P Q f h = tt

pub if_ok : {V E : Type 0} (r : Result V E) (P Q : V → Type 0) → ((v : V) → P v → Q v) → IfOk r P → IfOk r Q
if_ok (Ok v) P Q f h = f v h
if_ok (Err e) P Q f h = tt

pub always_ok : {V E : Type 0} (r : Result V E) (P : Type 0) → P → OnOk r P
always_ok (Ok v) P h = h
always_ok (Err e) P h = tt
