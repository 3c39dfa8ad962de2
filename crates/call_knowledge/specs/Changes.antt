-- What a statement changes of what its call knows (HLASM Language Reference SC26-4940, "SETA instruction", "LCLA, LCLB, and
-- LCLC instructions", "GBLA, GBLB, and GBLC instructions", "ACTR instruction").
use Rattle.std.specs.Prelude.{ℕ, ◌-◌, Bool, true, false, List, [], ◌∷◌, ◌++◌, Option, Some, None, if◌then◌else◌}
use Rattle.hl_base.specs.declared.set.Declaration.{Declaration}
use Rattle.hl_base.specs.declared.set.SetKind.{SetKind}
use Rattle.hl_base.specs.declared.set.SetKind.TheVariants.{A, B, C}
use Rattle.hl_base.specs.declared.set.SetValue.{SetValue}
use Rattle.set_symbols.specs.Table.{Table, kind_of, put, fresh, place}
use Rattle.call_knowledge.specs.declared.aim.Aim.{Aim}
use Rattle.call_knowledge.specs.declared.aim.Aim.TheVariants.{OtherType, NoPlace, Local, Global}
use Rattle.call_knowledge.specs.declared.change.Change.{Change}
use Rattle.call_knowledge.specs.declared.change.Change.TheVariants as change
use Rattle.call_knowledge.specs.Knowledge.{Knowledge, Meaning, Unknown, SystemText, Scalar, Array, meaning, is_bound, is_known}

-- whether two types are one
abbrev pub same_kind : SetKind → SetKind → Bool
same_kind A A = true
same_kind B B = true
same_kind C C = true
same_kind kind other = false

-- what SETx aims at in a place, if there is one
abbrev pub aim_at : (global : Bool) → Option ℕ → Aim
aim_at global None = NoPlace
aim_at true (Some at) = Global at
aim_at false (Some at) = Local at

-- a symbol without a subscript has no elements, one with a subscript nothing else
abbrev pub scalar_aim : (global : Bool) (element : Option ℕ) → Aim
scalar_aim global None = aim_at global (Some 0)
scalar_aim global (Some n) = NoPlace

abbrev pub array_aim : (global : Bool) (element : Option ℕ) → Aim
array_aim global None = NoPlace
array_aim global (Some n) = aim_at global (place (Some n))

-- The type first, and then the element. A symbol that means nothing here becomes local, with a subscript where it is set
-- with one.
abbrev pub aim_by : Meaning → (element : Option ℕ) → SetKind → Aim
aim_by Unknown element kind = aim_at false (place element)
aim_by (SystemText text) element kind = OtherType
aim_by (Scalar declared) element kind = if same_kind declared.kind kind then scalar_aim declared.global element else OtherType
aim_by (Array declared) element kind = if same_kind declared.kind kind then array_aim declared.global element else OtherType

-- a parameter and a system variable symbol are of no type that SETx sets
abbrev pub aim : Knowledge → (name : List ℕ) (element : Option ℕ) → SetKind → Aim
aim k name element kind = if is_bound k.binding name then OtherType else aim_by (meaning k name) element kind

-- a local SET symbol, or an element of one, gets a value
abbrev pub holding : Knowledge → (name : List ℕ) (element : Option ℕ) → SetValue → (at : ℕ) → Knowledge
holding k name None held at = record k { scalars = put k.scalars name at held }
holding k name (Some n) held at = record k { arrays = put k.arrays name at held }

abbrev pub held_by : Aim → Knowledge → (name : List ℕ) (element : Option ℕ) → SetValue → Knowledge
held_by OtherType k name element held = k
held_by NoPlace k name element held = k
held_by (Local at) k name element held = holding k name element held at
held_by (Global at) k name element held = k

-- a SET symbol is declared, unless its name means something
abbrev pub fresh_symbol : Declaration → Table → Table
fresh_symbol d table = table ++ fresh d.name (record { kind = d.kind; global = d.global }) ∷ []

abbrev pub declared_in : Declaration → Knowledge → Knowledge
declared_in d k = if d.array then record k { arrays = fresh_symbol d k.arrays } else record k { scalars = fresh_symbol d k.scalars }

abbrev pub declared_once : Declaration → Knowledge → Knowledge
declared_once d k = if is_known k d.name then k else declared_in d k

abbrev pub declared_all : List Declaration → Knowledge → Knowledge
declared_all [] k = k
declared_all (d ∷ ds) k = declared_all ds (declared_once d k)

-- what is known after a change; one that does not fit changes nothing. Behind a branch nothing is shown any more
abbrev pub changed : Change → Knowledge → Knowledge
changed change.Nothing k = k
changed (change.Hold name element held) k = held_by (aim k name element (kind_of held)) k name element held
changed (change.Declare list) k = declared_all list k
changed (change.Limit branches) k = record k { branches = branches }
changed change.Branch k = record k { branches = k.branches - 1; shown = [] }
