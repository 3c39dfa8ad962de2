-- How far answers lead to a definition, one member after the other.
use Rattle.std.proofs.Common.{◌≡◌, ◌∙◌, ℕ, zero, suc, List, [], ◌∷◌, Option, Some, None, Result, Ok, Err, refl, sym, ap}
use Rattle.hl_base.specs.declared.set.Key.TheVariants as key
use Rattle.kept_values.specs.Trees.{Tree}
use Rattle.kept_values.specs.Keys.{key_tree}
use Rattle.plain_expansion.specs.Questions.{Asking, done, needs, Led, Comes, Wants, led_by, led_on, and_then}
use Rattle.macro_library.specs.Contents.{Content, Written}
use Rattle.macro_library.specs.Members.{Told, with_member}
use Rattle.macro_library.specs.declared.fault.DefFault.{DefFault}
use Rattle.macro_library.specs.declared.fault.DefFault.TheVariants as fault
use Rattle.asked_definitions.specs.Asked.{Sought, asked_next, content_at, defining, member_in, sought_as}
use Rattle.asked_definitions.specs.Led.{IsEnd, defined_led, definition_led}
use Rattle.asked_definitions.specs.declared.definition.AskedDefinition.{AskedDefinition}
use Rattle.asked_definitions.specs.declared.definition.AskedDefinition.TheVariants as definition

module _ (told : Tree → Option Tree) (list : List Written) (start : ℕ) where
  -- what is asked for next
  abbrev pub member_next : (left : ℕ) → List Told → List ℕ → Asking Tree Tree (Result Content DefFault)
  member_next left members name = needs (key_tree (key.Member name)) (λ value. defining left (with_member members name (member_in value)) list start)

  abbrev pub led : (left : ℕ) → List Told → Led Tree (Result Content DefFault)
  led left members = led_by told (defining left members list start)

  -- the definition is there
  pub read-led : (left : ℕ) (members : List Told) (d : Content) → content_at members list start ≡ Ok d → led left members ≡ Comes (Ok d)
  read-led zero members d is = ap Comes is
  read-led (suc left) members d is =
      ap (λ r. led_by told (asked_next r (member_next left members))) is

  ended : (next : List ℕ → Asking Tree Tree (Result Content DefFault)) (f : DefFault) → IsEnd f → led_by told (asked_next (Err f) next) ≡ Comes (Err f)
  ended next fault.NoMend is = refl
  ended next fault.BadPrototype is = refl
  ended next (fault.CopyAbsent name) is = refl
  ended next (fault.CopyUnreadable name) is = refl
  ended next (fault.CopyCycle name) is = refl
  ended next (fault.TooLong name) is = refl
  ended next (fault.Asks name) is = absurd is
  ended next fault.OutOfMemory is = refl

  -- or refused
  pub refused-led : (left : ℕ) (members : List Told) (f : DefFault) → IsEnd f → content_at members list start ≡ Err f → led left members ≡ Comes (Err f)
  refused-led zero members f end is = ap Comes is
  refused-led (suc left) members f end is =
      ap (λ r. led_by told (asked_next r (member_next left members))) is ∙ ended (member_next left members) f end

  on-none : (k : Tree) (next : Tree → Led Tree (Result Content DefFault)) (o : Option Tree) → o ≡ None → led_on k next o ≡ Wants k
  on-none k next None is = refl
  on-none k next (Some v) is = cc

  on-some : (k : Tree) (next : Tree → Led Tree (Result Content DefFault)) (o : Option Tree) (v : Tree) → o ≡ Some v → led_on k next o ≡ next v
  on-some k next o v is = ap (led_on k next) is

  -- or it needs to know of a member
  asked : (left : ℕ) (members : List Told) (name : List ℕ) → content_at members list start ≡ Err (fault.Asks name) →
      led (suc left) members ≡ led_on (key_tree (key.Member name)) (λ value. led left (with_member members name (member_in value))) (told (key_tree (key.Member name)))
  asked left members name is =
      ap (λ r. led_by told (asked_next r (member_next left members))) is

  pub wants-led : (left : ℕ) (members : List Told) (name : List ℕ) → content_at members list start ≡ Err (fault.Asks name) →
      told (key_tree (key.Member name)) ≡ None → led (suc left) members ≡ Wants (key_tree (key.Member name))
  wants-led left members name is none =
      asked left members name is
      ∙ on-none (key_tree (key.Member name)) (λ value. led left (with_member members name (member_in value))) (told (key_tree (key.Member name))) none

  pub told-led : (left : ℕ) (members : List Told) (name : List ℕ) (value : Tree) → content_at members list start ≡ Err (fault.Asks name) →
      told (key_tree (key.Member name)) ≡ Some value → led (suc left) members ≡ led left (with_member members name (member_in value))
  told-led left members name value is some =
      asked left members name is
      ∙ on-some (key_tree (key.Member name)) (λ value. led left (with_member members name (member_in value))) (told (key_tree (key.Member name))) value some

-- what is known of an operation, as far as its definition leads
abbrev sought_led : Led Tree (Result Content DefFault) → Led Tree Sought
sought_led (Comes read) = Comes (sought_as read)
sought_led (Wants key) = Wants key

sought_on : (key : Tree) (next : Tree → Led Tree (Result Content DefFault)) (after : Tree → Led Tree Sought) (o : Option Tree) →
    ((value : Tree) → after value ≡ sought_led (next value)) → led_on key after o ≡ sought_led (led_on key next o)
sought_on key next after None same = refl
sought_on key next after (Some value) same = same value

sought_by-led : (told : Tree → Option Tree) (tree : Asking Tree Tree (Result Content DefFault)) →
    led_by told (and_then tree (λ read. done (sought_as read))) ≡ sought_led (led_by told tree)
sought_by-led told (done read) = refl
sought_by-led told (needs key next) =
    sought_on key (λ value. led_by told (next value)) (λ value. led_by told (and_then (next value) (λ read. done (sought_as read)))) (told key)
    (λ value. sought_by-led told (next value))

defined-as : (asked : AskedDefinition) → defined_led asked ≡ sought_led (definition_led asked)
defined-as (definition.Wants name) = refl
defined-as (definition.Read read) = refl
defined-as (definition.Refused fault) = refl

pub defined-led : (told : Tree → Option Tree) (tree : Asking Tree Tree (Result Content DefFault)) (asked : AskedDefinition) →
    definition_led asked ≡ led_by told tree → defined_led asked ≡ led_by told (and_then tree (λ read. done (sought_as read)))
defined-led told tree asked is = defined-as asked ∙ ap sought_led is ∙ sym (sought_by-led told tree)
