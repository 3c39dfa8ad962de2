-- The number of a command that is asked for is within its bounds.
use Rattle.std.proofs.Common.{◌≡◌, ℕ, ◌+◌, ◌<◌, ◌≤◌, Bool, true, false, ◌&&◌, List, Option, Some, None, ◌⊎◌, inl, inr, refl, arith, codes}
use Rattle.std.specs.Prelude.{nat_lt, ◌||◌, option_map, option_and_then, if◌then◌else◌}
use Rattle.std.specs.Str.{bytes_eq}
use Rattle.std.specs.Str.Parse.{digits_value}
use Rattle.std.proofs.lemmas.Bool.{ltb-true}
use Rattle.clap.specs.Walk.{Row, Text, is_empty}
use Rattle.command_words.specs.CommandLine.{refusals, given_by, given}
use Rattle.command_words.specs.Commands.{is_numeral, up_to, usual_budget, budget_of, count_of, is_given, serve_of, bulk_of, command_named, asked_by, command_of}
use Rattle.command_words.specs.declared.command.Command.{Command}
use Rattle.command_words.specs.declared.command.Command.TheVariants.{Serve, Bulk}

both : (a b : Bool) → (a && b) ≡ true → (a ≡ true) × (b ≡ true)
both true b is = (refl, is)
both false b is = cc

-- a choice that gives something
chosen : {A : Type 0} (test : Bool) (made wanted : A) → (if test then Some made else None) ≡ Some wanted → (test ≡ true) × (made ≡ wanted)
chosen true made wanted is = (refl, cc)
chosen false made wanted is = cc

picked : {A : Type 0} (test : Bool) (made : Option A) (wanted : A) → (if test then made else None) ≡ Some wanted → made ≡ Some wanted
picked true made wanted is = is
picked false made wanted is = cc

left : {A : Type 0} (test : Bool) (made : Option A) (wanted : A) → (if test then None else made) ≡ Some wanted → made ≡ Some wanted
left true made wanted is = cc
left false made wanted is = is

-- ---- numbers

up_to_within : (greatest number n : ℕ) → up_to greatest number ≡ Some n → (0 < n) × (n ≤ greatest)
up_to_within greatest number n is =
    let made = chosen (nat_lt 0 number && nat_lt number (greatest + 1)) number n is in
    let tests = both (nat_lt 0 number) (nat_lt number (greatest + 1)) made.0 in
    let some : 0 < number = ltb-true 0 number tests.0 in
    let few : number < greatest + 1 = ltb-true number (greatest + 1) tests.1 in
    let same : number ≡ n = made.1 in
    (omega arith, omega arith)

budget_within : (word : Option Text) (n : ℕ) → budget_of word ≡ Some n → (0 < n) × (n ≤ 400000)
budget_within None n is = let usual : 100000 ≡ n = cc in (omega arith, omega arith)
budget_within (Some word) n is = up_to_within 400000 (digits_value 10 word) n (picked (is_numeral 6 word) (up_to 400000 (digits_value 10 word)) n is)

count_within : (word : Option Text) (n : ℕ) → count_of word ≡ Some n → (0 < n) × (n ≤ 10000)
count_within None n is = cc
count_within (Some word) n is = up_to_within 10000 (digits_value 10 word) n (picked (is_numeral 5 word) (up_to 10000 (digits_value 10 word)) n is)

-- ---- commands

-- the bounds of a command's number
abbrev IsWithin : Command → Type 0
IsWithin (Serve n) = (0 < n) × (n ≤ 400000)
IsWithin (Bulk n) = (0 < n) × (n ≤ 10000)

served : (budget : Option ℕ) (command : Command) → ((n : ℕ) → budget ≡ Some n → (0 < n) × (n ≤ 400000)) → option_map Serve budget ≡ Some command → IsWithin command
served None command within is = cc
served (Some n) (Serve m) within is = let same : Some n ≡ Some m = cc in within m same
served (Some n) (Bulk m) within is = cc

counted : (count : Option ℕ) (command : Command) → ((n : ℕ) → count ≡ Some n → (0 < n) × (n ≤ 10000)) → option_map Bulk count ≡ Some command → IsWithin command
counted None command within is = cc
counted (Some n) (Serve m) within is = cc
counted (Some n) (Bulk m) within is = let same : Some n ≡ Some m = cc in within m same

serve_within : (rows : List Row) (command : Command) → serve_of rows ≡ Some command → IsWithin command
serve_within rows command is =
    let budget = given (codes "budget") rows in
    served (budget_of budget) command (budget_within budget) (left (is_given (codes "count") rows || is_given (codes "file") rows) (option_map Serve (budget_of budget)) command is)

bulk_within : (rows : List Row) (command : Command) → bulk_of rows ≡ Some command → IsWithin command
bulk_within rows command is =
    let count = given (codes "count") rows in
    counted (count_of count) command (count_within count) (left (is_given (codes "budget") rows || is_given (codes "file") rows) (option_map Bulk (count_of count)) command is)

-- a command of a name is one of the two
one_of : (a b : Bool) (serve bulk : Option Command) (command : Command) → (if a then serve else (if b then bulk else None)) ≡ Some command → (serve ≡ Some command) ⊎ (bulk ≡ Some command)
one_of true b serve bulk command is = inl is
one_of false true serve bulk command is = inr is
one_of false false serve bulk command is = cc

asked_within : (name : Option Text) (rows : List Row) (command : Command) → option_and_then (λ name. command_named name rows) name ≡ Some command → IsWithin command
asked_within None rows command is = cc
asked_within (Some name) rows command is = elim (one_of (bytes_eq name (codes "serve")) (bytes_eq name (codes "bulk")) (serve_of rows) (bulk_of rows) command is) [
  | inl serve ↦ serve_within rows command serve
  | inr bulk ↦ bulk_within rows command bulk
]

within : (words : List Text) (command : Command) → command_of words ≡ Some command → IsWithin command
unfolding command_of
within words command is =
    asked_within (given (codes "command") (given_by words)) (given_by words) command (picked (is_empty (refusals words)) (asked_by (given_by words)) command is)

pub budget_is_within : (words : List Text) (n : ℕ) → command_of words ≡ Some (Serve n) → (0 < n) × (n ≤ 400000)
budget_is_within words n is = within words (Serve n) is

pub count_is_within : (words : List Text) (n : ℕ) → command_of words ≡ Some (Bulk n) → (0 < n) × (n ≤ 10000)
count_is_within words n is = within words (Bulk n) is
