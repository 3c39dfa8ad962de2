-- The command line is one of which clap says exactly what it takes.
use Rattle.std.proofs.Common.{rules, ◌≡◌, ◌⊎◌, inl, inr, true, List, [], ◌∷◌, Option, None, refl, sym, ap, ◌∙◌}
use Rattle.std.specs.Prelude.{if◌then◌else◌}
use Rattle.clap.specs.Walk.{Row, Text, is_empty}
use Rattle.clap.specs.Simple.{is_simple}
use Rattle.clap.specs.Faults.{is_simple_and_free}
use Rattle.clap.specs.Kinds.{Kinds, HasKind}
use Rattle.clap.specs.Values.{kind_of}
use Rattle.clap.specs.declared.error.Error.{Error}
use Rattle.clap.specs.declared.error.kind.ErrorKind.TheVariants.{OutOfMemory}
use Rattle.clap.proofs.OnLiterals.{clap_on_literals}
use Rattle.command_words.specs.CommandLine.{command_line, given_by, refusals}
use Rattle.command_words.specs.Commands.{asked_by, command_of}
use Rattle.command_words.specs.declared.command.Command.{Command}

pub line_is_simple : is_simple command_line ≡ true
unfolding clap_on_literals command_line
line_is_simple = refl

pub line_is_free : is_simple_and_free command_line ≡ true
unfolding clap_on_literals command_line
line_is_free = refl

-- an error of no kind is want of memory
pub memory_alone : (e : Error) → HasKind [] e → kind_of e ≡ OutOfMemory
memory_alone e (inl is) = is
memory_alone e (inr among) = absurd among

-- what is asked for where nothing is refused
taken : (kinds : Kinds) (asked : Option Command) → kinds ≡ [] → (if is_empty kinds then asked else None) ≡ asked
taken kinds asked none = rw none refl

refused : (kinds : Kinds) (asked : Option Command) → (kinds ≡ [] → ⊥) → (if is_empty kinds then asked else None) ≡ None
refused [] asked some = absurd (some refl)
refused (kind ∷ kinds) asked some = search rules

pub asked_where_taken : (words : List Text) (rows : List Row) → refusals words ≡ [] → rows ≡ given_by words → command_of words ≡ asked_by rows
unfolding command_of
asked_where_taken words rows none is = taken (refusals words) (asked_by (given_by words)) none ∙ ap asked_by (sym is)

pub none_where_refused : (words : List Text) → (refusals words ≡ [] → ⊥) → command_of words ≡ None
unfolding command_of
none_where_refused words some = refused (refusals words) (asked_by (given_by words)) some
