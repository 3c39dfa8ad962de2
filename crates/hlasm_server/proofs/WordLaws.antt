-- What words ask for: one command, or none.
use Rattle.std.proofs.Common.{◌≡◌, ℕ, true, false, List, Some, None, sym, ap, ◌∙◌}
use Rattle.command_words.specs.Commands.{command_of}
use Rattle.command_words.specs.declared.command.Command.{Command}
use Rattle.command_words.specs.declared.command.Command.TheVariants.{Serve, Bulk}
use Rattle.hlasm_server.specs.Words.{asks_for_session, is_session}

pub one_command : (words : List (List ℕ)) (one other : Command) → command_of words ≡ Some one → command_of words ≡ Some other → one ≡ other
one_command words one other asked also = let both : Some one ≡ Some other = sym asked ∙ also in cc

pub not_both : (words : List (List ℕ)) (budget count : ℕ) → command_of words ≡ Some (Bulk count) → command_of words ≡ Some (Serve budget) → ⊥
not_both words budget count asked also = let same : Bulk count ≡ Serve budget = one_command words (Bulk count) (Serve budget) asked also in cc

pub not_none : (words : List (List ℕ)) (command : Command) → command_of words ≡ None → command_of words ≡ Some command → ⊥
not_none words command none also = let same : None ≡ Some command = sym none ∙ also in cc

-- ---- whether that is the session of an editor

pub serve_asks : (words : List (List ℕ)) (budget : ℕ) → command_of words ≡ Some (Serve budget) → asks_for_session words ≡ false → ⊥
unfolding asks_for_session
serve_asks words budget asked none = let both : true ≡ false = sym (ap is_session asked) ∙ none in cc

pub bulk_asks_no_session : (words : List (List ℕ)) (count : ℕ) → command_of words ≡ Some (Bulk count) → asks_for_session words ≡ false
unfolding asks_for_session
bulk_asks_no_session words count asked = ap is_session asked

pub none_asks_no_session : (words : List (List ℕ)) → command_of words ≡ None → asks_for_session words ≡ false
unfolding asks_for_session
none_asks_no_session words none = ap is_session none
