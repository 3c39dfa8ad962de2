-- What a message leaves of the sessions.
use Rattle.std.proofs.Common.{◌≡◌, ◌≢◌, ◌∙◌, ℕ, Bool, true, false, cond, ◌&&◌, ◌||◌, List, [], ◌∷◌, ◌++◌, map, refl, sym, ap, subst, Some, None, Option}
use Rattle.std.specs.Prelude.{◌==◌, find, is_some, is_none, Result, Ok, Err, unwrap_or}
use Rattle.std.specs.List.{list_any}
use Rattle.std.specs.Option.{option_map, option_map_or, option_and_then}
use Rattle.std.proofs.lemmas.Bool.{false≢true, eqb-true, eq-eqb, ne_eqb}
use Rattle.serde_json.specs.Data.{Data}
use Rattle.trace_values.specs.declared.item.TraceItem.{TraceItem}
use Rattle.trace_arena.specs.Points.{Point}
use Rattle.dap_messages.specs.declared.requests.DapIn.{DapIn}
use Rattle.dap_messages.specs.declared.requests.DapCommand.{DapCommand}
use Rattle.dap_messages.specs.declared.requests.DapCommand.TheVariants.{Initialize, Launch, SetBreakpoints, ConfigurationDone, Threads, StackTrace, Scopes, Variables, Next, StepIn, StepOut, Continue, Disconnect}
use Rattle.dap_messages.specs.declared.requests.DapRefusal.{DapRefusal}
use Rattle.dap_messages.specs.declared.requests.DapRefusal.TheVariants.{NotDap, UnknownCommand, BadArguments, OutOfMemory}
use Rattle.macro_debugger.specs.declared.stop.StepRule.{StepRule}
use Rattle.debug_sessions.specs.declared.debugger.Debugger.{Debugger}
use Rattle.debug_sessions.specs.declared.refusals.Refusal.{Refusal}
use Rattle.debug_sessions.specs.Launches as launches
use Rattle.debug_sessions.specs.Places.{with_one, without_one}
use Rattle.debug_sessions.specs.State.{Debuggers, has_number, session_of, session_for, with_session, without_session, next_seq}
use Rattle.debug_sessions.specs.Refusals.{refusal, told}
use Rattle.debug_sessions.specs.Stops.{Halt}
use Rattle.debug_sessions.specs.Answers.{sent, counted, seq_for, obeyed, unless_refused, head_of, judged, logged, answer}
use Rattle.dap_messages.specs.Written.{refusal_value}
use Rattle.std.specs.Str.{chars}
use Rattle.debug_sessions.specs.Laws.{uncounted, ChangesNothing, RefusalsChangeNothing, Message, after, disconnects, is_disconnect, reads_disconnect, trace_in, LaunchesKeepTheirTraces}

-- ---- sessions of numbers

-- what is found passes the test
pub found_passes : {X : Type 0} (p : X → Bool) (xs : List X) (x : X) → find p xs ≡ Some x → p x ≡ true
found_passes p [] x is = absurd cc
found_passes p (y ∷ ys) x is = by (p y) refl is (λ behind. found_passes p ys x behind)
  where
    by : (t : Bool) → p y ≡ t → cond t (Some y) (find p ys) ≡ Some x → (find p ys ≡ Some x → p x ≡ true) → p x ≡ true
    by true e is behind = let same : y ≡ x = cc in ap p (sym same) ∙ e
    by false e is behind = behind is

-- what passes another test stays, where nothing that passes it comes or goes
module _ {X : Type 0} (p q : X → Bool) (apart : (x : X) → p x ≡ true → q x ≡ false) where
  pub stays_with : (new : X) → p new ≡ true → (xs : List X) → find q (with_one p new xs) ≡ find q xs
  stays_with new is [] = ap (λ t. cond t (Some new) None) (apart new is)
  stays_with new is (x ∷ xs) = by (p x) refl (stays_with new is xs)
    where
      by : (t : Bool) → p x ≡ t → find q (with_one p new xs) ≡ find q xs → find q (cond t (new ∷ xs) (x ∷ with_one p new xs)) ≡ cond (q x) (Some x) (find q xs)
      by true e behind = ap (λ t. cond t (Some new) (find q xs)) (apart new is) ∙ sym (ap (λ t. cond t (Some x) (find q xs)) (apart x e))
      by false e behind = ap (cond (q x) (Some x)) behind

  pub stays_without : (xs : List X) → find q (without_one p xs) ≡ find q xs
  stays_without [] = refl
  stays_without (x ∷ xs) = by (p x) refl (stays_without xs)
    where
      by : (t : Bool) → p x ≡ t → find q (without_one p xs) ≡ find q xs → find q (cond t xs (x ∷ without_one p xs)) ≡ cond (q x) (Some x) (find q xs)
      by true e behind = sym (ap (λ t. cond t (Some x) (find q xs)) (apart x e))
      by false e behind = ap (cond (q x) (Some x)) behind

-- what is put is found
pub found_with : {X : Type 0} (p : X → Bool) (new : X) → p new ≡ true → (xs : List X) → find p (with_one p new xs) ≡ Some new
found_with p new is [] = ap (λ t. cond t (Some new) None) is
found_with p new is (x ∷ xs) = by (p x) refl (found_with p new is xs)
  where
    by : (t : Bool) → p x ≡ t → find p (with_one p new xs) ≡ Some new → find p (cond t (new ∷ xs) (x ∷ with_one p new xs)) ≡ Some new
    by true e behind = ap (λ t. cond t (Some new) (find p xs)) is
    by false e behind = ap (λ t. cond t (Some x) (find p (with_one p new xs))) e ∙ behind

-- numbers that differ are apart
pub numbers_apart : (number other : ℕ) → other ≢ number → (d : Debugger) → has_number number d ≡ true → has_number other d ≡ false
numbers_apart number other differ d is =
    ne_eqb d.number other (λ same. differ (sym same ∙ eqb-true d.number number is))

-- ---- refusals

module _ (ds : Debuggers) (number : ℕ) where
  same_uncounted : (d : Debugger) (seq : ℕ) (es : Debuggers) → find (has_number number) es ≡ Some d → map uncounted (with_session number (sent seq d) es) ≡ map uncounted es
  same_uncounted d seq [] is = absurd cc
  same_uncounted d seq (e ∷ es) is = by (has_number number e) is (λ behind. same_uncounted d seq es behind)
    where
      by : (t : Bool) → cond t (Some e) (find (has_number number) es) ≡ Some d →
          (find (has_number number) es ≡ Some d → map uncounted (with_session number (sent seq d) es) ≡ map uncounted es) →
          map uncounted (cond t (sent seq d ∷ es) (e ∷ with_session number (sent seq d) es)) ≡ uncounted e ∷ map uncounted es
      by true is behind = let same : e ≡ d = cc in ap (λ f. uncounted f ∷ map uncounted es) (sym same)
      by false is behind = ap (λ fs. uncounted e ∷ fs) (behind is)

  pub counts_alone : (found : Option Debugger) → session_of number ds ≡ found → (messages : List Data) →
      ChangesNothing ds number (record { sessions = counted number found ds; messages = Some messages })
  counts_alone None is messages = record { same = refl; others = λ other differ. refl }
  counts_alone (Some d) is messages = record {
    same = same_uncounted d (next_seq d.seq) ds is;
    others = λ other differ.
        stays_with (has_number number) (has_number other) (numbers_apart number other differ) (sent (next_seq d.seq) d)
        (found_passes (has_number number) ds d is) ds;
  }

judged_alone : (paths : List (List ℕ)) (ds : Debuggers) (number : ℕ) (read : Result DapIn DapRefusal) (program : Option (List (Point TraceItem))) (why : Refusal) →
    refusal ds number read (is_some program) ≡ Some why → ChangesNothing ds number (judged paths ds number read program)
unfolding judged
judged_alone paths ds number read program why is =
    subst (λ reason. ChangesNothing ds number (unless_refused reason ds number (head_of read) (obeyed paths program ds number read))) (sym is)
    (counts_alone ds number (session_of number ds) refl
    (refusal_value (head_of read).command (head_of read).seq (seq_for (session_of number ds)) (chars (told why)) ∷ []))

nothing_alone : (ds : Debuggers) (number : ℕ) → ChangesNothing ds number (logged ds)
nothing_alone ds number = record { same = refl; others = λ other differ. refl }

pub refusals_change_nothing : RefusalsChangeNothing
unfolding answer
refusals_change_nothing paths ds number (Ok request) program why is = judged_alone paths ds number (Ok request) program why is
refusals_change_nothing paths ds number (Err NotDap) program why is = nothing_alone ds number
refusals_change_nothing paths ds number (Err (UnknownCommand head)) program why is = judged_alone paths ds number (Err (UnknownCommand head)) program why is
refusals_change_nothing paths ds number (Err (BadArguments head)) program why is = judged_alone paths ds number (Err (BadArguments head)) program why is
refusals_change_nothing paths ds number (Err OutOfMemory) program why is = nothing_alone ds number
