-- A request that is read has the command whose name it says.
use Rattle.std.proofs.Common.{◌≡◌, ℕ, ℤ, List, Bool, true, false, if◌then◌else◌, Option, Some, None, Result, Ok, Err, refl, ◌∙◌, arith, rules}
use Rattle.std.specs.Prelude.{codes, IfOk, IfSome, ok_or}
use Rattle.std.specs.Str.{bytes_eq}
use Rattle.std.proofs.lemmas.Result.{IfOk-weaker}
use Rattle.std.proofs.lemmas.Slice.Eq.{bytes_eq-Decides}
use Rattle.serde_json.specs.Data.{Data}
use Rattle.json_view.specs.declared.members.MemberFault.{MemberFault}
use Rattle.dap_messages.specs.declared.requests.DapHead.{DapHead}
use Rattle.dap_messages.specs.declared.requests.DapCommand.{DapCommand}
use Rattle.dap_messages.specs.Arguments.{initialization, launching, setting, scopes_asked, variables_asked}
use Rattle.dap_messages.specs.Requests.{or_not_dap, name_of, unless_bad, bare_of, command_of}

-- ---- what holds of each outcome

-- of one of two
IfOk-if : {A E : Type 0} (P : A → Type 0) (b : Bool) (x y : Result A E) → (b ≡ true → IfOk x P) → IfOk y P → IfOk (if b then x else y) P
IfOk-if P true x y one other = one refl
IfOk-if P false x y one other = other

IfSome-if : {A : Type 0} (P : A → Type 0) (b : Bool) (x y : Option A) → (b ≡ true → IfSome x P) → IfSome y P → IfSome (if b then x else y) P
IfSome-if P true x y one other = one refl
IfSome-if P false x y one other = other

IfOk-ok_or : {A E : Type 0} (P : A → Type 0) (o : Option A) (fault : E) → IfSome o P → IfOk (ok_or o fault) P
IfOk-ok_or P (Some a) fault some = some
IfOk-ok_or P None fault some = tt

IfOk-unless_bad : (P : DapCommand → Type 0) (head : DapHead) (r : Result DapCommand MemberFault) → IfOk r P → IfOk (unless_bad head r) P
IfOk-unless_bad P head (Ok command) ok = ok
IfOk-unless_bad P head (Err fault) ok = tt

-- ---- commands

-- the command has this name
abbrev pub Names : List ℕ → DapCommand → Type 0
Names name command = name ≡ name_of command

equal : (a b : List ℕ) → bytes_eq a b ≡ true → a ≡ b
equal a b is = (bytes_eq-Decides a b).0 is

-- of those that read no arguments
IfSome-bare_of : (name : List ℕ) → IfSome (bare_of name) (Names name)
IfSome-bare_of name =
    IfSome-if (Names name) (bytes_eq name (codes "configurationDone")) _ _ (equal name _)
    (IfSome-if (Names name) (bytes_eq name (codes "threads")) _ _ (equal name _)
    (IfSome-if (Names name) (bytes_eq name (codes "stackTrace")) _ _ (equal name _)
    (IfSome-if (Names name) (bytes_eq name (codes "next")) _ _ (equal name _)
    (IfSome-if (Names name) (bytes_eq name (codes "stepIn")) _ _ (equal name _)
    (IfSome-if (Names name) (bytes_eq name (codes "stepOut")) _ _ (equal name _)
    (IfSome-if (Names name) (bytes_eq name (codes "continue")) _ _ (equal name _)
    (IfSome-if (Names name) (bytes_eq name (codes "disconnect")) _ _ (equal name _)
    tt)))))))

-- of those that read some
IfOk-initialization : (message : Data) → IfOk (initialization message) (Names (codes "initialize"))
unfolding initialization
IfOk-initialization message = grind arith

IfOk-launching : (message : Data) → IfOk (launching message) (Names (codes "launch"))
unfolding launching
IfOk-launching message = grind arith

IfOk-setting : (message : Data) → IfOk (setting message) (Names (codes "setBreakpoints"))
unfolding setting
IfOk-setting message = search rules

IfOk-scopes_asked : (message : Data) → IfOk (scopes_asked message) (Names (codes "scopes"))
unfolding scopes_asked
IfOk-scopes_asked message = grind arith

IfOk-variables_asked : (message : Data) → IfOk (variables_asked message) (Names (codes "variables"))
unfolding variables_asked
IfOk-variables_asked message = search rules

-- one that reads arguments, where the name is that of its own
IfOk-unless_bad-named : (name own : List ℕ) (head : DapHead) (r : Result DapCommand MemberFault) → IfOk r (Names own) → bytes_eq name own ≡ true
    → IfOk (unless_bad head r) (Names name)
IfOk-unless_bad-named name own head r ok is =
    IfOk-unless_bad (Names name) head r
    (IfOk-weaker r (Names own) (Names name) (λ command named. equal name own is ∙ named) ok)

-- of all
pub IfOk-command_of : (seq : ℤ) (name : List ℕ) (message : Data) → IfOk (command_of seq name message) (Names name)
IfOk-command_of seq name message =
    IfOk-if (Names name) (bytes_eq name (codes "initialize")) _ _ (IfOk-unless_bad-named name _ _ _ (IfOk-initialization message))
    (IfOk-if (Names name) (bytes_eq name (codes "launch")) _ _ (IfOk-unless_bad-named name _ _ _ (IfOk-launching message))
    (IfOk-if (Names name) (bytes_eq name (codes "setBreakpoints")) _ _ (IfOk-unless_bad-named name _ _ _ (IfOk-setting message))
    (IfOk-if (Names name) (bytes_eq name (codes "scopes")) _ _ (IfOk-unless_bad-named name _ _ _ (IfOk-scopes_asked message))
    (IfOk-if (Names name) (bytes_eq name (codes "variables")) _ _ (IfOk-unless_bad-named name _ _ _ (IfOk-variables_asked message))
    (IfOk-ok_or (Names name) (bare_of name) _ (IfSome-bare_of name))))))

-- ---- what a message says of itself

-- a name that is read is the member's text
pub or_not_dap-Ok : {A F : Type 0} (r : Result A F) (value : A) → or_not_dap r ≡ Ok value → r ≡ Ok value
or_not_dap-Ok (Ok a) value is = cc
or_not_dap-Ok (Err fault) value is = cc
