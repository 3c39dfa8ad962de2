-- How questions of a library go together over several calls.
use Rattle.std.proofs.Common.{◌≡◌, ℕ, ◌≤◌, Bool, true, false, ◌||◌, List, [], ◌∷◌, ◌++◌, Option, Result, Ok, Err, IfOk, IsErr, refl, ap, sym, ◌∙◌, subst, append_assoc, encode_utf8_all, cond, arith}
use Rattle.std.specs.List.{list_any}
use Rattle.std.specs.Result.{IsErrAnd}
use Rattle.std.specs.Str.{chars, IsUtf8, bytes_eq}
use Rattle.std.proofs.lemmas.List.Folds.{list_any-append}
use Rattle.std.proofs.lemmas.Str.{encodes-chars}
use Rattle.std.proofs.lemmas.Slice.Eq.{bytes_eq-Decides}
use Rattle.hl_base.specs.declared.memory.OutOfMemory.{OutOfMemory}
use Rattle.io_edge.specs.LibraryCall.{LibraryCall, Answer, lists, reads}
use Rattle.io_edge.specs.Told.{Gains, HasRisen}
use Rattle.io_edge.proofs.ToldLaws.{Gains-append, Gains-nil, HasRisen-widen}
use Rattle.library_reading.specs.Asked.{Asked, Came, Lacks, Differs, Asking, answered, behind, ◌>>=◌, folder_asked, file_asked, IsShort, Comes, is_refusal, is_refused, AsksOver}

-- ---- errors that are passed on

pub is_failure : {T E : Type 0} (Q : E → Type 0) (result : Result T E) → IsErrAnd result Q → IsErr result
is_failure Q (Ok value) is = absurd is
is_failure Q (Err fault) is = refl

-- ---- where no call is to come

-- questions never meet another call there
abbrev pub AreShort : {A : Type 0} → Asking A → Type 0
AreShort asking = IsShort (asking [])

-- so do those that follow, whatever was reached
abbrev pub FollowShort : {A B : Type 0} → (A → Asking B) → Type 0
FollowShort {A} next = (value : A) → AreShort (next value)

pub IsShort-behind : {A B : Type 0} (asked : Asked A) (next : A → Asking B) → IsShort asked → FollowShort next → IsShort (behind asked next)
IsShort-behind (Came value []) next short follow = follow value
IsShort-behind (Came value (call ∷ calls)) next short follow = absurd short
IsShort-behind Lacks next short follow = tt
IsShort-behind Differs next short follow = absurd short

pub short_then : {A B : Type 0} (first : Asking A) (next : A → Asking B) → AreShort first → FollowShort next → AreShort (first >>= next)
short_then first next short follow = IsShort-behind (first []) next short follow

-- ---- over calls

-- a refusal among the calls of two stretches is one in either
either_risen : (one two : List LibraryCall) (few some many : ℕ) → few ≤ some → some ≤ many → (list_any is_refused one ≡ true → HasRisen few some) → (list_any is_refused two ≡ true → HasRisen some many)
    → list_any is_refused (one ++ two) ≡ true → HasRisen few many
either_risen one two few some many first second rise_one rise_two = by (list_any is_refused one) refl where
  by : (b : Bool) → list_any is_refused one ≡ b → list_any is_refused (one ++ two) ≡ true → HasRisen few many
  by true e f = HasRisen-widen few few some many (search arith) first (rise_one e) second
  by false e f =
      let rest : list_any is_refused two ≡ true = ap (λ b. b || list_any is_refused two) (sym e) ∙ sym (list_any-append is_refused one two) ∙ f in
      HasRisen-widen few some many many first second (rise_two rest) (search arith)

-- nothing is asked
pub asks_nothing : {A T : Type 0} (asking : Asking A) (reached : T → A) (value : T) (told : Option (List LibraryCall)) (many : ℕ)
    → ((more : List LibraryCall) → asking more ≡ Came (reached value) more) → AsksOver asking reached (Ok value) told told many many
asks_nothing asking reached value told many is = record {
  calls = [];
  made = Gains-nil told;
  comes = is;
  later = search arith;
  risen = λ f. let bad : false ≡ true = f in cc;
}

comes_short : {A T : Type 0} (asking : Asking A) (reached : T → A) (result : Result T OutOfMemory) (calls : List LibraryCall)
    → IsErr result → IsShort (asking calls) → Comes asking reached result calls
comes_short asking reached (Ok value) calls failed short = let bad : false ≡ true = failed in cc
comes_short asking reached (Err fault) calls failed short = short

-- memory ran out before any call
pub asks_stopped : {A T : Type 0} (asking : Asking A) (reached : T → A) (result : Result T OutOfMemory) (told : Option (List LibraryCall)) (many : ℕ)
    → IsErr result → AreShort asking → AsksOver asking reached result told told many many
asks_stopped asking reached result told many failed short = record {
  calls = [];
  made = Gains-nil told;
  comes = comes_short asking reached result [] failed short;
  later = search arith;
  risen = λ f. let bad : false ≡ true = f in cc;
}

-- questions and those that follow: what was reached by the first is where the others begin
pub asks_then : {A B T U : Type 0} (first : Asking A) (next : A → Asking B) (reached : T → A) (ends : U → B) (value : T) (result : Result U OutOfMemory)
    (before middle now : Option (List LibraryCall)) (few some many : ℕ)
    → AsksOver first reached (Ok value) before middle few some → AsksOver (next (reached value)) ends result middle now some many
    → AsksOver (first >>= next) ends result before now few many
asks_then {A} {B} {T} {U} first next reached ends value result before middle now few some many one two = record {
  calls = one.calls ++ two.calls;
  made = Gains-append before middle now one.calls two.calls one.made two.made;
  comes = both result two.comes;
  later = let a = one.later in let b = two.later in search arith;
  risen = either_risen one.calls two.calls few some many one.later two.later one.risen two.risen;
} where
  front : (more : List LibraryCall) → behind (first (one.calls ++ more)) next ≡ next (reached value) more
  front more = ap (λ z. behind z next) (one.comes more)

  both : (r : Result U OutOfMemory) → Comes (next (reached value)) ends r two.calls → Comes (first >>= next) ends r (one.calls ++ two.calls)
  both (Ok last) comes = λ more. ap (λ z. behind (first z) next) (append_assoc one.calls two.calls more) ∙ front (two.calls ++ more) ∙ comes more
  both (Err fault) short = subst IsShort (sym (front two.calls)) short

-- the same where nothing more is asked
pub asks_told : {A B T U : Type 0} (first : Asking A) (next : A → Asking B) (reached : T → A) (ends : U → B) (value : T) (last : U)
    (before now : Option (List LibraryCall)) (few many : ℕ)
    → AsksOver first reached (Ok value) before now few many → ((more : List LibraryCall) → next (reached value) more ≡ Came (ends last) more)
    → AsksOver (first >>= next) ends (Ok last) before now few many
asks_told first next reached ends value last before now few many one is =
    asks_then first next reached ends value (Ok last) before now now few many many one (asks_nothing (next (reached value)) ends last now many is)

-- the same where memory ran out behind the first
pub asks_lost : {A B T U : Type 0} (first : Asking A) (next : A → Asking B) (reached : T → A) (ends : U → B) (value : T) (result : Result U OutOfMemory)
    (before now : Option (List LibraryCall)) (few many : ℕ)
    → AsksOver first reached (Ok value) before now few many → IsErr result → AreShort (next (reached value)) → AsksOver (first >>= next) ends result before now few many
asks_lost first next reached ends value result before now few many one failed short =
    asks_then first next reached ends value result before now now few many many one (asks_stopped (next (reached value)) ends result now many failed short)

-- the same where memory ran out within the first
pub asks_cut : {A B T U : Type 0} (first : Asking A) (next : A → Asking B) (reached : T → A) (ends : U → B) (fault : OutOfMemory) (result : Result U OutOfMemory)
    (before now : Option (List LibraryCall)) (few many : ℕ)
    → AsksOver first reached (Err fault) before now few many → IsErr result → FollowShort next → AsksOver (first >>= next) ends result before now few many
asks_cut first next reached ends fault result before now few many one failed follow = record {
  calls = one.calls;
  made = one.made;
  comes = comes_short (first >>= next) ends result one.calls failed (IsShort-behind (first one.calls) next one.comes follow);
  later = one.later;
  risen = one.risen;
}

-- the same where the first is followed by what takes no call, and may run out of memory
pub asks_made : {A B T U : Type 0} (first : Asking A) (next : A → B) (reached : T → A) (ends : U → B) (value : T) (result : Result U OutOfMemory)
    (before now : Option (List LibraryCall)) (few many : ℕ)
    → AsksOver first reached (Ok value) before now few many → IfOk result (λ last. next (reached value) ≡ ends last)
    → AsksOver (first >>= (λ z. answered (next z))) ends result before now few many
asks_made first next reached ends value (Ok last) before now few many one is =
    asks_told first (λ z. answered (next z)) reached ends value last before now few many one (λ more. ap (λ z. Came z more) is)
asks_made first next reached ends value (Err fault) before now few many one is =
    asks_lost first (λ z. answered (next z)) reached ends value (Err fault) before now few many one refl tt

-- ---- what is left to be asked

-- Some calls were made, and behind them the whole goes on as the rest does.
pub record GoesOn {A : Type 0} (whole rest : Asking A) (before now : Option (List LibraryCall)) (few many : ℕ) : Type 0 where
  pub calls : List LibraryCall
  pub made : Gains before calls now
  pub over : (more : List LibraryCall) → whole (calls ++ more) ≡ rest more
  pub later : few ≤ many
  pub risen : list_any is_refused calls ≡ true → HasRisen few many

-- before the first call
pub goes_first : {A : Type 0} (whole : Asking A) (told : Option (List LibraryCall)) (many : ℕ) → GoesOn whole whole told told many many
goes_first whole told many = record {
  calls = [];
  made = Gains-nil told;
  over = λ more. refl;
  later = search arith;
  risen = λ f. let bad : false ≡ true = f in cc;
}

-- the next questions came to a value
pub goes_next : {A B T : Type 0} (whole rest : Asking B) (first : Asking A) (next : A → Asking B) (reached : T → A) (value : T)
    (before middle now : Option (List LibraryCall)) (few some many : ℕ)
    → GoesOn whole rest before middle few some → ((more : List LibraryCall) → rest more ≡ (first >>= next) more) → AsksOver first reached (Ok value) middle now some many
    → GoesOn whole (next (reached value)) before now few many
goes_next whole rest first next reached value before middle now few some many so is one = record {
  calls = so.calls ++ one.calls;
  made = Gains-append before middle now so.calls one.calls so.made one.made;
  over = λ more. ap whole (append_assoc so.calls one.calls more) ∙ so.over (one.calls ++ more) ∙ is (one.calls ++ more) ∙ ap (λ z. behind z next) (one.comes more);
  later = let a = so.later in let b = one.later in search arith;
  risen = either_risen so.calls one.calls few some many so.later one.later so.risen one.risen;
}

-- the rest came to its end
pub goes_ends : {A T : Type 0} (whole rest : Asking A) (reached : T → A) (result : Result T OutOfMemory)
    (before middle now : Option (List LibraryCall)) (few some many : ℕ)
    → GoesOn whole rest before middle few some → AsksOver rest reached result middle now some many → AsksOver whole reached result before now few many
goes_ends {A} {T} whole rest reached result before middle now few some many so one = record {
  calls = so.calls ++ one.calls;
  made = Gains-append before middle now so.calls one.calls so.made one.made;
  comes = both result one.comes;
  later = let a = so.later in let b = one.later in search arith;
  risen = either_risen so.calls one.calls few some many so.later one.later so.risen one.risen;
} where
  both : (r : Result T OutOfMemory) → Comes rest reached r one.calls → Comes whole reached r (so.calls ++ one.calls)
  both (Ok last) comes = λ more. ap whole (append_assoc so.calls one.calls more) ∙ so.over (one.calls ++ more) ∙ comes more
  both (Err fault) short = subst IsShort (sym (so.over one.calls)) short

-- ---- one call

is_same : (path : List ℕ) → IsUtf8 path → bytes_eq (encode_utf8_all (chars path)) path ≡ true
is_same path utf8 = (bytes_eq-Decides (encode_utf8_all (chars path)) path).1 (encodes-chars path utf8)

alone : (b : Bool) → (b || false) ≡ true → b ≡ true
alone true e = refl
alone false e = e

-- a file was read
pub asks_file : {T : Type 0} (path : List ℕ) (answer : Answer (List ℕ)) (reached : T → Answer (List ℕ)) (value : T) (calls : List LibraryCall)
    (before now : Option (List LibraryCall)) (few many : ℕ) → IsUtf8 path → answer ≡ reached value → calls ≡ reads path answer ∷ []
    → Gains before calls now → few ≤ many → (is_refusal answer ≡ true → HasRisen few many)
    → AsksOver (file_asked (chars path)) reached (Ok value) before now few many
asks_file path answer reached value calls before now few many utf8 is are made later risen = record {
  calls = reads path answer ∷ [];
  made = subst (λ z. Gains before z now) are made;
  comes = λ more. ap (λ b. cond b (Came answer more) Differs) (is_same path utf8) ∙ ap (λ z. Came z more) is;
  later = later;
  risen = λ f. risen (alone (is_refusal answer) f);
}

-- a folder was listed
pub asks_folder : {T : Type 0} (path : List ℕ) (answer : Answer (List (List ℕ))) (reached : T → Answer (List (List ℕ))) (value : T) (calls : List LibraryCall)
    (before now : Option (List LibraryCall)) (few many : ℕ) → IsUtf8 path → answer ≡ reached value → calls ≡ lists path answer ∷ []
    → Gains before calls now → few ≤ many → (is_refusal answer ≡ true → HasRisen few many)
    → AsksOver (folder_asked (chars path)) reached (Ok value) before now few many
asks_folder path answer reached value calls before now few many utf8 is are made later risen = record {
  calls = lists path answer ∷ [];
  made = subst (λ z. Gains before z now) are made;
  comes = λ more. ap (λ b. cond b (Came answer more) Differs) (is_same path utf8) ∙ ap (λ z. Came z more) is;
  later = later;
  risen = λ f. risen (alone (is_refusal answer) f);
}
