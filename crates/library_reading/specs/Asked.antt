-- What is asked of a library, over the calls that are to come (this project).
use Rattle.std.specs.Prelude.{◌≡◌, ◌≤◌, ℕ, Bool, true, false, List, [], ◌∷◌, ◌++◌, Option, Result, Ok, Err, encode_utf8_all, if◌then◌else◌}
use Rattle.std.specs.List.{list_any}
use Rattle.std.specs.Str.{bytes_eq}
use Rattle.hl_base.specs.declared.memory.OutOfMemory.{OutOfMemory}
use Rattle.io_edge.specs.LibraryCall.{LibraryCall, lists, reads, Answer, absent, found, refused}
use Rattle.io_edge.specs.Told.{Gains, HasRisen}

-- What comes of questions, where these are the calls that are to come with their answers: a value, and the calls that are
-- left; or there is no answer any more; or the next answer is of another call than the one that is made.
pub data Asked (A : Type 0) : Type 0 where
  Came : (value : A) (rest : List LibraryCall) → Asked A
  Lacks : Asked A
  Differs : Asked A

-- questions, by what comes of them over the calls that are to come
abbrev pub Asking : Type 0 → Type 0
Asking A = List LibraryCall → Asked A

-- nothing is asked
abbrev pub answered : {A : Type 0} → A → Asking A
answered value calls = Came value calls

abbrev pub behind : {A B : Type 0} → Asked A → (A → Asking B) → Asked B
behind (Came value rest) next = next value rest
behind Lacks next = Lacks
behind Differs next = Differs

-- questions, and those that follow of what they came to
infixl 10 ◌>>=◌
abbrev pub ◌>>=◌ : {A B : Type 0} → Asking A → (A → Asking B) → Asking B
(first >>= next) calls = behind (first calls) next

-- the next call is to list a folder
abbrev pub folder_asked : (folder : List ℕ) → Asking (Answer (List (List ℕ)))
folder_asked folder [] = Lacks
folder_asked folder (lists other answer ∷ rest) = if bytes_eq (encode_utf8_all folder) other then Came answer rest else Differs
folder_asked folder (reads path answer ∷ rest) = Differs

-- the next call is to read a file
abbrev pub file_asked : (path : List ℕ) → Asking (Answer (List ℕ))
file_asked path [] = Lacks
file_asked path (reads other answer ∷ rest) = if bytes_eq (encode_utf8_all path) other then Came answer rest else Differs
file_asked path (lists folder answer ∷ rest) = Differs

-- ---- what a call of this crate answers

-- all calls were taken and no other was made, as far as it came
abbrev pub IsShort : {A : Type 0} → Asked A → Type 0
IsShort (Came value []) = Unit {0}
IsShort (Came value (call ∷ calls)) = ⊥
IsShort Lacks = Unit {0}
IsShort Differs = ⊥

-- Over these calls questions came to what was reached, and whatever is to come behind them is left. Where memory ran out,
-- these are all calls that were made.
abbrev pub Comes : {A T : Type 0} → Asking A → (T → A) → Result T OutOfMemory → List LibraryCall → Type 0
Comes asking reached (Ok value) calls = (more : List LibraryCall) → asking (calls ++ more) ≡ Came (reached value) more
Comes asking reached (Err fault) calls = IsShort (asking calls)

-- whether a call was refused
abbrev pub is_refusal : {A : Type 0} → Answer A → Bool
is_refusal absent = false
is_refusal (found value) = false
is_refusal refused = true

abbrev pub is_refused : LibraryCall → Bool
is_refused (lists folder answer) = is_refusal answer
is_refused (reads path answer) = is_refusal answer

-- Some calls were made, and questions came over them to what was reached. A library that tells its calls tells that it gained
-- these; its count of faults did not fall, and it rose where one of the calls was refused.
pub record AsksOver {A T : Type 0} (asking : Asking A) (reached : T → A) (result : Result T OutOfMemory) (before now : Option (List LibraryCall)) (few many : ℕ) : Type 0 where
  pub calls : List LibraryCall
  pub made : Gains before calls now
  pub comes : Comes asking reached result calls
  pub later : few ≤ many
  pub risen : list_any is_refused calls ≡ true → HasRisen few many
