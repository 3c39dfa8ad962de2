-- What follows of the reading of members, one after another.
use Rattle.std.proofs.Common.{◌≡◌, ℕ, Bool, true, false, if◌then◌else◌, List, [], ◌∷◌, Option, Result, Ok, Err, IfOk, IsErr, length, map, drop, get_or, suc, ◌+◌, ◌<◌, add-one, drop-cons, string_bytes, refl, ap, sym, ◌∙◌, subst}
use Rattle.std.specs.Prelude.{String as AnyString}
use Rattle.std.specs.Global.{Global}
use Rattle.hl_base.specs.declared.memory.OutOfMemory.{OutOfMemory}
use Rattle.io_edge.specs.LibraryCall.{LibraryCall, Answer}
use Rattle.library_reading.specs.Asked.{Asking, answered, file_asked, AsksOver}
use Rattle.library_reading.specs.Taking.{Taking, Passed, file_told, file_taken, member_read, each_with_room}
use Rattle.library_reading.proofs.AskedLaws.{AreShort, short_then, asks_nothing, asks_stopped, asks_made, asks_cut, GoesOn, goes_next, goes_ends}

-- ---- one member

pub member_read-short : (path : List ℕ) (taking : Taking) → AreShort (member_read path taking)
unfolding member_read
member_read-short path taking = tt

-- an answer came and was taken, unless memory ran out
pub member_reached : {T U : Type 0} (path : List ℕ) (taking : Taking) (reached : T → Answer (List ℕ)) (ends : U → Passed) (answer : T)
    (result : Result U OutOfMemory) (before now : Option (List LibraryCall)) (few many : ℕ)
    → AsksOver (file_asked path) reached (Ok answer) before now few many → IfOk result (λ last. file_taken taking path (file_told (reached answer)) ≡ ends last)
    → AsksOver (member_read path taking) ends result before now few many
unfolding member_read
member_reached path taking reached ends answer result before now few many one is =
    asks_made (file_asked path) (λ z. file_taken taking path (file_told z)) reached ends answer result before now few many one is

-- memory ran out at the call
pub member_cut : {T U : Type 0} (path : List ℕ) (taking : Taking) (reached : T → Answer (List ℕ)) (ends : U → Passed) (fault : OutOfMemory)
    (result : Result U OutOfMemory) (before now : Option (List LibraryCall)) (few many : ℕ)
    → AsksOver (file_asked path) reached (Err fault) before now few many → IsErr result → AsksOver (member_read path taking) ends result before now few many
unfolding member_read
member_cut path taking reached ends fault result before now few many one failed =
    asks_cut (file_asked path) (λ z. answered (file_taken taking path (file_told z))) reached ends fault result before now few many one failed (λ z. tt)

-- ---- several in turn

-- what follows of one of them
abbrev pub next_with_room : {A : Type 0} → (A → Taking → Asking Passed) → List A → Passed → Asking Passed
next_with_room read rest passed = if passed.room then each_with_room read rest passed.taking else answered passed

abbrev pub ReadsShort : {A : Type 0} → (A → Taking → Asking Passed) → Type 0
ReadsShort {A} read = (x : A) (taking : Taking) → AreShort (read x taking)

next_with_room-short : {A : Type 0} (read : A → Taking → Asking Passed) (xs : List A) (passed : Passed)
    → ((taking : Taking) → AreShort (each_with_room read xs taking)) → AreShort (next_with_room read xs passed)
next_with_room-short read xs passed short = by passed.room where
  by : (b : Bool) → AreShort (if b then each_with_room read xs passed.taking else answered passed)
  by true = short passed.taking
  by false = tt

pub each_with_room-short : {A : Type 0} (read : A → Taking → Asking Passed) (xs : List A) (taking : Taking) → ReadsShort read → AreShort (each_with_room read xs taking)
each_with_room-short read [] taking short = tt
each_with_room-short read (x ∷ xs) taking short =
    short_then (read x taking) (next_with_room read xs) (short x taking)
    (λ passed. next_with_room-short read xs passed (λ other. each_with_room-short read xs other short))

-- one more was read
room_next : {A T : Type 0} (read : A → Taking → Asking Passed) (xs : List A) (x : A) (rest : List A) (taking : Taking) (reached : T → Passed) (value : T) (whole : Asking Passed)
    (before middle now : Option (List LibraryCall)) (few some many : ℕ) → GoesOn whole (each_with_room read xs taking) before middle few some → xs ≡ x ∷ rest
    → AsksOver (read x taking) reached (Ok value) middle now some many → GoesOn whole (next_with_room read rest (reached value)) before now few many
room_next read xs x rest taking reached value whole before middle now few some many so is one =
    goes_next whole (each_with_room read xs taking) (read x taking) (next_with_room read rest) reached value before middle now few some many so
    (λ more. ap (λ z. each_with_room read z taking more) is) one

-- there was room
pub room_goes_on : {A : Type 0} (read : A → Taking → Asking Passed) (xs : List A) (x : A) (rest : List A) (taking next : Taking) (room : Bool) (whole : Asking Passed)
    (before middle now : Option (List LibraryCall)) (few some many : ℕ) → GoesOn whole (each_with_room read xs taking) before middle few some → xs ≡ x ∷ rest → room ≡ true
    → AsksOver (read x taking) (λ b. record { taking = next; room = b }) (Ok room) middle now some many → GoesOn whole (each_with_room read rest next) before now few many
room_goes_on read xs x rest taking next room whole before middle now few some many so is left one =
    subst (λ b. GoesOn whole (next_with_room read rest (record { taking = next; room = b })) before now few many) left
    (room_next read xs x rest taking (λ b. record { taking = next; room = b }) room whole before middle now few some many so is one)

-- there was none
pub room_gone : {A : Type 0} (read : A → Taking → Asking Passed) (xs : List A) (x : A) (rest : List A) (taking next : Taking) (room : Bool) (whole : Asking Passed)
    (before middle now : Option (List LibraryCall)) (few some many : ℕ) → GoesOn whole (each_with_room read xs taking) before middle few some → xs ≡ x ∷ rest → room ≡ false
    → AsksOver (read x taking) (λ b. record { taking = next; room = b }) (Ok room) middle now some many
    → AsksOver whole (λ b. record { taking = next; room = b }) (Ok false) before now few many
room_gone read xs x rest taking next room whole before middle now few some many so is gone one =
    let reached : Bool → Passed = λ b. record { taking = next; room = b } in
    let last : GoesOn whole (answered (reached false)) before now few many =
    subst (λ b. GoesOn whole (next_with_room read rest (reached b)) before now few many) gone
    (room_next read xs x rest taking reached room whole before middle now few some many so is one) in
    goes_ends whole (answered (reached false)) reached (Ok false) before now now few many many last
    (asks_nothing (answered (reached false)) reached false now many (λ more. refl))

-- all were read
pub room_stays : {A : Type 0} (read : A → Taking → Asking Passed) (xs : List A) (taking : Taking) (whole : Asking Passed)
    (before now : Option (List LibraryCall)) (few many : ℕ) → GoesOn whole (each_with_room read xs taking) before now few many → xs ≡ []
    → AsksOver whole (λ b. record { taking = taking; room = b }) (Ok true) before now few many
room_stays read xs taking whole before now few many so none =
    let reached : Bool → Passed = λ b. record { taking = taking; room = b } in
    goes_ends whole (each_with_room read xs taking) reached (Ok true) before now now few many many so
    (asks_nothing (each_with_room read xs taking) reached true now many (λ more. ap (λ z. each_with_room read z taking more) none))

-- memory ran out before the next
pub room_lost : {A U : Type 0} (read : A → Taking → Asking Passed) (xs : List A) (taking : Taking) (whole : Asking Passed) (ends : U → Passed) (result : Result U OutOfMemory)
    (before now : Option (List LibraryCall)) (few many : ℕ) → ReadsShort read → GoesOn whole (each_with_room read xs taking) before now few many → IsErr result
    → AsksOver whole ends result before now few many
room_lost read xs taking whole ends result before now few many short so failed =
    goes_ends whole (each_with_room read xs taking) ends result before now now few many many so
    (asks_stopped (each_with_room read xs taking) ends result now many failed (each_with_room-short read xs taking short))

-- memory ran out within the next
pub room_cut : {A T U : Type 0} (read : A → Taking → Asking Passed) (xs : List A) (x : A) (rest : List A) (taking : Taking) (reached : T → Passed) (whole : Asking Passed) (ends : U → Passed)
    (fault : OutOfMemory) (result : Result U OutOfMemory) (before middle now : Option (List LibraryCall)) (few some many : ℕ) → ReadsShort read
    → GoesOn whole (each_with_room read xs taking) before middle few some → xs ≡ x ∷ rest → AsksOver (read x taking) reached (Err fault) middle now some many → IsErr result
    → AsksOver whole ends result before now few many
room_cut read xs x rest taking reached whole ends fault result before middle now few some many short so is one failed =
    goes_ends whole (each_with_room read xs taking) ends result before middle now few some many so
    (subst (λ z. AsksOver (each_with_room read z taking) ends result middle now some many) (sym is)
    (asks_cut (read x taking) (next_with_room read rest) reached ends fault result middle now some many one failed (λ passed. next_with_room-short read rest passed (λ other. each_with_room-short read rest other short))))

-- ---- lists

pub drop-next : {A : Type 0} (xs : List A) (i : ℕ) (x : A) → i < length xs → x ≡ get_or xs i x → drop i xs ≡ x ∷ drop (i + 1) xs
drop-next xs i x more is_next = drop-cons xs i x more ∙ ap (λ y. y ∷ drop (suc i) xs) (sym is_next) ∙ ap (λ k. x ∷ drop k xs) (sym (add-one i))

-- the names that are left
pub names-next : (names : List (AnyString Global)) (i : ℕ) (name : AnyString Global) (text : List ℕ) → i < length names → name ≡ get_or names i name → text ≡ string_bytes name
    → map string_bytes (drop i names) ≡ text ∷ map string_bytes (drop (i + 1) names)
names-next names i name text more is_next is = ap (map string_bytes) (drop-next names i name more is_next) ∙ ap (λ z. z ∷ map string_bytes (drop (i + 1) names)) (sym is)
