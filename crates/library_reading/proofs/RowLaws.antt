-- What follows of the reading of a file of the configuration.
use Rattle.std.proofs.Common.{◌≡◌, ℕ, List, Option, Result, Ok, Err, IfOk, IsErr, ap, sym, ◌∙◌, subst}
use Rattle.hl_base.specs.declared.memory.OutOfMemory.{OutOfMemory}
use Rattle.io_edge.specs.LibraryCall.{LibraryCall, Answer, found}
use Rattle.program_config.specs.declared.files.ConfigFault.{ConfigFault}
use Rattle.library_reading.specs.Asked.{answered, file_asked, AsksOver}
use Rattle.library_reading.specs.Log.{Log}
use Rattle.library_reading.specs.Rows.{Told, rows_told, file_told, rows_read}
use Rattle.library_reading.proofs.AskedLaws.{AreShort, asks_made, asks_lost, asks_cut}

-- where no call is to come
pub rows_read-short : {A : Type 0} (form : List ℕ → Result (List A) ConfigFault) (path : List ℕ) (log : Log) → AreShort (rows_read form path log)
unfolding rows_read
rows_read-short form path log = tt

-- an answer came, and this is what it says, unless memory ran out
pub rows_reached : {A T U : Type 0} (form : List ℕ → Result (List A) ConfigFault) (path : List ℕ) (log : Log) (reached : T → Answer (List ℕ)) (told : U → Told A) (answer : T)
    (result : Result U OutOfMemory) (before now : Option (List LibraryCall)) (few many : ℕ)
    → AsksOver (file_asked path) reached (Ok answer) before now few many → IfOk result (λ rows. file_told form log path (reached answer) ≡ told rows)
    → AsksOver (rows_read form path log) told result before now few many
unfolding rows_read
rows_reached form path log reached told answer result before now few many one is =
    asks_made (file_asked path) (file_told form log path) reached told answer result before now few many one is

-- memory ran out at the call
pub rows_cut : {A T U : Type 0} (form : List ℕ → Result (List A) ConfigFault) (path : List ℕ) (log : Log) (reached : T → Answer (List ℕ)) (told : U → Told A)
    (fault : OutOfMemory) (result : Result U OutOfMemory) (before now : Option (List LibraryCall)) (few many : ℕ)
    → AsksOver (file_asked path) reached (Err fault) before now few many → IsErr result → AsksOver (rows_read form path log) told result before now few many
unfolding rows_read
rows_cut form path log reached told fault result before now few many one failed =
    asks_cut (file_asked path) (λ z. answered (file_told form log path z)) reached told fault result before now few many one failed (λ z. tt)

-- what bytes say is what the file says
pub rows_found : {A U : Type 0} (form : List ℕ → Result (List A) ConfigFault) (log : Log) (path : List ℕ) (told : U → Told A) (answer : Answer (List ℕ)) (bytes read : List ℕ)
    (result : Result U OutOfMemory) → answer ≡ found bytes → read ≡ bytes → IfOk result (λ rows. rows_told log path (form read) ≡ told rows)
    → IfOk result (λ rows. file_told form log path answer ≡ told rows)
rows_found form log path told answer bytes read (Ok rows) is same says = ap (file_told form log path) is ∙ ap (λ z. rows_told log path (form z)) (sym same) ∙ says
rows_found form log path told answer bytes read (Err fault) is same says = tt

-- memory ran out behind the answer
pub rows_lost : {A T U : Type 0} (form : List ℕ → Result (List A) ConfigFault) (path : List ℕ) (log : Log) (reached : T → Answer (List ℕ)) (told : U → Told A) (answer : T)
    (result : Result U OutOfMemory) (before now : Option (List LibraryCall)) (few many : ℕ)
    → AsksOver (file_asked path) reached (Ok answer) before now few many → IsErr result → AsksOver (rows_read form path log) told result before now few many
unfolding rows_read
rows_lost form path log reached told answer result before now few many one failed =
    asks_lost (file_asked path) (λ z. answered (file_told form log path z)) reached told answer result before now few many one failed tt

-- the same of a path by another name
pub rows_at : {A U : Type 0} (form : List ℕ → Result (List A) ConfigFault) (path other : List ℕ) (log : Log) (told : U → Told A)
    (result : Result U OutOfMemory) (before now : Option (List LibraryCall)) (few many : ℕ) → path ≡ other
    → AsksOver (rows_read form path log) told result before now few many → AsksOver (rows_read form other log) told result before now few many
rows_at form path other log told result before now few many is one = subst (λ z. AsksOver (rows_read form z log) told result before now few many) is one
