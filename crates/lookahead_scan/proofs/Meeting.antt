-- What is met, one behind the other.
use Rattle.std.proofs.Common.{◌≡◌, ◌∙◌, ℕ, true, false, List, [], ◌∷◌, ◌++◌, refl, sym, ap, append_assoc, append-nil}
use Rattle.std.specs.Prelude.{Bool}
use Rattle.lookahead_scan.specs.declared.sight.Label.{Label}
use Rattle.lookahead_scan.specs.declared.sight.Sight.{Sight}
use Rattle.lookahead_scan.specs.Looks.{Met, none_met, joined, and_then, met, all_met}

none_behind : (labels : List Label) (taken : List (List ℕ)) (ended : Bool) →
    and_then (record { labels = labels; taken = taken; ended = ended }) none_met ≡ record { labels = labels; taken = taken; ended = ended }
none_behind labels taken true = refl
none_behind labels taken false = ap (λ all. record { labels = all; taken = taken; ended = false }) (append-nil labels)

-- nothing behind what was met
pub and_then-none : (one : Met) → and_then one none_met ≡ one
and_then-none one = none_behind one.labels one.taken one.ended

joined_on : (one : Met) (labels : List Label) (taken : List (List ℕ)) (ended : Bool) (next : List (List ℕ) → Met) →
    and_then (joined one (record { labels = labels; taken = taken; ended = ended })) next
    ≡ joined one (and_then (record { labels = labels; taken = taken; ended = ended }) next)
joined_on one labels taken true next = refl
joined_on one labels taken false next =
    ap (λ all. record { labels = all; taken = (next taken).taken; ended = (next taken).ended }) (append_assoc one.labels labels (next taken).labels)

assoc_of : (labels : List Label) (taken : List (List ℕ)) (ended : Bool) (first second : List (List ℕ) → Met) →
    and_then (and_then (record { labels = labels; taken = taken; ended = ended }) first) second
    ≡ and_then (record { labels = labels; taken = taken; ended = ended }) (λ now. and_then (first now) second)
assoc_of labels taken true first second = refl
assoc_of labels taken false first second =
    joined_on (record { labels = labels; taken = taken; ended = false }) (first taken).labels (first taken).taken (first taken).ended second

-- three in turn
pub and_then-and_then : (one : Met) (first second : List (List ℕ) → Met) →
    and_then (and_then one first) second ≡ and_then one (λ now. and_then (first now) second)
and_then-and_then one first second = assoc_of one.labels one.taken one.ended first second

-- a statement, and then those behind it
pub and_then-all_met : (one : Met) (copy : List (List ℕ) → List ℕ → Met) (sight : Sight) (rest : List Sight) →
    and_then one (λ taken. all_met copy taken (sight ∷ rest)) ≡ and_then (and_then one (λ taken. met copy taken sight)) (λ taken. all_met copy taken rest)
and_then-all_met one copy sight rest = sym (and_then-and_then one (λ taken. met copy taken sight) (λ taken. all_met copy taken rest))
