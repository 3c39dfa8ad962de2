-- Lists that are added to, and texts without characters.
use Rattle.std.proofs.Common.{◌≡◌, ◌∙◌, ℕ, List, [], ◌++◌, Result, OnOk, ap, append_assoc, append-nil, sym}
use Rattle.std.proofs.lemmas.Result.{on_ok_weaker}

-- one list was added, and then another
pub pushed-twice : {X T E : Type 0} (r : Result T E) (old middle new one two : List X) → middle ≡ old ++ one → OnOk r (new ≡ middle ++ two) →
    OnOk r (new ≡ old ++ (one ++ two))
pushed-twice r old middle new one two first second =
    on_ok_weaker r (λ grows. grows ∙ ap (λ l. l ++ two) first ∙ append_assoc old one two) second

-- what was added is another list too
pub pushed-same : {X T E : Type 0} (r : Result T E) (old new one other : List X) → one ≡ other → OnOk r (new ≡ old ++ one) → OnOk r (new ≡ old ++ other)
pushed-same r old new one other same pushed = on_ok_weaker r (λ grows. grows ∙ ap (λ l. old ++ l) same) pushed

-- nothing was added
pub pushed-none : {X : Type 0} (old new one : List X) → new ≡ old → one ≡ [] → new ≡ old ++ one
pushed-none old new one same none = same ∙ sym (append-nil old) ∙ ap (λ l. old ++ l) (sym none)

-- three lists were added to none
pub pushed-three : {X : Type 0} (none first second third one two three : List X) → none ≡ [] → first ≡ none ++ one → second ≡ first ++ two → third ≡ second ++ three →
    third ≡ one ++ two ++ three
pushed-three none first second third one two three is_none is_first is_second is_third =
    is_third ∙ ap (λ l. l ++ three) (is_second ∙ ap (λ l. l ++ two) (is_first ∙ ap (λ l. l ++ one) is_none))
