-- Moves of a member that is gone through, with those outside it.
use Rattle.std.proofs.Common.{◌≡◌, ◌∙◌, ◌+◌, ◌-◌, ◌<◌, ℕ, suc, true, false, Bool, List, [], ◌∷◌, ◌++◌, length, length-append, refl, sym, ap, subst, arith}
use Rattle.std.specs.Prelude.{Option, Some, None}
use Rattle.text_pool.specs.Members.{Member, Absent, Unreadable, File}
use Rattle.lookahead_scan.specs.declared.sight.Label.{Label}
use Rattle.lookahead_scan.specs.declared.sight.Sight.{Sight}
use Rattle.lookahead_scan.specs.declared.copying.Copying.{Copying}
use Rattle.lookahead_scan.specs.declared.copying.Progress.{Progress}
use Rattle.lookahead_scan.specs.declared.copying.Progress.TheVariants.{Goes, Stops}
use Rattle.lookahead_scan.specs.Copying.{resumed, IsListOf, IsNew, Begins, Enters, Sees, Progresses, comes_to, depth_of, outer_of, so_far as met_so_far}
use Rattle.std.specs.Prelude.{if◌then◌else◌}
use Rattle.lookahead_scan.specs.Looks.{Met, none_met, joined, and_then, met, taking, is_taken, offer, member_met, deepest}
use Rattle.lookahead_scan.proofs.Meeting.{and_then-all_met, and_then-none}
use Rattle.lookahead_scan.proofs.Resuming.{left_of, resumed-push, resumed-ended, member_met-none, member_met-some}

-- what is met in all where this is met before what is left of the innermost list
abbrev pub in_all : (List ℕ → Member) → (outer : List (List Sight)) → (current : List Sight) → Met → Met
in_all members outer current inside =
    resumed members deepest outer (and_then inside (left_of members (deepest - length outer) current))

-- what was met so far
abbrev pub so_far : List Label → List (List ℕ) → Bool → Met
so_far labels taken ended = record { labels = labels; taken = taken; ended = ended }

-- the next statement of the innermost list
pub in_all-next : (members : List ℕ → Member) (outer : List (List Sight)) (before rest : List Sight) (sight : Sight) (inside : Met) →
    before ≡ sight ∷ rest →
    in_all members outer before inside ≡ in_all members outer rest (and_then inside (λ taken. met (member_met members (deepest - length outer)) taken sight))
in_all-next members outer before rest sight inside is =
    ap (λ list. in_all members outer list inside) is
    ∙ ap (resumed members deepest outer) (and_then-all_met inside (member_met members (deepest - length outer)) sight rest)

-- END
pub in_all-ended : (members : List ℕ → Member) (outer : List (List Sight)) (current : List Sight) (labels : List Label) (taken : List (List ℕ)) →
    in_all members outer current (so_far labels taken true) ≡ so_far labels taken true
in_all-ended members outer current labels taken = resumed-ended members deepest outer labels taken

-- back to the list outside
pub in_all-back : (members : List ℕ → Member) (outer before : List (List Sight)) (current list : List Sight) (inside : Met) →
    current ≡ [] → before ≡ outer ++ list ∷ [] →
    in_all members outer list inside ≡ in_all members before current inside
in_all-back members outer before current list inside none is =
    sym
    (ap (λ lists. in_all members lists current inside) is
    ∙ ap (λ left. in_all members (outer ++ list ∷ []) left inside) none
    ∙ ap (resumed members deepest (outer ++ list ∷ [])) (and_then-none inside)
    ∙ resumed-push members deepest outer list inside)

-- nothing is left
pub in_all-none : (members : List ℕ → Member) (outer : List (List Sight)) (current : List Sight) (inside : Met) → current ≡ [] → outer ≡ [] → inside ≡ in_all members outer current inside
in_all-none members outer current inside none last =
    sym (ap (λ lists. in_all members lists current inside) last ∙ ap (λ left. in_all members [] left inside) none ∙ and_then-none inside)

-- nothing was met
pub in_all-same : (members : List ℕ → Member) (outer : List (List Sight)) (current : List Sight) (labels : List Label) (taken : List (List ℕ)) →
    in_all members outer current (so_far labels taken false) ≡ in_all members outer current (and_then (so_far labels taken false) none_met)
in_all-same members outer current labels taken = ap (in_all members outer current) (sym (and_then-none (so_far labels taken false)))

-- a member without a text
pub in_all-empty : (members : List ℕ → Member) (outer : List (List Sight)) (current : List Sight) (labels : List Label) (taken now : List (List ℕ)) (name : List ℕ) →
    now ≡ taken ++ name ∷ [] → IsListOf (members name) None →
    in_all members outer current (so_far labels now false)
    ≡ in_all members outer current (and_then (so_far labels taken false) (λ so. member_met members (deepest - length outer) (so ++ name ∷ []) name))
in_all-empty members outer current labels taken now name is none =
    ap (λ list. in_all members outer current (so_far labels list false)) is
    ∙ in_all-same members outer current labels (taken ++ name ∷ [])
    ∙ ap (λ (one : Met). in_all members outer current (joined (so_far labels taken false) one))
    (member_met-none members (deepest - length outer) (taken ++ name ∷ []) name (members name) refl none)

-- a member with a text
pub in_all-begun : (members : List ℕ → Member) (outer lists : List (List Sight)) (current list : List Sight) (labels : List Label) (taken now : List (List ℕ)) (name : List ℕ) →
    now ≡ taken ++ name ∷ [] → lists ≡ outer ++ current ∷ [] → length outer < deepest → IsListOf (members name) (Some list) →
    in_all members lists list (so_far labels now false)
    ≡ in_all members outer current (and_then (so_far labels taken false) (λ so. member_met members (deepest - length outer) (so ++ name ∷ []) name))
in_all-begun members outer lists current list labels taken now name is more shallow has =
    let depth = deepest - length (outer ++ current ∷ []) in
    let deeper : deepest - length outer ≡ suc depth = omega (arith, length-append outer (current ∷ [])) in
    ap (λ ts. in_all members lists list (so_far labels ts false)) is
    ∙ ap (λ ls. in_all members ls list (so_far labels (taken ++ name ∷ []) false)) more
    ∙ resumed-push members deepest outer current (and_then (so_far labels (taken ++ name ∷ []) false) (left_of members depth list))
    ∙ ap (λ (one : Met). in_all members outer current (joined (so_far labels taken false) one))
    (member_met-some members depth (taken ++ name ∷ []) name list (members name) refl has ∙ ap (λ d. member_met members d (taken ++ name ∷ []) name) (sym deeper))

-- a list was begun of a member that was taken
pub entered : (members : List ℕ → Member) (old mid new : Copying) (name : List ℕ) (list : List Sight) →
    Begins mid new list → outer_of mid ≡ outer_of old → mid.current.items ≡ old.current.items → mid.labels.items ≡ old.labels.items →
    mid.taken.items ≡ old.taken.items ++ name ∷ [] → IsListOf (members name) (Some list) → Enters members old new name
entered members old mid new name list begins same_outer same_current same_labels taken has =
    let lists : outer_of new ≡ outer_of old ++ old.current.items ∷ [] =
    begins.outer ∙ ap (λ (ls : List (List Sight)). ls ++ mid.current.items ∷ []) same_outer ∙ ap (λ (c : List Sight). outer_of old ++ c ∷ []) same_current in
    let shallow : length (outer_of old) < deepest = (let P : List (List Sight) → Type 0 = λ ls. length ls < deepest in subst P same_outer begins.shallow) in
    ap (λ (c : List Sight). in_all members (outer_of new) c (so_far new.labels.items new.taken.items false)) begins.current
    ∙ ap (λ (ls : List Label). in_all members (outer_of new) list (so_far ls new.taken.items false)) (begins.labels ∙ same_labels)
    ∙ in_all-begun members (outer_of old) (outer_of new) old.current.items list old.labels.items old.taken.items new.taken.items name (begins.taken ∙ taken) lists shallow has

-- a member that was taken before
pub in_all-taken : (members : List ℕ → Member) (outer : List (List Sight)) (current : List Sight) (labels : List Label) (taken : List (List ℕ)) (name : List ℕ) →
    is_taken name taken ≡ true →
    in_all members outer current (so_far labels taken false)
    ≡ in_all members outer current (and_then (so_far labels taken false) (λ so. taking (member_met members (deepest - length outer)) so name))
in_all-taken members outer current labels taken name is =
    in_all-same members outer current labels taken
    ∙ ap (λ (b : Bool). in_all members outer current (joined (so_far labels taken false)
    (if b then none_met taken else member_met members (deepest - length outer) (taken ++ name ∷ []) name))) (sym is)

-- a member that was not
pub in_all-entered : (members : List ℕ → Member) (outer : List (List Sight)) (current : List Sight) (labels : List Label) (taken : List (List ℕ)) (name : List ℕ) (whole : Met) →
    is_taken name taken ≡ false →
    whole ≡ in_all members outer current (and_then (so_far labels taken false) (λ so. member_met members (deepest - length outer) (so ++ name ∷ []) name)) →
    whole ≡ in_all members outer current (and_then (so_far labels taken false) (λ so. taking (member_met members (deepest - length outer)) so name))
in_all-entered members outer current labels taken name whole is e =
    e
    ∙ ap (λ (b : Bool). in_all members outer current (joined (so_far labels taken false)
    (if b then none_met taken else member_met members (deepest - length outer) (taken ++ name ∷ []) name))) (sym is)

-- the next statement was taken off
met_next : (members : List ℕ → Member) (before popped : Copying) (sight : Sight) →
    outer_of popped ≡ outer_of before → popped.labels.items ≡ before.labels.items → popped.taken.items ≡ before.taken.items →
    before.current.items ≡ sight ∷ popped.current.items →
    comes_to members popped (and_then (met_so_far popped false) (λ taken. met (member_met members (depth_of popped)) taken sight))
    ≡ in_all members (outer_of before) before.current.items (so_far before.labels.items before.taken.items false)
met_next members before popped sight outer labels taken next =
    ap (λ (ls : List (List Sight)). in_all members ls popped.current.items
    (and_then (so_far popped.labels.items popped.taken.items false) (λ so. met (member_met members (deepest - length ls)) so sight))) outer
    ∙ ap (λ (ls : List Label). in_all members (outer_of before) popped.current.items
    (and_then (so_far ls popped.taken.items false) (λ so. met (member_met members (deepest - length (outer_of before))) so sight))) labels
    ∙ ap (λ (ts : List (List ℕ)). in_all members (outer_of before) popped.current.items
    (and_then (so_far before.labels.items ts false) (λ so. met (member_met members (deepest - length (outer_of before))) so sight))) taken
    ∙ sym (in_all-next members (outer_of before) before.current.items popped.current.items sight (so_far before.labels.items before.taken.items false) next)

-- what is seen of the next statement is a step on
pub seen-step : (members : List ℕ → Member) (before popped new : Copying) (sight : Sight) (progress : Progress) →
    outer_of popped ≡ outer_of before → popped.labels.items ≡ before.labels.items → popped.taken.items ≡ before.taken.items →
    before.current.items ≡ sight ∷ popped.current.items → Sees members popped new sight progress → Progresses members before new progress
seen-step members before popped new sight Goes outer labels taken next sees = sees ∙ met_next members before popped sight outer labels taken next
seen-step members before popped new sight (Stops ended) outer labels taken next sees = sees ∙ met_next members before popped sight outer labels taken next

-- nothing so far: what a statement of open code gives
pub offered : (members : List ℕ → Member) (copying : Copying) (sight : Sight) → IsNew copying →
    comes_to members copying (and_then (met_so_far copying false) (λ taken. met (member_met members (depth_of copying)) taken sight)) ≡ offer members sight
offered members copying sight new =
    let whole : deepest - 0 ≡ deepest = omega arith in
    ap (λ (ls : List (List Sight)). in_all members ls copying.current.items
    (and_then (so_far copying.labels.items copying.taken.items false) (λ taken. met (member_met members (deepest - length ls)) taken sight))) new.outer
    ∙ ap (λ (c : List Sight). in_all members [] c
    (and_then (so_far copying.labels.items copying.taken.items false) (λ taken. met (member_met members (deepest - 0)) taken sight))) new.current
    ∙ ap (λ (ls : List Label). in_all members [] [] (and_then (so_far ls copying.taken.items false) (λ taken. met (member_met members (deepest - 0)) taken sight))) new.labels
    ∙ ap (λ (ts : List (List ℕ)). in_all members [] [] (and_then (so_far [] ts false) (λ taken. met (member_met members (deepest - 0)) taken sight))) new.taken
    ∙ ap (λ d. in_all members [] [] (and_then (so_far [] [] false) (λ taken. met (member_met members d) taken sight))) whole
    ∙ and_then-none (met (member_met members deepest) [] sight)

-- the same is left
comes-same : (members : List ℕ → Member) (before popped : Copying) →
    outer_of popped ≡ outer_of before → popped.labels.items ≡ before.labels.items → popped.taken.items ≡ before.taken.items → before.current.items ≡ popped.current.items →
    in_all members (outer_of popped) popped.current.items (so_far popped.labels.items popped.taken.items false)
    ≡ in_all members (outer_of before) before.current.items (so_far before.labels.items before.taken.items false)
comes-same members before popped outer labels taken same =
    ap (λ (ls : List (List Sight)). in_all members ls popped.current.items (so_far popped.labels.items popped.taken.items false)) outer
    ∙ ap (λ (ls : List Label). in_all members (outer_of before) popped.current.items (so_far ls popped.taken.items false)) labels
    ∙ ap (λ (ts : List (List ℕ)). in_all members (outer_of before) popped.current.items (so_far before.labels.items ts false)) taken
    ∙ ap (λ (c : List Sight). in_all members (outer_of before) c (so_far before.labels.items before.taken.items false)) (sym same)

-- the same is left: what is done with it is a step on
pub same-step : (members : List ℕ → Member) (before popped new : Copying) (progress : Progress) →
    outer_of popped ≡ outer_of before → popped.labels.items ≡ before.labels.items → popped.taken.items ≡ before.taken.items →
    before.current.items ≡ popped.current.items → Progresses members popped new progress → Progresses members before new progress
same-step members before popped new Goes outer labels taken same step = step ∙ comes-same members before popped outer labels taken same
same-step members before popped new (Stops ended) outer labels taken same step = step ∙ comes-same members before popped outer labels taken same
