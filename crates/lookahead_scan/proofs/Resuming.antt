-- Members that copied one another.
use Rattle.std.proofs.Common.{◌≡◌, ◌∙◌, ◌+◌, ◌-◌, ◌<◌, ℕ, zero, suc, true, false, List, [], ◌∷◌, ◌++◌, length, refl, sym, ap, arith}
use Rattle.std.specs.Prelude.{Option, Some, None}
use Rattle.text_pool.specs.Members.{Member, Absent, Unreadable, File}
use Rattle.lookahead_scan.specs.declared.sight.Label.{Label}
use Rattle.lookahead_scan.specs.declared.sight.Sight.{Sight}
use Rattle.lookahead_scan.specs.Copying.{resumed, IsListOf}
use Rattle.lookahead_scan.specs.Looks.{Met, none_met, and_then, all_met, in_member, member_met}

-- what is left of a list, at a depth
abbrev pub left_of : (List ℕ → Member) → ℕ → List Sight → List (List ℕ) → Met
left_of members depth list taken = all_met (member_met members depth) taken list

abbrev pub left_in : (List ℕ → Member) → ℕ → List (List ℕ) → List Sight → Met
left_in members depth taken list = left_of members depth list taken

-- a list within the others
pub resumed-push : (members : List ℕ → Member) (depth : ℕ) (lists : List (List Sight)) (list : List Sight) (inside : Met) →
    resumed members depth (lists ++ list ∷ []) inside ≡ resumed members depth lists (and_then inside (left_of members (depth - length lists) list))
resumed-push members depth [] list inside =
    let none : depth ≡ depth - 0 = omega arith in ap (λ d. and_then inside (left_of members d list)) none
resumed-push members depth (outer ∷ lists) list inside =
    let less : depth - 1 - length lists ≡ depth - length (outer ∷ lists) = omega arith in
    ap (λ one. and_then one (left_of members depth outer))
    (resumed-push members (depth - 1) lists list inside ∙ ap (λ d. resumed members (depth - 1) lists (and_then inside (left_of members d list))) less)

-- END within the others
pub resumed-ended : (members : List ℕ → Member) (depth : ℕ) (lists : List (List Sight)) (labels : List Label) (taken : List (List ℕ)) →
    resumed members depth lists (record { labels = labels; taken = taken; ended = true }) ≡ record { labels = labels; taken = taken; ended = true }
resumed-ended members depth [] labels taken = refl
resumed-ended members depth (list ∷ lists) labels taken =
    ap (λ one. and_then one (left_of members depth list)) (resumed-ended members (depth - 1) lists labels taken)

-- a member without a text, whatever the depth
pub member_met-none : (members : List ℕ → Member) (depth : ℕ) (taken : List (List ℕ)) (name : List ℕ) (member : Member) →
    members name ≡ member → IsListOf member None → none_met taken ≡ member_met members depth taken name
member_met-none members zero taken name member is none = refl
member_met-none members (suc depth) taken name Absent is none = ap (in_member (left_in members depth taken) taken) (sym is)
member_met-none members (suc depth) taken name Unreadable is none = ap (in_member (left_in members depth taken) taken) (sym is)
member_met-none members (suc depth) taken name (File path text) is none = absurd none

-- a member with a text, where it may nest
pub member_met-some : (members : List ℕ → Member) (depth : ℕ) (taken : List (List ℕ)) (name : List ℕ) (list : List Sight) (member : Member) →
    members name ≡ member → IsListOf member (Some list) → left_of members depth list taken ≡ member_met members (suc depth) taken name
member_met-some members depth taken name list (File path text) is same =
    ap (left_in members depth taken) same ∙ ap (in_member (left_in members depth taken) taken) (sym is)
member_met-some members depth taken name list Absent is none = absurd none
member_met-some members depth taken name list Unreadable is none = absurd none
