-- Lookahead: what is found of a name behind a statement of open code. HLASM Language Reference SC26-4940, "Lookahead": the
-- statements behind it are read as they are written, COPY is obeyed and no branch is, and nothing stands behind END.
use Rattle.std.specs.Prelude.{ℕ, ◌+◌, ◌^◌, zero, suc, Bool, true, false, List, [], ◌∷◌, ◌++◌, drop, map, Option, Some, None, if◌then◌else◌}
use Rattle.std.specs.List.{list_any}
use Rattle.std.specs.Str.{bytes_eq}
use Rattle.hl_base.specs.declared.set.Attr.{Attr}
use Rattle.hlasm_statements.specs.declared.statement.Statement.{Statement}
use Rattle.hlasm_statements.specs.Statements.{statements_of}
use Rattle.text_pool.specs.Members.{Member, Absent, Unreadable, File}
use Rattle.lookahead_scan.specs.declared.sight.Label.{Label}
use Rattle.lookahead_scan.specs.declared.sight.Sight.{Sight}
use Rattle.lookahead_scan.specs.declared.sight.Sight.TheVariants.{Passed, Labelled, Ended, Copied}
use Rattle.lookahead_scan.specs.Statements.{sights}

-- what some statements give: their labels in order, with the members that were taken by then, and whether END was met
pub record Met : Type 0 where
  pub labels : List Label
  pub taken : List (List ℕ)
  pub ended : Bool

-- nothing
abbrev pub none_met : List (List ℕ) → Met
none_met taken = record { labels = []; taken = taken; ended = false }

-- one label
abbrev pub label_met : List (List ℕ) → Label → Met
label_met taken label = record { labels = label ∷ []; taken = taken; ended = false }

-- END and its label
abbrev pub end_met : List (List ℕ) → Option Label → Met
end_met taken (Some label) = record { labels = label ∷ []; taken = taken; ended = true }
end_met taken None = record { labels = []; taken = taken; ended = true }

-- what was met first, and then what is met behind it
abbrev pub joined : Met → Met → Met
joined first second = record { labels = first.labels ++ second.labels; taken = second.taken; ended = second.ended }

-- behind END nothing is met any more
abbrev pub and_then : Met → (List (List ℕ) → Met) → Met
and_then first next = if first.ended then first else joined first (next first.taken)

-- whether a member was taken
abbrev pub is_taken : List ℕ → List (List ℕ) → Bool
is_taken name taken = list_any (λ other. bytes_eq name other) taken

-- a member, where it was not taken before: it is empty the second time, since its labels were met the first time
abbrev pub taking : (List (List ℕ) → List ℕ → Met) → List (List ℕ) → List ℕ → Met
taking copy taken name = if is_taken name taken then none_met taken else copy (taken ++ name ∷ []) name

-- what one statement gives, where a member gives this
abbrev pub met : (List (List ℕ) → List ℕ → Met) → List (List ℕ) → Sight → Met
met copy taken Passed = none_met taken
met copy taken (Labelled label) = label_met taken label
met copy taken (Ended label) = end_met taken label
met copy taken (Copied name) = taking copy taken name

-- what statements in order give
abbrev pub all_met : (List (List ℕ) → List ℕ → Met) → List (List ℕ) → List Sight → Met
all_met copy taken [] = none_met taken
all_met copy taken (sight ∷ rest) = and_then (met copy taken sight) (λ now. all_met copy now rest)

-- what a member gives: its text, where it can be read
abbrev pub in_member : (List Sight → Met) → List (List ℕ) → Member → Met
in_member inside taken (File path text) = inside (sights (statements_of text))
in_member inside taken Absent = none_met taken
in_member inside taken Unreadable = none_met taken

-- what a member gives in which copies nest less deeply than this
abbrev pub member_met : (List ℕ → Member) → (depth : ℕ) → List (List ℕ) → List ℕ → Met
member_met members zero taken name = none_met taken
member_met members (suc depth) taken name = in_member (λ list. all_met (member_met members depth) taken list) taken (members name)

-- deeper than memory lets them nest
unfoldable pub deepest : ℕ
deepest = 2 ^ 64

-- what a statement of open code gives; each COPY there takes its members anew
abbrev pub offer : (List ℕ → Member) → Sight → Met
offer members sight = met (member_met members deepest) [] sight

-- what each statement of a list gives
abbrev pub offers : (List ℕ → Member) → List Statement → List Met
offers members list = map (offer members) (sights list)

-- the labels up to END
abbrev pub labels_to_end : List Met → List Label
labels_to_end [] = []
labels_to_end (one ∷ rest) = if one.ended then one.labels else one.labels ++ labels_to_end rest

-- the first label of a name
abbrev pub find_label : List ℕ → List Label → Option Attr
find_label name [] = None
find_label name (label ∷ labels) = if bytes_eq label.name name then Some label.attr else find_label name labels

-- what is found of a name behind the statement of this number, from 0
abbrev pub look : (List ℕ → Member) → List Statement → (name : List ℕ) → (after : ℕ) → Option Attr
look members list name after = find_label name (labels_to_end (drop (after + 1) (offers members list)))
