-- Runs of columns, and the places of which they are made.
use Rattle.std.proofs.Common.{◌≡◌, ◌∙◌, ℕ, ◌+◌, ◌-◌, ◌<◌, ◌≤◌, zero, suc, List, [], ◌∷◌, ◌++◌, length, drop, get_or, refl, sym, ap, arith, append-nil, append_assoc, length-append}
use Rattle.std.specs.Prelude.{flat_map}
use Rattle.std.proofs.Math.ListN.{get_or-append, drop_of_length-le}
use Rattle.std.proofs.lemmas.List.{at_drop_more, get_or-append_right}
use Rattle.hlasm_statements.specs.declared.run.Run.{Run}
use Rattle.hlasm_statements.specs.Places.{side_by_side, run_places, places_in}

length-side_by_side : (line column count : ℕ) → length (side_by_side line column count) ≡ count
length-side_by_side line column zero = refl
length-side_by_side line column (suc count) = omega (arith, length-side_by_side line (column + 1) count)

get_or-side_by_side : (line column count k : ℕ) (d : ℕ × ℕ) → k < count → get_or (side_by_side line column count) k d ≡ (line, column + k)
get_or-side_by_side line column zero k d below = absurd (omega arith)
get_or-side_by_side line column (suc count) zero d below = ap (λ n. (line, n)) (let e : column ≡ column + 0 = omega arith in e)
get_or-side_by_side line column (suc count) (suc k) d below =
    get_or-side_by_side line (column + 1) count k d (omega arith) ∙ ap (λ n. (line, n)) (let e : (column + 1) + k ≡ column + suc k = omega arith in e)

flat_map-push : (full : List Run) (last : Run) → flat_map run_places (full ++ last ∷ []) ≡ flat_map run_places full ++ run_places last
flat_map-push [] last = append-nil (run_places last)
flat_map-push (run ∷ full) last = ap (λ back. run_places run ++ back) (flat_map-push full last) ∙ sym (append_assoc (run_places run) (flat_map run_places full) (run_places last))

run-is : (line column count to : ℕ) → to ≡ column + count → side_by_side line column (to - column) ≡ side_by_side line column count
run-is line column count to is = ap (side_by_side line column) (let e : to - column ≡ count = omega arith in e)

-- a run behind another
pub places-more : (full grown : List Run) (last fresh : Run) (line column count : ℕ) → grown ≡ full ++ last ∷ [] → fresh.line ≡ line → fresh.from ≡ column → fresh.to ≡ column + count
    → places_in grown fresh ≡ places_in full last ++ side_by_side line column count
places-more full grown last fresh line column count grows line_is from_is to_is =
    ap (λ f. flat_map run_places f ++ run_places fresh) grows
    ∙ ap (λ f. f ++ run_places fresh) (flat_map-push full last)
    ∙ ap (λ l. places_in full last ++ side_by_side l fresh.from (fresh.to - fresh.from)) line_is
    ∙ ap (λ k. places_in full last ++ side_by_side line k (fresh.to - k)) from_is
    ∙ ap (λ r. places_in full last ++ r) (run-is line column count fresh.to to_is)

-- a run in the place of one that has no column
pub places-first : (full : List Run) (last fresh : Run) (line column count : ℕ) → last.to ≤ last.from → fresh.line ≡ line → fresh.from ≡ column → fresh.to ≡ column + count
    → places_in full fresh ≡ places_in full last ++ side_by_side line column count
places-first full last fresh line column count none line_is from_is to_is =
    let empty : last.to - last.from ≡ zero = omega arith in
    ap (λ l. flat_map run_places full ++ side_by_side l fresh.from (fresh.to - fresh.from)) line_is
    ∙ ap (λ k. flat_map run_places full ++ side_by_side line k (fresh.to - k)) from_is
    ∙ ap (λ r. flat_map run_places full ++ r) (run-is line column count fresh.to to_is)
    ∙ ap (λ front. front ++ side_by_side line column count) (sym (append-nil (flat_map run_places full)) ∙ ap (λ n. flat_map run_places full ++ side_by_side last.line last.from n) (sym empty))

-- what is left of the places, and which of them is wanted
pub record IsLeft (items : List Run) (last : Run) (at left index : ℕ) : Type 0 where
  pub below : left < length (places_in (drop at items) last)
  pub same : (d : ℕ × ℕ) → get_or (places_in (drop at items) last) left d ≡ get_or (places_in items last) index d

pub left-init : (items : List Run) (last : Run) (index : ℕ) → index < length (places_in items last) → IsLeft items last 0 index index
left-init items last index below = record { below = below; same = λ d. refl }

split_at : (items : List Run) (last : Run) (at : ℕ) (run : Run) → at < length items → run ≡ get_or items at run → places_in (drop at items) last ≡ run_places run ++ places_in (drop (at + 1) items) last
split_at items last at run within is =
    at_drop_more (λ rest. places_in rest last) items at run within
    ∙ ap (λ r. places_in (r ∷ drop (at + 1) items) last) (sym is)
    ∙ append_assoc (run_places run) (flat_map run_places (drop (at + 1) items)) (run_places last)

pub left-here : (items : List Run) (last : Run) (at left index : ℕ) (run : Run) → IsLeft items last at left index → at < length items → run ≡ get_or items at run → left < run.to - run.from
    → (line from : ℕ) → line ≡ run.line → from ≡ run.from + left → (let place : ℕ × ℕ = (line, from) in place ≡ get_or (places_in items last) index place)
left-here items last at left index run is within item below line from line_is from_is =
    let place : ℕ × ℕ = (line, from) in
    let rest = places_in (drop (at + 1) items) last in
    ap (λ l. (l, from)) line_is ∙ ap (λ f. (run.line, f)) from_is
    ∙ sym (get_or-side_by_side run.line run.from (run.to - run.from) left place below)
    ∙ sym (get_or-append (run_places run) rest place left (omega (arith, length-side_by_side run.line run.from (run.to - run.from))))
    ∙ ap (λ xs. get_or xs left place) (sym (split_at items last at run within item))
    ∙ is.same place

pub left-next : (items : List Run) (last : Run) (at left index rest : ℕ) (run : Run) → IsLeft items last at left index → at < length items → run ≡ get_or items at run → run.to - run.from ≤ left → rest ≡ left - (run.to - run.from)
    → IsLeft items last (at + 1) rest index
left-next items last at left index rest run is within item past rest_is =
    let seam = split_at items last at run within item in
    let count = length-side_by_side run.line run.from (run.to - run.from) in
    let behind = places_in (drop (at + 1) items) last in
    record {
      below = omega (arith, is.below, ap length seam, length-append (run_places run) behind, count);
      same = λ d.
          ap (λ k. get_or behind k d) rest_is
          ∙ sym (get_or-append_right (run_places run) behind (run.to - run.from) left d count past)
          ∙ ap (λ xs. get_or xs left d) (sym seam)
          ∙ is.same d;
    }

pub left-last-below : (items : List Run) (last : Run) (at left index : ℕ) → IsLeft items last at left index → length items ≤ at → left < last.to - last.from
left-last-below items last at left index is past =
    let none : drop at items ≡ [] = drop_of_length-le items past in
    omega (arith, is.below, ap (λ rest. length (places_in rest last)) none, length-side_by_side last.line last.from (last.to - last.from))

pub left-last : (items : List Run) (last : Run) (at left index : ℕ) → IsLeft items last at left index → length items ≤ at
    → (line from : ℕ) → line ≡ last.line → from ≡ last.from + left → (let place : ℕ × ℕ = (line, from) in place ≡ get_or (places_in items last) index place)
left-last items last at left index is past line from line_is from_is =
    let place : ℕ × ℕ = (line, from) in
    let none : drop at items ≡ [] = drop_of_length-le items past in
    ap (λ l. (l, from)) line_is ∙ ap (λ f. (last.line, f)) from_is
    ∙ sym (get_or-side_by_side last.line last.from (last.to - last.from) left place (left-last-below items last at left index is past))
    ∙ ap (λ rest. get_or (places_in rest last) left place) (sym none)
    ∙ is.same place
