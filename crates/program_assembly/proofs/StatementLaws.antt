-- The statements of points, and what is noted of them, one point more.
use Rattle.std.proofs.Common.{◌≡◌, ℕ, zero, suc, ◌+◌, ◌≤◌, Bool, true, false, cond, List, [], ◌∷◌, ◌++◌, length, take, Option, Some, None, refl, sym, ap, ◌∙◌, arith, append_assoc, append-nil, length-append}
use Rattle.std.specs.Prelude.{slice_get, unwrap_or}
use Rattle.std.specs.Option.{option_map, option_map_or}
use Rattle.std.proofs.lemmas.Option.{none-some}
use Rattle.hl_base.specs.declared.note.Note.{Note}
use Rattle.hl_base.specs.declared.set.Line.{Line}
use Rattle.note_rows.specs.declared.row.Row.{Row}
use Rattle.trace_values.specs.declared.item.TraceItem.{TraceItem}
use Rattle.trace_arena.specs.Points.{Point}
use Rattle.trace_cursor.specs.Stacks.{stack_of}
use Rattle.program_assembly.specs.PointNotes.{noted_at, notes_at, point_notes, stack_at, stands_in, without_columns}
use Rattle.program_assembly.specs.Statements.{line_in, own_line, generated, rows_at, said_of, noted_point, noted_points}
use Rattle.program_assembly.proofs.PointLaws.{own_item}

-- where there is an item, the statement of its point is that of the item
pub line_there : (o : Option (Point TraceItem)) (item : TraceItem) → option_map own_item o ≡ Some item → option_map_or own_line o [] ≡ line_in item.line
line_there None item is = absurd (none-some item is)
line_there (Some p) item is = let same : p.item ≡ item = ap (λ o. unwrap_or o item) is in ap (λ (i : TraceItem). line_in i.line) same

-- a point generates one statement at most
few_lines : (o : Option Line) → length (line_in o) ≤ 1
few_lines None = omega arith
few_lines (Some line) = omega arith

pub fewer_statements : (ps : List (Point TraceItem)) (k : ℕ) → length (generated (take k ps)) ≤ k
fewer_statements [] zero = omega arith
fewer_statements [] (suc k) = omega arith
fewer_statements (p ∷ ps) zero = omega arith
fewer_statements (p ∷ ps) (suc k) =
    let rest = fewer_statements ps k in
    let first = few_lines p.item.line in
    let both = length-append (own_line p) (generated (take k ps)) in
    omega (arith, rest, first, both)

-- what is noted of a point and of its statement, from its item and its stack
pub noted_there : (path : ℕ) (rows : List Row) (o : Option (Point TraceItem)) (item : TraceItem) → option_map own_item o ≡ Some item →
    option_map_or (λ point. point_notes path point ++ rows_at (stack_of point) rows) o [] ≡ notes_at (stack_at o) (noted_at path item) ++ rows_at (stack_at o) rows
noted_there path rows None item is = absurd (none-some item is)
noted_there path rows (Some p) item is =
    let same : p.item ≡ item = ap (λ o. unwrap_or o item) is in
    ap (λ (i : TraceItem). notes_at (stack_of p) (noted_at path i) ++ rows_at (stack_of p) rows) same

-- where there is nothing
noted_none : (own : Bool) (ns : List Note) → ns ≡ [] → cond own (without_columns ns) ns ≡ []
noted_none true ns none = ap without_columns none
noted_none false ns none = none

pub quiet_point : (path : ℕ) (rows : List Row) (o : Option (Point TraceItem)) (item : TraceItem) → option_map own_item o ≡ Some item → item.notes ≡ [] → rows ≡ [] →
    option_map_or (λ point. point_notes path point ++ rows_at (stack_of point) rows) o [] ≡ []
quiet_point path rows o item is no_notes no_rows =
    noted_there path rows o item is
    ∙ ap (λ (ns : List Note). notes_at (stack_at o) ns ++ rows_at (stack_at o) rows) (noted_none (stands_in path item) item.notes no_notes)
    ∙ ap (λ (rs : List Row). rows_at (stack_at o) rs) no_rows

-- what is said of the statement of an item is said of that of its point
pub said_there : (path : ℕ) (said : ℕ → List Row) (before : ℕ) (o : Option (Point TraceItem)) (item : TraceItem) → option_map own_item o ≡ Some item →
    option_map_or (λ point. point_notes path point ++ rows_at (stack_of point) (said_of said before item.line)) o [] ≡ option_map_or (noted_point path said before) o []
said_there path said before None item is = absurd (none-some item is)
said_there path said before (Some p) item is =
    let same : p.item ≡ item = ap (λ o. unwrap_or o item) is in
    ap (λ (i : TraceItem). point_notes path p ++ rows_at (stack_of p) (said_of said before i.line)) (sym same)

-- one point more
next_before : (path : ℕ) (said : ℕ → List Row) (before : ℕ) (first : List Line) (rest : List Line) (o : Option (Point TraceItem)) →
    option_map_or (noted_point path said (before + length first + length rest)) o [] ≡ option_map_or (noted_point path said (before + length (first ++ rest))) o []
next_before path said before first rest o =
    let both = length-append first rest in
    let same : before + length first + length rest ≡ before + length (first ++ rest) = omega (arith, both) in
    ap (λ n. option_map_or (noted_point path said n) o []) same

more_step : (path : ℕ) (said : ℕ → List Row) (before : ℕ) (ps : List (Point TraceItem)) (k : ℕ) →
    noted_points path said before (take (suc k) ps)
    ≡ noted_points path said before (take k ps) ++ option_map_or (noted_point path said (before + length (generated (take k ps)))) (slice_get ps k) []
more_step path said before [] zero = refl
more_step path said before [] (suc k) = refl
more_step path said before (p ∷ ps) zero =
    let same : before ≡ before + 0 = omega arith in
    append-nil (noted_point path said before p) ∙ ap (λ n. noted_point path said n p) same
more_step path said before (p ∷ ps) (suc k) =
    let after = before + length (own_line p) in
    ap (λ ns. noted_point path said before p ++ ns)
    (more_step path said after ps k
    ∙ ap (λ ns. noted_points path said after (take k ps) ++ ns) (next_before path said before (own_line p) (generated (take k ps)) (slice_get ps k)))
    ∙ sym (append_assoc (noted_point path said before p) (noted_points path said after (take k ps))
    (option_map_or (noted_point path said (before + length (own_line p ++ generated (take k ps)))) (slice_get ps k) []))

pub noted_points-more : (path : ℕ) (said : ℕ → List Row) (before : ℕ) (ps : List (Point TraceItem)) (k : ℕ) →
    noted_points path said before (take (k + 1) ps)
    ≡ noted_points path said before (take k ps) ++ option_map_or (noted_point path said (before + length (generated (take k ps)))) (slice_get ps k) []
noted_points-more path said before ps k =
    let same : k + 1 ≡ suc k = omega arith in
    ap (λ n. noted_points path said before (take n ps)) same ∙ more_step path said before ps k
