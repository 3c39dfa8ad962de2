-- The notes of a point, from its item and its stack.
use Rattle.std.proofs.Common.{◌≡◌, ℕ, zero, suc, ◌<◌, ◌++◌, Bool, true, false, cond, List, [], ◌∷◌, length, get_or, drop, Option, Some, None, refl, sym, ap, ◌∙◌, arith}
use Rattle.std.proofs.Math.Seq.{drop-cons}
use Rattle.std.specs.Prelude.{slice_get, not, unwrap_or}
use Rattle.std.specs.List.{flat_map}
use Rattle.std.specs.Option.{option_map, option_map_or}
use Rattle.std.proofs.lemmas.Option.{none-some}
use Rattle.hl_base.specs.declared.note.Note.{Note}
use Rattle.hl_base.specs.declared.place.Frame.{Frame}
use Rattle.trace_values.specs.declared.item.TraceItem.{TraceItem}
use Rattle.trace_arena.specs.Points.{Point}
use Rattle.trace_cursor.specs.Stacks.{stack_of}
use Rattle.program_assembly.specs.PointNotes.{at_stack, is_of_columns, noted_at, notes_at, point_notes, stack_at, without_columns}
use Rattle.program_assembly.specs.Stacks.{other_at}
use Rattle.program_assembly.specs.Notes.{unpaid_stack}

-- what stands at a place of a list is found there
pub found_at : {A : Type 0} (xs : List A) (i : ℕ) (x : A) → i < length xs → x ≡ get_or xs i x → slice_get xs i ≡ Some x
found_at [] i x lt is = absurd (omega arith)
found_at (y ∷ ys) zero x lt is = ap Some (sym is)
found_at (y ∷ ys) (suc i) x lt is = let less : i < length ys = omega arith in found_at ys i x less is

abbrev pub own_item : Point TraceItem → TraceItem
own_item point = point.item

-- where there is an item, there is its point
pub point_inside : (ps : List (Point TraceItem)) (i : ℕ) (item : TraceItem) → option_map own_item (slice_get ps i) ≡ Some item → i < length ps
point_inside [] i item is = absurd (none-some item is)
point_inside (p ∷ ps) zero item is = omega arith
point_inside (p ∷ ps) (suc i) item is = let less = point_inside ps i item is in omega arith

-- the notes of a point are those of its item, at its stack
pub notes_there : (path : ℕ) (o : Option (Point TraceItem)) (item : TraceItem) → option_map own_item o ≡ Some item →
    option_map_or (point_notes path) o [] ≡ notes_at (stack_at o) (noted_at path item)
notes_there path None item is = absurd (none-some item is)
notes_there path (Some p) item is =
    let same : p.item ≡ item = ap (λ o. unwrap_or o item) is in
    ap (λ (i : TraceItem). notes_at (stack_of p) (noted_at path i)) same

-- one call further in
pub stack_step : (calls : List (List Frame)) (i : ℕ) (frames : List Frame) → i < length calls → frames ≡ get_or calls i frames →
    unpaid_stack (drop (suc i) calls) ++ frames ≡ unpaid_stack (drop i calls)
stack_step calls i frames lt is =
    ap (λ fs. unpaid_stack (drop (suc i) calls) ++ fs) is ∙ sym (ap unpaid_stack (drop-cons calls i frames lt))

-- notes at a stack one by one, those of column faults left out
other_step : (of : Bool) (stack : List Frame) (note : Note) (flat rest : List Note) → flat ≡ notes_at stack rest →
    cond of [] (at_stack stack note ∷ []) ++ flat ≡ notes_at stack (cond (not of) (note ∷ rest) rest)
other_step true stack note flat rest is = is
other_step false stack note flat rest is = ap (λ ns. at_stack stack note ∷ ns) is

pub others_flat : (stack : List Frame) (said : List Note) → flat_map (other_at stack) said ≡ notes_at stack (without_columns said)
others_flat stack [] = refl
others_flat stack (note ∷ rest) =
    other_step (is_of_columns note) stack note (flat_map (other_at stack) rest) (without_columns rest) (others_flat stack rest)
