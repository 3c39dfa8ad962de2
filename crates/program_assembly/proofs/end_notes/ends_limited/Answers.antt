use Rattle.std.proofs.Common.{◌≡◌, ◌-◌, ◌<◌, ◌∷◌, [], Some, length, ap, sym, ◌∙◌, arith}
use Rattle.std.specs.Prelude.{slice_get, unwrap_or}
use Rattle.hl_base.specs.declared.note.Note.{Note}
use Rattle.note_rows.specs.Table.{line}
use Rattle.note_rows.specs.declared.row.Row.TheVariants.{BranchLimit}
use Rattle.trace_values.specs.declared.item.TraceItem.{TraceItem}
use Rattle.trace_arena.specs.Points.{points}
use Rattle.trace_cursor.specs.Pasts.{plain}
use Rattle.program_assembly.specs.Notes.{has_code}
use Rattle.program_assembly.proofs.ListLaws.{single}
use Rattle.program_assembly.proofs.PointLaws.{found_at}
use Rattle.program_assembly.proofs.StackLaws.{point_is, ends_limited-last, within_call, in_open_code}
use Rattle.program_assembly.proofs.end_notes.ends_limited.Goals as goal

pub returns-then-len-ne1 : goal.returns-then-len-ne1
returns-then-len-ne1 c =
    let nodes = c.args.arena.now.nodes in
    let root = c.args.root.0 in
    let index = c.points-points.result - 1 in
    let places = c.in_ok-places.places.items in
    let path = c.in_ok-places.ensures.path in
    let last : slice_get (points nodes root) (length (points nodes root) - 1) ≡ Some (plain path.point) =
    ap (λ n. slice_get (points nodes root) (n - 1)) (sym c.points-points.ensures.points) ∙ point_is nodes root index places path in
    let several : ¬ (length places ≡ 1) = λ one. omega (arith, one, c.len.ensures, c.if-len-ne1.true, c.in_ok-places.places.ok.0) in
    sym (ends_limited-last (points nodes root) (plain path.point) last ∙ within_call nodes root index places path several)

pub item_at-item-requires : goal.item_at-item-requires
item_at-item-requires c =
    let nodes = c.args.arena.now.nodes in
    let places = c.in_ok-places.places.items in
    let some : 0 < length places = omega (arith, c.len.ensures, c.if-len-ne1.false, c.in_ok-places.places.ok.0) in
    record {
      there = c.in_ok-places.ensures.there 0 c.index.result.now (found_at places 0 c.index.result.now some c.index.ensures);
    }

pub returns : goal.returns
returns c =
    let nodes = c.args.arena.now.nodes in
    let root = c.args.root.0 in
    let index = c.points-points.result - 1 in
    let places = c.in_ok-places.places.items in
    let path = c.in_ok-places.ensures.path in
    let place = c.index.result.now in
    let last : slice_get (points nodes root) (length (points nodes root) - 1) ≡ Some (plain path.point) =
    ap (λ n. slice_get (points nodes root) (n - 1)) (sym c.points-points.ensures.points) ∙ point_is nodes root index places path in
    let lengths : length places ≡ 1 = omega (arith, c.len.ensures, c.if-len-ne1.false, c.in_ok-places.places.ok.0) in
    let some : 0 < length places = omega (arith, lengths) in
    let one : places ≡ place ∷ [] = single places place lengths (found_at places 0 place some c.index.ensures) in
    let told = in_open_code nodes root index places path place one in
    let item : c.item_at-item.result.now ≡ path.point.item.item =
    ap (λ o. unwrap_or o path.point.item.item) (sym c.item_at-item.ensures ∙ told.1) in
    let code : c.in_ok-limit.limit.code ≡ (line BranchLimit).code = ap (λ (n : Note). n.code) c.in_ok-limit.ensures in
    c.has_code.ensures
    ∙ ap (λ k. has_code k c.as_slice.result.now) code
    ∙ ap (has_code (line BranchLimit).code) (c.as_slice.ensures ∙ ap (λ (i : TraceItem). i.notes) item)
    ∙ sym (ends_limited-last (points nodes root) (plain path.point) last ∙ told.0)
