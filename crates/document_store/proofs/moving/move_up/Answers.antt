use Rattle.std.proofs.Common.{◌≡◌, ◌∙◌, ℕ, ◌+◌, ◌-◌, ◌≤◌, List, drop, ap, arith}
use Rattle.std.proofs.Math.Seq.{paste}
use Rattle.document_store.proofs.MoveLemmas.{moved_up}
use Rattle.document_store.proofs.moving.move_up.Goals as goal

pub loop-left-preserved : goal.loop-left-preserved
loop-left-preserved c =
    let xs : List ℕ = c.args.bytes.now in
    let size : ℕ = c.min-size.result in
    let left : ℕ = c.loop-left.left - size in
    let rest : ℕ = c.args.count - c.loop-left.left in
    let low : c.loop-left.left ≤ c.args.count = c.loop-left.invariant.0 in
    let part : size ≤ c.loop-left.left = omega (arith, c.min-size.ensures) in
    let all : left + size ≡ c.loop-left.left = omega (arith, part) in
    let before : c.loop-left.bytes ≡ paste xs (c.args.to + (left + size)) (drop (c.args.from + (left + size)) xs) rest =
    c.loop-left.invariant.1 ∙ ap (λ k. paste xs (c.args.to + k) (drop (c.args.from + k) xs) rest) (let e : c.loop-left.left ≡ left + size = omega (arith, part) in e) in (
      omega (arith, low),
      moved_up xs c.loop-left.bytes c.move_part.new.bytes c.args.from c.args.to left size rest c.requires.up
          (omega (arith, all, low, c.requires.within)) before c.move_part.ensures
          ∙ ap (paste xs (c.args.to + left) (drop (c.args.from + left) xs)) (let e : size + rest ≡ c.args.count - left = omega (arith, part, low) in e),
    )
