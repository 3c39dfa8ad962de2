use Rattle.std.proofs.Common.{◌≡◌, ◌≤◌, ℕ, ◌+◌, ◌-◌, List, ◌++◌, length, take, drop, length-drop, refl, sym, subst, ap, ◌∙◌, arith}
use Rattle.std.proofs.Math.Seq.{paste}
use Rattle.std.proofs.lemmas.List.{with_items_is}
use Rattle.std.proofs.lemmas.List.Edits.{length-paste}
use Rattle.std.proofs.lemmas.Slice.{put_mid-paste}
use Rattle.std.specs.Global.{Vec}
use Rattle.std.specs.List.{copy_within}
use Rattle.std.specs.Prelude.{IsCharBoundary, IsUtf8}
use Rattle.std.specs.Vec.{with_items}
use Rattle.document_store.specs.Parts.{Parts}
use Rattle.document_store.specs.Split.{parts_of, AreParts}
use Rattle.document_store.proofs.SplitLemmas.{Holds, holds_put}
use Rattle.document_store.proofs.split_text.SplitText.put.Goals as goal
use borrow.Rule.Slice.PartMut.{put_mid}

-- what the buffer holds once the text was written into it
written : (bytes : Vec ℕ) (moved copied text : List ℕ) (end start from to : ℕ) (p : Parts) → AreParts bytes.items end start →
    parts_of bytes.items end start ≡ p → from ≤ to → IsCharBoundary p.back from → IsCharBoundary p.back to → IsUtf8 text → length text ≤ p.room →
    moved ≡ copy_within bytes.items start (start + from) (start + (to - from) - length text) → length moved ≡ bytes.len → copied ≡ text →
    Holds
    (with_items bytes (put_mid (start + (to - from) - length text + from) (start + to - (start + (to - from) - length text + from)) moved copied)).items
    end (start + (to - from) - length text)
    (record { front = take end bytes.items; room = start - end + (to - from) - length text; back = take from (drop start bytes.items) ++ text ++ drop to (drop start bytes.items) })
written bytes moved copied text end start from to p are is order first last u room h size same =
    let put : ℕ = start + (to - from) - length text in
    let little : length text ≤ start - end = subst (λ (q : Parts). length text ≤ q.room) (sym is) room in
    let cut_first : IsCharBoundary (drop start bytes.items) from = subst (λ (q : Parts). IsCharBoundary q.back from) (sym is) first in
    let cut_last : IsCharBoundary (drop start bytes.items) to = subst (λ (q : Parts). IsCharBoundary q.back to) (sym is) last in
    let few : length text ≡ start + to - (put + from) = omega (arith, order, little, are.order) in
    let pasted : put_mid (put + from) (start + to - (put + from)) moved copied ≡ paste moved (put + from) text (length text) =
    put_mid-paste (put + from) (start + to - (put + from)) moved copied text (length text) same few refl in
    let within : put + from + length text ≤ length moved =
    omega (arith, order, little, are.order, are.within, cut_last.0, length-drop start bytes.items, size, sym bytes.ok.0) in
    let kept : length (put_mid (put + from) (start + to - (put + from)) moved copied) ≡ bytes.len =
    ap length pasted ∙ length-paste moved (put + from) text (length text) within (omega arith) ∙ size in
    holds_put bytes.items moved _ text end start from to are order cut_first cut_last u little h (with_items_is bytes _ kept ∙ pasted)

pub invariant_of-self : goal.invariant_of-self
invariant_of-self c =
    let s = c.self.inside in
    let put : ℕ = s.start + (c.args.to - c.args.from) - length c.args.text.now in
    (written s.bytes c.move_bytes.new.bytes c.copy_from_slice.new.self c.args.text.now s.end s.start c.args.from c.args.to c.args.self.now c.self.invariant c.self.view_is
    c.requires.order c.requires.first c.requires.last c.utf8.text c.requires.room
    (c.move_bytes.ensures.after ∙ ap (λ bs. copy_within bs s.start (s.start + c.args.from) put) c.as_mut_slice-bytes.ensures.value)
    (c.move_bytes.ensures.len ∙ c.as_mut_slice-bytes.ensures.len) (c.copy_from_slice.ensures.after ∙ c.as_bytes.ensures.value)).are

pub returns : goal.returns
returns c =
    let s = c.self.inside in
    let put : ℕ = s.start + (c.args.to - c.args.from) - length c.args.text.now in
    (written s.bytes c.move_bytes.new.bytes c.copy_from_slice.new.self c.args.text.now s.end s.start c.args.from c.args.to c.args.self.now c.self.invariant c.self.view_is
    c.requires.order c.requires.first c.requires.last c.utf8.text c.requires.room
    (c.move_bytes.ensures.after ∙ ap (λ bs. copy_within bs s.start (s.start + c.args.from) put) c.as_mut_slice-bytes.ensures.value)
    (c.move_bytes.ensures.len ∙ c.as_mut_slice-bytes.ensures.len) (c.copy_from_slice.ensures.after ∙ c.as_bytes.ensures.value)).is
    ∙ ap
    (λ (p : Parts). record { front = p.front; room = p.room + (c.args.to - c.args.from) - length c.args.text.now; back = take c.args.from p.back ++ c.args.text.now ++ drop c.args.to p.back })
    c.self.view_is
