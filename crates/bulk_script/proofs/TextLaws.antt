-- Calls one by one, and edits (this project).
use Rattle.std.proofs.Common.{◌≡◌, ℕ, zero, suc, ◌+◌, ◌-◌, ◌<◌, ◌==◌, ◌||◌, true, false, List, ◌++◌, ap, sym, ◌∙◌, refl, arith, add-one, append_assoc}
use Rattle.bulk_script.specs.Texts.{edited_call, is_edited, call_line, call_lines}

-- one call more
pub call_lines-more : (head : List ℕ) (count edits first : ℕ) → (head ++ call_lines count edits first) ++ call_line count edits first ≡ head ++ call_lines count edits (first + 1)
call_lines-more head count edits first =
    append_assoc head (call_lines count edits first) (call_line count edits first)
    ∙ ap (λ n. head ++ call_lines count edits n) (sym (add-one first))

-- the last of some edits changed a call, or it changed another
pub is_edited-here : (count left call : ℕ) → 0 < left → edited_call count (left - 1) ≡ call → is_edited count left call ≡ true
is_edited-here count zero call some is = absurd (omega arith)
is_edited-here count (suc edit) call some is = grind (arith, is)

pub is_edited-before : (count left call : ℕ) → 0 < left → (edited_call count (left - 1) == call) ≡ false → is_edited count left call ≡ is_edited count (left - 1) call
is_edited-before count zero call some other = absurd (omega arith)
is_edited-before count (suc edit) call some other = grind (arith, other)
