-- Names in operands, one after the other.
use Rattle.std.proofs.Common.{◌≡◌, ◌∙◌, ℕ, suc, ◌+◌, ◌<◌, ◌≤◌, List, [], ◌∷◌, ◌++◌, length, drop, get_or, refl, sym, ap, append_assoc, append-nil, add-one, drop-cons}
use Rattle.std.proofs.Math.ListN.{drop_of_length-le}
use Rattle.statement_names.specs.declared.name.WrittenName.{WrittenName}
use Rattle.statement_names.specs.declared.uses.OperandUse.{OperandUse}
use Rattle.statement_names.specs.Operands.{operand_names, each_operand}
use Rattle.statement_names.specs.Scans.{AreRead}

-- one operand more
pub operands-more : (used : OperandUse) (at next : ℕ) (found later : List WrittenName) (texts : List (List ℕ)) (i : ℕ) (text : List ℕ) (whole : List WrittenName) →
    AreRead used at found (drop i texts) whole → i < length texts → text ≡ get_or texts i text →
    later ≡ found ++ operand_names used at text → next ≡ at + length text + 1 →
    AreRead used next later (drop (i + 1) texts) whole
operands-more used at next found later texts i text whole so_far h is grows placed =
    let rest = drop (i + 1) texts in
    let splits : drop i texts ≡ text ∷ rest =
    drop-cons texts i text h ∙ ap (λ t. t ∷ drop (suc i) texts) (sym is) ∙ ap (λ k. text ∷ drop k texts) (sym (add-one i)) in
    ap (λ l. l ++ each_operand used next rest) grows
    ∙ ap (λ n. (found ++ operand_names used at text) ++ each_operand used n rest) placed
    ∙ append_assoc found (operand_names used at text) (each_operand used (at + length text + 1) rest)
    ∙ ap (λ t. found ++ each_operand used at t) (sym splits)
    ∙ so_far

-- no operand more
pub operands-end : (used : OperandUse) (at : ℕ) (found : List WrittenName) (texts : List (List ℕ)) (i : ℕ) (whole : List WrittenName) →
    AreRead used at found (drop i texts) whole → length texts ≤ i → found ≡ whole
operands-end used at found texts i whole so_far h =
    sym (append-nil found) ∙ ap (λ t. found ++ each_operand used at t) (sym (drop_of_length-le texts h)) ∙ so_far
