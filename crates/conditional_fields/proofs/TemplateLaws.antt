-- Pieces behind one another.
use Rattle.std.proofs.Common.{◌≡◌, ℕ, ◌+◌, Bool, true, false, List, [], ◌∷◌, ◌++◌, refl, subst, sym}
use Rattle.std.specs.Prelude.{not, ◌&&◌}
use Rattle.conditional_fields.specs.declared.template.Piece.{Piece}
use Rattle.conditional_fields.specs.Templates.{IsPiece, Reads, begins_symbol, begins_pair, plain_length}

-- one piece more
pub reads-more : (text : List ℕ) (pieces : List Piece) (middle : List ℕ) (piece : Piece) (behind : List ℕ) → Reads text pieces middle → IsPiece middle piece behind → Reads text (pieces ++ piece ∷ []) behind
reads-more text [] middle piece behind same is = (behind, subst (λ (t : List ℕ). IsPiece t piece behind) (sym same) is, refl)
reads-more text (first ∷ pieces) middle piece behind r is = (r.0, r.1, reads-more r.0 pieces middle piece behind r.2 is)

-- one plain character more
pub plain-step : (second : Bool) (c : ℕ) (rest : List ℕ) (next : Bool) → (not second && begins_symbol c rest) ≡ false → next ≡ (not second && begins_pair c rest) →
    plain_length second (c ∷ rest) ≡ plain_length next rest + 1
plain-step true c rest next h e = rw e refl
plain-step false c rest next h e = rw (h, e) refl

-- none before a variable symbol
pub plain-stop : (c : ℕ) (rest : List ℕ) → begins_symbol c rest ≡ true → plain_length false (c ∷ rest) ≡ 0
plain-stop c rest h = rw h refl
