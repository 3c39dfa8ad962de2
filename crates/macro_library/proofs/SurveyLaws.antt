-- What is known of lines, one line after the other.
use Rattle.std.proofs.Common.{◌≡◌, ◌∙◌, ◌||◌, ◌&&◌, ◌==◌, ℕ, Bool, true, false, List, ◌∷◌, map, refl, sym, ap}
use Rattle.std.specs.Prelude.{fold}
use Rattle.statement_listing.specs.Listings.{Listed}
use Rattle.macro_library.specs.Contents.{written, written_number}
use Rattle.macro_library.specs.Extents.{behind}
use Rattle.macro_library.specs.Later.{copies_from, may_copy}

or_same : (a b c : Bool) → a || (b || c) ≡ (a || b) || c
or_same true b c = refl
or_same false b c = refl

-- whether a line copies later, a line more
pub copies_from-step : (whole so_far next : Bool) (begun passed : ℕ) (one : Listed) (left rest : List Listed) →
    left ≡ one ∷ rest → whole ≡ so_far || copies_from begun left → next ≡ so_far || ((begun == 0) && may_copy one) →
    passed ≡ behind begun one → whole ≡ next || copies_from passed rest
copies_from-step whole so_far next begun passed one left rest is so next_is passed_is =
    so
    ∙ ap (λ ls. so_far || copies_from begun ls) is
    ∙ or_same so_far ((begun == 0) && may_copy one) (copies_from (behind begun one) rest)
    ∙ ap (λ b. b || copies_from (behind begun one) rest) (sym next_is)
    ∙ ap (λ n. next || copies_from n rest) (sym passed_is)

-- the number, a line more
pub number-step : (whole so_far next : ℕ) (one : Listed) (left rest : List Listed) →
    left ≡ one ∷ rest → fold written_number so_far (map written left) ≡ whole → next ≡ written_number so_far (written one) →
    fold written_number next (map written rest) ≡ whole
number-step whole so_far next one left rest is so next_is =
    ap (λ n. fold written_number n (map written rest)) next_is
    ∙ sym (ap (λ ls. fold written_number so_far (map written ls)) is)
    ∙ so
