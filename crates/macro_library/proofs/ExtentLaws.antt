-- Lines that are counted, one after the other.
use Rattle.std.proofs.Common.{◌≡◌, ◌∙◌, ◌+◌, ℕ, Bool, true, false, cond, List, [], ◌∷◌, Option, Some, None, refl, sym, ap, arith}
use Rattle.std.specs.Option.{option_map, is_some}
use Rattle.statement_listing.specs.Readings.{Reading}
use Rattle.statement_listing.specs.Listings.{Listed, is_plain, processed}
use Rattle.macro_library.specs.Extents.{Headed, behind, closes, headed, line_count, one_further}

-- so many more
abbrev pub more : ℕ → Option ℕ → Option ℕ
more n count = option_map (λ k. n + k) count

pub more-none : (count : Option ℕ) → count ≡ more 0 count
more-none None = refl
more-none (Some n) = ap Some (omega arith)

more-one : (n : ℕ) (count : Option ℕ) → more n (option_map (λ k. k + 1) count) ≡ more (n + 1) count
more-one n None = refl
more-one n (Some k) = ap Some (omega arith)

-- a line that does not end the definition
pub line_count-passed : (n begun : ℕ) (one : Listed) (rest : List Listed) → closes begun one ≡ false →
    more n (line_count begun (one ∷ rest)) ≡ more (n + 1) (line_count (behind begun one) rest)
line_count-passed n begun one rest is =
    ap (λ b. more n (cond b (Some 1) (option_map (λ k. k + 1) (line_count (behind begun one) rest)))) is
    ∙ more-one n (line_count (behind begun one) rest)

-- the MEND
pub line_count-closed : (n begun : ℕ) (one : Listed) (rest : List Listed) → closes begun one ≡ true →
    more n (line_count begun (one ∷ rest)) ≡ Some (n + 1)
line_count-closed n begun one rest is =
    ap (λ b. more n (cond b (Some 1) (option_map (λ k. k + 1) (line_count (behind begun one) rest)))) is

-- so many further on
abbrev pub further : ℕ → Option Headed → Option Headed
further n found = option_map (λ (h : Headed). record { at = n + h.at; line = h.line; rest = h.rest }) found

further-none-of : (h : Headed) → h ≡ record { at = 0 + h.at; line = h.line; rest = h.rest }
further-none-of h = let none : h.at ≡ 0 + h.at = omega arith in ap (λ n. record { at = n; line = h.line; rest = h.rest }) none

pub further-none : (found : Option Headed) → found ≡ further 0 found
further-none None = refl
further-none (Some h) = ap Some (further-none-of h)

further-one : (n : ℕ) (found : Option Headed) → further n (option_map one_further found) ≡ further (n + 1) found
further-one n None = refl
further-one n (Some h) =
    let same : n + (h.at + 1) ≡ n + 1 + h.at = omega arith in ap (λ k. Some (record { at = k; line = h.line; rest = h.rest })) same

plain_of : (one : Listed) (p : Bool) → is_plain one.statement.shape ≡ p → is_some (processed one.statement) ≡ p
plain_of one p is = grind (arith)

-- a comment or a blank line
pub headed-passed : (n : ℕ) (one : Listed) (rest : List Listed) → is_some (processed one.statement) ≡ false →
    further n (headed (one ∷ rest)) ≡ further (n + 1) (headed rest)
headed-passed n one rest none =
    let idle : is_plain one.statement.shape ≡ false = sym (plain_of one (is_plain one.statement.shape) refl) ∙ none in
    ap (λ b. further n (cond b (Some (record { at = 0; line = one; rest = rest })) (option_map one_further (headed rest)))) idle
    ∙ further-one n (headed rest)

-- any other
pub headed-found : (n : ℕ) (one : Listed) (rest : List Listed) → is_some (processed one.statement) ≡ true →
    further n (headed (one ∷ rest)) ≡ Some (record { at = n; line = one; rest = rest })
headed-found n one rest some =
    let plain : is_plain one.statement.shape ≡ true = sym (plain_of one (is_plain one.statement.shape) refl) ∙ some in
    let same : n + 0 ≡ n = omega arith in
    ap (λ b. further n (cond b (Some (record { at = 0; line = one; rest = rest })) (option_map one_further (headed rest)))) plain
    ∙ ap (λ k. Some (record { at = k; line = one; rest = rest })) same
