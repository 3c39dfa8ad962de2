-- The last parenthesis that opens, as the characters are read.
use Rattle.std.proofs.Common.{◌≡◌, ◌∙◌, ℕ, ◌+◌, ◌<◌, Bool, true, false, cond, Option, Some, None, List, [], ◌∷◌, length, drop, get_or, refl, sym, ap, arith}
use Rattle.std.specs.Option.{option_or}
use Rattle.std.proofs.lemmas.List.{at_drop_more}
use Rattle.hl_base.specs.Quoting.{IsBehind}
use Rattle.hl_base.specs.declared.quoting.Nesting.{Nesting}
use Rattle.literal_operands.specs.Pairs.{opens, opened, last_open}

-- the nesting is that behind some characters, which were counted, and the last parenthesis so far and that of the rest is that
-- of the whole
pub record IsFound (nesting : Nesting) (found : Option ℕ) (at : ℕ) (rest : List ℕ) (whole : Option ℕ) : Type 0 where
  pub before : List ℕ
  pub behind : IsBehind nesting before
  pub count : at ≡ length before
  pub same : option_or (last_open before rest) found ≡ whole

pub found-init : (nesting : Nesting) (text : List ℕ) → IsBehind nesting [] → IsFound nesting None 0 text (last_open [] text)
found-init nesting text behind = record { before = []; behind = behind; count = refl; same = or_none (last_open [] text) }
  where
    or_none : (found : Option ℕ) → option_or found None ≡ found
    or_none None = refl
    or_none (Some at) = refl

or_assoc : (one two three : Option ℕ) → option_or one (option_or two three) ≡ option_or (option_or one two) three
or_assoc None two three = refl
or_assoc (Some at) two three = refl

-- what was found with one character more
abbrev pub with_opened : Bool → ℕ → Option ℕ → Option ℕ
with_opened here at found = cond here (Some at) found

or_opened : (here : Bool) (at : ℕ) (found : Option ℕ) → with_opened here at found ≡ option_or (cond here (Some at) None) found
or_opened true at found = refl
or_opened false at found = refl

pub found-more : (old new : Nesting) (found later : Option ℕ) (at n m c : ℕ) (text : List ℕ) (whole : Option ℕ) →
    IsFound old found at (drop n text) whole → (n < length text) × (c ≡ get_or text n c) → m ≡ n + 1 →
    ((before : List ℕ) → IsBehind old before → IsBehind new (c ∷ before)) →
    ((before : List ℕ) → IsBehind old before → later ≡ with_opened (opens c before) at found) →
    IsFound new later (at + 1) (drop m text) whole
found-more old new found later at n m c text whole so_far here next reads finds =
    let before = so_far.before in
    let tail : drop n text ≡ c ∷ drop m text = at_drop_more (λ rest. rest) text n c here.0 ∙ ap (λ x. x ∷ drop (n + 1) text) (sym here.1) ∙ ap (λ k. c ∷ drop k text) (sym next) in
    let counted : at ≡ length before = so_far.count in
    record {
      before = c ∷ before;
      behind = reads before so_far.behind;
      count = omega (arith, counted);
      same =
          ap (option_or (last_open (c ∷ before) (drop m text))) (finds before so_far.behind ∙ or_opened (opens c before) at found ∙ ap (λ k. option_or (cond (opens c before) (Some k) None) found) counted)
          ∙ or_assoc (last_open (c ∷ before) (drop m text)) (opened c before) found
          ∙ ap (λ rest. option_or (last_open before rest) found) (sym tail)
          ∙ so_far.same;
    }

pub found-end : (nesting : Nesting) (found : Option ℕ) (at : ℕ) (rest : List ℕ) (whole : Option ℕ) → IsFound nesting found at rest whole → rest ≡ [] → found ≡ whole
found-end nesting found at rest whole so_far end = sym (ap (λ r. option_or (last_open so_far.before r) found) end) ∙ so_far.same
