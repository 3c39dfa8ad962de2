-- The characters from the blank on, one by one.
use Rattle.std.proofs.Common.{◌≡◌, ◌∙◌, ◌+◌, ◌-◌, ◌<◌, ℕ, suc, ap, sym, arith}
use Rattle.std.specs.Prelude.{Bool, ◌==◌, if◌then◌else◌}
use Rattle.std.proofs.lemmas.Bool.{eq-eqb, ne_eqb}
use Rattle.hl_base.specs.Order.{ebcdic}
use Rattle.symbol_attributes.specs.Equates.{character_among}

-- one character, and then the others
among_step : (c byte : ℕ) → c < 127 →
    character_among (127 - c) c byte ≡ (if ebcdic c == byte then c else character_among (127 - (c + 1)) (c + 1) byte)
among_step c byte h =
    let more : 127 - c ≡ suc (126 - c) = omega arith in
    let less : 126 - c ≡ 127 - (c + 1) = omega arith in
    ap (λ n. character_among n c byte) more ∙ ap (λ n. if ebcdic c == byte then c else character_among n (c + 1) byte) less

-- this one has the byte
pub among-met : (c byte whole : ℕ) → c < 127 → ebcdic c ≡ byte → character_among (127 - c) c byte ≡ whole → c ≡ whole
among-met c byte whole h is e =
    let others = character_among (127 - (c + 1)) (c + 1) byte in
    sym (among_step c byte h ∙ ap (λ (test : Bool). if test then c else others) (eq-eqb (ebcdic c) byte is)) ∙ e

-- another has it, or none
pub among-other : (c byte whole : ℕ) → c < 127 → (ebcdic c ≡ byte → ⊥) → character_among (127 - c) c byte ≡ whole → character_among (127 - (c + 1)) (c + 1) byte ≡ whole
among-other c byte whole h other e =
    let others = character_among (127 - (c + 1)) (c + 1) byte in
    sym (among_step c byte h ∙ ap (λ (test : Bool). if test then c else others) (ne_eqb (ebcdic c) byte other)) ∙ e
