use Rattle.std.proofs.Common.{◌∙◌, ◌+◌, ℕ, Bool, List, sym, ap, subst, take, drop}
use Rattle.std.specs.Prelude.{Err, encode_utf8_all}
use Rattle.std.specs.Str.{chars}
use Rattle.hl_base.specs.Symbols.{symbol_of}
use Rattle.conditional_fields.specs.Answers.{IsPlaced, Says}
use Rattle.conditional_fields.specs.Sequences.{letter_count}
use Rattle.conditional_fields.specs.Declarations.{dimension}
use Rattle.conditional_fields.proofs.DeclarationLaws.{named_fault}
use Rattle.conditional_fields.proofs.declaration.named.Goals as goal

pub returns-in-Err : goal.returns-in-Err
returns-in-Err c =
    let rest = chars c.args.rest.now in
    let letters = c.letter_count-letters.ensures in
    named_fault c.args.kind c.args.global rest c.in-Some.name c.in-Err.fault c.further-in-Err.result
    (sym (ap (λ text. symbol_of (encode_utf8_all text)) (c.before-2.ensures ∙ ap (λ n. take n rest) letters)) ∙ sym c.name_of.ensures ∙ c.in-Some.is)
    (subst (λ (text : List ℕ). Says (λ (b : Bool). b) (dimension text) (Err c.in-Err.fault)) (c.behind.ensures ∙ ap (λ n. drop n rest) letters) c.in-Err.ensures)
    (λ place h. c.further-in-Err.ensures.place (place + letter_count rest)
    (subst (λ (n : ℕ). IsPlaced (place + n) c.further.result) letters (c.further.ensures.place place h)))
    (λ want. c.further-in-Err.ensures.want (c.further.ensures.want want))
