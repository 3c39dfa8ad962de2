use Rattle.std.proofs.Common.{◌≡◌, ◌∙◌, ◌-◌, get_or, length, take, drop, sym, arith}
use Rattle.std.proofs.lemmas.Bool.Decides.{nat_tests}
use Rattle.plain_terms.proofs.QuotedLaws.{parts_between, quoted_found}
use Rattle.plain_terms.proofs.quoted.quoted_term.Goals as goal

pub returns-in-39 : goal.returns-in-39
returns-in-39 c =
    let bytes = c.as_bytes.result.now in
    let second : get_or bytes 1 0 ≡ 39 = grind (arith, nat_tests) in
    let last : get_or bytes (length bytes - 1) 0 ≡ 39 = grind (arith, nat_tests) in
    quoted_found c.args.text.now (get_or bytes 0 0) (take (length bytes - 1 - 2) (drop 2 bytes)) c.term_of.result
    (sym c.as_bytes.ensures.value ∙ parts_between bytes c.in-39.len_at_least second last) c.term_of.ensures
