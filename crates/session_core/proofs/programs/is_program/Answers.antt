use Rattle.std.proofs.Common.{ap, sym, ◌∙◌, codes}
use Rattle.std.specs.Prelude.{encode_utf8_all}
use Rattle.std.specs.Str.{bytes_eq}
use Rattle.std.proofs.lemmas.Str.{encodes-chars}
use Rattle.session_core.proofs.ProgramLaws.{program_by_path, program_by_language}
use Rattle.session_core.proofs.programs.is_program.Goals as goal

pub returns-then-eq : goal.returns-then-eq
returns-then-eq c = λ shown path is.
    let language = ap (λ z. bytes_eq z (codes "hlasm")) (sym (ap encode_utf8_all is) ∙ encodes-chars _ c.utf8.language) ∙ sym c.eq.ensures ∙ c.if-eq.true in
    program_by_path c.args.folders.now shown _ _ language c.is_member.ensures path

pub returns-else-eq : goal.returns-else-eq
returns-else-eq c = λ shown path is.
    let language = ap (λ z. bytes_eq z (codes "hlasm")) (sym (ap encode_utf8_all is) ∙ encodes-chars _ c.utf8.language) ∙ sym c.eq.ensures ∙ c.if-eq.false in
    c.if-eq.false ∙ program_by_language c.args.folders.now shown language
