use Rattle.std.proofs.Common.{◌≡◌, ◌∙◌, sym, ap, rules}
use Rattle.std.specs.Prelude.{IsTrue, ◌↔◌}
use Rattle.std.specs.Str.{chars}
use Rattle.macro_library.specs.Files.{File}
use Rattle.call_sites.proofs.CallLaws.{bytes-chars}
use Rattle.call_sites.proofs.KnownLaws.{file_as}
use Rattle.call_sites.proofs.known.same_file.Goals as goal

pub returns : goal.returns
returns c =
    let path : c.args.one.now.path.0 ≡ c.args.other.now.path.0 = search rules in
    let both : IsTrue c.eq.result ↔ (c.text.result.now ≡ c.text-2.result.now) = search rules in (
      (λ is. file_as c.args.one.now c.args.other.now path (sym c.text.ensures ∙ ap chars (both.0 is) ∙ c.text-2.ensures)),
      (λ is. both.1 (bytes-chars _ _ c.text.utf8 c.text-2.utf8 (c.text.ensures ∙ ap (λ (f : File). f.text) is ∙ sym c.text-2.ensures))),
    )
