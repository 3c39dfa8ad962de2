use Rattle.std.proofs.Common.{length, arith, sym, ap, ◌∙◌}
use Rattle.std.specs.Prelude.{encode_utf8_all}
use Rattle.std.specs.Str.{chars}
use Rattle.std.proofs.lemmas.Str.{encodes-chars}
use Rattle.text_pool.proofs.PoolLemmas.{live_contains, text_of-entry}
use Rattle.text_pool.proofs.pool.TextPool.text.Goals as goal

pub index-requires : goal.index-requires
index-requires c = live_contains _ _ _ c.self.view_is c.requires.live

pub returns-clause-characters : goal.returns-clause-characters
returns-clause-characters c =
    ap chars c.as_str.ensures.value ∙ sym (text_of-entry _ _ _ _ c.self.view_is c.index.ensures)

pub returns-clause-bytes : goal.returns-clause-bytes
returns-clause-bytes c =
    sym (encodes-chars _ c.as_str.utf8) ∙ ap encode_utf8_all
    (ap chars c.as_str.ensures.value ∙ sym (text_of-entry _ _ _ _ c.self.view_is c.index.ensures))

pub returns-clause-short : goal.returns-clause-short
returns-clause-short c =
    omega (arith, ap length c.as_str.ensures.value, c.self.invariant.short _ _ c.index.ensures)
