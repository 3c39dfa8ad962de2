use Rattle.std.proofs.Common.{sym, ap, ◌∙◌}
use Rattle.std.specs.Prelude.{encode_utf8_all}
use Rattle.std.specs.Str.{chars}
use Rattle.std.proofs.lemmas.Str.{encodes-chars}
use Rattle.text_pool.proofs.PoolLemmas.{live_contains, text_of-entry}
use Rattle.text_pool.proofs.pool.TextPool.shared.Goals as goal

pub index-requires : goal.index-requires
index-requires c = live_contains _ _ _ c.self.view_is c.requires.live

pub returns-clause-characters : goal.returns-clause-characters
returns-clause-characters c =
    ap chars c.in_ok-clone.ensures.cases ∙ sym (text_of-entry _ _ _ _ c.self.view_is c.index.ensures)

pub returns-clause-bytes : goal.returns-clause-bytes
returns-clause-bytes c =
    c.in_ok-clone.ensures.cases ∙ sym (encodes-chars _ (c.self.invariant.utf8 _ _ c.index.ensures))
    ∙ ap encode_utf8_all (sym (text_of-entry _ _ _ _ c.self.view_is c.index.ensures))
