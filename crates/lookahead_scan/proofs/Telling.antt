-- What an answer tells of a member.
use Rattle.std.proofs.Common.{◌≡◌, List, refl}
use Rattle.std.specs.Prelude.{Option, Some, None}
use Rattle.hl_base.specs.declared.place.PathId.{PathId}
use Rattle.hl_base.specs.declared.place.TextId.{TextId}
use Rattle.hl_base.specs.declared.set.Answer.{Answer}
use Rattle.hl_base.specs.declared.set.Answer.TheVariants as answer
use Rattle.hlasm_statements.specs.Statements.{statements_of}
use Rattle.text_pool.specs.Pool.{Pool, IsLive, text_of}
use Rattle.text_pool.specs.Members.{Member, Absent, Unreadable, File, Tells}
use Rattle.lookahead_scan.specs.declared.sight.Sight.{Sight}
use Rattle.lookahead_scan.specs.Copying.{IsListOf}
use Rattle.lookahead_scan.specs.Statements.{sights}

-- a file's text is live
pub told-live : (pool : Pool) (member : Member) (path : PathId) (id : TextId) → Tells pool member (answer.File path id) → IsLive pool id.0
told-live pool Absent path id told = absurd told
told-live pool Unreadable path id told = absurd told
told-live pool (File at text) path id told = told.1.live

-- the statements of a file's text
pub told-list : (pool : Pool) (member : Member) (path : PathId) (id : TextId) (list : List Sight) → Tells pool member (answer.File path id) →
    list ≡ sights (statements_of (text_of pool id.0)) → IsListOf member (Some list)
told-list pool Absent path id list told is = told
told-list pool Unreadable path id list told is = told
told-list pool (File at text) path id list told is = rw (told.1.is) at is

-- any other answer: there is no text
pub told-none : (pool : Pool) (member : Member) (told : Answer) → Tells pool member told → ((path : PathId) (id : TextId) → told ≡ answer.File path id → ⊥) → IsListOf member None
told-none pool Absent told h other = tt
told-none pool Unreadable told h other = tt
told-none pool (File at text) (answer.File path id) h other = other path id refl
told-none pool (File at text) answer.Nothing h other = h
told-none pool (File at text) (answer.Number number) h other = h
told-none pool (File at text) (answer.Bit bit) h other = h
told-none pool (File at text) (answer.Chars chars) h other = h
told-none pool (File at text) answer.Defined h other = h
told-none pool (File at text) answer.Unreadable h other = h
told-none pool (File at text) (answer.Meaning attr) h other = h
