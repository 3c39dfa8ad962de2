use Rattle.std.proofs.Common.{◌≡◌, ◌∙◌, ℕ, List, ap}
use Rattle.std.specs.Str.{chars}
use Rattle.std.specs.Rc.{rc_str_bytes}
use Rattle.text_pool.specs.Pool.{Pool, text_of}
use Rattle.program_launch.specs.Traces.{trace_of}
use Rattle.program_launch.proofs.launch.Goals as goal

pub returns : goal.returns
returns g c =
    let members = g.P.Present.members c.args.present.now in
    let path = c.args.path.0 in
    let parm = chars c.args.parm.now in
    let id = c.args.text.0 in
    let read : chars (rc_str_bytes c.in_ok-text.text) ≡ text_of (g.P.Present.texts c.args.present.now) id =
    c.in_ok-text.ensures.characters ∙ ap (λ (pool : Pool). text_of pool id) c.pool.ensures in
    c.of.ensures
    ∙ c.in_ok-root.ensures.points
    ∙ ap (λ (text : List ℕ). trace_of path text parm members c.args.budget) read
