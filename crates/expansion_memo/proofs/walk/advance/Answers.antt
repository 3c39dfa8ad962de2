use Rattle.std.proofs.Common.{◌≡◌, ◌≤◌, ◌<◌, ◌+◌, map, refl, sym, ap, ◌∙◌, subst, arith}
use Rattle.asking_core.specs.Machines.{Told, Nothing, Answered, TooDeep, Ask, Put, Count, Bump, Emit, Deepen, Rise, Enter, At, Leave, End, is_count, is_last}
use Rattle.asking_core.specs.Actions.{move_of, told_of}
use Rattle.asking_core.specs.declared.machine.Given.TheVariants as given
use Rattle.asking_core.specs.Runs.{deepest_depth}
use Rattle.kept_outcomes.specs.Moments.{Moment, stepped, reading}
use Rattle.expansion_memo.specs.declared.walk.Next.TheVariants as next
use Rattle.expansion_memo.specs.Walks.{moment_at, GoesOn, Lowers}
use Rattle.expansion_memo.specs.Records.{StepMakes, owed}
use Rattle.expansion_memo.proofs.Making.{makes_ask, makes_put, makes_bump, makes_emit, makes_at, makes_deepen, makes_no_frame, makes_rise, owed_falls, owed_emits}
use Rattle.expansion_memo.proofs.Walking.{same_moment, goes_ask, goes_put, goes_bump, goes_emit, goes_at, goes_deepen, goes_no_frame, goes_rise, appended_last, appended_points}
use Rattle.expansion_memo.proofs.Telling.{at_ok, ok_told}
use Rattle.expansion_memo.proofs.walk.advance.Goals as goal

pub returns-in-Ask-clause-goes : goal.returns-in-Ask-clause-goes
returns-in-Ask-clause-goes g c =
    let M = g.M.AskMachine.model in
    let W = g.W.World.model in
    let key = g.M.Key.Kept.code in
    let value = g.M.Value.Kept.code in
    let code = g.M.Call.Kept.code in
    let call = g.M.AskMachine.call_of in
    let place = g.M.AskMachine.place in
    let item = g.M.AskMachine.item_of in
    let walk = c.args.walk.now in
    let nodes = c.args.arena.now.nodes in
    let a = moment_at M W place item walk (told_of value c.args.given) (g.W.World.state c.args.world.now) nodes in
    let b : Told → Moment M W = λ h. moment_at M W {K = g.row.M-Key.Denot} {V = g.row.M-Value.Denot} place item (record { local = c.step.new.local; node = walk.node; summary = c.ask.new.summary; frames = walk.frames }) h (g.W.World.state c.ask.new.world) nodes in
    let move : M.move_at a.place a.given ≡ Ask (key c.in-Ask.key) = sym c.in_ok-action.ensures.action ∙ ap (move_of key value code call item) c.in-Ask.is in
    let answer = W.answer (g.W.World.state c.args.world.now) (key c.in-Ask.key) in
    let noted = c.ask.new.summary ≡ reading walk.summary (key c.in-Ask.key) answer in
    ok_told value (Answered answer) noted (GoesOn M W g.M.AskMachine.rebased value (λ x. call (code x)) c.args.depth a b) c.ask.result c.ask.ensures.told c.ask.ensures.noted
    (λ told is noted. λ fuel. goes_ask M W g.M.AskMachine.rebased c.args.depth fuel a (b (told_of value told)) c.in_ok-action.ensures.place (key c.in-Ask.key) move is c.ask.ensures.kept refl refl noted refl)

pub returns-in-Ask-clause-lowers : goal.returns-in-Ask-clause-lowers
returns-in-Ask-clause-lowers g c =
    let M = g.M.AskMachine.model in
    let W = g.W.World.model in
    let key = g.M.Key.Kept.code in
    let value = g.M.Value.Kept.code in
    let code = g.M.Call.Kept.code in
    let call = g.M.AskMachine.call_of in
    let place = g.M.AskMachine.place in
    let item = g.M.AskMachine.item_of in
    let walk = c.args.walk.now in
    let nodes = c.args.arena.now.nodes in
    let a = moment_at M W place item walk (told_of value c.args.given) (g.W.World.state c.args.world.now) nodes in
    let b : Told → Moment M W = λ h. moment_at M W {K = g.row.M-Key.Denot} {V = g.row.M-Value.Denot} place item (record { local = c.step.new.local; node = walk.node; summary = c.ask.new.summary; frames = walk.frames }) h (g.W.World.state c.ask.new.world) nodes in
    let move : M.move_at a.place a.given ≡ Ask (key c.in-Ask.key) = sym c.in_ok-action.ensures.action ∙ ap (move_of key value code call item) c.in-Ask.is in
    let answer = W.answer (g.W.World.state c.args.world.now) (key c.in-Ask.key) in
    let noted = c.ask.new.summary ≡ reading walk.summary (key c.in-Ask.key) answer in
    let number = g.M.AskMachine.number in
    let p = place walk.local in
    let P : M.Place → Type 0 = λ q. number q < number p in
    ok_told value (Answered answer) noted (Lowers number p (place c.step.new.local)) c.ask.result c.ask.ensures.told c.ask.ensures.noted
    (λ told is noted. subst P (sym c.in_ok-action.ensures.place) (g.met.M.AskMachine.falls p (told_of value c.args.given) (ap is_count move) (ap is_last move)))

pub returns-in-Ask-clause-makes : goal.returns-in-Ask-clause-makes
returns-in-Ask-clause-makes g c =
    let M = g.M.AskMachine.model in
    let W = g.W.World.model in
    let key = g.M.Key.Kept.code in
    let value = g.M.Value.Kept.code in
    let code = g.M.Call.Kept.code in
    let call = g.M.AskMachine.call_of in
    let place = g.M.AskMachine.place in
    let item = g.M.AskMachine.item_of in
    let walk = c.args.walk.now in
    let nodes = c.args.arena.now.nodes in
    let a = moment_at M W place item walk (told_of value c.args.given) (g.W.World.state c.args.world.now) nodes in
    let b : Told → Moment M W = λ h. moment_at M W {K = g.row.M-Key.Denot} {V = g.row.M-Value.Denot} place item (record { local = c.step.new.local; node = walk.node; summary = c.ask.new.summary; frames = walk.frames }) h (g.W.World.state c.ask.new.world) nodes in
    let move : M.move_at a.place a.given ≡ Ask (key c.in-Ask.key) = sym c.in_ok-action.ensures.action ∙ ap (move_of key value code call item) c.in-Ask.is in
    let answer = W.answer (g.W.World.state c.args.world.now) (key c.in-Ask.key) in
    let noted = c.ask.new.summary ≡ reading walk.summary (key c.in-Ask.key) answer in
    let marked = g.M.AskMachine.marked in
    let made = c.args.arena.now.made in
    ok_told value (Answered answer) noted (StepMakes M W value call c.args.depth a b made made (owed marked made (place walk.local)) (owed marked made (place c.step.new.local))) c.ask.result c.ask.ensures.told c.ask.ensures.noted
    (λ told is noted. λ kept fuel. makes_ask M W call c.args.depth kept fuel a (b (told_of value told)) c.in_ok-action.ensures.place (owed marked made (place walk.local)) (owed marked made (place c.step.new.local)) (owed_falls M marked g.met.M.AskMachine.emits_once_a_count a.place a.given (ap is_count move) (place c.step.new.local) c.in_ok-action.ensures.place made) (key c.in-Ask.key) move is c.ask.ensures.kept refl refl noted refl)

pub returns-in_ok-put-in-Put-clause-goes : goal.returns-in_ok-put-in-Put-clause-goes
returns-in_ok-put-in-Put-clause-goes g c =
    let M = g.M.AskMachine.model in
    let W = g.W.World.model in
    let key = g.M.Key.Kept.code in
    let value = g.M.Value.Kept.code in
    let code = g.M.Call.Kept.code in
    let call = g.M.AskMachine.call_of in
    let place = g.M.AskMachine.place in
    let item = g.M.AskMachine.item_of in
    let walk = c.args.walk.now in
    let nodes = c.args.arena.now.nodes in
    let a = moment_at M W place item walk (told_of value c.args.given) (g.W.World.state c.args.world.now) nodes in
    let b : Told → Moment M W = λ h. moment_at M W {K = g.row.M-Key.Denot} {V = g.row.M-Value.Denot} place item (record { local = c.step.new.local; node = walk.node; summary = c.put.new.summary; frames = walk.frames }) h (g.W.World.state c.put.new.world) nodes in
    let move : M.move_at a.place a.given ≡ Put (g.M.Key.Kept.code c.in-Put.key) (g.M.Value.Kept.code c.in-Put.value) = sym c.in_ok-action.ensures.action ∙ ap (move_of key value code call item) c.in-Put.is in
    at_ok (GoesOn M W g.M.AskMachine.rebased value (λ x. call (code x)) c.args.depth a b) c.tell_nothing.result (next.Tell given.Nothing) c.tell_nothing.ensures
    (λ fuel. goes_put M W g.M.AskMachine.rebased c.args.depth fuel a (b Nothing) c.in_ok-action.ensures.place (key c.in-Put.key) (value c.in-Put.value) move refl c.in_ok-put-in-Put.ensures.state refl refl c.in_ok-put-in-Put.ensures.noted refl)

pub returns-in_ok-count_call-in-Bump-clause-goes : goal.returns-in_ok-count_call-in-Bump-clause-goes
returns-in_ok-count_call-in-Bump-clause-goes g c =
    let M = g.M.AskMachine.model in
    let W = g.W.World.model in
    let key = g.M.Key.Kept.code in
    let value = g.M.Value.Kept.code in
    let code = g.M.Call.Kept.code in
    let call = g.M.AskMachine.call_of in
    let place = g.M.AskMachine.place in
    let item = g.M.AskMachine.item_of in
    let walk = c.args.walk.now in
    let nodes = c.args.arena.now.nodes in
    let a = moment_at M W place item walk (told_of value c.args.given) (g.W.World.state c.args.world.now) nodes in
    let b : Told → Moment M W = λ h. moment_at M W {K = g.row.M-Key.Denot} {V = g.row.M-Value.Denot} place item (record { local = c.step.new.local; node = walk.node; summary = c.count_call.new.self; frames = walk.frames }) h (g.W.World.state c.bump.new.self) nodes in
    let move : M.move_at a.place a.given ≡ Bump = sym c.in_ok-action.ensures.action ∙ ap (move_of key value code call item) c.in-Bump.is in
    at_ok (GoesOn M W g.M.AskMachine.rebased value (λ x. call (code x)) c.args.depth a b) c.tell_nothing-in-Bump.result (next.Tell given.Nothing) c.tell_nothing-in-Bump.ensures
    (λ fuel. goes_bump M W g.M.AskMachine.rebased c.args.depth fuel a (b Nothing) c.in_ok-action.ensures.place move refl c.bump.ensures refl refl c.in_ok-count_call-in-Bump.ensures.ok refl)

pub returns-in_ok-append-in-Emit-clause-goes : goal.returns-in_ok-append-in-Emit-clause-goes
returns-in_ok-append-in-Emit-clause-goes g c =
    let M = g.M.AskMachine.model in
    let W = g.W.World.model in
    let key = g.M.Key.Kept.code in
    let value = g.M.Value.Kept.code in
    let code = g.M.Call.Kept.code in
    let call = g.M.AskMachine.call_of in
    let place = g.M.AskMachine.place in
    let item = g.M.AskMachine.item_of in
    let walk = c.args.walk.now in
    let nodes = c.args.arena.now.nodes in
    let a = moment_at M W place item walk (told_of value c.args.given) (g.W.World.state c.args.world.now) nodes in
    let b : Told → Moment M W = λ h. moment_at M W {K = g.row.M-Key.Denot} {V = g.row.M-Value.Denot} place item (record { local = c.step.new.local; node = walk.node; summary = walk.summary; frames = walk.frames }) h (g.W.World.state c.args.world.now) c.append.new.arena.nodes in
    let move : M.move_at a.place a.given ≡ Emit (g.M.AskMachine.item_of c.in-Emit.item.value) = sym c.in_ok-action.ensures.action ∙ ap (move_of key value code call item) c.in-Emit.is in
    at_ok (GoesOn M W g.M.AskMachine.rebased value (λ x. call (code x)) c.args.depth a b) c.tell_nothing-in-Emit.result (next.Tell given.Nothing) c.tell_nothing-in-Emit.ensures
    (λ fuel. goes_emit M W g.M.AskMachine.rebased c.args.depth fuel a (b Nothing) c.in_ok-action.ensures.place (item c.in-Emit.item.value) move refl refl (appended_points item nodes c.append.new.arena.nodes walk.node.0 c.in-Emit.item.value c.in_ok-append-in-Emit.ensures.appended) (ap (map item) (appended_last nodes c.append.new.arena.nodes walk.node.0 c.in-Emit.item.value c.in_ok-append-in-Emit.ensures.appended)) refl refl)

pub returns-then-depth-walk-ge-DEEPEST-clause-goes : goal.returns-then-depth-walk-ge-DEEPEST-clause-goes
returns-then-depth-walk-ge-DEEPEST-clause-goes g c =
    let M = g.M.AskMachine.model in
    let W = g.W.World.model in
    let key = g.M.Key.Kept.code in
    let value = g.M.Value.Kept.code in
    let code = g.M.Call.Kept.code in
    let call = g.M.AskMachine.call_of in
    let place = g.M.AskMachine.place in
    let item = g.M.AskMachine.item_of in
    let walk = c.args.walk.now in
    let nodes = c.args.arena.now.nodes in
    let a = moment_at M W place item walk (told_of value c.args.given) (g.W.World.state c.args.world.now) nodes in
    let b : Told → Moment M W = λ h. moment_at M W {K = g.row.M-Key.Denot} {V = g.row.M-Value.Denot} place item (record { local = c.step.new.local; node = walk.node; summary = c.find_no_room.new.self; frames = walk.frames }) h (g.W.World.state c.args.world.now) nodes in
    let move : M.move_at a.place a.given ≡ Deepen = sym c.in_ok-action.ensures.action ∙ ap (move_of key value code call item) c.in-Deepen.is in
    let full : deepest_depth ≤ c.args.depth + walk.frames = omega arith in
    at_ok (GoesOn M W g.M.AskMachine.rebased value (λ x. call (code x)) c.args.depth a b) c.tell_too_deep.result (next.Tell given.TooDeep) c.tell_too_deep.ensures
    (λ fuel. goes_no_frame M W g.M.AskMachine.rebased c.args.depth fuel a (b TooDeep) c.in_ok-action.ensures.place move full refl refl refl refl c.find_no_room.ensures refl)

pub returns-else-depth-walk-ge-DEEPEST-clause-goes : goal.returns-else-depth-walk-ge-DEEPEST-clause-goes
returns-else-depth-walk-ge-DEEPEST-clause-goes g c =
    let M = g.M.AskMachine.model in
    let W = g.W.World.model in
    let key = g.M.Key.Kept.code in
    let value = g.M.Value.Kept.code in
    let code = g.M.Call.Kept.code in
    let call = g.M.AskMachine.call_of in
    let place = g.M.AskMachine.place in
    let item = g.M.AskMachine.item_of in
    let walk = c.args.walk.now in
    let nodes = c.args.arena.now.nodes in
    let a = moment_at M W place item walk (told_of value c.args.given) (g.W.World.state c.args.world.now) nodes in
    let b : Told → Moment M W = λ h. moment_at M W {K = g.row.M-Key.Denot} {V = g.row.M-Value.Denot} place item (record { local = c.step.new.local; node = walk.node; summary = c.deepen.new.self; frames = walk.frames + 1 }) h (g.W.World.state c.args.world.now) nodes in
    let move : M.move_at a.place a.given ≡ Deepen = sym c.in_ok-action.ensures.action ∙ ap (move_of key value code call item) c.in-Deepen.is in
    let room : c.args.depth + walk.frames < deepest_depth = omega arith in
    at_ok (GoesOn M W g.M.AskMachine.rebased value (λ x. call (code x)) c.args.depth a b) c.tell_nothing-in-Deepen.result (next.Tell given.Nothing) c.tell_nothing-in-Deepen.ensures
    (λ fuel. goes_deepen M W g.M.AskMachine.rebased c.args.depth fuel a (b Nothing) c.in_ok-action.ensures.place move room refl refl refl refl c.deepen.ensures refl)

pub returns-in-Rise-clause-goes : goal.returns-in-Rise-clause-goes
returns-in-Rise-clause-goes g c =
    let M = g.M.AskMachine.model in
    let W = g.W.World.model in
    let key = g.M.Key.Kept.code in
    let value = g.M.Value.Kept.code in
    let code = g.M.Call.Kept.code in
    let call = g.M.AskMachine.call_of in
    let place = g.M.AskMachine.place in
    let item = g.M.AskMachine.item_of in
    let walk = c.args.walk.now in
    let nodes = c.args.arena.now.nodes in
    let a = moment_at M W place item walk (told_of value c.args.given) (g.W.World.state c.args.world.now) nodes in
    let b : Told → Moment M W = λ h. moment_at M W {K = g.row.M-Key.Denot} {V = g.row.M-Value.Denot} place item (record { local = c.step.new.local; node = walk.node; summary = walk.summary; frames = c.saturating_sub-walk.result }) h (g.W.World.state c.args.world.now) nodes in
    let move : M.move_at a.place a.given ≡ Rise = sym c.in_ok-action.ensures.action ∙ ap (move_of key value code call item) c.in-Rise.is in
    at_ok (GoesOn M W g.M.AskMachine.rebased value (λ x. call (code x)) c.args.depth a b) c.tell_nothing-in-Rise.result (next.Tell given.Nothing) c.tell_nothing-in-Rise.ensures
    (λ fuel. goes_rise M W g.M.AskMachine.rebased c.args.depth fuel a (b Nothing) c.in_ok-action.ensures.place move refl refl refl refl refl c.saturating_sub-walk.ensures)

pub returns-in-At-clause-goes : goal.returns-in-At-clause-goes
returns-in-At-clause-goes g c =
    let M = g.M.AskMachine.model in
    let W = g.W.World.model in
    let key = g.M.Key.Kept.code in
    let value = g.M.Value.Kept.code in
    let code = g.M.Call.Kept.code in
    let call = g.M.AskMachine.call_of in
    let place = g.M.AskMachine.place in
    let item = g.M.AskMachine.item_of in
    let walk = c.args.walk.now in
    let nodes = c.args.arena.now.nodes in
    let a = moment_at M W place item walk (told_of value c.args.given) (g.W.World.state c.args.world.now) nodes in
    let b : Told → Moment M W = λ h. moment_at M W {K = g.row.M-Key.Denot} {V = g.row.M-Value.Denot} place item (record { local = c.step.new.local; node = walk.node; summary = c.tell_at.new.self; frames = walk.frames }) h (g.W.World.state c.at.new.self) nodes in
    let move : M.move_at a.place a.given ≡ At c.in-At.statement = sym c.in_ok-action.ensures.action ∙ ap (move_of key value code call item) c.in-At.is in
    at_ok (GoesOn M W g.M.AskMachine.rebased value (λ x. call (code x)) c.args.depth a b) c.tell_nothing-in-At.result (next.Tell given.Nothing) c.tell_nothing-in-At.ensures
    (λ fuel. goes_at M W g.M.AskMachine.rebased c.args.depth fuel a (b Nothing) c.in_ok-action.ensures.place c.in-At.statement move refl c.at.ensures refl refl c.tell_at.ensures refl)

pub returns-in_ok-put-in-Put-clause-lowers : goal.returns-in_ok-put-in-Put-clause-lowers
returns-in_ok-put-in-Put-clause-lowers g c =
    let M = g.M.AskMachine.model in
    let number = g.M.AskMachine.number in
    let p = g.M.AskMachine.place c.args.walk.now.local in
    let t = told_of g.M.Value.Kept.code c.args.given in
    let move : M.move_at p t ≡ Put (g.M.Key.Kept.code c.in-Put.key) (g.M.Value.Kept.code c.in-Put.value) =
    sym c.in_ok-action.ensures.action
    ∙ ap (move_of g.M.Key.Kept.code g.M.Value.Kept.code g.M.Call.Kept.code g.M.AskMachine.call_of g.M.AskMachine.item_of) c.in-Put.is in
    let P : M.Place → Type 0 = λ q. number q < number p in
    at_ok (Lowers number p (g.M.AskMachine.place c.step.new.local)) c.tell_nothing.result (next.Tell given.Nothing) c.tell_nothing.ensures
    (subst P (sym c.in_ok-action.ensures.place) (g.met.M.AskMachine.falls p t (ap is_count move) (ap is_last move)))

pub returns-in_ok-count_call-in-Bump-clause-lowers : goal.returns-in_ok-count_call-in-Bump-clause-lowers
returns-in_ok-count_call-in-Bump-clause-lowers g c =
    let M = g.M.AskMachine.model in
    let number = g.M.AskMachine.number in
    let p = g.M.AskMachine.place c.args.walk.now.local in
    let t = told_of g.M.Value.Kept.code c.args.given in
    let move : M.move_at p t ≡ Bump =
    sym c.in_ok-action.ensures.action
    ∙ ap (move_of g.M.Key.Kept.code g.M.Value.Kept.code g.M.Call.Kept.code g.M.AskMachine.call_of g.M.AskMachine.item_of) c.in-Bump.is in
    let P : M.Place → Type 0 = λ q. number q < number p in
    at_ok (Lowers number p (g.M.AskMachine.place c.step.new.local)) c.tell_nothing-in-Bump.result (next.Tell given.Nothing) c.tell_nothing-in-Bump.ensures
    (subst P (sym c.in_ok-action.ensures.place) (g.met.M.AskMachine.falls p t (ap is_count move) (ap is_last move)))

pub returns-in_ok-append-in-Emit-clause-lowers : goal.returns-in_ok-append-in-Emit-clause-lowers
returns-in_ok-append-in-Emit-clause-lowers g c =
    let M = g.M.AskMachine.model in
    let number = g.M.AskMachine.number in
    let p = g.M.AskMachine.place c.args.walk.now.local in
    let t = told_of g.M.Value.Kept.code c.args.given in
    let move : M.move_at p t ≡ Emit (g.M.AskMachine.item_of c.in-Emit.item.value) =
    sym c.in_ok-action.ensures.action
    ∙ ap (move_of g.M.Key.Kept.code g.M.Value.Kept.code g.M.Call.Kept.code g.M.AskMachine.call_of g.M.AskMachine.item_of) c.in-Emit.is in
    let P : M.Place → Type 0 = λ q. number q < number p in
    at_ok (Lowers number p (g.M.AskMachine.place c.step.new.local)) c.tell_nothing-in-Emit.result (next.Tell given.Nothing) c.tell_nothing-in-Emit.ensures
    (subst P (sym c.in_ok-action.ensures.place) (g.met.M.AskMachine.falls p t (ap is_count move) (ap is_last move)))

pub returns-then-depth-walk-ge-DEEPEST-clause-lowers : goal.returns-then-depth-walk-ge-DEEPEST-clause-lowers
returns-then-depth-walk-ge-DEEPEST-clause-lowers g c =
    let M = g.M.AskMachine.model in
    let number = g.M.AskMachine.number in
    let p = g.M.AskMachine.place c.args.walk.now.local in
    let t = told_of g.M.Value.Kept.code c.args.given in
    let move : M.move_at p t ≡ Deepen =
    sym c.in_ok-action.ensures.action
    ∙ ap (move_of g.M.Key.Kept.code g.M.Value.Kept.code g.M.Call.Kept.code g.M.AskMachine.call_of g.M.AskMachine.item_of) c.in-Deepen.is in
    let P : M.Place → Type 0 = λ q. number q < number p in
    at_ok (Lowers number p (g.M.AskMachine.place c.step.new.local)) c.tell_too_deep.result (next.Tell given.TooDeep) c.tell_too_deep.ensures
    (subst P (sym c.in_ok-action.ensures.place) (g.met.M.AskMachine.falls p t (ap is_count move) (ap is_last move)))

pub returns-else-depth-walk-ge-DEEPEST-clause-lowers : goal.returns-else-depth-walk-ge-DEEPEST-clause-lowers
returns-else-depth-walk-ge-DEEPEST-clause-lowers g c =
    let M = g.M.AskMachine.model in
    let number = g.M.AskMachine.number in
    let p = g.M.AskMachine.place c.args.walk.now.local in
    let t = told_of g.M.Value.Kept.code c.args.given in
    let move : M.move_at p t ≡ Deepen =
    sym c.in_ok-action.ensures.action
    ∙ ap (move_of g.M.Key.Kept.code g.M.Value.Kept.code g.M.Call.Kept.code g.M.AskMachine.call_of g.M.AskMachine.item_of) c.in-Deepen.is in
    let P : M.Place → Type 0 = λ q. number q < number p in
    at_ok (Lowers number p (g.M.AskMachine.place c.step.new.local)) c.tell_nothing-in-Deepen.result (next.Tell given.Nothing) c.tell_nothing-in-Deepen.ensures
    (subst P (sym c.in_ok-action.ensures.place) (g.met.M.AskMachine.falls p t (ap is_count move) (ap is_last move)))

pub returns-in-Rise-clause-lowers : goal.returns-in-Rise-clause-lowers
returns-in-Rise-clause-lowers g c =
    let M = g.M.AskMachine.model in
    let number = g.M.AskMachine.number in
    let p = g.M.AskMachine.place c.args.walk.now.local in
    let t = told_of g.M.Value.Kept.code c.args.given in
    let move : M.move_at p t ≡ Rise =
    sym c.in_ok-action.ensures.action
    ∙ ap (move_of g.M.Key.Kept.code g.M.Value.Kept.code g.M.Call.Kept.code g.M.AskMachine.call_of g.M.AskMachine.item_of) c.in-Rise.is in
    let P : M.Place → Type 0 = λ q. number q < number p in
    at_ok (Lowers number p (g.M.AskMachine.place c.step.new.local)) c.tell_nothing-in-Rise.result (next.Tell given.Nothing) c.tell_nothing-in-Rise.ensures
    (subst P (sym c.in_ok-action.ensures.place) (g.met.M.AskMachine.falls p t (ap is_count move) (ap is_last move)))

pub returns-in-At-clause-lowers : goal.returns-in-At-clause-lowers
returns-in-At-clause-lowers g c =
    let M = g.M.AskMachine.model in
    let number = g.M.AskMachine.number in
    let p = g.M.AskMachine.place c.args.walk.now.local in
    let t = told_of g.M.Value.Kept.code c.args.given in
    let move : M.move_at p t ≡ At c.in-At.statement =
    sym c.in_ok-action.ensures.action
    ∙ ap (move_of g.M.Key.Kept.code g.M.Value.Kept.code g.M.Call.Kept.code g.M.AskMachine.call_of g.M.AskMachine.item_of) c.in-At.is in
    let P : M.Place → Type 0 = λ q. number q < number p in
    at_ok (Lowers number p (g.M.AskMachine.place c.step.new.local)) c.tell_nothing-in-At.result (next.Tell given.Nothing) c.tell_nothing-in-At.ensures
    (subst P (sym c.in_ok-action.ensures.place) (g.met.M.AskMachine.falls p t (ap is_count move) (ap is_last move)))

pub returns-in_ok-put-in-Put-clause-makes : goal.returns-in_ok-put-in-Put-clause-makes
returns-in_ok-put-in-Put-clause-makes g c =
    let M = g.M.AskMachine.model in
    let W = g.W.World.model in
    let key = g.M.Key.Kept.code in
    let value = g.M.Value.Kept.code in
    let code = g.M.Call.Kept.code in
    let call = g.M.AskMachine.call_of in
    let place = g.M.AskMachine.place in
    let item = g.M.AskMachine.item_of in
    let walk = c.args.walk.now in
    let nodes = c.args.arena.now.nodes in
    let a = moment_at M W place item walk (told_of value c.args.given) (g.W.World.state c.args.world.now) nodes in
    let b : Told → Moment M W = λ h. moment_at M W {K = g.row.M-Key.Denot} {V = g.row.M-Value.Denot} place item (record { local = c.step.new.local; node = walk.node; summary = c.put.new.summary; frames = walk.frames }) h (g.W.World.state c.put.new.world) nodes in
    let move : M.move_at a.place a.given ≡ Put (g.M.Key.Kept.code c.in-Put.key) (g.M.Value.Kept.code c.in-Put.value) = sym c.in_ok-action.ensures.action ∙ ap (move_of key value code call item) c.in-Put.is in
    let marked = g.M.AskMachine.marked in
    let made = c.args.arena.now.made in
    at_ok (StepMakes M W value call c.args.depth a b made made (owed marked made (place walk.local)) (owed marked made (place c.step.new.local))) c.tell_nothing.result (next.Tell given.Nothing) c.tell_nothing.ensures
    (λ kept fuel. makes_put M W call c.args.depth kept fuel a (b Nothing) c.in_ok-action.ensures.place (owed marked made (place walk.local)) (owed marked made (place c.step.new.local)) (owed_falls M marked g.met.M.AskMachine.emits_once_a_count a.place a.given (ap is_count move) (place c.step.new.local) c.in_ok-action.ensures.place made) (key c.in-Put.key) (value c.in-Put.value) move refl c.in_ok-put-in-Put.ensures.state refl refl c.in_ok-put-in-Put.ensures.noted refl)

pub returns-in_ok-count_call-in-Bump-clause-makes : goal.returns-in_ok-count_call-in-Bump-clause-makes
returns-in_ok-count_call-in-Bump-clause-makes g c =
    let M = g.M.AskMachine.model in
    let W = g.W.World.model in
    let key = g.M.Key.Kept.code in
    let value = g.M.Value.Kept.code in
    let code = g.M.Call.Kept.code in
    let call = g.M.AskMachine.call_of in
    let place = g.M.AskMachine.place in
    let item = g.M.AskMachine.item_of in
    let walk = c.args.walk.now in
    let nodes = c.args.arena.now.nodes in
    let a = moment_at M W place item walk (told_of value c.args.given) (g.W.World.state c.args.world.now) nodes in
    let b : Told → Moment M W = λ h. moment_at M W {K = g.row.M-Key.Denot} {V = g.row.M-Value.Denot} place item (record { local = c.step.new.local; node = walk.node; summary = c.count_call.new.self; frames = walk.frames }) h (g.W.World.state c.bump.new.self) nodes in
    let move : M.move_at a.place a.given ≡ Bump = sym c.in_ok-action.ensures.action ∙ ap (move_of key value code call item) c.in-Bump.is in
    let marked = g.M.AskMachine.marked in
    let made = c.args.arena.now.made in
    at_ok (StepMakes M W value call c.args.depth a b made made (owed marked made (place walk.local)) (owed marked made (place c.step.new.local))) c.tell_nothing-in-Bump.result (next.Tell given.Nothing) c.tell_nothing-in-Bump.ensures
    (λ kept fuel. makes_bump M W call c.args.depth kept fuel a (b Nothing) c.in_ok-action.ensures.place (owed marked made (place walk.local)) (owed marked made (place c.step.new.local)) (owed_falls M marked g.met.M.AskMachine.emits_once_a_count a.place a.given (ap is_count move) (place c.step.new.local) c.in_ok-action.ensures.place made) move refl c.bump.ensures refl refl c.in_ok-count_call-in-Bump.ensures.ok refl)

pub returns-in_ok-append-in-Emit-clause-makes : goal.returns-in_ok-append-in-Emit-clause-makes
returns-in_ok-append-in-Emit-clause-makes g c =
    let M = g.M.AskMachine.model in
    let W = g.W.World.model in
    let key = g.M.Key.Kept.code in
    let value = g.M.Value.Kept.code in
    let code = g.M.Call.Kept.code in
    let call = g.M.AskMachine.call_of in
    let place = g.M.AskMachine.place in
    let item = g.M.AskMachine.item_of in
    let walk = c.args.walk.now in
    let nodes = c.args.arena.now.nodes in
    let a = moment_at M W place item walk (told_of value c.args.given) (g.W.World.state c.args.world.now) nodes in
    let b : Told → Moment M W = λ h. moment_at M W {K = g.row.M-Key.Denot} {V = g.row.M-Value.Denot} place item (record { local = c.step.new.local; node = walk.node; summary = walk.summary; frames = walk.frames }) h (g.W.World.state c.args.world.now) c.append.new.arena.nodes in
    let move : M.move_at a.place a.given ≡ Emit (g.M.AskMachine.item_of c.in-Emit.item.value) = sym c.in_ok-action.ensures.action ∙ ap (move_of key value code call item) c.in-Emit.is in
    let marked = g.M.AskMachine.marked in
    let made = c.args.arena.now.made in
    at_ok (StepMakes M W value call c.args.depth a b made c.append.new.arena.made (owed marked made (place walk.local)) (owed marked c.append.new.arena.made (place c.step.new.local))) c.tell_nothing-in-Emit.result (next.Tell given.Nothing) c.tell_nothing-in-Emit.ensures
    (λ kept fuel. makes_emit M W call c.args.depth kept fuel a (b Nothing) c.in_ok-action.ensures.place (owed marked made (place walk.local)) (owed marked c.append.new.arena.made (place c.step.new.local)) (owed_emits M marked g.met.M.AskMachine.emits_once_a_count a.place a.given (item c.in-Emit.item.value) move (place c.step.new.local) c.in_ok-action.ensures.place made c.append.new.arena.made _ c.in_ok-append-in-Emit.ensures.made) (item c.in-Emit.item.value) move refl refl (appended_points item nodes c.append.new.arena.nodes walk.node.0 c.in-Emit.item.value c.in_ok-append-in-Emit.ensures.appended) (ap (map item) (appended_last nodes c.append.new.arena.nodes walk.node.0 c.in-Emit.item.value c.in_ok-append-in-Emit.ensures.appended)) refl refl)

pub returns-then-depth-walk-ge-DEEPEST-clause-makes : goal.returns-then-depth-walk-ge-DEEPEST-clause-makes
returns-then-depth-walk-ge-DEEPEST-clause-makes g c =
    let M = g.M.AskMachine.model in
    let W = g.W.World.model in
    let key = g.M.Key.Kept.code in
    let value = g.M.Value.Kept.code in
    let code = g.M.Call.Kept.code in
    let call = g.M.AskMachine.call_of in
    let place = g.M.AskMachine.place in
    let item = g.M.AskMachine.item_of in
    let walk = c.args.walk.now in
    let nodes = c.args.arena.now.nodes in
    let a = moment_at M W place item walk (told_of value c.args.given) (g.W.World.state c.args.world.now) nodes in
    let b : Told → Moment M W = λ h. moment_at M W {K = g.row.M-Key.Denot} {V = g.row.M-Value.Denot} place item (record { local = c.step.new.local; node = walk.node; summary = c.find_no_room.new.self; frames = walk.frames }) h (g.W.World.state c.args.world.now) nodes in
    let move : M.move_at a.place a.given ≡ Deepen = sym c.in_ok-action.ensures.action ∙ ap (move_of key value code call item) c.in-Deepen.is in
    let full : deepest_depth ≤ c.args.depth + walk.frames = omega arith in
    let marked = g.M.AskMachine.marked in
    let made = c.args.arena.now.made in
    at_ok (StepMakes M W value call c.args.depth a b made made (owed marked made (place walk.local)) (owed marked made (place c.step.new.local))) c.tell_too_deep.result (next.Tell given.TooDeep) c.tell_too_deep.ensures
    (λ kept fuel. makes_no_frame M W call c.args.depth kept fuel a (b TooDeep) c.in_ok-action.ensures.place (owed marked made (place walk.local)) (owed marked made (place c.step.new.local)) (owed_falls M marked g.met.M.AskMachine.emits_once_a_count a.place a.given (ap is_count move) (place c.step.new.local) c.in_ok-action.ensures.place made) move full refl refl refl refl c.find_no_room.ensures refl)

pub returns-else-depth-walk-ge-DEEPEST-clause-makes : goal.returns-else-depth-walk-ge-DEEPEST-clause-makes
returns-else-depth-walk-ge-DEEPEST-clause-makes g c =
    let M = g.M.AskMachine.model in
    let W = g.W.World.model in
    let key = g.M.Key.Kept.code in
    let value = g.M.Value.Kept.code in
    let code = g.M.Call.Kept.code in
    let call = g.M.AskMachine.call_of in
    let place = g.M.AskMachine.place in
    let item = g.M.AskMachine.item_of in
    let walk = c.args.walk.now in
    let nodes = c.args.arena.now.nodes in
    let a = moment_at M W place item walk (told_of value c.args.given) (g.W.World.state c.args.world.now) nodes in
    let b : Told → Moment M W = λ h. moment_at M W {K = g.row.M-Key.Denot} {V = g.row.M-Value.Denot} place item (record { local = c.step.new.local; node = walk.node; summary = c.deepen.new.self; frames = walk.frames + 1 }) h (g.W.World.state c.args.world.now) nodes in
    let move : M.move_at a.place a.given ≡ Deepen = sym c.in_ok-action.ensures.action ∙ ap (move_of key value code call item) c.in-Deepen.is in
    let room : c.args.depth + walk.frames < deepest_depth = omega arith in
    let marked = g.M.AskMachine.marked in
    let made = c.args.arena.now.made in
    at_ok (StepMakes M W value call c.args.depth a b made made (owed marked made (place walk.local)) (owed marked made (place c.step.new.local))) c.tell_nothing-in-Deepen.result (next.Tell given.Nothing) c.tell_nothing-in-Deepen.ensures
    (λ kept fuel. makes_deepen M W call c.args.depth kept fuel a (b Nothing) c.in_ok-action.ensures.place (owed marked made (place walk.local)) (owed marked made (place c.step.new.local)) (owed_falls M marked g.met.M.AskMachine.emits_once_a_count a.place a.given (ap is_count move) (place c.step.new.local) c.in_ok-action.ensures.place made) move room refl refl refl refl c.deepen.ensures refl)

pub returns-in-Rise-clause-makes : goal.returns-in-Rise-clause-makes
returns-in-Rise-clause-makes g c =
    let M = g.M.AskMachine.model in
    let W = g.W.World.model in
    let key = g.M.Key.Kept.code in
    let value = g.M.Value.Kept.code in
    let code = g.M.Call.Kept.code in
    let call = g.M.AskMachine.call_of in
    let place = g.M.AskMachine.place in
    let item = g.M.AskMachine.item_of in
    let walk = c.args.walk.now in
    let nodes = c.args.arena.now.nodes in
    let a = moment_at M W place item walk (told_of value c.args.given) (g.W.World.state c.args.world.now) nodes in
    let b : Told → Moment M W = λ h. moment_at M W {K = g.row.M-Key.Denot} {V = g.row.M-Value.Denot} place item (record { local = c.step.new.local; node = walk.node; summary = walk.summary; frames = c.saturating_sub-walk.result }) h (g.W.World.state c.args.world.now) nodes in
    let move : M.move_at a.place a.given ≡ Rise = sym c.in_ok-action.ensures.action ∙ ap (move_of key value code call item) c.in-Rise.is in
    let marked = g.M.AskMachine.marked in
    let made = c.args.arena.now.made in
    at_ok (StepMakes M W value call c.args.depth a b made made (owed marked made (place walk.local)) (owed marked made (place c.step.new.local))) c.tell_nothing-in-Rise.result (next.Tell given.Nothing) c.tell_nothing-in-Rise.ensures
    (λ kept fuel. makes_rise M W call c.args.depth kept fuel a (b Nothing) c.in_ok-action.ensures.place (owed marked made (place walk.local)) (owed marked made (place c.step.new.local)) (owed_falls M marked g.met.M.AskMachine.emits_once_a_count a.place a.given (ap is_count move) (place c.step.new.local) c.in_ok-action.ensures.place made) move refl refl refl refl refl c.saturating_sub-walk.ensures)

pub returns-in-At-clause-makes : goal.returns-in-At-clause-makes
returns-in-At-clause-makes g c =
    let M = g.M.AskMachine.model in
    let W = g.W.World.model in
    let key = g.M.Key.Kept.code in
    let value = g.M.Value.Kept.code in
    let code = g.M.Call.Kept.code in
    let call = g.M.AskMachine.call_of in
    let place = g.M.AskMachine.place in
    let item = g.M.AskMachine.item_of in
    let walk = c.args.walk.now in
    let nodes = c.args.arena.now.nodes in
    let a = moment_at M W place item walk (told_of value c.args.given) (g.W.World.state c.args.world.now) nodes in
    let b : Told → Moment M W = λ h. moment_at M W {K = g.row.M-Key.Denot} {V = g.row.M-Value.Denot} place item (record { local = c.step.new.local; node = walk.node; summary = c.tell_at.new.self; frames = walk.frames }) h (g.W.World.state c.at.new.self) nodes in
    let move : M.move_at a.place a.given ≡ At c.in-At.statement = sym c.in_ok-action.ensures.action ∙ ap (move_of key value code call item) c.in-At.is in
    let marked = g.M.AskMachine.marked in
    let made = c.args.arena.now.made in
    at_ok (StepMakes M W value call c.args.depth a b made made (owed marked made (place walk.local)) (owed marked made (place c.step.new.local))) c.tell_nothing-in-At.result (next.Tell given.Nothing) c.tell_nothing-in-At.ensures
    (λ kept fuel. makes_at M W call c.args.depth kept fuel a (b Nothing) c.in_ok-action.ensures.place (owed marked made (place walk.local)) (owed marked made (place c.step.new.local)) (owed_falls M marked g.met.M.AskMachine.emits_once_a_count a.place a.given (ap is_count move) (place c.step.new.local) c.in_ok-action.ensures.place made) c.in-At.statement move refl c.at.ensures refl refl c.tell_at.ensures refl)

pub returns-in-Count-clause-goes : goal.returns-in-Count-clause-goes
returns-in-Count-clause-goes g c =
    let M = g.M.AskMachine.model in
    let W = g.W.World.model in
    let key = g.M.Key.Kept.code in
    let value = g.M.Value.Kept.code in
    let code = g.M.Call.Kept.code in
    let call = g.M.AskMachine.call_of in
    let place = g.M.AskMachine.place in
    let item = g.M.AskMachine.item_of in
    let walk = c.args.walk.now in
    let nodes = c.args.arena.now.nodes in
    let a = moment_at M W place item walk (told_of value c.args.given) (g.W.World.state c.args.world.now) nodes in
    let b = moment_at M W {K = g.row.M-Key.Denot} {V = g.row.M-Value.Denot} place item (record { local = c.step.new.local; node = walk.node; summary = walk.summary; frames = walk.frames }) Nothing (g.W.World.state c.args.world.now) nodes in
    let move : M.move_at a.place a.given ≡ Count = sym c.in_ok-action.ensures.action ∙ ap (move_of key value code call item) c.in-Count.is in
    (move, same_moment M W b (stepped a) c.in_ok-action.ensures.place refl refl refl refl refl refl)

pub returns-in-Enter-clause-goes : goal.returns-in-Enter-clause-goes
returns-in-Enter-clause-goes g c =
    let M = g.M.AskMachine.model in
    let W = g.W.World.model in
    let key = g.M.Key.Kept.code in
    let value = g.M.Value.Kept.code in
    let code = g.M.Call.Kept.code in
    let call = g.M.AskMachine.call_of in
    let place = g.M.AskMachine.place in
    let item = g.M.AskMachine.item_of in
    let walk = c.args.walk.now in
    let nodes = c.args.arena.now.nodes in
    let a = moment_at M W place item walk (told_of value c.args.given) (g.W.World.state c.args.world.now) nodes in
    let b = moment_at M W {K = g.row.M-Key.Denot} {V = g.row.M-Value.Denot} place item (record { local = c.step.new.local; node = walk.node; summary = walk.summary; frames = walk.frames }) Nothing (g.W.World.state c.args.world.now) nodes in
    let move : M.move_at a.place a.given ≡ Enter (g.M.AskMachine.call_of (g.M.Call.Kept.code c.in-Enter.call)) = sym c.in_ok-action.ensures.action ∙ ap (move_of key value code call item) c.in-Enter.is in
    (move, same_moment M W b (stepped a) c.in_ok-action.ensures.place refl refl refl refl refl refl)

pub returns-in-Enter-clause-lowers : goal.returns-in-Enter-clause-lowers
returns-in-Enter-clause-lowers g c =
    let M = g.M.AskMachine.model in
    let number = g.M.AskMachine.number in
    let p = g.M.AskMachine.place c.args.walk.now.local in
    let t = told_of g.M.Value.Kept.code c.args.given in
    let move : M.move_at p t ≡ Enter (g.M.AskMachine.call_of (g.M.Call.Kept.code c.in-Enter.call)) =
    sym c.in_ok-action.ensures.action
    ∙ ap (move_of g.M.Key.Kept.code g.M.Value.Kept.code g.M.Call.Kept.code g.M.AskMachine.call_of g.M.AskMachine.item_of) c.in-Enter.is in
    let P : M.Place → Type 0 = λ q. number q < number p in
    subst P (sym c.in_ok-action.ensures.place) (g.met.M.AskMachine.falls p t (ap is_count move) (ap is_last move))

pub returns-in-Leave-clause-goes : goal.returns-in-Leave-clause-goes
returns-in-Leave-clause-goes g c =
    let M = g.M.AskMachine.model in
    let W = g.W.World.model in
    let key = g.M.Key.Kept.code in
    let value = g.M.Value.Kept.code in
    let code = g.M.Call.Kept.code in
    let call = g.M.AskMachine.call_of in
    let place = g.M.AskMachine.place in
    let item = g.M.AskMachine.item_of in
    let walk = c.args.walk.now in
    let nodes = c.args.arena.now.nodes in
    let a = moment_at M W place item walk (told_of value c.args.given) (g.W.World.state c.args.world.now) nodes in
    let b = moment_at M W {K = g.row.M-Key.Denot} {V = g.row.M-Value.Denot} place item (record { local = c.step.new.local; node = walk.node; summary = walk.summary; frames = walk.frames }) Nothing (g.W.World.state c.args.world.now) nodes in
    let move : M.move_at a.place a.given ≡ Leave = sym c.in_ok-action.ensures.action ∙ ap (move_of key value code call item) c.in-Leave.is in
    (move, same_moment M W b (stepped a) c.in_ok-action.ensures.place refl refl refl refl refl refl)

pub returns-in-End-clause-goes : goal.returns-in-End-clause-goes
returns-in-End-clause-goes g c =
    let M = g.M.AskMachine.model in
    let W = g.W.World.model in
    let key = g.M.Key.Kept.code in
    let value = g.M.Value.Kept.code in
    let code = g.M.Call.Kept.code in
    let call = g.M.AskMachine.call_of in
    let place = g.M.AskMachine.place in
    let item = g.M.AskMachine.item_of in
    let walk = c.args.walk.now in
    let nodes = c.args.arena.now.nodes in
    let a = moment_at M W place item walk (told_of value c.args.given) (g.W.World.state c.args.world.now) nodes in
    let b = moment_at M W {K = g.row.M-Key.Denot} {V = g.row.M-Value.Denot} place item (record { local = c.step.new.local; node = walk.node; summary = walk.summary; frames = walk.frames }) Nothing (g.W.World.state c.args.world.now) nodes in
    let move : M.move_at a.place a.given ≡ End = sym c.in_ok-action.ensures.action ∙ ap (move_of key value code call item) c.in-End.is in
    (move, same_moment M W b (stepped a) c.in_ok-action.ensures.place refl refl refl refl refl refl)

pub returns-in-Count-clause-makes : goal.returns-in-Count-clause-makes
returns-in-Count-clause-makes g c =
    let M = g.M.AskMachine.model in
    let W = g.W.World.model in
    let key = g.M.Key.Kept.code in
    let value = g.M.Value.Kept.code in
    let code = g.M.Call.Kept.code in
    let call = g.M.AskMachine.call_of in
    let place = g.M.AskMachine.place in
    let item = g.M.AskMachine.item_of in
    let walk = c.args.walk.now in
    let nodes = c.args.arena.now.nodes in
    let a = moment_at M W place item walk (told_of value c.args.given) (g.W.World.state c.args.world.now) nodes in
    let b = moment_at M W {K = g.row.M-Key.Denot} {V = g.row.M-Value.Denot} place item (record { local = c.step.new.local; node = walk.node; summary = walk.summary; frames = walk.frames }) Nothing (g.W.World.state c.args.world.now) nodes in
    let move : M.move_at a.place a.given ≡ Count = sym c.in_ok-action.ensures.action ∙ ap (move_of key value code call item) c.in-Count.is in
    let marked = g.M.AskMachine.marked in
    let made = c.args.arena.now.made in
    refl

pub returns-in-Enter-clause-makes : goal.returns-in-Enter-clause-makes
returns-in-Enter-clause-makes g c =
    let M = g.M.AskMachine.model in
    let W = g.W.World.model in
    let key = g.M.Key.Kept.code in
    let value = g.M.Value.Kept.code in
    let code = g.M.Call.Kept.code in
    let call = g.M.AskMachine.call_of in
    let place = g.M.AskMachine.place in
    let item = g.M.AskMachine.item_of in
    let walk = c.args.walk.now in
    let nodes = c.args.arena.now.nodes in
    let a = moment_at M W place item walk (told_of value c.args.given) (g.W.World.state c.args.world.now) nodes in
    let b = moment_at M W {K = g.row.M-Key.Denot} {V = g.row.M-Value.Denot} place item (record { local = c.step.new.local; node = walk.node; summary = walk.summary; frames = walk.frames }) Nothing (g.W.World.state c.args.world.now) nodes in
    let move : M.move_at a.place a.given ≡ Enter (g.M.AskMachine.call_of (g.M.Call.Kept.code c.in-Enter.call)) = sym c.in_ok-action.ensures.action ∙ ap (move_of key value code call item) c.in-Enter.is in
    let marked = g.M.AskMachine.marked in
    let made = c.args.arena.now.made in
    (refl, (owed_falls M marked g.met.M.AskMachine.emits_once_a_count a.place a.given (ap is_count move) (place c.step.new.local) c.in_ok-action.ensures.place made))

pub returns-in-Leave-clause-makes : goal.returns-in-Leave-clause-makes
returns-in-Leave-clause-makes g c =
    let M = g.M.AskMachine.model in
    let W = g.W.World.model in
    let key = g.M.Key.Kept.code in
    let value = g.M.Value.Kept.code in
    let code = g.M.Call.Kept.code in
    let call = g.M.AskMachine.call_of in
    let place = g.M.AskMachine.place in
    let item = g.M.AskMachine.item_of in
    let walk = c.args.walk.now in
    let nodes = c.args.arena.now.nodes in
    let a = moment_at M W place item walk (told_of value c.args.given) (g.W.World.state c.args.world.now) nodes in
    let b = moment_at M W {K = g.row.M-Key.Denot} {V = g.row.M-Value.Denot} place item (record { local = c.step.new.local; node = walk.node; summary = walk.summary; frames = walk.frames }) Nothing (g.W.World.state c.args.world.now) nodes in
    let move : M.move_at a.place a.given ≡ Leave = sym c.in_ok-action.ensures.action ∙ ap (move_of key value code call item) c.in-Leave.is in
    let marked = g.M.AskMachine.marked in
    let made = c.args.arena.now.made in
    refl

pub returns-in-End-clause-makes : goal.returns-in-End-clause-makes
returns-in-End-clause-makes g c =
    let M = g.M.AskMachine.model in
    let W = g.W.World.model in
    let key = g.M.Key.Kept.code in
    let value = g.M.Value.Kept.code in
    let code = g.M.Call.Kept.code in
    let call = g.M.AskMachine.call_of in
    let place = g.M.AskMachine.place in
    let item = g.M.AskMachine.item_of in
    let walk = c.args.walk.now in
    let nodes = c.args.arena.now.nodes in
    let a = moment_at M W place item walk (told_of value c.args.given) (g.W.World.state c.args.world.now) nodes in
    let b = moment_at M W {K = g.row.M-Key.Denot} {V = g.row.M-Value.Denot} place item (record { local = c.step.new.local; node = walk.node; summary = walk.summary; frames = walk.frames }) Nothing (g.W.World.state c.args.world.now) nodes in
    let move : M.move_at a.place a.given ≡ End = sym c.in_ok-action.ensures.action ∙ ap (move_of key value code call item) c.in-End.is in
    let marked = g.M.AskMachine.marked in
    let made = c.args.arena.now.made in
    refl
