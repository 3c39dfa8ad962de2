use Rattle.std.proofs.Common.{◌≡◌, ◌∙◌, ℕ, [], ◌∷◌, ◌++◌, Some, None, length, ap, sym, arith}
use Rattle.std.specs.Prelude.{position, slice_get, slice_set, unwrap_or}
use Rattle.std.specs.List.{remove}
use Rattle.debug_sessions.specs.State.{has_number, begun}
use Rattle.debug_sessions.proofs.PlaceLemmas.{found_or, set_at, remove_at, none_found, push_at, none_removed, get_last, set_last, remove_last}
use Rattle.debug_sessions.proofs.sessions.place_for.Goals as goal

pub returns-in-Some-clause-place : goal.returns-in-Some-clause-place
returns-in-Some-clause-place c =
    let at : position (has_number c.args.number) c.args.sessions.now.items ≡ Some c.in-Some.at =
    sym (c.in-Some.ensures ∙ ap (position (has_number c.args.number)) c.as_slice.ensures.value) in
    found_or (has_number c.args.number) c.args.sessions.now.items c.in-Some.at at (begun c.args.number)

pub returns-in-Some-clause-put : goal.returns-in-Some-clause-put
returns-in-Some-clause-put c =
    let at : position (has_number c.args.number) c.args.sessions.now.items ≡ Some c.in-Some.at =
    sym (c.in-Some.ensures ∙ ap (position (has_number c.args.number)) c.as_slice.ensures.value) in
    set_at (has_number c.args.number) c.args.sessions.now.items c.in-Some.at at

pub returns-in-Some-clause-taken : goal.returns-in-Some-clause-taken
returns-in-Some-clause-taken c =
    let at : position (has_number c.args.number) c.args.sessions.now.items ≡ Some c.in-Some.at =
    sym (c.in-Some.ensures ∙ ap (position (has_number c.args.number)) c.as_slice.ensures.value) in
    remove_at (has_number c.args.number) c.args.sessions.now.items c.in-Some.at at

pub returns-clause-place : goal.returns-clause-place
returns-clause-place c =
    let old = c.args.sessions.now.items in
    let len : c.len-at.result ≡ length old = omega (arith, c.len-at.ensures, c.args.sessions.now.ok.0) in
    let none : position (has_number c.args.number) old ≡ None = sym (c.in_default.ensures ∙ ap (position (has_number c.args.number)) c.as_slice.ensures.value) in
    let pushed : c.push.new.self.items ≡ old ++ begun c.args.number ∷ [] = c.in_ok-push.ensures.items ∙ ap (λ d. old ++ d ∷ []) c.begun.ensures in
    ap (λ ds. slice_get ds c.len-at.result) pushed
    ∙ ap (slice_get (old ++ begun c.args.number ∷ [])) len
    ∙ get_last old (begun c.args.number)
    ∙ ap Some (sym (ap (λ found. unwrap_or found (begun c.args.number)) (none_found (has_number c.args.number) old none)))

pub returns-clause-put : goal.returns-clause-put
returns-clause-put c d =
    let old = c.args.sessions.now.items in
    let len : c.len-at.result ≡ length old = omega (arith, c.len-at.ensures, c.args.sessions.now.ok.0) in
    let none : position (has_number c.args.number) old ≡ None = sym (c.in_default.ensures ∙ ap (position (has_number c.args.number)) c.as_slice.ensures.value) in
    let pushed : c.push.new.self.items ≡ old ++ begun c.args.number ∷ [] = c.in_ok-push.ensures.items ∙ ap (λ e. old ++ e ∷ []) c.begun.ensures in
    ap (λ ds. slice_set ds c.len-at.result d) pushed
    ∙ ap (λ i. slice_set (old ++ begun c.args.number ∷ []) i d) len
    ∙ set_last old (begun c.args.number) d
    ∙ push_at (has_number c.args.number) old none d

pub returns-clause-taken : goal.returns-clause-taken
returns-clause-taken c =
    let old = c.args.sessions.now.items in
    let len : c.len-at.result ≡ length old = omega (arith, c.len-at.ensures, c.args.sessions.now.ok.0) in
    let none : position (has_number c.args.number) old ≡ None = sym (c.in_default.ensures ∙ ap (position (has_number c.args.number)) c.as_slice.ensures.value) in
    let pushed : c.push.new.self.items ≡ old ++ begun c.args.number ∷ [] = c.in_ok-push.ensures.items ∙ ap (λ d. old ++ d ∷ []) c.begun.ensures in
    ap (λ ds. remove ds c.len-at.result) pushed
    ∙ ap (remove (old ++ begun c.args.number ∷ [])) len
    ∙ remove_last old (begun c.args.number)
    ∙ none_removed (has_number c.args.number) old none
