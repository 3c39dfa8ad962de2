-- What one step makes of the moment of a call in code.
use Rattle.std.proofs.Common.{◌≡◌, ℕ, ◌+◌, ◌-◌, ◌<◌, ◌≤◌, List, [], ◌∷◌, ◌++◌, map, length, drop, refl, sym, ap, ◌∙◌, subst, length-append, arith}
use Rattle.std.proofs.lemmas.List.{map-append}
use Rattle.std.proofs.Math.Seq.{take-length, drop-append_seam}
use Rattle.kept_values.specs.Trees.{Tree}
use Rattle.trace_arena.specs.Nodes.{Node, node_at, IsUnshared}
use Rattle.trace_arena.specs.Points.{own, points, last_before}
use Rattle.trace_arena.specs.Changes.{Appends, last_item}
use Rattle.asking_core.specs.Worlds.{WorldModel}
use Rattle.asking_core.specs.Machines.{MachineModel, Nothing, Answered, TooDeep, Ask, Put, Bump, Emit, Deepen, Rise, At}
use Rattle.asking_core.specs.Runs.{deepest_depth}
use Rattle.kept_outcomes.specs.Moments.{Moment, Leads, stepped, asked, put, call_counted, item_emitted, at_said, deepened, risen, turned_away}
use Rattle.kept_outcomes.proofs.Steps.{leads_ask, leads_put, leads_bump, leads_emit, leads_at, leads_deepen, leads_no_frame, leads_rise}
use Rattle.expansion_memo.specs.Kept.{point_by, points_by}
use Rattle.expansion_memo.specs.Walks.{OnlyAppends}

-- moments are one where their parts are
pub same_moment : (M : MachineModel) (W : WorldModel) (a b : Moment M W) → a.place ≡ b.place → a.given ≡ b.given → a.state ≡ b.state → a.points ≡ b.points → a.last ≡ b.last →
    a.summary ≡ b.summary → a.frames ≡ b.frames → a ≡ b
same_moment M W a b p g s ps l u f =
    ap (λ x. record a { place = x }) p
    ∙ ap (λ x. record a { place = b.place; given = x }) g
    ∙ ap (λ x. record a { place = b.place; given = b.given; state = x }) s
    ∙ ap (λ x. record a { place = b.place; given = b.given; state = b.state; points = x }) ps
    ∙ ap (λ x. record a { place = b.place; given = b.given; state = b.state; points = b.points; last = x }) l
    ∙ ap (λ x. record a { place = b.place; given = b.given; state = b.state; points = b.points; last = b.last; summary = x }) u
    ∙ ap (λ x. record a { place = b.place; given = b.given; state = b.state; points = b.points; last = b.last; summary = b.summary; frames = x }) f

module _ (M : MachineModel) (W : WorldModel) (rebased : Tree → Tree → ℕ → Tree) (depth fuel : ℕ) (a b : Moment M W) (place : b.place ≡ M.after a.place a.given) where
  pub goes_ask : (key : Tree) → M.move_at a.place a.given ≡ Ask key → b.given ≡ Answered (W.answer a.state key) → b.state ≡ a.state → b.points ≡ a.points → b.last ≡ a.last →
      b.summary ≡ (asked (stepped a) key).summary → b.frames ≡ a.frames → Leads M W rebased fuel depth a b
  goes_ask key is g s ps l u f =
      let L : Moment M W → Type 0 = Leads M W rebased fuel depth a in
      subst L (sym (same_moment M W b (asked (stepped a) key) place g s ps l u f)) (leads_ask M W rebased fuel depth a key is)

  pub goes_put : (key value : Tree) → M.move_at a.place a.given ≡ Put key value → b.given ≡ Nothing → b.state ≡ W.after_put a.state key value → b.points ≡ a.points → b.last ≡ a.last →
      b.summary ≡ (put (stepped a) key value).summary → b.frames ≡ a.frames → Leads M W rebased fuel depth a b
  goes_put key value is g s ps l u f =
      let L : Moment M W → Type 0 = Leads M W rebased fuel depth a in
      subst L (sym (same_moment M W b (put (stepped a) key value) place g s ps l u f)) (leads_put M W rebased fuel depth a key value is)

  pub goes_bump : M.move_at a.place a.given ≡ Bump → b.given ≡ Nothing → b.state ≡ W.after_bump a.state 1 → b.points ≡ a.points → b.last ≡ a.last →
      b.summary ≡ (call_counted (stepped a)).summary → b.frames ≡ a.frames → Leads M W rebased fuel depth a b
  goes_bump is g s ps l u f =
      let L : Moment M W → Type 0 = Leads M W rebased fuel depth a in
      subst L (sym (same_moment M W b (call_counted (stepped a)) place g s ps l u f)) (leads_bump M W rebased fuel depth a is)

  pub goes_emit : (item : M.Item) → M.move_at a.place a.given ≡ Emit item → b.given ≡ Nothing → b.state ≡ a.state → b.points ≡ a.points ++ own item ∷ [] → b.last ≡ item ∷ [] →
      b.summary ≡ a.summary → b.frames ≡ a.frames → Leads M W rebased fuel depth a b
  goes_emit item is g s ps l u f =
      let L : Moment M W → Type 0 = Leads M W rebased fuel depth a in
      subst L (sym (same_moment M W b (item_emitted (stepped a) item) place g s ps l u f)) (leads_emit M W rebased fuel depth a item is)

  pub goes_at : (n : ℕ) → M.move_at a.place a.given ≡ At n → b.given ≡ Nothing → b.state ≡ W.after_at a.state n → b.points ≡ a.points → b.last ≡ a.last →
      b.summary ≡ (at_said (stepped a) n).summary → b.frames ≡ a.frames → Leads M W rebased fuel depth a b
  goes_at n is g s ps l u f =
      let L : Moment M W → Type 0 = Leads M W rebased fuel depth a in
      subst L (sym (same_moment M W b (at_said (stepped a) n) place g s ps l u f)) (leads_at M W rebased fuel depth a n is)

  pub goes_deepen : M.move_at a.place a.given ≡ Deepen → depth + a.frames < deepest_depth → b.given ≡ Nothing → b.state ≡ a.state → b.points ≡ a.points → b.last ≡ a.last →
      b.summary ≡ (deepened (stepped a)).summary → b.frames ≡ a.frames + 1 → Leads M W rebased fuel depth a b
  goes_deepen is room g s ps l u f =
      let L : Moment M W → Type 0 = Leads M W rebased fuel depth a in
      subst L (sym (same_moment M W b (deepened (stepped a)) place g s ps l u f)) (leads_deepen M W rebased fuel depth a is room)

  pub goes_no_frame : M.move_at a.place a.given ≡ Deepen → deepest_depth ≤ depth + a.frames → b.given ≡ TooDeep → b.state ≡ a.state → b.points ≡ a.points → b.last ≡ a.last →
      b.summary ≡ (turned_away (stepped a)).summary → b.frames ≡ a.frames → Leads M W rebased fuel depth a b
  goes_no_frame is full g s ps l u f =
      let L : Moment M W → Type 0 = Leads M W rebased fuel depth a in
      subst L (sym (same_moment M W b (turned_away (stepped a)) place g s ps l u f)) (leads_no_frame M W rebased fuel depth a is full)

  pub goes_rise : M.move_at a.place a.given ≡ Rise → b.given ≡ Nothing → b.state ≡ a.state → b.points ≡ a.points → b.last ≡ a.last →
      b.summary ≡ a.summary → b.frames ≡ a.frames - 1 → Leads M W rebased fuel depth a b
  goes_rise is g s ps l u f =
      let L : Moment M W → Type 0 = Leads M W rebased fuel depth a in
      subst L (sym (same_moment M W b (risen (stepped a)) place g s ps l u f)) (leads_rise M W rebased fuel depth a is)

-- nothing changes where nothing is appended
pub appends_none : {I : Type 0} (nodes : List (Node I)) (x : ℕ) → IsUnshared nodes x → OnlyAppends nodes nodes x
appends_none nodes x mine = record {
  mine = mine;
  others = λ y ne. record { keeps = record { items = refl; links = refl; points = refl }; owners = refl; parents = refl };
}

pub appends_one : {I : Type 0} (old new : List (Node I)) (x : ℕ) (item : I) → Appends old new x item → OnlyAppends old new x
appends_one old new x item a = record { mine = a.unshared; others = a.others }

last_of : {I : Type 0} (items : List I) (item : I) → last_before (length (items ++ item ∷ [])) (items ++ item ∷ []) ≡ item ∷ []
last_of items item =
    let xs = items ++ item ∷ [] in
    let long : length xs - 1 ≡ length items = omega (arith, length-append items (item ∷ [])) in
    ap (drop (length xs - 1)) (take-length xs) ∙ ap (λ n. drop n xs) long ∙ drop-append_seam items (item ∷ [])

-- the item that was appended is the last one, and one point more
pub appended_last : {I : Type 0} (old new : List (Node I)) (x : ℕ) (item : I) → Appends old new x item → last_item new x ≡ item ∷ []
appended_last old new x item a = ap (λ items. last_before (length items) items) a.items ∙ last_of (node_at old x).items item

pub appended_points : {I J : Type 0} (f : I → J) (old new : List (Node I)) (x : ℕ) (item : I) → Appends old new x item →
    points_by f new x ≡ points_by f old x ++ own (f item) ∷ []
appended_points f old new x item a = ap (map (point_by f)) a.points ∙ map-append (point_by f) (points old x) (own item ∷ [])
