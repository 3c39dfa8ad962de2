-- The machine's runs, beside the definition: by its own recursion, some run from each place gives the expansion from there.
use Rattle.std.proofs.Common.{◌≡◌, ◌<◌, ◌≤◌, ℕ, zero, suc, ◌+◌, ◌-◌, Bool, true, false, cond, nat_lt, List, [], ◌∷◌, ◌++◌, length, Option, Some, None, refl, sym, ap, ◌∙◌, subst, arith, append-nil, append_assoc}
use Rattle.kept_values.specs.Trees.{Tree, Pair, look_up}
use Rattle.asking_core.specs.Worlds.{WorldModel}
use Rattle.asking_core.specs.Machines.{Told, Nothing, Answered, Returned, TooDeep}
use Rattle.asking_core.specs.Runs.{ByLeave, ByEnd, deepest_depth}
use Rattle.plain_expansion.specs.Questions.{Asking, done, needs, result_by, Comes, Wants, led_on, led_by}
use Rattle.plain_expansion.specs.Language.{Level, Stack, Entry, Nowhere, Calling, Copying, Act, Continues, Skips, Branches, Enters, Returns, Finishes, Effect, Fault, NoFault, NoLabel, NoBranchLeft, NoRoom, Point, Language}
use Rattle.plain_expansion.specs.Expansion.{stepped, place_of, GoesOn, branched, carried, first_stack, copying, statement_at, met_from, outermost, put_each, placed, answers_of, Expansion, ended_by, spent_at, pointed, nesting, Expands, called, entered, followed, processed, met_with, expand}
use Rattle.plain_expansion.specs.Engine.{Tail, Adding, Entering, GoingOn, Leaving, Finishing, Performing, Telling, Rising, Trying, Ready, Opening, Doing, Placing, Deciding, Place, Standing, Hearing, Tried, Inside, Waiting, puts_then, roomy_step, step_of, step_by, led_at, opened, led_move, led_next, here_move, here_next, first_ready, ready_levels, expander}
use Rattle.plain_expansion.specs.Laws.{HasRun}
use Rattle.plain_expansion.proofs.PairLaws.{look_up-stays, look_up-new, Says, Says-more}
use Rattle.plain_expansion.proofs.Moves.{runs_as, m_ask, m_put, m_bump, m_at, m_rise, m_refused, m_emit, m_count, m_deepen, m_leave, m_end, m_spent, m_enter}

module _ (L : Language) (W : WorldModel) where
  -- whatever is told, some plain run from a place where nothing is waited for gives this expansion, behind what was told last
  abbrev RunsFrom : List L.Item → Ready L.words L.Item → W.State → (f d o : ℕ) → Expansion L.Item L.Frames W.State → Type 0
  RunsFrom last r s f d o e = (g : Told) → HasRun (expander L) W last (Standing r) g s f d o e

  -- whatever was told last
  abbrev RunsAt : Ready L.words L.Item → W.State → (f d o : ℕ) → Expansion L.Item L.Frames W.State → Type 0
  RunsAt r s f d o e = (last : List L.Item) → RunsFrom last r s f d o e

  abbrev RunsOn : Stack L.words → W.State → (f d : ℕ) → Expansion L.Item L.Frames W.State → Type 0
  RunsOn x s f d e = RunsAt (Doing (Performing (GoingOn x))) s f d (length x.below) e

  -- a definition of expansion that runs give, below so much fuel
  abbrev RunsTo : Expands L W → ℕ → Type 0
  RunsTo rec gas = (x : Stack L.words) (s : W.State) (f d : ℕ) → f < gas → RunsOn x s f d (rec x s f d)

  -- puts, and the keys of an entry
  s_puts : (last : List L.Item) (ps : List Pair) (rest : Tail L.words) (s : W.State) (f d o : ℕ) (e : Expansion L.Item L.Frames W.State) →
      RunsFrom last (Doing (Performing rest)) (put_each W s ps) f d o e → RunsFrom last (Doing (Performing (puts_then ps rest))) s f d o e
  s_puts last [] rest s f d o e r g = r g
  s_puts last (p ∷ ps) rest s f d o e r g =
      m_put (expander L) W last (Standing (Doing (Performing (puts_then (p ∷ ps) rest)))) g s f d o e p.key p.value refl
      (s_puts last ps rest (W.after_put s p.key p.value) f d o e r Nothing)

  pub s_opens : (c : L.words.Call) (keys : List Tree) (ps : List Pair) (s : W.State) (f d : ℕ) (e : Expansion L.Item L.Frames W.State) →
      RunsOn (first_stack L c (ps ++ answers_of W s keys)) s f d e → RunsAt (opened L c keys ps) s f d 0 e
  s_opens c [] ps s f d e r last g = let At_pairs : List Pair → Type 0 = λ x. RunsOn (first_stack L c x) s f d e in
      subst At_pairs (append-nil ps) r last g
  s_opens c (k ∷ keys) ps s f d e r last g =
      let p : Pair = record { key = k; value = W.answer s k } in
      let At_pairs : List Pair → Type 0 = λ x. RunsOn (first_stack L c x) s f d e in
      m_ask (expander L) W last (Standing (Opening c k keys ps)) g s f d 0 e k refl
      (runs_as (expander L) W last (Hearing c k keys ps) (Standing (opened L c keys (ps ++ p ∷ [])))
      (Answered (W.answer s k)) Nothing s f d 0 e refl refl
      (s_opens c keys (ps ++ p ∷ []) s f d e (subst At_pairs (sym (append_assoc ps (p ∷ []) (answers_of W s keys))) r) last Nothing))

  -- a point, and then its rest
  s_tells : (i : L.Item) (rest : Tail L.words) (s : W.State) (f d o : ℕ) (e : Expansion L.Item L.Frames W.State) →
      RunsFrom (i ∷ []) (Doing (Performing rest)) s f d o e → RunsAt (Doing (Telling i rest)) s f d o (pointed i e)
  s_tells i rest s f d o e r last g = m_emit (expander L) W last (Standing (Doing (Telling i rest))) g s f d o e i refl (r Nothing)

  s_rises : (i : L.Item) (rest : Tail L.words) (s : W.State) (f d o : ℕ) (e : Expansion L.Item L.Frames W.State) →
      RunsFrom (i ∷ []) (Doing (Performing rest)) s f d o e → RunsAt (Doing (Rising i rest)) s f d (o + 1) (pointed i e)
  s_rises i rest s f d o e r last g =
      let less : o ≡ o + 1 - 1 = omega arith in
      let Open : ℕ → Type 0 = λ x. HasRun (expander L) W last (Standing (Doing (Telling i rest))) Nothing s f d x (pointed i e) in
      m_rise (expander L) W last (Standing (Doing (Rising i rest))) g s f d (o + 1) (pointed i e) refl
      (subst Open less (s_tells i rest s f d o e r last Nothing))

  module _ (rec : Expands L W) (gas : ℕ) (runs : RunsTo rec gas) where
    -- a nested call
    s_calls : (i : L.Item) (c : L.words.Call) (x : Stack L.words) (s : W.State) (f d : ℕ) → f < gas → d + length x.below < deepest_depth →
        RunsFrom (i ∷ []) (Doing (Performing (Entering c x))) s f d (length x.below) (called L W rec i c x (W.after_enter s) f d)
    s_calls i c x s f d enough room g =
        let inner : W.State = W.after_enter s in
        let child : Expansion L.Item L.Frames W.State = rec (first_stack L c (answers_of W inner (L.entry_keys c))) inner f
        (d + length x.below + 1) in
        let left : f - child.cost < gas = omega arith in
        m_enter (expander L) W (i ∷ []) (Standing (Doing (Performing (Entering c x)))) g s f d (length x.below) c child
        (rec (stepped x) (W.after_leave child.world) (f - child.cost) d) refl room
        (s_opens c (L.entry_keys c) [] inner f (d + length x.below + 1) child
        (runs (first_stack L c (answers_of W inner (L.entry_keys c))) inner f (d + length x.below + 1) enough) [] Nothing)
        (runs_as (expander L) W (i ∷ []) (Inside x) (Standing (Doing (Performing (GoingOn (stepped x))))) Returned Nothing
        (W.after_leave child.world) (f - child.cost) d (length x.below)
        (rec (stepped x) (W.after_leave child.world) (f - child.cost) d) refl refl
        (runs (stepped x) (W.after_leave child.world) (f - child.cost) d left (i ∷ []) Nothing))

    -- behind a frame that was tried and has room
    s_roomy : (i : L.Item) (entry : Entry L.words) (x : Stack L.words) (s : W.State) (f d : ℕ) → f < gas →
        d + length x.below < deepest_depth →
        RunsAt (Doing (roomy_step i entry x)) s f d (length x.below + 1) (pointed i (entered L W rec i entry x s f d))
    s_roomy i Nowhere x s f d enough room last g =
        s_rises i (GoingOn (stepped x)) s f d (length x.below) (rec (stepped x) s f d) (runs (stepped x) s f d enough (i ∷ [])) last g
    s_roomy i (Calling c puts) x s f d enough room last g =
        let counted : W.State = W.after_bump s 1 in
        let e : Expansion L.Item L.Frames W.State = called L W rec i c x (W.after_enter (put_each W counted puts)) f d in
        s_rises i (Adding (puts_then puts (Entering c x))) s f d (length x.below) e
        (λ h. m_bump (expander L) W (i ∷ []) (Standing (Doing (Performing (Adding (puts_then puts (Entering c x)))))) h s f d (length x.below) e refl
        (s_puts (i ∷ []) puts (Entering c x) counted f d (length x.below) e (s_calls i c x (put_each W counted puts) f d enough room) Nothing)) last g
    s_roomy i (Copying l) x s f d enough room last g =
        let more : length (copying l x).below ≡ length x.below + 1 = omega arith in
        let Open : ℕ → Type 0 = λ y. RunsAt (Doing (Telling i (GoingOn (copying l x)))) s f d y (pointed i (rec (copying l x) s f d)) in
        subst Open more (s_tells i (GoingOn (copying l x)) s f d (length (copying l x).below) (rec (copying l x) s f d)
        (runs (copying l x) s f d enough (i ∷ []))) last g

    -- a statement that wants one more frame, by whether there is room
    s_tries : (i j : L.Item) (entry : Entry L.words) (x : Stack L.words) (s : W.State) (f d : ℕ) (b : Bool) →
        nat_lt (d + length x.below) deepest_depth ≡ b → f < gas →
        RunsAt (Doing (Trying j i entry x)) s f d (length x.below)
        (cond b (nesting (length x.below + 1) (pointed i (entered L W rec i entry x s f d))) (pointed j (rec (stepped x) s f d)))
    s_tries i j entry x s f d true is enough last g =
        let room : d + length x.below < deepest_depth = grind arith in
        let e : Expansion L.Item L.Frames W.State = pointed i (entered L W rec i entry x s f d) in
        m_deepen (expander L) W last (Standing (Doing (Trying j i entry x))) g s f d (length x.below) e refl room
        (runs_as (expander L) W last (Tried j i entry x) (Standing (Doing (roomy_step i entry x))) Nothing Nothing s f d
        (length x.below + 1) e refl refl
        (s_roomy i entry x s f d enough room last Nothing))
    s_tries i j entry x s f d false is enough last g =
        let full : deepest_depth ≤ d + length x.below = grind arith in
        let e : Expansion L.Item L.Frames W.State = pointed j (rec (stepped x) s f d) in
        m_refused (expander L) W last (Standing (Doing (Trying j i entry x))) g s f d (length x.below) e refl full
        (runs_as (expander L) W last (Tried j i entry x) (Standing (Doing (Telling j (GoingOn (stepped x))))) TooDeep Nothing s f d
        (length x.below) e refl refl
        (s_tells j (GoingOn (stepped x)) s f d (length x.below) (rec (stepped x) s f d) (runs (stepped x) s f d enough (j ∷ [])) last Nothing))

    -- each act
    s_back : (i : L.Item) (x : Stack L.words) (s : W.State) (f d : ℕ) →
        RunsAt (Doing (Telling i (Leaving x))) s f d (length x.below) (pointed i (ended_by ByLeave s))
    s_back i x s f d last g =
        s_tells i (Leaving x) s f d (length x.below) (ended_by ByLeave s)
        (λ h. m_leave (expander L) W (i ∷ []) (Standing (Doing (Performing (Leaving x)))) h s f d (length x.below) refl) last g

    s_branches : (n : Option ℕ) (known : Option L.words.Known) (point : Fault → Point L.words) (x : Stack L.words) (s : W.State)
        (f d : ℕ) → f < gas →
        RunsAt (Doing (step_of L (branched n known point x) x)) s f d (length x.below) (followed L W rec (branched n known point x) x s f d)
    s_branches None known point x s f d enough last g =
        s_tells (L.item_of (point NoLabel)) (GoingOn (stepped x)) s f d (length x.below) (rec (stepped x) s f d)
        (runs (stepped x) s f d enough (L.item_of (point NoLabel) ∷ [])) last g
    s_branches (Some n) None point x s f d enough last g = s_back (L.item_of (point NoBranchLeft)) x s f d last g
    s_branches (Some n) (Some known) point x s f d enough last g =
        let y : Stack L.words = record x { known = known; here = record { listing = x.here.listing; position = n } } in
        s_tells (L.item_of (point NoFault)) (GoingOn y) s f d (length x.below) (rec y s f d)
        (runs y s f d enough (L.item_of (point NoFault) ∷ [])) last g

    -- a point and puts, and then a place of as many lists
    s_goes_on : (point : Point L.words) (puts : List Pair) (x y : Stack L.words) → length y.below ≡ length x.below → (s : W.State) (f d : ℕ) → f < gas →
        RunsAt (Doing (step_of L (GoesOn point puts y) x)) s f d (length x.below) (followed L W rec (GoesOn point puts y) x s f d)
    s_goes_on point puts x y same s f d enough last g =
        let item : L.Item = L.item_of point in
        let e : Expansion L.Item L.Frames W.State = rec y (put_each W s puts) f d in
        let Open : ℕ → Type 0 = λ o. RunsFrom (item ∷ []) (Doing (Performing (puts_then puts (GoingOn y)))) s f d o e in
        s_tells item (puts_then puts (GoingOn y)) s f d (length x.below) e
        (subst Open same (s_puts (item ∷ []) puts (GoingOn y) s f d (length y.below) e (runs y (put_each W s puts) f d enough (item ∷ [])))) last g

    s_carried : (said : L.words.Said) (act : Act L.words) (x : Stack L.words) (s : W.State) (f d : ℕ) → f < gas →
        RunsAt (Doing (step_of L (carried L said act x) x)) s f d (length x.below) (followed L W rec (carried L said act x) x s f d)
    s_carried said (Continues known puts) x s f d enough last g =
        s_goes_on (record { stack = x; said = said; fault = NoFault }) puts x (record (stepped x) { known = known }) refl s f d enough last g
    s_carried said (Skips position known puts) x s f d enough last g =
        let y : Stack L.words = record x { known = known; here = record { listing = x.here.listing; position = position } } in
        s_goes_on (record { stack = x; said = said; fault = NoFault }) puts x y refl s f d enough last g
    s_carried said (Branches label known) x s f d enough last g =
        s_branches (place_of L x.here.listing label) known
        (λ fault. record { stack = x; said = said; fault = fault }) x s f d enough last g
    s_carried said (Enters limited entry) x s f d enough last g =
        s_tries (L.item_of (record { stack = x; said = said; fault = NoFault }))
        (L.item_of (record { stack = x; said = limited; fault = NoRoom }))
        entry x s f d (nat_lt (d + length x.below) deepest_depth) refl enough last g
    s_carried said Returns x s f d enough last g = s_back
        (L.item_of (record { stack = x; said = said; fault = NoFault })) x s f d last g
    s_carried said Finishes x s f d enough last g =
        s_tells (L.item_of (record { stack = x; said = said; fault = NoFault })) (Finishing x) s f d (length x.below)
        (ended_by ByEnd s)
        (λ h. m_end (expander L) W (L.item_of (record { stack = x; said = said; fault = NoFault }) ∷ [])
        (Standing (Doing (Performing (Finishing x)))) h s f d (length x.below) refl) last g

  -- The questions of a statement: from answers under which it has come as far as a subtree, whatever more is answered.
  module _ (x : Stack L.words) (statement : L.words.Statement) (s : W.State) (f d o : ℕ) (e : Expansion L.Item L.Frames W.State) where
    abbrev HasAll : List Pair → List Pair → Type 0
    HasAll qs ps = (k v : Tree) → look_up ps k ≡ Some v → look_up qs k ≡ Some v

    abbrev Reached : Asking Tree Tree (Effect L.words) → List Pair → Type 0
    Reached t ps = (qs : List Pair) → HasAll qs ps → led_at L x statement qs ≡ led_by (look_up qs) t

    abbrev RunsUnder : Asking Tree Tree (Effect L.words) → Type 0
    RunsUnder t = RunsAt (Doing (step_by L (result_by (W.answer s) t) x)) s f d o e

    s_answered : (k : Tree) (next : Tree → Asking Tree Tree (Effect L.words)) (ps : List Pair) (o' : Option Tree) → look_up ps k ≡ o' →
        Reached (needs k next) ps → Says (W.answer s) ps →
        ((qs : List Pair) → Reached (next (W.answer s k)) qs → Says (W.answer s) qs → RunsAt (Deciding x statement qs) s f d o e) →
        RunsAt (Deciding x statement ps) s f d o e
    s_answered k next ps (Some v) is reached says rest =
        let value : v ≡ W.answer s k = says k v is in
        rest ps (λ qs all. reached qs all ∙ ap (led_on k (λ a. led_by (look_up qs) (next a))) (all k (W.answer s k) (is ∙ ap Some value)))
        says
    s_answered k next ps None is reached says rest = λ last g.
        let v : Tree = W.answer s k in
        let qs : List Pair = ps ++ record { key = k; value = v } ∷ [] in
        let wants : led_at L x statement ps ≡ Wants k = reached ps (λ l w found. found) ∙ ap
        (led_on k (λ a. led_by (look_up ps) (next a))) is in
        let Behind : Place L.words L.Item → Type 0 = λ y. HasRun (expander L) W last y (Answered v) s f d o e in
        m_ask (expander L) W last (Standing (Deciding x statement ps)) g s f d o e k (ap (λ y. led_move L y x) wants)
        (subst Behind (sym (ap (λ y. led_next L y x statement ps) wants))
        (runs_as (expander L) W last (Waiting x statement ps k) (Standing (Deciding x statement qs)) (Answered v) Nothing s f d o e refl refl
        (rest qs
        (λ rs all. reached rs (λ l w found. all l w (look_up-stays ps (record { key = k; value = v }) l w found)) ∙ ap
        (led_on k (λ a. led_by (look_up rs) (next a))) (all k v (look_up-new ps k v is)))
        (Says-more (W.answer s) ps k says) last Nothing)))

    s_decides : (t : Asking Tree Tree (Effect L.words)) (ps : List Pair) → Reached t ps → Says (W.answer s) ps → RunsUnder t →
        RunsAt (Deciding x statement ps) s f d o e
    s_decides (done effect) ps reached says r = λ last g.
        let comes : led_at L x statement ps ≡ Comes effect = reached ps (λ k v found. found) in
        runs_as (expander L) W last (Standing (Deciding x statement ps)) (Standing (Doing (step_by L effect x))) g Nothing s f d o e
        (ap (λ y. led_move L y x) comes) (ap (λ y. led_next L y x statement ps) comes) (r last Nothing)
    s_decides (needs k next) ps reached says r =
        s_answered k next ps (look_up ps k) refl reached says (λ qs more all. s_decides (next (W.answer s k)) qs more all r)

  module _ (rec : Expands L W) (gas : ℕ) (runs : RunsTo rec gas) where
    -- a statement that is processed
    s_processed : (statement : L.words.Statement) (x : Stack L.words) (s : W.State) (f d : ℕ) → f < gas →
        RunsAt (Deciding x statement []) s f d (length x.below) (processed L W rec statement x s f d)
    s_processed statement x s f d enough =
        let effect : Effect L.words = result_by (W.answer s) (L.effect_of statement x.known) in
        s_decides x statement s f d (length x.below) (processed L W rec statement x s f d) (L.effect_of statement x.known) []
        (λ qs all. refl) (λ k v found. cc)
        (s_carried rec gas runs effect.said effect.act x s f d enough)

    s_placed : (b : Bool) (statement : L.words.Statement) (x : Stack L.words) (s : W.State) (f d : ℕ) → f < gas →
        RunsAt (first_ready L b x statement) s f d (length x.below)
        (processed L W rec statement x (placed W b s (outermost x.here x.below)) f d)
    s_placed true statement x s f d enough last g =
        let n : ℕ = outermost x.here x.below in
        m_at (expander L) W last (Standing (Placing x statement)) g s f d (length x.below)
        (processed L W rec statement x (W.after_at s n) f d) n refl
        (s_processed statement x (W.after_at s n) f d enough last Nothing)
    s_placed false statement x s f d enough last g = s_processed statement x s f d enough last g

    -- the lists at a statement that is met
    levels_first : (b : Bool) (statement : L.words.Statement) (x : Stack L.words) →
        ready_levels L (first_ready L b x statement) ≡ x.here ∷ x.below
    levels_first true statement x = refl
    levels_first false statement x = refl

    -- what is met: a statement, which takes a unit of fuel, if there is one, or the end of a list
    s_spends : (statement : L.words.Statement) (x : Stack L.words) (l : Level L.words) (ls : List (Level L.words)) (s : W.State)
        (f d : ℕ) → f < suc gas → statement_at L l ≡ Some statement →
        RunsOn (record x { here = l; below = ls }) s f d (met_with L W rec (met_from L (Some statement) l ls) x s f d)
    s_spends statement x l ls s zero d enough is last g =
        let y : Stack L.words = record x { here = l; below = ls } in
        let move = ap (λ z. here_move L z ls) is in
        let next : here_next L (statement_at L l) ls y ≡ first_ready L x.is_open_code y statement = ap (λ z. here_next L z ls y) is in
        let frames = ap (λ z. L.frames_of (ready_levels L z)) next ∙ ap L.frames_of (levels_first x.is_open_code statement y) in
        let Spends : L.Frames →
        Type 0 = λ z. HasRun (expander L) W last (Standing (Doing (Performing (GoingOn y)))) g s 0 d (length ls) (spent_at z s) in
        subst Spends frames (m_spent (expander L) W last (Standing (Doing (Performing (GoingOn y)))) g s d (length ls) move)
    s_spends statement x l ls s (suc f) d enough is last g =
        let y : Stack L.words = record x { here = l; below = ls } in
        let less : f < gas = omega arith in
        let move = ap (λ z. here_move L z ls) is in
        let next : here_next L (statement_at L l) ls y ≡ first_ready L x.is_open_code y statement = ap (λ z. here_next L z ls y) is in
        let e : Expansion L.Item L.Frames W.State = processed L W rec statement y (placed W x.is_open_code s (outermost l ls)) f d in
        let Behind : Ready L.words L.Item → Type 0 = λ z. HasRun (expander L) W last (Standing z) Nothing s f d (length ls) e in
        m_count (expander L) W last (Standing (Doing (Performing (GoingOn y)))) g s f d (length ls) e move
        (subst Behind (sym next) (s_placed x.is_open_code statement y s f d less last Nothing))

    s_met : (o : Option L.words.Statement) (x : Stack L.words) (l : Level L.words) (ls : List (Level L.words)) (s : W.State) (f d : ℕ) →
        f < suc gas → statement_at L l ≡ o →
        RunsOn (record x { here = l; below = ls }) s f d (met_with L W rec (met_from L o l ls) x s f d)
    s_met (Some statement) x l ls s f d enough is last g = s_spends statement x l ls s f d enough is last g
    s_met None x l [] s f d enough is last g =
        m_leave (expander L) W last (Standing (Doing (Performing (GoingOn (record x { here = l; below = [] }))))) g s f d 0
        (ap (λ z. here_move L z []) is)
    s_met None x l (m ∷ ls) s f d enough is last g =
        let y : Stack L.words = record x { here = l; below = m ∷ ls } in
        let up : Stack L.words = record x { here = m; below = ls } in
        let e : Expansion L.Item L.Frames W.State = met_with L W rec (met_from L (statement_at L m) m ls) x s f d in
        let less : length ls ≡ length (m ∷ ls) - 1 = omega arith in
        let move = ap (λ z. here_move L z (m ∷ ls)) is in
        let next : here_next L (statement_at L l) (m ∷ ls) y ≡ Doing (Performing (GoingOn up)) = ap (λ z. here_next L z (m ∷ ls) y) is in
        let Behind : Ready L.words L.Item → Type 0 = λ z. HasRun (expander L) W last (Standing z) Nothing s f d (length (m ∷ ls) - 1) e in
        let Open : ℕ → Type 0 = λ z. HasRun (expander L) W last (Standing (Doing (Performing (GoingOn up)))) Nothing s f d z e in
        m_rise (expander L) W last (Standing (Doing (Performing (GoingOn y)))) g s f d (length (m ∷ ls)) e move
        (subst Behind (sym next) (subst Open less (s_met (statement_at L m) x m ls s f d enough refl last Nothing)))

  pub expand-runs : (gas : ℕ) → RunsTo (expand gas L W) gas
  expand-runs zero x s f d enough = absurd (omega arith)
  expand-runs (suc gas) x s f d enough = s_met (expand gas L W) gas (expand-runs gas)
      (statement_at L x.here) x x.here x.below s f d enough refl
