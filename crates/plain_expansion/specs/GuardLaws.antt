-- The laws of machines, kept by one that watches itself. This project.
use Rattle.std.specs.Prelude.{◌≡◌, ◌<◌, ℕ, ◌-◌, Bool, true, false, not, ◌||◌, ◌&&◌, nat_lt}
use Rattle.std.proofs.Common.{refl, sym, ap, ◌∙◌, subst, arith, cond}
use Rattle.std.proofs.lemmas.Bool.{true≢false}
use Rattle.kept_values.specs.Trees.{Tree}
use Rattle.asking_core.specs.Machines.{Told, Move, Ask, Put, Count, Bump, Emit, Deepen, Rise, Enter, At, Leave, End, GiveUp, MachineModel, is_count, is_last, Falls, EmitsOnceACount, Modest}
use Rattle.plain_expansion.specs.Guard.{Watched, is_allowed, is_counted, kept_or_not, is_kept, guarded}

-- the part of modesty that no watch can see: a call is not quiet once it counted or entered a call
pub record Quietens (M : MachineModel) (quiet : M.Place → Bool) : Type 0 where
  pub bumped : (p : M.Place) (g : Told) → M.move_at p g ≡ Bump → quiet (M.after p g) ≡ false
  pub entered : (p : M.Place) (g : Told) (c : M.Call) → M.move_at p g ≡ Enter c → quiet (M.after p g) ≡ false
  pub stays : (p : M.Place) (g : Told) → quiet p ≡ false → quiet (M.after p g) ≡ false

-- whether a move gives up
abbrev pub gives_up : {C I : Type 0} → Move C I → Bool
gives_up GiveUp = true
gives_up (Ask key) = false
gives_up (Put key value) = false
gives_up Count = false
gives_up Bump = false
gives_up (Emit item) = false
gives_up Deepen = false
gives_up Rise = false
gives_up (Enter call) = false
gives_up (At n) = false
gives_up Leave = false
gives_up End = false

-- a move that does not give up is the machine's own, and was kept
pub kept_move : {C I : Type 0} (b : Bool) (own m : Move C I) → gives_up m ≡ false → kept_or_not b own ≡ m → (b ≡ true) × (own ≡ m)
kept_move true own m goes is = (refl, is)
kept_move false own m goes is = absurd (true≢false (ap gives_up is ∙ goes))

pub both_true : (a b : Bool) → (a && b) ≡ true → (a ≡ true) × (b ≡ true)
both_true true true is = (refl, refl)
both_true true false is = (refl, is)
both_true false b is = (is, absurd (true≢false (sym is)))

pub last_holds : (a b c : Bool) → (a || b || c) ≡ true → a ≡ false → b ≡ false → c ≡ true
last_holds false false c is no_a no_b = is
last_holds false true c is no_a no_b = absurd (true≢false no_b)
last_holds true b c is no_a no_b = absurd (true≢false no_a)

falls_by : {C I : Type 0} (b : Bool) (own : Move C I) (left full : ℕ) (allowed : Bool) → (is_counted left own && allowed) ≡ b →
    is_count (kept_or_not b own) ≡ false → is_last (kept_or_not b own) ≡ false → cond (is_count own) full (left - 1) < left
falls_by false own left full allowed is counts last = absurd (true≢false last)
falls_by true own left full allowed is counts last =
    let tested = both_true (is_counted left own) allowed is in
    let some : nat_lt 0 left ≡ true = last_holds (is_count own) (is_last own) (nat_lt 0 left) tested.0 counts last in
    let less : left - 1 < left = grind arith in
    subst (λ c. cond c full (left - 1) < left) (sym counts) less

count_by : {C I : Type 0} (b : Bool) (own : Move C I) (left : ℕ) (moving writable : Tree → Bool) (quiet : Bool) →
    (is_counted left own && is_allowed moving writable quiet own) ≡ b → is_count (kept_or_not b own) ≡ false → is_count own ≡ false
count_by true own left moving writable quiet is counts = counts
count_by false Count left moving writable quiet is counts = absurd (true≢false is)
count_by false (Ask key) left moving writable quiet is counts = refl
count_by false (Put key value) left moving writable quiet is counts = refl
count_by false Bump left moving writable quiet is counts = refl
count_by false (Emit item) left moving writable quiet is counts = refl
count_by false Deepen left moving writable quiet is counts = refl
count_by false Rise left moving writable quiet is counts = refl
count_by false (Enter call) left moving writable quiet is counts = refl
count_by false (At n) left moving writable quiet is counts = refl
count_by false Leave left moving writable quiet is counts = refl
count_by false End left moving writable quiet is counts = refl
count_by false GiveUp left moving writable quiet is counts = refl

pub asks_by : (quiet moves : Bool) → (quiet || not moves) ≡ true → moves ≡ true → quiet ≡ true
asks_by true moves is moved = refl
asks_by false true is moved = is
asks_by false false is moved = absurd (true≢false (sym moved))

module _ (M : MachineModel) (full : ℕ) (moving writable : Tree → Bool) (quiet : M.Place → Bool) where
  abbrev Own : Watched M.Place → Told → Move M.Call M.Item
  Own p g = M.move_at p.place g

  -- between two units of fuel there is only so much
  pub guarded_falls : Falls (guarded M full moving writable quiet) (λ p. p.left)
  guarded_falls p g counts last =
      falls_by (is_kept M full moving writable quiet p g) (Own p g) p.left full
      (is_allowed moving writable (quiet p.place) (Own p g)) refl counts last

  -- one item a unit of fuel, if the machine keeps to that
  pub guarded_emits_once : (marked : M.Place → Bool) → EmitsOnceACount M marked →
      EmitsOnceACount (guarded M full moving writable quiet) (λ p. marked p.place)
  guarded_emits_once marked once = record {
    starts = λ c. once.starts c;
    emits = λ p g item is. once.emits p.place g item (kept_move (is_kept M full moving writable quiet p g) (Own p g) (Emit item) refl is).1;
    others = λ p g counts unmarked. once.others p.place g
        (count_by (is_kept M full moving writable quiet p g) (Own p g) p.left moving writable (quiet p.place) refl counts) unmarked;
  }

  pub allowed_at : (p : Watched M.Place) (g : Told) (m : Move M.Call M.Item) → gives_up m ≡ false →
      kept_or_not (is_kept M full moving writable quiet p g) (Own p g) ≡ m →
      is_allowed moving writable (quiet p.place) m ≡ true
  allowed_at p g m goes is =
      let both = kept_move (is_kept M full moving writable quiet p g) (Own p g) m goes is in
      let tested = both_true (is_counted p.left (Own p g)) (is_allowed moving writable (quiet p.place) (Own p g)) both.0 in
      subst (λ x. is_allowed moving writable (quiet p.place) x ≡ true) both.1 tested.1

  -- modest, if the machine tells where it is quiet
  pub guarded_is_modest : Quietens M quiet → Modest (guarded M full moving writable quiet) moving writable (λ p. quiet p.place)
  guarded_is_modest quietens = record {
    puts = λ p g key value is. allowed_at p g (Put key value) refl is;
    asks = λ p g key is moves. asks_by (quiet p.place) (moving key) (allowed_at p g (Ask key) refl is) moves;
    bumped = λ p g is. quietens.bumped p.place g (kept_move (is_kept M full moving writable quiet p g) (Own p g) Bump refl is).1;
    entered = λ p g c is. quietens.entered p.place g c (kept_move (is_kept M full moving writable quiet p g) (Own p g) (Enter c) refl is).1;
    stays = λ p g q. quietens.stays p.place g q;
  }
