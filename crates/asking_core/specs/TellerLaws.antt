-- The tiny machine of the tests keeps the laws of machines: what each asks of a move, at each stage. This project.
use Rattle.std.specs.Prelude.{◌≡◌, ◌<◌, ℕ, true, false, refl}
use Rattle.std.proofs.Common.{lit<, subst}
use Rattle.std.proofs.lemmas.Bool.{true≢false}
use Rattle.kept_values.specs.Trees.{Tree}
use Rattle.asking_core.specs.Machines.{Move, Ask, Put, Bump, Emit, Enter, Modest, Falls, EmitsOnceACount, is_count, is_last}
use Rattle.asking_core.specs.Counters.{counters_move, cell_is_writable}
use Rattle.asking_core.specs.Teller.{Stage, Asking, Counting, Emitting, Putting, Bumping, Leaving, stage_move, stage_next, teller, stage_number, stage_marked, stage_quiet}

-- each move but the count and the last lowers the number
falls_at : (p : Stage) → is_count (stage_move p) ≡ false → is_last (stage_move p) ≡ false → stage_number (stage_next p) < stage_number p
falls_at Asking c l = lit< tt
falls_at Counting c l = lit< tt
falls_at Emitting c l = lit< tt
falls_at Putting c l = lit< tt
falls_at Bumping c l = lit< tt
falls_at Leaving c l = absurd (true≢false l)

pub teller_falls : Falls teller stage_number
teller_falls = λ p g c l. falls_at p c l

-- an item takes the mark
abbrev EmitsAt : Stage → Move Tree ℕ → Type 0
EmitsAt p (Emit item) = (stage_marked p ≡ true) × (stage_marked (stage_next p) ≡ false)
EmitsAt p m = Unit {0}

emits_at : (p : Stage) → EmitsAt p (stage_move p)
emits_at Asking = tt
emits_at Counting = tt
emits_at Emitting = (refl, refl)
emits_at Putting = tt
emits_at Bumping = tt
emits_at Leaving = tt

others_at : (p : Stage) → is_count (stage_move p) ≡ false → stage_marked p ≡ false → stage_marked (stage_next p) ≡ false
others_at Asking c m = refl
others_at Counting c m = absurd (true≢false c)
others_at Emitting c m = refl
others_at Putting c m = refl
others_at Bumping c m = refl
others_at Leaving c m = refl

pub teller_emits_once : EmitsOnceACount teller stage_marked
teller_emits_once = record {
  starts = λ c. refl;
  emits = λ p g item is. subst (EmitsAt p) is (emits_at p);
  others = λ p g c m. others_at p c m;
}

-- what is put may be, what is asked while a key moves is asked before a call was counted, which is not so behind one
abbrev PutsAt : Move Tree ℕ → Type 0
PutsAt (Put key value) = cell_is_writable key ≡ true
PutsAt m = Unit {0}

puts_at : (p : Stage) → PutsAt (stage_move p)
puts_at Asking = tt
puts_at Counting = tt
puts_at Emitting = tt
puts_at Putting = refl
puts_at Bumping = tt
puts_at Leaving = tt

abbrev AsksAt : Stage → Move Tree ℕ → Type 0
AsksAt p (Ask key) = counters_move key ≡ true → stage_quiet p ≡ true
AsksAt p m = Unit {0}

asks_at : (p : Stage) → AsksAt p (stage_move p)
asks_at Asking = λ m. refl
asks_at Counting = tt
asks_at Emitting = tt
asks_at Putting = tt
asks_at Bumping = tt
asks_at Leaving = tt

abbrev BumpsAt : Stage → Move Tree ℕ → Type 0
BumpsAt p Bump = stage_quiet (stage_next p) ≡ false
BumpsAt p (Enter c) = stage_quiet (stage_next p) ≡ false
BumpsAt p m = Unit {0}

bumps_at : (p : Stage) → BumpsAt p (stage_move p)
bumps_at Asking = tt
bumps_at Counting = tt
bumps_at Emitting = tt
bumps_at Putting = tt
bumps_at Bumping = refl
bumps_at Leaving = tt

stays_at : (p : Stage) → stage_quiet p ≡ false → stage_quiet (stage_next p) ≡ false
stays_at Asking q = absurd (true≢false q)
stays_at Counting q = absurd (true≢false q)
stays_at Emitting q = absurd (true≢false q)
stays_at Putting q = absurd (true≢false q)
stays_at Bumping q = refl
stays_at Leaving q = refl

pub teller_is_modest : Modest teller counters_move cell_is_writable stage_quiet
teller_is_modest = record {
  puts = λ p g key value is. subst PutsAt is (puts_at p);
  asks = λ p g key is. subst (AsksAt p) is (asks_at p);
  bumped = λ p g is. subst (BumpsAt p) is (bumps_at p);
  entered = λ p g c is. subst (BumpsAt p) is (bumps_at p);
  stays = λ p g q. stays_at p q;
}
