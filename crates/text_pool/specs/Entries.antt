-- The pool as its entries and their numbers by text. No public clause cites this file. This project.
use Rattle.std.specs.Prelude.{◌≡◌, ℕ, ◌<◌, ◌≤◌, List, ◌∷◌, map, length, Some, Option}
use Rattle.std.specs.Str.{chars, IsUtf8}
use Rattle.std.specs.Ordering.{nat_cmp}
use Rattle.std.specs.Cmp.Lexicographic.{slice_cmp}
use Rattle.std.specs.Rc.{rc_str_bytes}
use Rattle.std.specs.FinMap as finite
use Rattle.std.specs.BTreeMap as tree
use Rattle.std.specs.BTreeMap.{BTreeMap}
use Rattle.slab.specs.Slab.{Slab, get, entries_from}
use Rattle.text_pool.specs.Marks.{mark_of}
use Rattle.text_pool.specs.Pool.{Held, Pool}
use Rattle.text_pool.specs.Starts.{AreStarts}
use Rattle.text_pool.specs.declared.entry.Entry.{Entry}
use Rattle.text_pool.specs.declared.entry.Key.{Key}
use Rattle.text_pool.specs.declared.pool.TheConstants.{LONGEST_TEXT}

-- an entry as contracts see it
abbrev pub held_of : Entry → Held
held_of entry = record { text = chars (rc_str_bytes entry.key.text); owners = entry.owners }

-- the pool that these slots are, the first of them under this number
abbrev pub pool_from : ℕ → List (Option Entry) → Pool
pool_from first slots = finite.from_entries (map (λ e. (e.0, held_of e.1)) (entries_from first slots))

-- the pool that these entries are
unfoldable pub pool_of : Slab Entry → Pool
pool_of slab = pool_from 0 slab.slots

-- what keys are compared by: the mark, and then the bytes
abbrev pub stamp : Key → List ℕ
stamp key = key.mark ∷ rc_str_bytes key.text

-- the number of an equal text
abbrev pub number_of : BTreeMap Key ℕ → Key → Option ℕ
number_of numbers key = tree.get (λ x y. slice_cmp nat_cmp (stamp x) (stamp y)) numbers key

-- each entry is found by its key under its number, and nothing else is found; each is a text of at most 4 MiB, has its
-- mark and where its lines begin, and has an owner
pub record IsIndexed (slab : Slab Entry) (numbers : BTreeMap Key ℕ) : Type 0 where
  pub listed : (id : ℕ) (entry : Entry) → get slab id ≡ Some entry → number_of numbers entry.key ≡ Some id
  pub found : (key : Key) (id : ℕ) → number_of numbers key ≡ Some id →
      (entry : Entry) × (get slab id ≡ Some entry) × (stamp entry.key ≡ stamp key)
  pub marked : (id : ℕ) (entry : Entry) → get slab id ≡ Some entry → entry.key.mark ≡ mark_of (rc_str_bytes entry.key.text)
  pub utf8 : (id : ℕ) (entry : Entry) → get slab id ≡ Some entry → IsUtf8 (rc_str_bytes entry.key.text)
  pub short : (id : ℕ) (entry : Entry) → get slab id ≡ Some entry → length (rc_str_bytes entry.key.text) ≤ LONGEST_TEXT
  pub started : (id : ℕ) (entry : Entry) → get slab id ≡ Some entry → AreStarts (rc_str_bytes entry.key.text) entry.starts.items
  pub owned : (id : ℕ) (entry : Entry) → get slab id ≡ Some entry → 0 < entry.owners
