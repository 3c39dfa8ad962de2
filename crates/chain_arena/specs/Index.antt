-- Lists of indices as heads and neighbours. No public clause cites this file. This project.
use Rattle.std.specs.Prelude.{◌≡◌, ◌+◌, ◌<◌, ◌≤◌, ◌^◌, ℕ, zero, suc, List, [], ◌∷◌, ◌++◌, Option, Some, None, length, map, slice_index_or, slice_set}
use Rattle.chain_arena.specs.Lists.{list_at, IsIn}
use Rattle.chain_arena.specs.declared.index.Head.{Head}

-- the lists, and how many indices may stand in them: those below this number
pub record Lists : Type 0 where
  pub lists : List (List ℕ)
  pub room : ℕ

-- the index has room, it may be added to the list of that number, and one more can be counted there
pub record IsReady (s : Lists) (n index : ℕ) : Type 0 where
  pub covered : n < length s.lists
  pub room : index < s.room
  pub fits : length (list_at s.lists n) + 1 < 2 ^ 32

-- the index stands in no list
abbrev pub IsUnlisted : Lists → ℕ → Type 0
IsUnlisted s index = (n : ℕ) → IsIn index (list_at s.lists n) → ⊥

-- the index stands in some list
abbrev pub IsListed : Lists → ℕ → Type 0
IsListed s index = (n : ℕ) × IsIn index (list_at s.lists n)

-- the neighbour of an index
abbrev pub at : List (Option ℕ) → ℕ → Option ℕ
at links x = slice_index_or links x None

-- the head of a list that was never added to
abbrev pub no_head : Head
no_head = record { first = None; last = None; len = 0 }

abbrev pub head_at : List Head → ℕ → Head
head_at heads n = slice_index_or heads n no_head

-- so many indices, each the neighbour of the one before
unfoldable pub walk : (ℕ → Option ℕ) → ℕ → Option ℕ → List ℕ
walk next zero start = []
walk next (suc n) None = []
walk next (suc n) (Some x) = x ∷ walk next n (next x)

abbrev pub list_of : (ℕ → Option ℕ) → Head → List ℕ
list_of next head = walk next head.len head.first

-- the lists that these heads and neighbours are
abbrev pub lists_of : List Head → List (Option ℕ) → Lists
lists_of heads nexts = record { lists = map (list_of (at nexts)) heads; room = length nexts }

-- a write of one neighbour, if there is an index to write at
abbrev pub pointed : List (Option ℕ) → Option ℕ → Option ℕ → List (Option ℕ)
pointed links None to = links
pointed links (Some x) to = slice_set links x to

-- the end of a list: the one that was given, where it has no neighbour, and else the one that it was
abbrev pub choose : Option ℕ → Option ℕ → Option ℕ → Option ℕ
choose None given was = given
choose (Some x) given was = was

abbrev pub backwards : List ℕ → List ℕ
backwards [] = []
backwards (x ∷ xs) = backwards xs ++ x ∷ []

abbrev pub IsDistinct : List ℕ → Type 0
IsDistinct [] = Unit {0}
IsDistinct (x ∷ xs) = (IsIn x xs → ⊥) × IsDistinct xs

-- from here on, each leads to the next, and the last to nothing
abbrev pub Path : (ℕ → Option ℕ) → Option ℕ → List ℕ → Type 0
Path next start [] = start ≡ None
Path next start (x ∷ xs) = (start ≡ Some x) × Path next (next x) xs

-- the list goes forward from its first and backward from its last
pub record IsChain (next previous : ℕ → Option ℕ) (first last : Option ℕ) (xs : List ℕ) : Type 0 where
  pub forward : Path next first xs
  pub backward : Path previous last (backwards xs)
  pub distinct : IsDistinct xs

-- each list is a chain of its length, no index stands in two lists, and each has room
pub record IsSound (head : ℕ → Head) (next previous : ℕ → Option ℕ) (room : ℕ) : Type 0 where
  pub chains : (n : ℕ) → IsChain next previous (head n).first (head n).last (list_of next (head n))
  pub lens : (n : ℕ) → length (list_of next (head n)) ≡ (head n).len
  pub apart : (m n x : ℕ) → IsIn x (list_of next (head m)) → IsIn x (list_of next (head n)) → m ≡ n
  pub in_range : (n x : ℕ) → IsIn x (list_of next (head n)) → x < room

-- the same of heads and neighbours as they lie in memory
pub record IsIndex (heads : List Head) (nexts previous : List (Option ℕ)) : Type 0 where
  pub sound : IsSound (head_at heads) (at nexts) (at previous) (length nexts)
  pub enough : length nexts ≤ length previous
