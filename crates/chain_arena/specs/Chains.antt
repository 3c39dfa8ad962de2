-- Links that stand in two lists each, that of their left number and that of their right number (this project).
use Rattle.std.specs.Prelude.{◌≡◌, ℕ, List, [], ◌∷◌, ◌++◌, Some, None}
use Rattle.slab.specs.Slab.{Slab, get, ContainsKey, Updates, SameValues}
use Rattle.chain_arena.specs.Lists.{list_at, IsIn, without, without_all, SameLists, Changes}
use Rattle.chain_arena.specs.declared.link.Link.{Link}

-- the live links by their numbers, and the lists of the left and of the right numbers
pub record Chains (T : Type 0) : Type 0 where
  pub links : Slab (Link T)
  pub lefts : List (List ℕ)
  pub rights : List (List ℕ)

module _ {T : Type 0} where
  abbrev pub IsLive : Chains T → ℕ → Type 0
  IsLive chains id = ContainsKey chains.links id

  -- it is a live link of this left number
  abbrev pub HasLeft : Chains T → ℕ → ℕ → Type 0
  HasLeft chains n id = (link : Link T) × (get chains.links id ≡ Some link) × (link.left ≡ n)

  -- it is a live link of this right number
  abbrev pub HasRight : Chains T → ℕ → ℕ → Type 0
  HasRight chains n id = (link : Link T) × (get chains.links id ≡ Some link) × (link.right ≡ n)

  -- the list of each number has the live links that have it on this side, and nothing else
  pub record HasLinks (links : Slab (Link T)) (side : Link T → ℕ) (lists : List (List ℕ)) : Type 0 where
    pub live : (n id : ℕ) → IsIn id (list_at lists n) → (link : Link T) × (get links id ≡ Some link) × (side link ≡ n)
    pub listed : (id : ℕ) (link : Link T) → get links id ≡ Some link → IsIn id (list_at lists (side link))

  -- the same on both sides
  pub record AreListed (chains : Chains T) : Type 0 where
    pub left : HasLinks chains.links (λ link. link.left) chains.lefts
    pub right : HasLinks chains.links (λ link. link.right) chains.rights

  -- nothing is changed
  pub record IsSame (old new : Chains T) : Type 0 where
    pub links : SameValues old.links new.links
    pub lefts : SameLists old.lefts new.lefts
    pub rights : SameLists old.rights new.rights

  -- a number that was free is a live link, and comes last in both lists; nothing else is changed
  pub record IsAdded (old new : Chains T) (link : Link T) (id : ℕ) : Type 0 where
    pub was_free : get old.links id ≡ None
    pub links : Updates old.links new.links id (Some link)
    pub lefts : Changes old.lefts new.lefts link.left (list_at old.lefts link.left ++ id ∷ [])
    pub rights : Changes old.rights new.rights link.right (list_at old.rights link.right ++ id ∷ [])

  -- this link is not live any more, and in neither of its lists; nothing else is changed
  pub record IsUnlinked (old new : Chains T) (id : ℕ) (link : Link T) : Type 0 where
    pub links : Updates old.links new.links id None
    pub lefts : Changes old.lefts new.lefts link.left (without id (list_at old.lefts link.left))
    pub rights : Changes old.rights new.rights link.right (without id (list_at old.rights link.right))

  -- no link of this right number is live any more, and they are gone from the left lists; nothing else is changed
  pub record IsCleared (old new : Chains T) (right : ℕ) : Type 0 where
    pub gone : (id : ℕ) → IsIn id (list_at old.rights right) → get new.links id ≡ None
    pub kept : (id : ℕ) → (IsIn id (list_at old.rights right) → ⊥) → get new.links id ≡ get old.links id
    pub rights : Changes old.rights new.rights right []
    pub lefts : (n : ℕ) → list_at new.lefts n ≡ without_all (list_at old.rights right) (list_at old.lefts n)
