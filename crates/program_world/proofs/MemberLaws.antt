-- What is kept of members was found.
use Rattle.std.proofs.Common.{◌≡◌, ℕ, Bool, true, false, cond, List, [], ◌∷◌, Option, Some, None, refl, sym, ap, ◌∙◌}
use Rattle.std.specs.Prelude.{unwrap_or}
use Rattle.hl_base.specs.declared.set.Key.TheVariants as key
use Rattle.kept_values.specs.Trees.{Tree, same_tree}
use Rattle.kept_values.specs.Keys.{key_tree}
use Rattle.kept_values.specs.Lists.{list_tree}
use Rattle.kept_values.proofs.TreeLaws.{same_tree-one}
use Rattle.call_sites.specs.Calls.{text_in}
use Rattle.text_pool.specs.Members.{Member}
use Rattle.program_world.specs.World.{member_answer, member_tree, with_put}
use Rattle.program_world.specs.Found.{AreFound}

-- a text is read back from its tree
pub text_back : (text : List ℕ) → text_in (list_tree text) ≡ text
text_back [] = refl
text_back (x ∷ xs) = ap (λ ys. x ∷ ys) (text_back xs)

module _ (members : List ℕ → Member) where
  -- what is answered to the key of a member is what is found under its name
  pub found_answer : (name : List ℕ) → member_answer members (key_tree (key.Member name)) ≡ member_tree (members name)
  found_answer name = ap (λ n. member_tree (members n)) (text_back name)

  -- nothing is kept
  pub none_found : AreFound members (λ _. None)
  none_found k value is = cc

  -- and one member more
  here_or_before : (kept : Tree → Option Tree) (name : List ℕ) (value k other : Tree) (t : Bool) →
      same_tree (key_tree (key.Member name)) k ≡ t → AreFound members kept → value ≡ member_tree (members name) →
      cond t (Some value) (kept k) ≡ Some other → other ≡ member_answer members k
  here_or_before kept name value k other true here found is_found is =
      sym (ap (λ o. unwrap_or o other) is)
      ∙ is_found
      ∙ sym (found_answer name)
      ∙ ap (member_answer members) (same_tree-one (key_tree (key.Member name)) k here)
  here_or_before kept name value k other false apart found is_found is = found k other is

  pub one_more : (kept : Tree → Option Tree) (name : List ℕ) (value : Tree) → AreFound members kept → value ≡ member_tree (members name) →
      AreFound members (with_put kept (key_tree (key.Member name)) value)
  one_more kept name value found is_found k other is =
      here_or_before kept name value k other (same_tree (key_tree (key.Member name)) k) refl found is_found is
