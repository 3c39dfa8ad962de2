-- A member is read back from what is known of it.
use Rattle.std.proofs.Common.{◌≡◌, ℕ, List, [], ◌∷◌, refl, ap}
use Rattle.kept_values.specs.Lists.{list_tree}
use Rattle.macro_library.specs.Trees.{list_in}
use Rattle.macro_library.specs.Files.{File as FileOf}
use Rattle.macro_library.specs.declared.member.Member.TheVariants.{File}
use Rattle.call_sites.specs.Values.{member_known}
use Rattle.asked_definitions.specs.Asked.{member_in}

list_back : (xs : List ℕ) → list_in (list_tree xs) ≡ xs
list_back [] = refl
list_back (x ∷ xs) = ap (λ l. x ∷ l) (list_back xs)

pub member_back : (f : FileOf) → member_in (member_known f) ≡ File f
member_back f = ap {A = List ℕ} (λ t. File (record { path = f.path; text = t })) (list_back f.text)
