-- What is told of the text that is present at a path.
use Rattle.std.proofs.Common.{◌≡◌, ℕ, List, Option, Some, None, IsSome, refl, ap, ◌∙◌}
use Rattle.std.specs.Prelude.{IfSome}
use Rattle.std.specs.Option.{option_map}
use Rattle.hl_base.specs.declared.edit.Position.{Position}
use Rattle.hl_base.specs.declared.place.TextId.{TextId}
use Rattle.text_pool.specs.Pool.{Pool}
use Rattle.document_store.specs.Holdings.{text_in}
use Rattle.document_store.specs.Positions.{column_of}
use Rattle.document_store.specs.Shown.{IsPresent}
use Rattle.document_store.specs.Store.{File, Readable, Unreadable}
use Rattle.document_store.specs.declared.document.MemberText.{MemberText}
use Rattle.document_store.specs.declared.document.MemberText.TheVariants as member

-- where a text is given one is present
pub text_is_present : (pool : Pool) (file : Option File) (given : MemberText) (id : TextId) → given ≡ member.File id → IsPresent pool file (Some given) → IsSome (text_in file)
text_is_present pool None (member.File other) id is told = absurd told
text_is_present pool None member.Unreadable id is told = absurd told
text_is_present pool (Some (Readable text)) given id is told = refl
text_is_present pool (Some Unreadable) (member.File other) id is told = absurd told
text_is_present pool (Some Unreadable) member.Unreadable id is told = cc

-- nothing is told of a file that cannot be read, and where there is none
pub unreadable_told : (pool : Pool) (file : Option File) (given : MemberText) (at : Position) → given ≡ member.Unreadable → IsPresent pool file (Some given)
    → None ≡ option_map (λ text. column_of text at) (text_in file)
unreadable_told pool None given at is told = refl
unreadable_told pool (Some (Readable text)) (member.File other) at is told = cc
unreadable_told pool (Some (Readable text)) member.Unreadable at is told = absurd told
unreadable_told pool (Some Unreadable) given at is told = refl

pub nothing_told : (pool : Pool) (file : Option File) (at : Position) → IsPresent pool file None → None ≡ option_map (λ text. column_of text at) (text_in file)
nothing_told pool None at told = refl
nothing_told pool (Some (Readable text)) at told = absurd told
nothing_told pool (Some Unreadable) at told = absurd told

-- what is told of a position, where a text is present
pub column_told : (found : Option (List ℕ)) (at : Position) (told : ℕ × ℕ) → IsSome found → IfSome found (λ text. told.0 ≡ (column_of text at).0) → IfSome found (λ text. told.1 ≡ (column_of text at).1)
    → Some told ≡ option_map (λ text. column_of text at) found
column_told None at told present line column = cc
column_told (Some text) at told present line column = ap (λ l. Some (l, told.1)) line ∙ ap (λ c. Some ((column_of text at).0, c)) column
