-- The library's calls have the answers of the shelf, and the shelf is what was put there.
use Rattle.std.proofs.Common.{◌≡◌, ◌∙◌, ℕ, suc, ◌+◌, true, false, List, [], ◌∷◌, ◌++◌, map, Option, Some, None, Result, Ok, Err, string_bytes, refl, ap, sym, subst, add-one}
use Rattle.std.specs.Prelude.{String as AnyString, IfOk, IfErr}
use Rattle.std.specs.Global.{Vec, Global}
use Rattle.std.specs.Option.{option_map}
use Rattle.std.proofs.lemmas.List.{map-append}
use Rattle.io_edge.specs.LibraryCall.{LibraryCall, lists, reads, absent, found, listing, reading}
use Rattle.io_edge.specs.MemoryLibrary.{File, names_at, bytes_at}
use Rattle.io_edge.specs.declared.fault.LibraryFault.{LibraryFault}
use Rattle.io_edge.specs.declared.fault.LibraryFault.TheVariants.{Failed, OutOfMemory}
use Rattle.bulk_script.specs.Texts.{member_name}
use Rattle.bulk_session.specs.Shelf.{folders, files, told, answered, first_numbers, member_file}
use Rattle.bulk_session.specs.Inside.{AreAnswered}

-- ---- what is put there

pub one_more : {A : Type 0} (f : ℕ → A) (number : ℕ) (so_far : List A) → so_far ≡ map f (first_numbers number) → so_far ++ f number ∷ [] ≡ map f (first_numbers (number + 1))
one_more f number so_far is =
    ap (λ z. z ++ f number ∷ []) is ∙ sym (map-append f (first_numbers number) (number ∷ [])) ∙ ap (λ n. map f (first_numbers n)) (sym (add-one number))

-- ---- calls

failed_is_other : {A : Type 0} → Failed ≡ OutOfMemory → A
failed_is_other e = let no : ⊥ = cc in absurd no

pub listing_sound : (path : List ℕ) (result : Result (Option (Vec (AnyString Global))) LibraryFault)
    → IfOk result (λ names. option_map (λ (held : Vec (AnyString Global)). map string_bytes held.items) names ≡ names_at folders path)
    → IfErr result (λ fault. fault ≡ OutOfMemory) → AreAnswered (listing path result)
listing_sound path (Ok None) is fault = ap (λ z. lists path (told z) ∷ []) (sym is)
listing_sound path (Ok (Some names)) is fault = ap (λ z. lists path (told z) ∷ []) (sym is)
listing_sound path (Err Failed) is fault = failed_is_other fault
listing_sound path (Err OutOfMemory) is fault = refl

pub reading_sound : (path : List ℕ) (result : Result (Option (Vec ℕ)) LibraryFault)
    → IfOk result (λ bytes. option_map (λ (held : Vec ℕ). held.items) bytes ≡ bytes_at files path)
    → IfErr result (λ fault. fault ≡ OutOfMemory) → AreAnswered (reading path result)
reading_sound path (Ok None) is fault = ap (λ z. reads path (told z) ∷ []) (sym is)
reading_sound path (Ok (Some bytes)) is fault = ap (λ z. reads path (told z) ∷ []) (sym is)
reading_sound path (Err Failed) is fault = failed_is_other fault
reading_sound path (Err OutOfMemory) is fault = refl

pub more_sound : (before calls : List LibraryCall) → AreAnswered before → AreAnswered calls → AreAnswered (before ++ calls)
more_sound before calls one two = map-append answered before calls ∙ ap (λ z. z ++ map answered calls) one ∙ ap (λ z. before ++ z) two
