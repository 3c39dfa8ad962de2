-- How `Gives`, `Gains` and `HasRisen` go together over several calls.
use Rattle.std.proofs.Common.{◌≡◌, ℕ, ◌≤◌, List, [], ◌++◌, Option, Some, None, Result, Err, refl, ap, sym, ◌∙◌, append_assoc, arith, rules}
use Rattle.std.proofs.lemmas.List.{append-nil}
use Rattle.std.specs.Option.{option_map}
use Rattle.io_edge.specs.Told.{Gives, Gains, HasRisen, HasCause}

-- two pieces given one after the other are one piece given
pub Gives-append : {A : Type 0} (before middle now : Option (List A)) (first second : List A) →
    Gives before first middle → Gives middle second now → Gives before (first ++ second) now
Gives-append before middle None first second one two =
    one ∙ ap (option_map (λ rest. first ++ rest)) two
Gives-append before middle (Some rest) first second one two =
    one ∙ ap (option_map (λ rest. first ++ rest)) two ∙ ap Some (sym (append_assoc first second rest))

-- nothing is given by the empty piece
pub Gives-nil : {A : Type 0} (told : Option (List A)) → Gives told [] told
Gives-nil None = refl
Gives-nil (Some rest) = refl

-- where the empty piece is given, nothing changed
pub same_of_Gives-nil : {A : Type 0} (before now : Option (List A)) → Gives before [] now → now ≡ before
same_of_Gives-nil before None given = sym given
same_of_Gives-nil before (Some rest) given = sym given

-- two pieces gained one after the other are one piece gained
pub Gains-append : {A : Type 0} (before middle now : Option (List A)) (first second : List A) →
    Gains before first middle → Gains middle second now → Gains before (first ++ second) now
Gains-append None middle now first second one two =
    two ∙ ap (option_map (λ held. held ++ second)) one
Gains-append (Some held) middle now first second one two =
    two ∙ ap (option_map (λ held. held ++ second)) one ∙ ap Some (append_assoc held first second)

-- nothing is gained by the empty piece
pub Gains-nil : {A : Type 0} (told : Option (List A)) → Gains told [] told
Gains-nil None = refl
Gains-nil (Some held) = ap Some (sym (append-nil held))

-- where the empty piece is gained, nothing changed
pub same_of_Gains-nil : {A : Type 0} (before now : Option (List A)) → Gains before [] now → now ≡ before
same_of_Gains-nil None now gained = gained
same_of_Gains-nil (Some held) now gained = gained ∙ ap Some (append-nil held)

-- a rise within a stretch of calls is a rise over the whole stretch
pub HasRisen-widen : (first before now last : ℕ) →
    first ≤ before → before ≤ now → HasRisen before now → now ≤ last → HasRisen first last
HasRisen-widen first before now last one later risen two = grind arith

-- a call that was refused is a cause whatever is answered for it
pub HasCause-of_Err : {T U E F : Type 0} (before now : ℕ) (fault : E) (result : Result U F) →
    HasCause {T = T} before now (Err fault) → HasCause before now result
HasCause-of_Err before now fault result cause = record {
  later = cause.later;
  failed = λ _. cause.failed (search rules);
}
