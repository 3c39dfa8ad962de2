-- How texts are read one after the other.
use Rattle.std.proofs.Common.{◌≡◌, ◌∙◌, ℕ, suc, ◌+◌, ◌<◌, ◌≤◌, length, get_or, drop, drop-cons, add-one, List, [], ◌∷◌, ◌++◌, refl, sym, ap, subst, append_assoc, append-nil}
use Rattle.std.proofs.Math.ListN.{drop_of_length-le}
use Rattle.std.specs.Prelude.{Result, Ok, Err}
use Rattle.expression_grammar.specs.declared.fault.SyntaxFault.{SyntaxFault}
use Rattle.expression_grammar.specs.declared.fault.SyntaxFault.TheVariants.{At, OutOfMemory}
use Rattle.conditional_fields.specs.Answers.{IsPlaced, IsWant, Says, behind_these, and_others, each}

-- a fault says this place
pub placed_says : {V W : Type 0} (view : V → W) (read : Result W ℕ) (place : ℕ) (fault : SyntaxFault) → read ≡ Err place → IsPlaced place fault → Says view read (Err fault)
placed_says view read place (At at) e is = e ∙ ap Err (sym is)
placed_says view read place OutOfMemory e is = tt

-- want of memory says everything
pub want_says : {V W : Type 0} (view : V → W) (read : Result W ℕ) (fault : SyntaxFault) → IsWant fault → Says view read (Err fault)
want_says view read (At at) want = absurd want
want_says view read OutOfMemory want = tt

pub behind-nothing : {V : Type 0} (o : Result (List V) ℕ) → o ≡ behind_these [] o
behind-nothing (Ok vs) = refl
behind-nothing (Err at) = refl

one-more : {V : Type 0} (done : List V) (v : V) (others : Result (List V) ℕ) → behind_these done (and_others (Ok v) others) ≡ behind_these (done ++ v ∷ []) others
one-more done v (Ok vs) = ap Ok (sym (append_assoc done (v ∷ []) vs))
one-more done v (Err at) = refl

-- one more
pub each-goes : {V : Type 0} (whole : Result (List V) ℕ) (done : List V) (one : Result V ℕ) (others : Result (List V) ℕ) (v : V) → whole ≡ behind_these done (and_others one others) → one ≡ Ok v → whole ≡ behind_these (done ++ v ∷ []) others
each-goes whole done one others v e is = e ∙ ap (λ o. behind_these done (and_others o others)) is ∙ one-more done v others

-- the first that is wrong
pub each-stops : {X V W : Type 0} (view : V → W) (all : X → List W) (whole : Result (List W) ℕ) (done : List W) (one : Result W ℕ) (others : Result (List W) ℕ) (fault : SyntaxFault) →
    whole ≡ behind_these done (and_others one others) → Says view one (Err fault) → Says all whole (Err fault)
each-stops view all whole done one others (At at) e is = e ∙ ap (λ o. behind_these done (and_others o others)) is
each-stops view all whole done one others OutOfMemory e is = tt

-- and none is left
pub each-ends : {V : Type 0} (whole : Result (List V) ℕ) (done : List V) → whole ≡ behind_these done (Ok []) → whole ≡ Ok done
each-ends whole done e = e ∙ ap Ok (append-nil done)

-- one of some texts, and then those behind it
pub each-at : {V : Type 0} (read : List ℕ → Result V ℕ) (texts : List (List ℕ)) (i : ℕ) (text : List ℕ) → i < length texts → text ≡ get_or texts i text →
    each read (drop i texts) ≡ and_others (read text) (each read (drop (i + 1) texts))
each-at read texts i text h is =
    ap (each read) (drop-cons texts i text h ∙ ap (λ t. t ∷ drop (suc i) texts) (sym is)) ∙ ap (λ k. and_others (read text) (each read (drop k texts))) (sym (add-one i))

-- past the last there is none
pub each-past : {V : Type 0} (read : List ℕ → Result V ℕ) (texts : List (List ℕ)) (i : ℕ) → length texts ≤ i → each read (drop i texts) ≡ Ok []
each-past read texts i h = ap (each read) (drop_of_length-le texts h)
