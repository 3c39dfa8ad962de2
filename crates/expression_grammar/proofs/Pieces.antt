-- Texts of lists of pieces: joined, cut, and longer at the end.
use Rattle.std.proofs.Common.{◌≡◌, suc, length, List, [], ◌∷◌, ◌++◌, refl, sym, ap, ◌∙◌, append_assoc, subst}
use Rattle.std.specs.Prelude.{true}
use Rattle.expression_grammar.specs.declared.character.Grammar.{Grammar}
use Rattle.expression_grammar.specs.declared.character.Kind.{Kind}
use Rattle.expression_grammar.specs.declared.character.Kind.TheVariants as kind
use Rattle.expression_grammar.specs.Characters.{kind_of}
use Rattle.expression_grammar.specs.Spelling.{Placed, Piece, Gap, One, Reads, IsPiece, IsOne, IsGap, has_blanks, codes}

pub append-nil : {A : Type 0} (xs : List A) → xs ++ [] ≡ xs
append-nil [] = refl
append-nil (x ∷ xs) = ap (λ ys. x ∷ ys) (append-nil xs)

-- a text of pieces, and a text of further pieces behind it
pub reads-join : (g : Grammar) (ks js : List Piece) (cs ds : List Placed) → Reads g ks cs → Reads g js ds → Reads g (ks ++ js) (cs ++ ds)
reads-join g [] js cs ds r s = rw r s
reads-join g (k ∷ ks) js cs ds r s =
    (r.0, r.1 ++ ds, ap (λ xs. xs ++ ds) r.2 ∙ append_assoc r.0 r.1 ds, r.3, reads-join g ks js r.1 ds r.4 s)

-- the text of two lists of pieces, cut between them
pub record Cut (g : Grammar) (ks js : List Piece) (cs : List Placed) : Type 0 where
  pub front : List Placed
  pub back : List Placed
  pub both : cs ≡ front ++ back
  pub first : Reads g ks front
  pub second : Reads g js back

pub reads-cut : (g : Grammar) (ks js : List Piece) (cs : List Placed) → Reads g (ks ++ js) cs → Cut g ks js cs
reads-cut g [] js cs r = record { front = []; back = cs; both = refl; first = refl; second = r }
reads-cut g (k ∷ ks) js cs r =
    let c : Cut g ks js r.1 = reads-cut g ks js r.1 r.4 in
    record { front = r.0 ++ c.front; back = c.back; both = r.2 ∙ ap (λ xs. r.0 ++ xs) c.both ∙ sym (append_assoc r.0 c.front c.back); first = (r.0, c.front, refl, r.3, c.first); second = c.second }

-- the text of one piece
pub reads-one : (g : Grammar) (k : Piece) (cs : List Placed) → IsPiece g k cs → Reads g (k ∷ []) cs
reads-one g k cs i = (cs, [], sym (append-nil cs), i, refl)

pub piece_of-one : (g : Grammar) (k : Piece) (cs : List Placed) → Reads g (k ∷ []) cs → IsPiece g k cs
piece_of-one g k cs r =
    let e : cs ≡ r.0 = r.2 ∙ ap (λ xs. r.0 ++ xs) r.4 ∙ append-nil r.0 in
    subst (IsPiece g k) (sym e) r.3

-- the last piece becomes another with more text
pub last-turned : (g : Grammar) (ks : List Piece) (k j : Piece) (cs ds : List Placed) → ((a : List Placed) → IsPiece g k a → IsPiece g j (a ++ ds)) →
    Reads g (ks ++ k ∷ []) cs → Reads g (ks ++ j ∷ []) (cs ++ ds)
last-turned g ks k j cs ds turn r =
    let c = reads-cut g ks (k ∷ []) cs r in
    let e : cs ++ ds ≡ c.front ++ (c.back ++ ds) = ap (λ xs. xs ++ ds) c.both ∙ append_assoc c.front c.back ds in
    subst (Reads g (ks ++ j ∷ [])) (sym e) (reads-join g ks (j ∷ []) c.front (c.back ++ ds) c.first (reads-one g j (c.back ++ ds) (turn c.back (piece_of-one g k c.back c.second))))

-- the last piece is another
pub last-became : (g : Grammar) (ks : List Piece) (k j : Piece) (cs : List Placed) → ((a : List Placed) → IsPiece g k a → IsPiece g j a) →
    Reads g (ks ++ k ∷ []) cs → Reads g (ks ++ j ∷ []) cs
last-became g ks k j cs turn r =
    let c = reads-cut g ks (k ∷ []) cs r in
    subst (Reads g (ks ++ j ∷ [])) (sym c.both) (reads-join g ks (j ∷ []) c.front c.back c.first (reads-one g j c.back (turn c.back (piece_of-one g k c.back c.second))))

-- one character
pub one_of : (k : Kind) (p : Placed) → kind_of p.code ≡ k → IsOne k (p ∷ [])
one_of k p e = record { one = p; only = refl; kind = e }

pub reads-kind : (g : Grammar) (k : Kind) (p : Placed) → kind_of p.code ≡ k → Reads g (One k ∷ []) (p ∷ [])
reads-kind g k p e = reads-one g (One k) (p ∷ []) (one_of k p e)

pub reads-kind_gap : (g : Grammar) (k : Kind) (p : Placed) → kind_of p.code ≡ k → Reads g (One k ∷ Gap ∷ []) (p ∷ [])
reads-kind_gap g k p e = (p ∷ [], [], refl, one_of k p e, ([], [], refl, tt, refl))

pub gap-longer : (g : Grammar) (p : Placed) → has_blanks g ≡ true → kind_of p.code ≡ kind.Blank → (a : List Placed) → IsGap g a → IsGap g (a ++ p ∷ [])
gap-longer g p b e [] i = (b, e, tt)
gap-longer g p b e (q ∷ a) i = (i.0, i.1, gap-longer g p b e a i.2)

-- a piece in the middle is another
pub piece-became : (g : Grammar) (ks : List Piece) (k j : Piece) (js : List Piece) (cs : List Placed) → ((a : List Placed) → IsPiece g k a → IsPiece g j a) →
    Reads g (ks ++ k ∷ js) cs → Reads g (ks ++ j ∷ js) cs
piece-became g ks k j js cs turn r =
    let c = reads-cut g ks (k ∷ js) cs r in
    subst (Reads g (ks ++ j ∷ js)) (sym c.both)
    (reads-join g ks (j ∷ js) c.front c.back c.first (c.second.0, c.second.1, c.second.2, turn c.second.0 c.second.3, c.second.4))

pub codes-append : (a b : List Placed) → codes (a ++ b) ≡ codes a ++ codes b
codes-append [] b = refl
codes-append (p ∷ a) b = ap (λ cs. p.code ∷ cs) (codes-append a b)

pub length-codes : (a : List Placed) → length (codes a) ≡ length a
length-codes [] = refl
length-codes (p ∷ a) = ap suc (length-codes a)
