-- Lines fall into groups, one after the other.
use Rattle.std.proofs.Common.{◌≡◌, ◌∙◌, ℕ, ◌+◌, ◌<◌, true, false, cond, List, [], ◌∷◌, ◌++◌, length, refl, sym, ap, arith, append-nil, append_assoc, drop, map, get_or-drop}
use Rattle.std.specs.Prelude.{slice_index_or, chars}
use Rattle.std.proofs.lemmas.List.{nil_from_length, length-map, map-append}
use Rattle.hl_base.specs.Texts.{lines}
use Rattle.std.specs.List.{AllByRecursion, onto_first}
use Rattle.hlasm_statements.specs.declared.statement.Statement.{Statement}
use Rattle.hlasm_statements.specs.Columns.{is_ink, is_marked, groups, body_of}
use Rattle.hlasm_statements.specs.Faults.{ends_marked}
use Rattle.hlasm_statements.specs.Statements.{statement_of, statements_from, statements_of}
use Rattle.hlasm_statements.specs.Building.{whole_statement}
use Rattle.hlasm_statements.specs.Reading.{bodies_of}
use Rattle.std.specs.Borrow.{Bor}

-- each of these lines goes on in the next
abbrev pub AllMarked : List (List ℕ) → Type 0
AllMarked lines = AllByRecursion (λ line. is_marked line ≡ true) lines

pub groups-unmarked : (lines : List (List ℕ)) (line : List ℕ) (rest : List (List ℕ)) → AllMarked lines → is_marked line ≡ false → groups (lines ++ line ∷ rest) ≡ (lines ++ line ∷ []) ∷ groups rest
groups-unmarked [] line rest marked last = ap (λ b. cond b (onto_first line (groups rest)) ((line ∷ []) ∷ groups rest)) last
groups-unmarked (first ∷ lines) line rest marked last =
    ap (λ b. cond b (onto_first first (groups (lines ++ line ∷ rest))) ((first ∷ []) ∷ groups (lines ++ line ∷ rest))) marked.0
    ∙ ap (onto_first first) (groups-unmarked lines line rest marked.1 last)

pub groups-marked : (line : List ℕ) (lines : List (List ℕ)) → AllMarked (line ∷ lines) → groups (line ∷ lines) ≡ (line ∷ lines) ∷ []
groups-marked line [] marked = ap (λ b. cond b ((line ∷ []) ∷ []) ((line ∷ []) ∷ [])) marked.0
groups-marked line (next ∷ lines) marked =
    ap (λ b. cond b (onto_first line (groups (next ∷ lines))) ((line ∷ []) ∷ groups (next ∷ lines))) marked.0
    ∙ ap (onto_first line) (groups-marked next lines marked.1)

pub ends_marked-push : (lines : List (List ℕ)) (line : List ℕ) → ends_marked (lines ++ line ∷ []) ≡ is_marked line
ends_marked-push [] line = refl
ends_marked-push (first ∷ []) line = refl
ends_marked-push (first ∷ next ∷ lines) line = ends_marked-push (next ∷ lines) line

pub ends_marked-all : (line : List ℕ) (lines : List (List ℕ)) → AllMarked (line ∷ lines) → ends_marked (line ∷ lines) ≡ true
ends_marked-all line [] marked = marked.0
ends_marked-all line (next ∷ lines) marked = ends_marked-all next lines marked.1

pub AllMarked-push : (lines : List (List ℕ)) (line : List ℕ) → AllMarked lines → is_marked line ≡ true → AllMarked (lines ++ line ∷ [])
AllMarked-push [] line marked last = (last, tt)
AllMarked-push (first ∷ lines) line marked last = (marked.0, AllMarked-push lines line marked.1 last)

-- the statement of lines by their columns 1 to 71
pub statement-whole : (number : ℕ) (group : List (List ℕ)) → statement_of number group ≡ whole_statement number (ends_marked group) (map body_of group)
unfolding statement_of
statement-whole number group = refl

-- these statements and those of the lines of these bodies and of what is left are the whole
pub record Reads (statements : List Statement) (number : ℕ) (bodies : List (Bor (List ℕ))) (left : List (List ℕ)) (whole : List Statement) : Type 0 where
  pub lines : List (List ℕ)
  pub same : bodies_of bodies ≡ map body_of lines
  pub marked : AllMarked lines
  pub rest : statements ++ statements_from number (groups (lines ++ left)) ≡ whole

pub reads-init : (statements : List Statement) (bodies : List (Bor (List ℕ))) (left : List (List ℕ)) (text : List ℕ) → statements ≡ [] → bodies ≡ [] → left ≡ lines text → Reads statements 0 bodies left (statements_of text)
reads-init statements bodies left text none empty all = record {
  lines = [];
  same = ap bodies_of empty;
  marked = tt;
  rest = ap (λ front. front ++ statements_from 0 (groups left)) none ∙ ap (λ xs. statements_from 0 (groups xs)) all;
}

bodies-push : (bodies grown : List (Bor (List ℕ))) (body : Bor (List ℕ)) (lines : List (List ℕ)) (line : List ℕ) → grown ≡ bodies ++ body ∷ [] → bodies_of bodies ≡ map body_of lines → chars body.now ≡ body_of line
    → bodies_of grown ≡ map body_of (lines ++ line ∷ [])
bodies-push bodies grown body lines line grows same is =
    ap bodies_of grows ∙ map-append (λ (b : Bor (List ℕ)). chars b.now) bodies (body ∷ []) ∙ ap (λ xs. xs ++ chars body.now ∷ []) same
    ∙ ap (λ b. map body_of lines ++ b ∷ []) is ∙ sym (map-append body_of lines (line ∷ []))

-- a line that goes on in the next
pub reads-line : (statements : List Statement) (number : ℕ) (bodies grown : List (Bor (List ℕ))) (left after : List (List ℕ)) (whole : List Statement) (line : List ℕ) (body : Bor (List ℕ)) → Reads statements number bodies left whole → left ≡ line ∷ after
    → is_marked line ≡ true → chars body.now ≡ body_of line → grown ≡ bodies ++ body ∷ [] → Reads statements number grown after whole
reads-line statements number bodies grown left after whole line body reads next marked is grows = record {
  lines = reads.lines ++ line ∷ [];
  same = bodies-push bodies grown body reads.lines line grows reads.same is;
  marked = AllMarked-push reads.lines line reads.marked marked;
  rest =
      ap (λ xs. statements ++ statements_from number (groups xs)) (append_assoc reads.lines (line ∷ []) after ∙ ap (λ xs. reads.lines ++ xs) (sym next))
      ∙ reads.rest;
}

-- a line that ends a statement
pub reads-statement : (statements more : List Statement) (number behind : ℕ) (bodies grown fresh : List (Bor (List ℕ))) (left after : List (List ℕ)) (whole : List Statement) (line : List ℕ) (body : Bor (List ℕ)) (made : Statement) → Reads statements number bodies left whole → left ≡ line ∷ after
    → is_marked line ≡ false → chars body.now ≡ body_of line → grown ≡ bodies ++ body ∷ [] → made ≡ whole_statement number false (bodies_of grown) → more ≡ statements ++ made ∷ [] → behind ≡ number + length grown → fresh ≡ []
    → Reads more behind fresh after whole
reads-statement statements more number behind bodies grown fresh left after whole line body made reads next ends is grows made_is adds behind_is empty =
    let group = reads.lines ++ line ∷ [] in
    let bodies_are : bodies_of grown ≡ map body_of group = bodies-push bodies grown body reads.lines line grows reads.same is in
    let count : length grown ≡ length group = sym (length-map grown (λ (b : Bor (List ℕ)). chars b.now)) ∙ ap length bodies_are ∙ length-map group body_of in
    let whole_is : made ≡ statement_of number group =
    made_is ∙ ap (whole_statement number false) bodies_are ∙ ap (λ b. whole_statement number b (map body_of group)) (sym (ends_marked-push reads.lines line ∙ ends)) ∙ sym (statement-whole number group) in
    record {
      lines = [];
      same = ap bodies_of empty;
      marked = tt;
      rest =
          ap (λ xs. xs ++ statements_from behind (groups after)) adds
          ∙ append_assoc statements (made ∷ []) (statements_from behind (groups after))
          ∙ ap (λ s. statements ++ s ∷ statements_from behind (groups after)) whole_is
          ∙ ap (λ n. statements ++ statement_of number group ∷ statements_from n (groups after)) (behind_is ∙ ap (λ n. number + n) count)
          ∙ ap (λ xs. statements ++ statements_from number xs) (sym (groups-unmarked reads.lines line after reads.marked ends))
          ∙ ap (λ xs. statements ++ statements_from number (groups (reads.lines ++ xs))) (sym next)
          ∙ reads.rest;
    }

-- a line alone
pub reads-alone : (statements more : List Statement) (number behind : ℕ) (bodies : List (Bor (List ℕ))) (left after : List (List ℕ)) (whole : List Statement) (line : List ℕ) (body : Bor (List ℕ)) (made : Statement) → Reads statements number bodies left whole → left ≡ line ∷ after
    → length bodies ≡ 0 → is_marked line ≡ false → chars body.now ≡ body_of line → made ≡ whole_statement number false (chars body.now ∷ []) → more ≡ statements ++ made ∷ [] → behind ≡ number + 1
    → Reads more behind bodies after whole
reads-alone statements more number behind bodies left after whole line body made reads next none ends is made_is adds behind_is =
    let empty : bodies ≡ [] = nil_from_length bodies none in
    reads-statement statements more number behind bodies (body ∷ []) bodies left after whole line body made reads next ends is (ap (λ b. b ++ body ∷ []) (sym empty)) made_is adds behind_is empty

none_waits : (bodies : List (Bor (List ℕ))) (lines : List (List ℕ)) → bodies_of bodies ≡ map body_of lines → length bodies ≡ 0 → lines ≡ []
none_waits bodies lines same none =
    nil_from_length lines (sym (length-map lines body_of) ∙ ap length (sym same) ∙ length-map bodies (λ (b : Bor (List ℕ)). chars b.now) ∙ none)

-- at the end, where no line waits
pub reads-end : (statements : List Statement) (number : ℕ) (bodies : List (Bor (List ℕ))) (left : List (List ℕ)) (whole : List Statement) → Reads statements number bodies left whole → left ≡ [] → length bodies ≡ 0 → statements ≡ whole
reads-end statements number bodies left whole reads end none =
    sym (append-nil statements)
    ∙ ap (λ xs. statements ++ statements_from number (groups xs)) (sym (ap (λ xs. xs ++ left) (none_waits bodies reads.lines reads.same none) ∙ end))
    ∙ reads.rest

waiting : (statements : List Statement) (whole : List Statement) (number : ℕ) (bodies : List (Bor (List ℕ))) (lines : List (List ℕ)) (made : Statement) → 0 < length bodies → bodies_of bodies ≡ map body_of lines → AllMarked lines → made ≡ whole_statement number true (bodies_of bodies)
    → statements ++ statements_from number (groups lines) ≡ whole → statements ++ made ∷ [] ≡ whole
waiting statements whole number bodies [] made some same marked made_is rest =
    absurd (omega (arith, some, length-map bodies (λ (b : Bor (List ℕ)). chars b.now), ap length same))
waiting statements whole number bodies (line ∷ lines) made some same marked made_is rest =
    ap (λ s. statements ++ s ∷ [])
    (made_is ∙ ap (whole_statement number true) same ∙ ap (λ b. whole_statement number b (map body_of (line ∷ lines))) (sym (ends_marked-all line lines marked)) ∙ sym (statement-whole number (line ∷ lines)))
    ∙ ap (λ xs. statements ++ statements_from number xs) (sym (groups-marked line lines marked))
    ∙ rest

-- at the end, where lines wait for one that does not come
pub reads-last : (statements grown : List Statement) (number : ℕ) (bodies : List (Bor (List ℕ))) (left : List (List ℕ)) (whole : List Statement) (made : Statement) → Reads statements number bodies left whole → left ≡ [] → 0 < length bodies
    → made ≡ whole_statement number true (bodies_of bodies) → grown ≡ statements ++ made ∷ [] → grown ≡ whole
reads-last statements grown number bodies left whole made reads end some made_is grows =
    grows ∙ waiting statements whole number bodies reads.lines made some reads.same reads.marked made_is
    (ap (λ xs. statements ++ statements_from number (groups xs)) (sym (ap (λ xs. reads.lines ++ xs) end ∙ append-nil reads.lines)) ∙ reads.rest)

-- the mark of a line, behind its text
pub marked_behind : (line behind : List ℕ) → behind ≡ drop 71 line → is_ink (slice_index_or behind 0 32) ≡ is_marked line
marked_behind line behind e = ap (λ xs. is_ink (slice_index_or xs 0 32)) e ∙ ap is_ink (get_or-drop 71 line 0 32)
