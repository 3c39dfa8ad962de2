-- The last place of a number.
use Rattle.std.proofs.Common.{◌≡◌, ℕ, zero, suc, ◌<◌, ◌==◌, Bool, true, false, cond, List, [], ◌∷◌, ◌++◌, Option, Some, None, length, get_or, take, refl, sym, ap, ◌∙◌, subst, append_assoc, append-nil, eqb-true, eq-eqb, arith}
use Rattle.expansion_memo.specs.declared.number_index.Link.{Link}
use Rattle.expansion_memo.specs.Latest.{latest, later_or}
use Rattle.expansion_memo.specs.Links.{numbers_of, AreLinked}

push_step : (o : Option ℕ) (p m : Bool) (k : ℕ) → later_or (cond p (Some k) o) m ≡ cond p (Some (suc k)) (later_or o m)
push_step o true m k = refl
push_step o false m k = refl

-- the last place in a list with one number more
pub latest-push : (q : ℕ) (ns : List ℕ) (n : ℕ) → latest q (ns ++ n ∷ []) ≡ cond (n == q) (Some (length ns)) (latest q ns)
latest-push q [] n = refl
latest-push q (m ∷ ns) n = ap (λ o. later_or o (m == q)) (latest-push q ns n) ∙ push_step (latest q ns) (n == q) (m == q) (length ns)

-- one link more
pub linked_push : (seen : List ℕ) (ls : List Link) (l : Link) → AreLinked seen ls → l.before ≡ latest l.number (seen ++ numbers_of ls) →
    AreLinked seen (ls ++ l ∷ [])
linked_push seen [] l linked is = (is ∙ ap (latest l.number) (append-nil seen), tt)
linked_push seen (m ∷ ls) l linked is =
    (linked.0, linked_push (seen ++ m.number ∷ []) ls l linked.1 (is ∙ ap (latest l.number) (sym (append_assoc seen (m.number ∷ []) (numbers_of ls)))))

-- where a link leads
pub linked_at : (seen : List ℕ) (ls : List Link) (i : ℕ) (l : Link) → i < length ls → l ≡ get_or ls i l → AreLinked seen ls →
    l.before ≡ latest l.number (seen ++ take i (numbers_of ls))
linked_at seen [] i l lt at linked = absurd (omega arith)
linked_at seen (m ∷ ls) zero l lt at linked =
    ap (λ (x : Link). x.before) at ∙ linked.0 ∙ ap (λ (x : Link). latest x.number seen) (sym at) ∙ ap (latest l.number) (sym (append-nil seen))
linked_at seen (m ∷ ls) (suc i) l lt at linked =
    linked_at (seen ++ m.number ∷ []) ls i l (omega arith) at linked.1
    ∙ ap (latest l.number) (append_assoc seen (m.number ∷ []) (take i (numbers_of ls)))

pub number_at : (ls : List Link) (i : ℕ) (l : Link) → i < length ls → l ≡ get_or ls i l → get_or (numbers_of ls) i 0 ≡ l.number
number_at [] i l lt at = absurd (omega arith)
number_at (m ∷ ls) zero l lt at = ap (λ (x : Link). x.number) (sym at)
number_at (m ∷ ls) (suc i) l lt at = number_at ls i l (omega arith) at

none_step : (q b n : ℕ) (ns : List ℕ) (o : Option ℕ) (t : Bool) → (n == q) ≡ t →
    (o ≡ None → (j : ℕ) → j < b → j < length ns → get_or ns j 0 ≡ q → ⊥) →
    later_or o t ≡ None → (j : ℕ) → j < suc b → j < length (n ∷ ns) → get_or (n ∷ ns) j 0 ≡ q → ⊥
none_step q b n ns (Some k) t et rest is j lt inside at = cc
none_step q b n ns None true et rest is j lt inside at = cc
none_step q b n ns None false et rest is zero lt inside at = let e : n ≡ q = at in let t = eq-eqb n q e in cc
none_step q b n ns None false et rest is (suc j) lt inside at = rest refl j (omega arith) (omega arith) at

-- where there is none, it stands nowhere
pub latest_none : (q b : ℕ) (ns : List ℕ) → latest q (take b ns) ≡ None → (j : ℕ) → j < b → j < length ns → get_or ns j 0 ≡ q → ⊥
latest_none q zero ns is j lt inside at = omega arith
latest_none q (suc b) [] is j lt inside at = omega arith
latest_none q (suc b) (n ∷ ns) is j lt inside at =
    none_step q b n ns (latest q (take b ns)) (n == q) refl (latest_none q b ns) is j lt inside at

-- the place is the last below a bound that has the number
pub record IsLatest (q b : ℕ) (ns : List ℕ) (i : ℕ) : Type 0 where
  pub below : i < b
  pub inside : i < length ns
  pub at : get_or ns i 0 ≡ q
  pub later : (j : ℕ) → i < j → j < b → j < length ns → get_or ns j 0 ≡ q → ⊥

later_step : (q b n : ℕ) (ns : List ℕ) (k : ℕ) → IsLatest q b ns k → (j : ℕ) → suc k < j → j < suc b → j < length (n ∷ ns) → get_or (n ∷ ns) j 0 ≡ q → ⊥
later_step q b n ns k h zero more lt inside at = omega arith
later_step q b n ns k h (suc j) more lt inside at = h.later j (omega arith) (omega arith) (omega arith) at

later_zero : (q b n : ℕ) (ns : List ℕ) → ((j : ℕ) → j < b → j < length ns → get_or ns j 0 ≡ q → ⊥) →
    (j : ℕ) → 0 < j → j < suc b → j < length (n ∷ ns) → get_or (n ∷ ns) j 0 ≡ q → ⊥
later_zero q b n ns none zero more lt inside at = omega arith
later_zero q b n ns none (suc j) more lt inside at = none j (omega arith) (omega arith) at

some_step : (q b n : ℕ) (ns : List ℕ) (o : Option ℕ) (t : Bool) → (n == q) ≡ t →
    ((k : ℕ) → o ≡ Some k → IsLatest q b ns k) →
    (o ≡ None → (j : ℕ) → j < b → j < length ns → get_or ns j 0 ≡ q → ⊥) →
    (i : ℕ) → later_or o t ≡ Some i → IsLatest q (suc b) (n ∷ ns) i
some_step q b n ns (Some k) t et found none i is =
    let e : suc k ≡ i = cc in
    let h = found k refl in
    let P : ℕ → Type 0 = IsLatest q (suc b) (n ∷ ns) in
    subst P e (record { below = (let x = h.below in omega arith); inside = (let x = h.inside in omega arith); at = h.at; later = later_step q b n ns k h })
some_step q b n ns None true et found none i is =
    let e : 0 ≡ i = cc in
    let P : ℕ → Type 0 = IsLatest q (suc b) (n ∷ ns) in
    subst P e (record { below = omega arith; inside = omega arith; at = eqb-true n q et; later = later_zero q b n ns (none refl) })
some_step q b n ns None false et found none i is = cc

pub latest_some : (q b : ℕ) (ns : List ℕ) (i : ℕ) → latest q (take b ns) ≡ Some i → IsLatest q b ns i
latest_some q zero ns i is = cc
latest_some q (suc b) [] i is = cc
latest_some q (suc b) (n ∷ ns) i is =
    some_step q b n ns (latest q (take b ns)) (n == q) refl (latest_some q b ns) (latest_none q b ns) i is
