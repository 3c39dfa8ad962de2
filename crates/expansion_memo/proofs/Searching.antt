-- Going through the places of a number, from the last to the first.
use Rattle.std.proofs.Common.{◌≡◌, ℕ, suc, ◌<◌, ◌≤◌, List, Option, Some, None, length, get_or, take, sym, ap, ◌∙◌, inl, inr, subst, arith}
use Rattle.std.proofs.Math.Seq.{take-length}
use Rattle.std.proofs.lemmas.Bool.{cases_lt, cases_eq}
use Rattle.expansion_memo.specs.Latest.{latest}
use Rattle.expansion_memo.proofs.LatestLaws.{latest_some, latest_none}

-- how many places are left at most
abbrev pub left : Option ℕ → ℕ
left None = 0
left (Some i) = suc i

-- what is left is the last place below a bound, and from there on none has what is looked for
pub record Searched (numbers : List ℕ) (number : ℕ) (P : ℕ → Type 0) (next : Option ℕ) : Type 0 where
  pub bound : ℕ
  pub next_is : next ≡ latest number (take bound numbers)
  pub none : (j : ℕ) → bound ≤ j → get_or numbers j 0 ≡ number → P j → ⊥

module _ (numbers : List ℕ) (number : ℕ) (P : ℕ → Type 0) (inside : (j : ℕ) → P j → j < length numbers) where
  pub search_start : (next : Option ℕ) → next ≡ latest number numbers → Searched numbers number P next
  search_start next is = record {
    bound = length numbers;
    next_is = is ∙ ap (latest number) (sym (take-length numbers));
    none = λ j le at p. let lt = inside j p in absurd (omega arith);
  }

  pub search_place : (i : ℕ) → Searched numbers number P (Some i) → (i < length numbers) × (get_or numbers i 0 ≡ number)
  search_place i s = let l = latest_some number s.bound numbers i (sym s.next_is) in (l.inside, l.at)

  behind : (i : ℕ) (s : Searched numbers number P (Some i)) → (P i → ⊥) → (j : ℕ) → i ≤ j → get_or numbers j 0 ≡ number → P j → ⊥
  behind i s fails j le at p =
      let l = latest_some number s.bound numbers i (sym s.next_is) in
      elim (cases_eq i j) [
        | inl e ↦ fails (subst P (sym e) p)
        | inr ne ↦ elim (cases_lt j s.bound) [
          | inl lt ↦ l.later j (omega arith) lt (inside j p) at
          | inr ge ↦ s.none j ge at p
        ]
      ]

  pub search_next : (i : ℕ) (next : Option ℕ) → Searched numbers number P (Some i) → (P i → ⊥) →
      next ≡ latest (get_or numbers i 0) (take i numbers) → Searched numbers number P next
  search_next i next s fails is = record {
    bound = i;
    next_is = is ∙ ap (λ q. latest q (take i numbers)) (search_place i s).1;
    none = behind i s fails;
  }

  pub search_smaller : (q i : ℕ) (next : Option ℕ) → next ≡ latest q (take i numbers) → left next < suc i
  search_smaller q i None is = omega arith
  search_smaller q i (Some k) is = let l = latest_some q i numbers k (sym is) in let lt = l.below in omega arith

  pub search_end : Searched numbers number P None → (j : ℕ) → get_or numbers j 0 ≡ number → P j → ⊥
  search_end s j at p =
      elim (cases_lt j s.bound) [
        | inl lt ↦ latest_none number s.bound numbers (sym s.next_is) j lt (inside j p) at
        | inr ge ↦ s.none j ge at p
      ]
