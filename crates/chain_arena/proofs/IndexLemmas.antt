-- The same over heads and neighbours as they lie in memory.
use Rattle.std.proofs.Common.{◌≡◌, ℕ, zero, suc, ◌+◌, ◌-◌, ◌<◌, ◌≤◌, List, [], ◌∷◌, ◌++◌, Option, Some, None, length, max, Result, Ok, Err, OnOk, OnErr, refl, sym, ap, subst, ◌∙◌, arith}
use Rattle.std.specs.Prelude.{slice_set, slice_index_or}
use Rattle.std.proofs.Math.Path.{fun_ext}
use Rattle.std.proofs.Math.ListN.{get_or-map}
use Rattle.std.proofs.lemmas.List.{get_or-set_same, get_or-set_other, length-set, length-map}
use Rattle.std.proofs.lemmas.Option.{same_Some}
use Rattle.chain_arena.specs.Lists.{list_at, IsIn, first_of, after, without, SameLists, Changes}
use Rattle.chain_arena.specs.Index.{Lists, IsReady, IsUnlisted, at, no_head, head_at, walk, list_of, lists_of, pointed, choose, IsSound, IsIndex}
use Rattle.chain_arena.specs.declared.index.Head.{Head}
use Rattle.chain_arena.proofs.PathLemmas.{Written, path_after, chain_first}
use Rattle.chain_arena.proofs.SoundLemmas.{Holds, Headed, replaced, replaced-here, replaced-there, last_listed, push_holds, before_listed, behind_listed, remove_holds, removed_unlisted}

pub length-pointed : (links : List (Option ℕ)) (from to : Option ℕ) → length (pointed links from to) ≡ length links
length-pointed links None to = refl
length-pointed links (Some x) to = length-set links x to

pub Written-pointed : (links : List (Option ℕ)) (from to : Option ℕ) → ((x : ℕ) → from ≡ Some x → x < length links) →
    Written (at links) (at (pointed links from to)) from to
Written-pointed links None to within = record { here = λ x e. absurd (cc); elsewhere = λ x n. refl }
Written-pointed links (Some y) to within = record {
  here = λ x e. ap (at (slice_set links y to)) (sym (same_Some y x e)) ∙ get_or-set_same links y to None (within y refl);
  elsewhere = λ x n. get_or-set_other links y x to None (λ e. n (ap Some (sym e)));
}

pub Headed-set : (heads : List Head) (k : ℕ) (head : Head) → k < length heads →
    Headed (head_at heads) (head_at (slice_set heads k head)) k head
Headed-set heads k head within = record {
  here = get_or-set_same heads k head no_head within;
  elsewhere = λ n d. get_or-set_other heads k n head no_head d;
}

-- the list of a number is that of its head
pub list_at-lists_of : (heads : List Head) (nexts : List (Option ℕ)) (n : ℕ) →
    list_at (lists_of heads nexts).lists n ≡ list_of (at nexts) (head_at heads n)
unfolding walk
list_at-lists_of heads nexts n = get_or-map (list_of (at nexts)) heads n no_head

pub length-lists_of : (heads : List Head) (nexts : List (Option ℕ)) → length (lists_of heads nexts).lists ≡ length heads
length-lists_of heads nexts = length-map heads (list_of (at nexts))

-- more heads of empty lists, and more neighbours that are none, change no list
pub IsIndex-grown : (heads more_heads : List Head) (nexts more_nexts previous more_previous : List (Option ℕ)) →
    ((n : ℕ) → head_at more_heads n ≡ head_at heads n) → ((x : ℕ) → at more_nexts x ≡ at nexts x) →
    ((x : ℕ) → at more_previous x ≡ at previous x) → length nexts ≤ length more_nexts →
    length more_nexts ≤ length more_previous → IsIndex heads nexts previous → IsIndex more_heads more_nexts more_previous
IsIndex-grown heads more_heads nexts more_nexts previous more_previous same_heads same_nexts same_previous more enough index =
    let h : head_at heads ≡ head_at more_heads = fun_ext (λ n. sym (same_heads n)) in
    let n : at nexts ≡ at more_nexts = fun_ext (λ x. sym (same_nexts x)) in
    let p : at previous ≡ at more_previous = fun_ext (λ x. sym (same_previous x)) in
    let wide : IsSound (head_at heads) (at nexts) (at previous) (length more_nexts) =
    record {
      chains = index.sound.chains;
      lens = index.sound.lens;
      apart = index.sound.apart;
      in_range = λ k x i. widened (index.sound.in_range k x i) more;
    } in
    record {
      sound = subst (λ (f : ℕ → Head). IsSound f (at more_nexts) (at more_previous) (length more_nexts)) h
          (subst (λ (f : ℕ → Option ℕ). IsSound (head_at heads) f (at more_previous) (length more_nexts)) n
          (subst (λ (f : ℕ → Option ℕ). IsSound (head_at heads) (at nexts) f (length more_nexts)) p wide));
      enough = enough;
    }
  where
    widened : {a b c : ℕ} → a < b → b ≤ c → a < c
    widened one two = omega arith

pub SameLists-grown : (heads more_heads : List Head) (nexts more_nexts : List (Option ℕ)) →
    ((n : ℕ) → head_at more_heads n ≡ head_at heads n) → ((x : ℕ) → at more_nexts x ≡ at nexts x) →
    SameLists (lists_of heads nexts).lists (lists_of more_heads more_nexts).lists
SameLists-grown heads more_heads nexts more_nexts same_heads same_nexts = λ n.
    let f : at more_nexts ≡ at nexts = fun_ext same_nexts in
    list_at-lists_of more_heads more_nexts n ∙ ap (λ (g : ℕ → Option ℕ). list_of g (head_at more_heads n)) f
    ∙ ap (list_of (at nexts)) (same_heads n) ∙ sym (list_at-lists_of heads nexts n)

-- a number with something in its list has a list
covered_from : (lists : List (List ℕ)) (k i : ℕ) → IsIn i (list_at lists k) → k < length lists
covered_from [] k i listed = absurd listed
covered_from (xs ∷ lists) zero i listed = omega arith
covered_from (xs ∷ lists) (suc k) i listed = omega (arith, covered_from lists k i listed)

-- from the functions to what lies in memory
changes_from : (heads new_heads : List Head) (nexts new_nexts new_previous : List (Option ℕ)) (k : ℕ) (xs : List ℕ) →
    Holds (head_at new_heads) (at new_nexts) (at new_previous) (length nexts)
    (replaced (λ n. list_of (at nexts) (head_at heads n)) k xs) →
    Changes (lists_of heads nexts).lists (lists_of new_heads new_nexts).lists k xs
changes_from heads new_heads nexts new_nexts new_previous k xs held = record {
  changed = list_at-lists_of new_heads new_nexts k ∙ held.same k ∙ replaced-here (λ n. list_of (at nexts) (head_at heads n)) k xs k refl;
  others = λ m d. list_at-lists_of new_heads new_nexts m ∙ held.same m
      ∙ replaced-there (λ n. list_of (at nexts) (head_at heads n)) k xs m d ∙ sym (list_at-lists_of heads nexts m);
}

index_from : (heads new_heads : List Head) (nexts new_nexts new_previous : List (Option ℕ)) (lists : ℕ → List ℕ) →
    Holds (head_at new_heads) (at new_nexts) (at new_previous) (length nexts) lists → length new_nexts ≡ length nexts →
    length nexts ≤ length new_previous → IsIndex new_heads new_nexts new_previous
index_from heads new_heads nexts new_nexts new_previous lists held len enough = record {
  sound = subst (IsSound (head_at new_heads) (at new_nexts) (at new_previous)) (sym len) held.sound;
  enough = omega (arith, len, enough);
}

-- what `push_last` leaves of these lists
pub record Pushed (value : Lists) (k i : ℕ) (heads : List Head) (nexts previous : List (Option ℕ)) : Type 0 where
  pub index : IsIndex heads nexts previous
  pub changes : Changes value.lists (lists_of heads nexts).lists k (list_at value.lists k ++ i ∷ [])

-- what `remove` leaves of these lists
pub record Removed (value : Lists) (k i : ℕ) (heads : List Head) (nexts previous : List (Option ℕ)) : Type 0 where
  pub index : IsIndex heads nexts previous
  pub changes : Changes value.lists (lists_of heads nexts).lists k (without i (list_at value.lists k))
  pub unlisted : IsUnlisted (lists_of heads nexts) i

-- what is read within a list, whatever stands behind its end
pub head_is : (heads : List Head) (k : ℕ) (head : Head) → k < length heads → head ≡ slice_index_or heads k head → head ≡ head_at heads k
head_is heads k head within read = read ∙ same_within heads k head no_head within
  where
    same_within : {X : Type 0} (xs : List X) (k : ℕ) (d e : X) → k < length xs → slice_index_or xs k d ≡ slice_index_or xs k e
    same_within [] k d e within = absurd (omega arith)
    same_within (x ∷ xs) zero d e within = refl
    same_within (x ∷ xs) (suc k) d e within = same_within xs k d e (omega arith)

pub link_is : (links : List (Option ℕ)) (k : ℕ) (link : Option ℕ) → k < length links → link ≡ slice_index_or links k link → link ≡ at links k
link_is links k link within read = read ∙ same_within links k link None within
  where
    same_within : {X : Type 0} (xs : List X) (k : ℕ) (d e : X) → k < length xs → slice_index_or xs k d ≡ slice_index_or xs k e
    same_within [] k d e within = absurd (omega arith)
    same_within (x ∷ xs) zero d e within = refl
    same_within (x ∷ xs) (suc k) d e within = same_within xs k d e (omega arith)

module _ (heads : List Head) (nexts previous : List (Option ℕ)) (made : IsIndex heads nexts previous) (k i : ℕ) where
  -- the head that `push_last` writes, and the one that `remove` writes
  abbrev pub pushed : Head
  pushed = record {
    first = choose (head_at heads k).last (Some i) (head_at heads k).first;
    last = Some i;
    len = (head_at heads k).len + 1;
  }

  abbrev pub left : Head
  left = record {
    first = choose (at previous i) (at nexts i) (head_at heads k).first;
    last = choose (at nexts i) (at previous i) (head_at heads k).last;
    len = (head_at heads k).len - 1;
  }

  pub last_within : (x : ℕ) → (head_at heads k).last ≡ Some x → x < length nexts
  last_within x e =
      made.sound.in_range k x
      (last_listed (head_at heads) (at nexts) (at previous) (length nexts) made.sound k i (head_at heads) (at nexts) (at previous) x e)

  pub len_is : length (list_at (lists_of heads nexts).lists k) ≡ (head_at heads k).len
  len_is = ap length (list_at-lists_of heads nexts k) ∙ made.sound.lens k

  pub push_step : IsReady (lists_of heads nexts) k i → IsUnlisted (lists_of heads nexts) i →
      Pushed (lists_of heads nexts) k i (slice_set heads k pushed) (pointed (pointed nexts (Some i) None) (head_at heads k).last (Some i))
      (pointed previous (Some i) (head_at heads k).last)
  push_step ready unlisted =
      let here : k < length heads = omega (arith, ready.covered, length-lists_of heads nexts) in
      let held : Holds (head_at (slice_set heads k pushed)) (at (pointed (pointed nexts (Some i) None) (head_at heads k).last (Some i)))
      (at (pointed previous (Some i) (head_at heads k).last)) (length nexts)
      (replaced (λ n. list_of (at nexts) (head_at heads n)) k (list_of (at nexts) (head_at heads k) ++ i ∷ [])) =
      push_holds (head_at heads) (at nexts) (at previous) (length nexts) made.sound k i
      (head_at (slice_set heads k pushed)) (at (pointed (pointed nexts (Some i) None) (head_at heads k).last (Some i)))
      (at (pointed previous (Some i) (head_at heads k).last)) (at (pointed nexts (Some i) None))
      (λ n j. unlisted n (subst (IsIn i) (sym (list_at-lists_of heads nexts n)) j)) ready.room
      (Headed-set heads k pushed here)
      (Written-pointed nexts (Some i) None (λ x e. subst (λ (z : ℕ). z < length nexts) (same_Some i x e) ready.room))
      (Written-pointed (pointed nexts (Some i) None) (head_at heads k).last (Some i)
      (λ x e. omega (arith, last_within x e, length-pointed nexts (Some i) None)))
      (Written-pointed previous (Some i) (head_at heads k).last
      (λ x e. room_behind x (same_Some i x e) ready.room made.enough)) in
      record {
        index = index_from heads (slice_set heads k pushed) nexts _ _ _ held
            (length-pointed (pointed nexts (Some i) None) (head_at heads k).last (Some i) ∙ length-pointed nexts (Some i) None)
            (omega (arith, made.enough, length-pointed previous (Some i) (head_at heads k).last));
        changes = subst (λ (xs : List ℕ). Changes (lists_of heads nexts).lists (lists_of (slice_set heads k pushed) (pointed (pointed nexts (Some i) None) (head_at heads k).last (Some i))).lists k (xs ++ i ∷ []))
            (sym (list_at-lists_of heads nexts k)) (changes_from heads (slice_set heads k pushed) nexts _ _ k _ held);
      }
    where
      room_behind : (x : ℕ) → i ≡ x → i < length nexts → length nexts ≤ length previous → x < length previous
      room_behind x e one two = omega arith

  module _ (listed : IsIn i (list_at (lists_of heads nexts).lists k)) where
    listed_there : IsIn i (list_of (at nexts) (head_at heads k))
    listed_there = subst (IsIn i) (list_at-lists_of heads nexts k) listed

    pub listed_within : i < length nexts
    listed_within = made.sound.in_range k i listed_there

    pub before_within : (x : ℕ) → at previous i ≡ Some x → x < length nexts
    before_within x e =
        made.sound.in_range k x
        (before_listed (head_at heads) (at nexts) (at previous) (length nexts) made.sound k i (head_at heads) (at nexts) (at previous) listed_there x e)

    pub behind_within : (x : ℕ) → at nexts i ≡ Some x → x < length previous
    behind_within x e =
        omega (
          arith,
          made.enough,
          made.sound.in_range k x
              (behind_listed (head_at heads) (at nexts) (at previous) (length nexts) made.sound k i (head_at heads) (at nexts) (at previous) listed_there x e),
        )

    pub list_covered : k < length heads
    list_covered = omega (arith, length-lists_of heads nexts, covered_from (lists_of heads nexts).lists k i listed)

    pub one_counted : 0 < (head_at heads k).len
    one_counted = some_len _ len_is listed
      where
        some_len : {n : ℕ} (xs : List ℕ) → length xs ≡ n → IsIn i xs → 0 < n
        some_len [] e j = absurd j
        some_len (x ∷ xs) e j = omega (arith, e)

    pub remove_step : Removed (lists_of heads nexts) k i (slice_set heads k left) (pointed nexts (at previous i) (at nexts i)) (pointed previous (at nexts i) (at previous i))
    remove_step =
        let held : Holds (head_at (slice_set heads k left)) (at (pointed nexts (at previous i) (at nexts i)))
        (at (pointed previous (at nexts i) (at previous i))) (length nexts)
        (replaced (λ n. list_of (at nexts) (head_at heads n)) k (without i (list_of (at nexts) (head_at heads k)))) =
        remove_holds (head_at heads) (at nexts) (at previous) (length nexts) made.sound k i
        (head_at (slice_set heads k left)) (at (pointed nexts (at previous i) (at nexts i)))
        (at (pointed previous (at nexts i) (at previous i))) listed_there
        (Headed-set heads k left list_covered)
        (Written-pointed nexts (at previous i) (at nexts i) before_within)
        (Written-pointed previous (at nexts i) (at previous i) behind_within) in
        record {
          index = index_from heads (slice_set heads k left) nexts _ _ _ held (length-pointed nexts (at previous i) (at nexts i))
              (omega (arith, made.enough, length-pointed previous (at nexts i) (at previous i)));
          changes = subst (λ (xs : List ℕ). Changes (lists_of heads nexts).lists (lists_of (slice_set heads k left) (pointed nexts (at previous i) (at nexts i))).lists k (without i xs))
              (sym (list_at-lists_of heads nexts k)) (changes_from heads (slice_set heads k left) nexts _ _ k _ held);
          unlisted = λ n j. removed_unlisted (head_at heads) (at nexts) (at previous) (length nexts) made.sound k i
              (head_at heads) (at nexts) (at previous) listed_there n
              (subst (IsIn i) (list_at-lists_of (slice_set heads k left) (pointed nexts (at previous i) (at nexts i)) n ∙ held.same n) j);
        }

    -- the neighbour of an index is the one behind it
    pub next_is : at nexts i ≡ after i (list_at (lists_of heads nexts).lists k)
    next_is =
        path_after (at nexts) (head_at heads k).first (list_of (at nexts) (head_at heads k)) i (made.sound.chains k).forward
        (made.sound.chains k).distinct listed_there
        ∙ ap (after i) (sym (list_at-lists_of heads nexts k))

  pub first_is : (head_at heads k).first ≡ first_of (list_at (lists_of heads nexts).lists k)
  first_is =
      chain_first (at nexts) (at previous) (head_at heads k).first (head_at heads k).last (list_of (at nexts) (head_at heads k)) (made.sound.chains k)
      ∙ ap first_of (sym (list_at-lists_of heads nexts k))

  -- the same of what the code reads and writes
  pub push_made : (value : Lists) (head : Head) (one two back : List (Option ℕ)) (first : Option ℕ) → lists_of heads nexts ≡ value →
      head ≡ head_at heads k → one ≡ pointed nexts (Some i) None → back ≡ pointed previous (Some i) head.last →
      two ≡ pointed one head.last (Some i) → first ≡ choose head.last (Some i) head.first → IsReady value k i → IsUnlisted value i →
      Pushed value k i (slice_set heads k (record { first = first; last = Some i; len = head.len + 1 })) two back
  push_made value head one two back first v h o b t f ready unlisted =
      rw (t, o, b, f, h, ← v)
      (push_step (subst (λ (u : Lists). IsReady u k i) (sym v) ready) (subst (λ (u : Lists). IsUnlisted u i) (sym v) unlisted))

  pub remove_made : (value : Lists) (head : Head) (before behind : Option ℕ) (nexts_after previous_after : List (Option ℕ)) (first last : Option ℕ) →
      lists_of heads nexts ≡ value → head ≡ head_at heads k → before ≡ at previous i → behind ≡ at nexts i →
      nexts_after ≡ pointed nexts before behind → previous_after ≡ pointed previous behind before →
      first ≡ choose before behind head.first → last ≡ choose behind before head.last → IsIn i (list_at value.lists k) →
      Removed value k i (slice_set heads k (record { first = first; last = last; len = head.len - 1 })) nexts_after previous_after
  remove_made value head before behind nexts_after previous_after first last v h b n na pa f l listed =
      rw (na, pa, f, l, b, n, h, ← v) (remove_step (subst (λ (u : Lists). IsIn i (list_at u.lists k)) (sym v) listed))

pub IsIndex-empty : IsIndex [] [] []
unfolding walk
IsIndex-empty = record {
  sound = record {
    chains = λ n. record { forward = refl; backward = refl; distinct = tt };
    lens = λ n. refl;
    apart = λ m n x i j. absurd i;
    in_range = λ n x i. absurd i;
  };
  enough = omega arith;
}

-- both lists of neighbours are made as long, the one that may be longer first
pub grown_within : {T E : Type 0} (nexts more_nexts previous more_previous : List (Option ℕ)) (result : Result T E) (len : ℕ) →
    length more_previous ≡ max (length previous) len → OnOk result (length more_nexts ≡ max (length nexts) len) →
    OnErr result (more_nexts ≡ nexts) → length nexts ≤ length previous →
    (length nexts ≤ length more_nexts) × (length more_nexts ≤ length more_previous)
grown_within nexts more_nexts previous more_previous (Ok _) len back ok err enough = (omega (arith, ok), omega (arith, back, ok))
grown_within nexts more_nexts previous more_previous (Err _) len back ok err enough =
    let same : length more_nexts ≡ length nexts = ap length err in (omega arith, omega (arith, back))
