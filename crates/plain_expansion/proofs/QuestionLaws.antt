-- Trees of questions: what more answers change, and that restarts end.
use Rattle.std.proofs.Common.{◌≡◌, Option, Some, None, refl, ap, ◌∙◌}
use Rattle.plain_expansion.specs.Questions.{Asking, done, needs, result_by, Led, Comes, Wants, led_on, led_by, HasAll, MoreChangesNothing, ComesToTheResult, AsksOnlyTheMissing, Ends, settled, unsettled, RestartsEnd}

module _ (K V A : Type 0) where
  abbrev After : (K → Option V) → (V → Asking K V A) → V → Led K A
  After told next answer = led_by told (next answer)

  more_by : (key : K) (next : V → Asking K V A) (told later : K → Option V) (result : A) → HasAll later told → (found : Option V) →
      told key ≡ found →
      led_on key (After told next) found ≡ Comes result →
      ((answer : V) → led_by told (next answer) ≡ Comes result → led_by later (next answer) ≡ Comes result) →
      led_on key (After later next) (later key) ≡ Comes result
  more_by key next told later result all None is comes more = cc
  more_by key next told later result all (Some answer) is comes more = ap (led_on key (After later next))
      (all key answer is) ∙ more answer comes

  pub more_changes_nothing : (tree : Asking K V A) → MoreChangesNothing tree
  more_changes_nothing (done result) told later r all comes = comes
  more_changes_nothing (needs key next) told later r all comes =
      more_by key next told later r all (told key) refl comes (λ answer. more_changes_nothing (next answer) told later r all)

  result_from : (key : K) (next : V → Asking K V A) (answer : K → V) (told : K → Option V) (result : A) → (found : Option V) →
      told key ≡ found →
      ((given : V) → told key ≡ Some given → given ≡ answer key) →
      led_on key (After told next) found ≡ Comes result →
      ((given : V) → led_by told (next given) ≡ Comes result → result ≡ result_by answer (next given)) →
      result ≡ result_by answer (next (answer key))
  result_from key next answer told result None is true_to comes rest = cc
  result_from key next answer told result (Some given) is true_to comes rest =
      rest given comes ∙ ap (λ x. result_by answer (next x)) (true_to given is)

  pub comes_to_the_result : (tree : Asking K V A) → ComesToTheResult tree
  comes_to_the_result (done result) answer told r true_to comes = cc
  comes_to_the_result (needs key next) answer told r true_to comes =
      result_from key next answer told r (told key) refl (true_to key) comes
      (λ given. comes_to_the_result (next given) answer told r true_to)

  misses_by : (first : K) (next : V → Asking K V A) (told : K → Option V) (key : K) (found : Option V) → told first ≡ found →
      led_on first (After told next) found ≡ Wants key → ((answer : V) → led_by told (next answer) ≡ Wants key → told key ≡ None) →
      told key ≡ None
  misses_by first next told key None is wants misses = cc
  misses_by first next told key (Some answer) is wants misses = misses answer wants

  pub asks_only_the_missing : (tree : Asking K V A) → AsksOnlyTheMissing tree
  asks_only_the_missing (done result) told key wants = cc
  asks_only_the_missing (needs first next) told key wants =
      misses_by first next told key (told first) refl wants (λ answer. asks_only_the_missing (next answer) told key)

  -- a tree that has come as far as a subtree, whatever more is answered
  module _ (root : Asking K V A) where
    abbrev Reached : Asking K V A → (K → Option V) → Type 0
    Reached tree told = (later : K → Option V) → HasAll later told → led_by later root ≡ led_by later tree

    ends_by : (key : K) (next : V → Asking K V A) (told : K → Option V) (found : Option V) → told key ≡ found →
        Reached (needs key next) told →
        ((answer : V) (later : K → Option V) → Reached (next answer) later → Ends root later) → Ends root told
    ends_by key next told None is reached ends =
        unsettled told key (reached told (λ k a e. e) ∙ ap (led_on key (After told next)) is)
        (λ answer later all has. ends answer later
        (λ last more. reached last (λ k a e. more k a (all k a e)) ∙ ap (led_on key (After last next)) (more key answer has)))
    ends_by key next told (Some answer) is reached ends =
        ends answer told (λ last more. reached last more ∙ ap (led_on key (After last next)) (more key answer is))

    reached_ends : (tree : Asking K V A) (told : K → Option V) → Reached tree told → Ends root told
    reached_ends (done result) told reached = settled told result (reached told (λ k a e. e))
    reached_ends (needs key next) told reached = ends_by key next told (told key) refl reached
        (λ answer later. reached_ends (next answer) later)

  pub restarts_end : (tree : Asking K V A) → RestartsEnd tree
  restarts_end tree told = reached_ends tree tree told (λ later all. refl)
