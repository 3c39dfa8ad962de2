-- Where a part of a pattern stands first behind a star, the rest of the pattern matches if it does anywhere.
use Rattle.std.proofs.Common.{◌≡◌, ◌≢◌, ℕ, ◌+◌, ◌<◌, List, [], ◌∷◌, ◌++◌, length, Bool, true, false, not, ◌&&◌, ◌||◌, if◌then◌else◌, Option, Some, None, refl, ap, sym, ◌∙◌, append_assoc, arith}
use Rattle.std.specs.Prelude.{◌==◌}
use Rattle.std.proofs.Common.{length-append}
use Rattle.std.proofs.lemmas.Bool.{eqb-true, eq-eqb}
use Rattle.program_config.specs.Patterns.{star, slash, behind_run, matches, walked}

-- ---- tests of two

both : (a b : Bool) → a ≡ true → b ≡ true → (a && b) ≡ true
both true b ha hb = hb
both false b ha hb = ha

later : (a b : Bool) → b ≡ true → (a || b) ≡ true
later true b hb = refl
later false b hb = hb

both-left : (a b : Bool) → (a && b) ≡ true → a ≡ true
both-left true b h = refl
both-left false b h = h

both-right : (a b : Bool) → (a && b) ≡ true → b ≡ true
both-right true b h = h
both-right false b h = cc

not-true : (a : Bool) → not a ≡ true → a ≡ false
not-true true h = cc
not-true false h = refl

same_if : (a b : Bool) → (a ≡ true → b ≡ true) → (b ≡ true → a ≡ true) → a ≡ b
same_if true b f g = sym (f refl)
same_if false true f g = g refl
same_if false false f g = refl

-- ---- runs without a slash

-- bytes without a slash
abbrev pub is_run : List ℕ → Bool
is_run [] = true
is_run (c ∷ cs) = not (c == slash) && is_run cs

-- a run before a run is one
is_run-append : (a b : List ℕ) → is_run a ≡ true → is_run b ≡ true → is_run (a ++ b) ≡ true
is_run-append [] b ha hb = hb
is_run-append (c ∷ a) b ha hb =
    both (not (c == slash)) (is_run (a ++ b)) (both-left _ (is_run a) ha) (is_run-append a b (both-right (not (c == slash)) _ ha) hb)

-- what matches behind a run also does behind a longer one
behind_run-longer : (rest : List ℕ → Bool) (run cs : List ℕ) → is_run run ≡ true → behind_run rest cs ≡ true → behind_run rest (run ++ cs) ≡ true
behind_run-longer rest [] cs is h = h
behind_run-longer rest (c ∷ run) cs is h =
    later (rest (c ∷ (run ++ cs))) (not (c == slash) && behind_run rest (run ++ cs))
    (both (not (c == slash)) (behind_run rest (run ++ cs)) (both-left _ (is_run run) is)
    (behind_run-longer rest run cs (both-right (not (c == slash)) _ is) h))

-- what matches at once does behind a run
behind_run-now : (rest : List ℕ → Bool) (cs : List ℕ) → rest cs ≡ true → behind_run rest cs ≡ true
behind_run-now rest [] h = h
behind_run-now rest (c ∷ cs) h = ap (λ b. b || (not (c == slash) && behind_run rest cs)) h

-- behind which run something matches
record IsBehind (rest : List ℕ → Bool) (cs : List ℕ) : Type 0 where
  run : List ℕ
  left : List ℕ
  joined : cs ≡ run ++ left
  no_slash : is_run run ≡ true
  matching : rest left ≡ true

IsBehind-from_behind_run : (rest : List ℕ → Bool) (cs : List ℕ) → behind_run rest cs ≡ true → IsBehind rest cs
IsBehind-from_behind_run rest [] h = record { run = []; left = []; joined = refl; no_slash = refl; matching = h }
IsBehind-from_behind_run rest (c ∷ cs) h = by_now (IsBehind-from_behind_run rest cs) (rest (c ∷ cs)) refl h where
  by_now : (behind_run rest cs ≡ true → IsBehind rest cs) → (b : Bool) → rest (c ∷ cs) ≡ b → (b || (not (c == slash) && behind_run rest cs)) ≡ true → IsBehind rest (c ∷ cs)
  by_now further true is_now h2 = record { run = []; left = c ∷ cs; joined = refl; no_slash = refl; matching = is_now }
  by_now further false is_now h2 =
      let behind = further (both-right (not (c == slash)) _ h2) in
      record {
        run = c ∷ behind.run;
        left = behind.left;
        joined = ap (λ xs. c ∷ xs) behind.joined;
        no_slash = both (not (c == slash)) (is_run behind.run) (both-left _ (behind_run rest cs) h2) behind.no_slash;
        matching = behind.matching;
      }

-- ---- parts without a star

-- bytes without a star
abbrev pub is_part : List ℕ → Bool
is_part [] = true
is_part (p ∷ ps) = not (p == star) && is_part ps

-- what a walk up to a star answers
abbrev pub walked_to : List ℕ → List ℕ → Option (Option (List ℕ × List ℕ))
walked_to signs bytes = Some (Some (signs, bytes))

-- the two parts of such an answer
abbrev left_of : Option (Option (List ℕ × List ℕ)) → List ℕ × List ℕ
left_of None = ([], [])
left_of (Some None) = ([], [])
left_of (Some (Some left)) = left

same_signs : (a b c d : List ℕ) → walked_to a b ≡ walked_to c d → a ≡ c
same_signs a b c d h = ap (λ answer. (left_of answer).0) h

same_bytes : (a b c d : List ℕ) → walked_to a b ≡ walked_to c d → b ≡ d
same_bytes a b c d h = ap (λ answer. (left_of answer).1) h

-- how a pattern and a path are walked up to a star
pub record IsWalked (pattern path signs bytes : List ℕ) : Type 0 where
  pub part : List ℕ
  pub no_star : is_part part ≡ true
  pub of_pattern : pattern ≡ part ++ star ∷ signs
  pub of_path : path ≡ part ++ bytes

-- ---- what a walk tells

pub IsWalked-from_walked : (pattern path : List ℕ) (signs bytes : List ℕ) → walked pattern path ≡ (walked_to signs bytes) → IsWalked pattern path signs bytes
IsWalked-from_walked [] [] signs bytes h = cc
IsWalked-from_walked [] (c ∷ cs) signs bytes h = cc
IsWalked-from_walked (p ∷ ps) [] signs bytes h = at_end (p == star) refl h where
  at_end : (t : Bool) → (p == star) ≡ t → (if t then (walked_to ps []) else None) ≡ (walked_to signs bytes) → IsWalked (p ∷ ps) [] signs bytes
  at_end true is h2 =
      record {
        part = [];
        no_star = refl;
        of_pattern = ap (λ x. x ∷ ps) (eqb-true p star is) ∙ ap (λ xs. star ∷ xs) (same_signs ps [] signs bytes h2);
        of_path = same_bytes ps [] signs bytes h2;
      }
  at_end false is h2 = cc
IsWalked-from_walked (p ∷ ps) (c ∷ cs) signs bytes h = by_star (IsWalked-from_walked ps cs signs bytes) (p == star) refl h where
  by_byte : (walked ps cs ≡ (walked_to signs bytes) → IsWalked ps cs signs bytes) → (t : Bool) → (p == star) ≡ false → (c == p) ≡ t
      → (if t then walked ps cs else None) ≡ (walked_to signs bytes) → IsWalked (p ∷ ps) (c ∷ cs) signs bytes
  by_byte further true other is h2 =
      let w = further h2 in
      record {
        part = p ∷ w.part;
        no_star = both (not (p == star)) (is_part w.part) (ap not other) w.no_star;
        of_pattern = ap (λ xs. p ∷ xs) w.of_pattern;
        of_path = ap (λ x. x ∷ cs) (eqb-true c p is) ∙ ap (λ xs. p ∷ xs) w.of_path;
      }
  by_byte further false other is h2 = cc

  by_star : (walked ps cs ≡ (walked_to signs bytes) → IsWalked ps cs signs bytes) → (t : Bool) → (p == star) ≡ t
      → (if t then (walked_to ps (c ∷ cs)) else (if c == p then walked ps cs else None)) ≡ (walked_to signs bytes) → IsWalked (p ∷ ps) (c ∷ cs) signs bytes
  by_star further true is h2 =
      record {
        part = [];
        no_star = refl;
        of_pattern = ap (λ x. x ∷ ps) (eqb-true p star is) ∙ ap (λ xs. star ∷ xs) (same_signs ps (c ∷ cs) signs bytes h2);
        of_path = same_bytes ps (c ∷ cs) signs bytes h2;
      }
  by_star further false is h2 = by_byte further (c == p) is refl h2

-- a part matches itself
matches-part : (part signs bytes : List ℕ) → is_part part ≡ true → matches (part ++ star ∷ signs) (part ++ bytes) ≡ behind_run (matches signs) bytes
matches-part [] signs bytes h = refl
matches-part (p ∷ ps) signs bytes h =
    let other : (p == star) ≡ false = not-true (p == star) (both-left (not (p == star)) (is_part ps) h) in
    rw (other, eq-eqb p p refl) (matches-part ps signs bytes (both-right (not (p == star)) (is_part ps) h))

-- what a part matches begins with it
pub record IsMatched (part signs path : List ℕ) : Type 0 where
  pub bytes : List ℕ
  pub of_path : path ≡ part ++ bytes
  pub behind : behind_run (matches signs) bytes ≡ true

IsMatched-from_matches : (part signs path : List ℕ) → is_part part ≡ true → matches (part ++ star ∷ signs) path ≡ true → IsMatched part signs path
IsMatched-from_matches [] signs path h m = record { bytes = path; of_path = refl; behind = m }
IsMatched-from_matches (p ∷ ps) signs [] h m =
    let other : (p == star) ≡ false = not-true (p == star) (both-left (not (p == star)) (is_part ps) h) in
    let never : false ≡ true = rw other at m in
    cc
IsMatched-from_matches (p ∷ ps) signs (c ∷ cs) h m =
    let other : (p == star) ≡ false = not-true (p == star) (both-left (not (p == star)) (is_part ps) h) in
    let both : ((c == p) && matches (ps ++ star ∷ signs) cs) ≡ true = rw other at m in
    let rest = IsMatched-from_matches ps signs cs (both-right (not (p == star)) (is_part ps) h) (both-right (c == p) _ both) in
    let same : c ≡ p = eqb-true c p (both-left (c == p) _ both) in
    record { bytes = rest.bytes; of_path = ap (λ x. x ∷ cs) same ∙ ap (λ xs. p ∷ xs) rest.of_path; behind = rest.behind }

-- where a part stands at the front and behind a run, what is behind the first is a run and then what is behind the second
pub record IsLonger (first second : List ℕ) : Type 0 where
  pub run : List ℕ
  pub joined : first ≡ run ++ second
  pub no_slash : is_run run ≡ true

IsLonger-from_parts : (part run first second : List ℕ) → is_run run ≡ true → part ++ first ≡ run ++ (part ++ second) → IsLonger first second
IsLonger-from_parts [] run first second h e = record { run = run; joined = e; no_slash = h }
IsLonger-from_parts (p ∷ ps) [] first second h e = IsLonger-from_parts ps [] first second refl cc
IsLonger-from_parts (p ∷ ps) (c ∷ run) first second h e =
    let same : p ≡ c = cc in
    let rest : ps ++ first ≡ run ++ (p ∷ (ps ++ second)) = cc in
    let is_other : (not (c == slash) && true) ≡ true = ap (λ t. t && true) (both-left (not (c == slash)) (is_run run) h) in
    let turned : is_run (run ++ c ∷ []) ≡ true = is_run-append run (c ∷ []) (both-right (not (c == slash)) (is_run run) h) is_other in
    IsLonger-from_parts ps (run ++ c ∷ []) first second turned
    (rest ∙ ap (λ x. run ++ x ∷ (ps ++ second)) same ∙ sym (append_assoc run (c ∷ []) (ps ++ second)))

-- ---- the machine's steps

-- the part stands here: if the rest matches behind a run, the whole does, and the other way round
behind_run-one : (part signs bytes : List ℕ) → is_part part ≡ true → behind_run (matches (part ++ star ∷ signs)) (part ++ bytes) ≡ true → behind_run (matches signs) bytes ≡ true
behind_run-one part signs bytes h m =
    let b = IsBehind-from_behind_run (matches (part ++ star ∷ signs)) (part ++ bytes) m in
    let found = IsMatched-from_matches part signs b.left h b.matching in
    let longer = IsLonger-from_parts part b.run bytes found.bytes b.no_slash (b.joined ∙ ap (λ xs. b.run ++ xs) found.of_path) in
    ap (behind_run (matches signs)) longer.joined ∙ behind_run-longer (matches signs) longer.run found.bytes longer.no_slash found.behind

behind_run-other : (part signs bytes : List ℕ) → is_part part ≡ true → behind_run (matches signs) bytes ≡ true → behind_run (matches (part ++ star ∷ signs)) (part ++ bytes) ≡ true
behind_run-other part signs bytes h m =
    behind_run-now (matches (part ++ star ∷ signs)) (part ++ bytes) (matches-part part signs bytes h ∙ m)

behind_run-part : (part signs bytes : List ℕ) → is_part part ≡ true → behind_run (matches (part ++ star ∷ signs)) (part ++ bytes) ≡ behind_run (matches signs) bytes
behind_run-part part signs bytes h = same_if _ _ (behind_run-one part signs bytes h) (behind_run-other part signs bytes h)

pub behind_run-walked : (pattern path signs bytes : List ℕ) → walked pattern path ≡ (walked_to signs bytes)
    → behind_run (matches pattern) path ≡ behind_run (matches signs) bytes
behind_run-walked pattern path signs bytes h =
    let w = IsWalked-from_walked pattern path signs bytes h in
    ap (λ p. behind_run (matches p) path) w.of_pattern
    ∙ ap (behind_run (matches (w.part ++ star ∷ signs))) w.of_path
    ∙ behind_run-part w.part signs bytes w.no_star

pub matches-walked : (pattern path signs bytes : List ℕ) → walked pattern path ≡ (walked_to signs bytes)
    → matches pattern path ≡ behind_run (matches signs) bytes
matches-walked pattern path signs bytes h =
    let w = IsWalked-from_walked pattern path signs bytes h in
    ap (λ p. matches p path) w.of_pattern
    ∙ ap (matches (w.part ++ star ∷ signs)) w.of_path
    ∙ matches-part w.part signs bytes w.no_star

-- a walk leaves less of the pattern and the path
pub length-walked : (pattern path signs bytes : List ℕ) → walked pattern path ≡ (walked_to signs bytes)
    → length signs + length bytes < length pattern + length path
length-walked pattern path signs bytes h =
    let w = IsWalked-from_walked pattern path signs bytes h in
    omega (arith, simp length-append at (ap length w.of_pattern), simp length-append at (ap length w.of_path))

-- the whole pattern is walked, and the whole path
pub matches-whole : (pattern path : List ℕ) → walked pattern path ≡ Some None → matches pattern path ≡ true
matches-whole [] [] h = refl
matches-whole [] (c ∷ cs) h = cc
matches-whole (p ∷ ps) [] h = at_end (p == star) h where
  at_end : (t : Bool) → (if t then (walked_to ps []) else None) ≡ Some None → (if t then behind_run (matches ps) [] else false) ≡ true
  at_end true h2 = cc
  at_end false h2 = cc
matches-whole (p ∷ ps) (c ∷ cs) h = by_star (matches-whole ps cs) (p == star) h where
  by_byte : (walked ps cs ≡ Some None → matches ps cs ≡ true) → (t : Bool) → (if t then walked ps cs else None) ≡ Some None → (t && matches ps cs) ≡ true
  by_byte further true h2 = further h2
  by_byte further false h2 = cc

  by_star : (walked ps cs ≡ Some None → matches ps cs ≡ true) → (t : Bool)
      → (if t then (walked_to ps (c ∷ cs)) else (if c == p then walked ps cs else None)) ≡ Some None
      → (if t then behind_run (matches ps) (c ∷ cs) else ((c == p) && matches ps cs)) ≡ true
  by_star further true h2 = cc
  by_star further false h2 = by_byte further (c == p) h2

-- the pattern cannot be walked
pub matches-none : (pattern path : List ℕ) → walked pattern path ≡ None → matches pattern path ≡ false
matches-none [] [] h = cc
matches-none [] (c ∷ cs) h = refl
matches-none (p ∷ ps) [] h = at_end (p == star) h where
  at_end : (t : Bool) → (if t then (walked_to ps []) else None) ≡ None → (if t then behind_run (matches ps) [] else false) ≡ false
  at_end true h2 = cc
  at_end false h2 = refl
matches-none (p ∷ ps) (c ∷ cs) h = by_star (matches-none ps cs) (p == star) h where
  by_byte : (walked ps cs ≡ None → matches ps cs ≡ false) → (t : Bool) → (if t then walked ps cs else None) ≡ None → (t && matches ps cs) ≡ false
  by_byte further true h2 = further h2
  by_byte further false h2 = refl

  by_star : (walked ps cs ≡ None → matches ps cs ≡ false) → (t : Bool)
      → (if t then (walked_to ps (c ∷ cs)) else (if c == p then walked ps cs else None)) ≡ None
      → (if t then behind_run (matches ps) (c ∷ cs) else ((c == p) && matches ps cs)) ≡ false
  by_star further true h2 = cc
  by_star further false h2 = by_byte further (c == p) h2

-- the same behind a run: the whole path is walked
pub behind_run-whole : (pattern path : List ℕ) → walked pattern path ≡ Some None → behind_run (matches pattern) path ≡ true
behind_run-whole pattern path h = behind_run-now (matches pattern) path (matches-whole pattern path h)

-- nothing is left of the path
pub behind_run-end : (pattern path : List ℕ) → walked pattern path ≡ None → length path ≡ 0 → behind_run (matches pattern) path ≡ false
behind_run-end pattern [] h none = matches-none pattern [] h
behind_run-end pattern (c ∷ cs) h none = cc

-- the pattern does not match here: it may behind the next byte
behind_run-next : (pattern : List ℕ) (c : ℕ) (cs : List ℕ) → walked pattern (c ∷ cs) ≡ None → behind_run (matches pattern) (c ∷ cs) ≡ (not (c == slash) && behind_run (matches pattern) cs)
behind_run-next pattern c cs h = ap (λ b. b || (not (c == slash) && behind_run (matches pattern) cs)) (matches-none pattern (c ∷ cs) h)

-- which does behind a byte that is no slash
pub behind_run-further : (pattern path : List ℕ) (c : ℕ) (cs : List ℕ) → walked pattern path ≡ None → path ≡ c ∷ cs → c ≢ slash → behind_run (matches pattern) path ≡ behind_run (matches pattern) cs
behind_run-further pattern path c cs h is other =
    ap (behind_run (matches pattern)) is
    ∙ behind_run-next pattern c cs (ap (walked pattern) (sym is) ∙ h)
    ∙ by_slash (c == slash) refl where
      by_slash : (t : Bool) → (c == slash) ≡ t → (not t && behind_run (matches pattern) cs) ≡ behind_run (matches pattern) cs
      by_slash true at_slash = absurd (other (eqb-true c slash at_slash))
      by_slash false at_slash = refl

-- and not behind one
pub behind_run-stopped : (pattern path : List ℕ) (c : ℕ) (cs : List ℕ) → walked pattern path ≡ None → path ≡ c ∷ cs → c ≡ slash → behind_run (matches pattern) path ≡ false
behind_run-stopped pattern path c cs h is at_slash =
    ap (behind_run (matches pattern)) is
    ∙ behind_run-next pattern c cs (ap (walked pattern) (sym is) ∙ h)
    ∙ ap (λ t. not t && behind_run (matches pattern) cs) (eq-eqb c slash at_slash)
