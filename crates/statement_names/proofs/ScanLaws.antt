-- Names, as the characters of a text are read.
use Rattle.std.proofs.Common.{◌≡◌, ◌∙◌, ℕ, ◌+◌, List, [], ◌∷◌, ◌++◌, length, slice_index, Bool, Option, Result, IfOk, refl, sym, ap, append_assoc, append-nil, arith}
use Rattle.std.specs.Option.{option_or}
use Rattle.std.proofs.lemmas.Result.{IfOk-weaker}
use Rattle.hl_base.specs.Quoting.{IsBehind, is_quoted}
use Rattle.hl_base.specs.Symbols.{is_symbol_character}
use Rattle.hlasm_statements.specs.declared.statement.Field.{Field}
use Rattle.statement_names.specs.declared.name.Named.{Named}
use Rattle.statement_names.specs.declared.name.WrittenName.{WrittenName}
use Rattle.statement_names.specs.declared.scan.Marks.{Marks}
use Rattle.statement_names.specs.declared.scan.Sought.{Sought}
use Rattle.statement_names.specs.declared.scan.Sought.TheVariants as kinds
use Rattle.statement_names.specs.Names.{name_at, names, names_from, stands, variable_with, symbol_with, reference_with}
use Rattle.statement_names.specs.Scans.{Stands, IsScanned}

-- before the first character
pub scan-init : (sought : Sought) (field : Field) (at : ℕ) (marks : Marks) (found : List WrittenName) (text : List ℕ) → Stands marks [] →
    IsScanned sought field at marks at found text (found ++ names sought field at text)
unfolding names
scan-init sought field at marks found text marked = record { before = []; marked = marked; place_is = omega arith; same = refl }

-- behind one more
pub scan-more : (sought : Sought) (field : Field) (at : ℕ) (old new : Marks) (place : ℕ) (found later : List WrittenName) (next : Option Named) (c : ℕ) (left rest : List ℕ) (whole : List WrittenName) →
    IsScanned sought field at old place found left whole → left ≡ c ∷ rest →
    ((before : List ℕ) → Stands old before → Stands new (c ∷ before)) →
    ((before : List ℕ) → Stands old before → next ≡ name_at sought before c rest) →
    later ≡ found ++ stands field place next →
    IsScanned sought field at new (place + 1) later rest whole
scan-more sought field at old new place found later next c left rest whole so_far splits reads finds grows =
    let before = so_far.before in
    let placed : place ≡ at + length before = so_far.place_is in
    let here = name_at sought before c rest in
    let tail = names_from sought field at (c ∷ before) rest in
    record {
      before = c ∷ before;
      marked = reads before so_far.marked;
      place_is = omega (arith, placed);
      same =
          ap (λ l. l ++ tail) (grows ∙ ap (λ n. found ++ stands field place n) (finds before so_far.marked) ∙ ap (λ p. found ++ stands field p here) placed)
          ∙ append_assoc found (stands field (at + length before) here) tail
          ∙ ap (λ t. found ++ names_from sought field at before t) (sym splits)
          ∙ so_far.same;
    }

-- behind the last
pub scan-end : (sought : Sought) (field : Field) (at : ℕ) (marks : Marks) (place : ℕ) (found : List WrittenName) (left : List ℕ) (whole : List WrittenName) →
    IsScanned sought field at marks place found left whole → left ≡ [] → found ≡ whole
scan-end sought field at marks place found left whole so_far end =
    sym (append-nil found) ∙ ap (λ t. found ++ names_from sought field at so_far.before t) (sym end) ∙ so_far.same

-- a name that is found by the marks is the one that begins there
pub named-variables : {E : Type 0} (r : Result (Option Named) E) (sought : Sought) (marks : Marks) (c : ℕ) (behind : List ℕ) → sought ≡ kinds.Variables →
    IfOk r (λ found. found ≡ variable_with marks.is_second c behind) →
    IfOk r (λ found. (before : List ℕ) → Stands marks before → found ≡ name_at sought before c behind)
unfolding name_at
named-variables r sought marks c behind is found =
    IfOk-weaker r _ _
    (λ one here before marked. here ∙ ap (λ s. variable_with s c behind) marked.second ∙ sym (ap (λ s. name_at s before c behind) is))
    found

pub named-symbols : {E : Type 0} (r : Result (Option Named) E) (sought : Sought) (marks : Marks) (c : ℕ) (text behind : List ℕ) (quoted : Bool) → sought ≡ kinds.Symbols →
    text ≡ c ∷ behind → ((before : List ℕ) → IsBehind marks.nesting before → quoted ≡ is_quoted c before) →
    IfOk r (λ found. found ≡ symbol_with marks.is_joined quoted text) →
    IfOk r (λ found. (before : List ℕ) → Stands marks before → found ≡ name_at sought before c behind)
unfolding name_at
named-symbols r sought marks c text behind quoted is splits quotes found =
    IfOk-weaker r _ _
    (λ one here before marked.
    here
    ∙ ap (λ j. symbol_with j quoted text) marked.joined
    ∙ ap (λ q. symbol_with (is_symbol_character (slice_index before 0)) q text) (quotes before marked.nesting)
    ∙ ap (symbol_with (is_symbol_character (slice_index before 0)) (is_quoted c before)) splits
    ∙ sym (ap (λ s. name_at s before c behind) is))
    found

pub named-branch : {E : Type 0} (r : Result (Option Named) E) (sought : Sought) (marks : Marks) (c : ℕ) (behind : List ℕ) → sought ≡ kinds.Branch →
    IfOk r (λ found. found ≡ option_or (variable_with marks.is_second c behind) (reference_with c behind)) →
    IfOk r (λ found. (before : List ℕ) → Stands marks before → found ≡ name_at sought before c behind)
unfolding name_at
named-branch r sought marks c behind is found =
    IfOk-weaker r _ _
    (λ one here before marked.
    here ∙ ap (λ s. option_or (variable_with s c behind) (reference_with c behind)) marked.second ∙ sym (ap (λ s. name_at s before c behind) is))
    found
