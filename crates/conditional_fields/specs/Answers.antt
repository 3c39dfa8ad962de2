-- How a text is read that is one thing or none: what it is, or the length of its longest front that some text of that kind
-- begins with (this project).
use Rattle.std.specs.Prelude.{◌≡◌, ℕ, List, [], ◌∷◌, ◌++◌, Result, Ok, Err}
use Rattle.expression_grammar.specs.declared.fault.SyntaxFault.{SyntaxFault}
use Rattle.expression_grammar.specs.declared.fault.SyntaxFault.TheVariants.{At, OutOfMemory}

-- a fault says this place; only want of memory is free
abbrev pub IsPlaced : ℕ → SyntaxFault → Type 0
IsPlaced wanted (At at) = at ≡ wanted
IsPlaced wanted OutOfMemory = Unit {0}

-- a fault is want of memory
abbrev pub IsWant : SyntaxFault → Type 0
IsWant (At at) = ⊥
IsWant OutOfMemory = Unit {0}

-- a call says what is read, seen in this way, or how far the text goes; only want of memory is no word on the text
abbrev pub Says : {V W : Type 0} → (V → W) → Result W ℕ → Result V SyntaxFault → Type 0
Says view read (Ok value) = read ≡ Ok (view value)
Says view read (Err (At at)) = read ≡ Err at
Says view read (Err OutOfMemory) = Unit {0}

-- these, and then others
abbrev pub behind_these : {V : Type 0} → List V → Result (List V) ℕ → Result (List V) ℕ
behind_these done (Ok values) = Ok (done ++ values)
behind_these done (Err at) = Err at

-- one, and then others
abbrev pub and_others : {V : Type 0} → Result V ℕ → Result (List V) ℕ → Result (List V) ℕ
and_others (Ok value) others = behind_these (value ∷ []) others
and_others (Err at) others = Err at

-- each of some texts in order, or where the first goes wrong that is wrong
abbrev pub each : {V : Type 0} → (List ℕ → Result V ℕ) → List (List ℕ) → Result (List V) ℕ
each read [] = Ok []
each read (text ∷ texts) = and_others (read text) (each read texts)

-- one at least: none at all is wrong at once
abbrev pub some : {V : Type 0} → Result (List V) ℕ → Result (List V) ℕ
some (Ok []) = Err 0
some (Ok (value ∷ values)) = Ok (value ∷ values)
some (Err at) = Err at
