-- A small language, and what some of its calls expand to. This project.
use Rattle.std.specs.Prelude.{◌≡◌, ℕ, zero, suc, ◌+◌, ◌-◌, ◌==◌, Bool, false, List, [], ◌∷◌, ◌++◌, map, length, Option, Some, None, if◌then◌else◌}
use Rattle.kept_values.specs.Trees.{Tree, Leaf, Fork, Pair}
use Rattle.trace_arena.specs.Points.{Point, own}
use Rattle.asking_core.specs.Worlds.{WorldModel}
use Rattle.asking_core.specs.Runs.{ByLeave, ByEnd, ByBudget}
use Rattle.plain_expansion.specs.Questions.{Asking, done, needs}
use Rattle.plain_expansion.specs.Language.{Vocabulary, Nowhere, Calling, Copying, Continues, Skips, Branches, Enters, Returns, Finishes, Effect, Fault, NoFault, NoLabel, NoBranchLeft, NoRoom, Language}
use Rattle.plain_expansion.specs.Expansion.{Expansion, expansion}

-- It says a number, says what the world's value is or how many calls were counted at its call's entry, sets the value, sets it
-- to the number of a line and goes on at that line, branches to a label where the value is not 0, calls or copies a list, looks
-- for a list that is not there, returns, and finishes. A label stands on any.
pub data Line : Type 0 where
  Says : (number : ℕ) → Line
  SaysValue : Line
  SaysCalls : Line
  Sets : (number : ℕ) → Line
  SkipsTo : (line : ℕ) → Line
  BranchesTo : (label : ℕ) → Line
  BranchesIf : (label : ℕ) → Line
  Labelled : (label : ℕ) → Line
  CallsList : (list : ℕ) → Line
  CopiesList : (list : ℕ) → Line
  CopiesNothing : Line
  ReturnsNow : Line
  FinishesNow : Line

-- how many branches are left, and how many calls were counted at the entry
pub record Knows : Type 0 where
  pub branches : ℕ
  pub calls : Tree

pub record Shown : Type 0 where
  pub line : ℕ
  pub deep : ℕ
  pub said : Tree
  pub fault : Fault

abbrev pub example_words : Vocabulary
example_words = record { Statement = Line; Listing = ℕ; Label = ℕ; Known = Knows; Said = Tree; Call = ℕ }

-- the lists, by number: list 0 is open code in the rows
abbrev pub example_list : List (List Line) → ℕ → List Line
example_list [] n = []
example_list (l ∷ ls) zero = l
example_list (l ∷ ls) (suc n) = example_list ls n

-- the keys: the value, and how many calls were counted
abbrev pub value_key : Tree
value_key = Leaf 0

abbrev pub calls_key : Tree
calls_key = Leaf 1

abbrev pub silent : Tree
silent = Leaf 0

abbrev pub branch_left : Knows → Option Knows
branch_left k = if k.branches == 0 then None else Some (record k { branches = k.branches - 1 })

abbrev pub branch_if : Tree → ℕ → Knows → Effect example_words
branch_if (Leaf zero) label k = record { said = silent; act = Continues k [] }
branch_if (Leaf (suc n)) label k = record { said = silent; act = Branches label (branch_left k) }
branch_if (Fork a b) label k = record { said = silent; act = Continues k [] }

abbrev pub example_effect : Line → Knows → Asking Tree Tree (Effect example_words)
example_effect (Says number) k = done (record { said = Leaf number; act = Continues k [] })
example_effect SaysValue k = needs value_key (λ value. done (record { said = value; act = Continues k [] }))
example_effect SaysCalls k = done (record { said = k.calls; act = Continues k [] })
example_effect (Sets number) k = done (record { said = silent; act = Continues k (record { key = value_key; value = Leaf number } ∷ []) })
example_effect (SkipsTo line) k = done (record { said = silent; act = Skips line k (record { key = value_key; value = Leaf line } ∷ []) })
example_effect (BranchesTo label) k = done (record { said = silent; act = Branches label (branch_left k) })
example_effect (BranchesIf label) k = needs value_key (λ value. done (branch_if value label k))
example_effect (Labelled label) k = done (record { said = silent; act = Continues k [] })
example_effect (CallsList list) k = done (record { said = Leaf 7; act = Enters (Leaf 9) (Calling list []) })
example_effect (CopiesList list) k = done (record { said = Leaf 7; act = Enters (Leaf 9) (Copying list) })
example_effect CopiesNothing k = done (record { said = Leaf 8; act = Enters (Leaf 9) Nowhere })
example_effect ReturnsNow k = done (record { said = silent; act = Returns })
example_effect FinishesNow k = done (record { said = silent; act = Finishes })

abbrev pub has_example_label : Line → ℕ → Bool
has_example_label (Labelled label) l = label == l
has_example_label (BranchesTo label) l = false
has_example_label (BranchesIf label) l = false
has_example_label (Says number) l = false
has_example_label SaysValue l = false
has_example_label SaysCalls l = false
has_example_label (Sets number) l = false
has_example_label (SkipsTo line) l = false
has_example_label (CallsList list) l = false
has_example_label (CopiesList list) l = false
has_example_label CopiesNothing l = false
has_example_label ReturnsNow l = false
has_example_label FinishesNow l = false

abbrev pub calls_told : List Pair → Tree
calls_told [] = silent
calls_told (p ∷ ps) = p.value

-- the language of these lists, in which each call may take so many branches
abbrev pub example : List (List Line) → ℕ → Language
example lists branches = record {
  words = example_words;
  Item = Shown;
  Frames = List ℕ;
  statements_of = example_list lists;
  has_label = has_example_label;
  effect_of = example_effect;
  is_open_code = λ call. call == 0;
  listing_of = λ call. call;
  entry_keys = λ call. if call == 0 then [] else calls_key ∷ [];
  bound = λ call pairs. record { branches = branches; calls = calls_told pairs };
  item_of = λ p. record { line = p.stack.here.position; deep = length p.stack.below; said = p.said; fault = p.fault };
  frames_of = λ ls. map (λ l. l.position) ls;
}

-- a world with a value, the number of counted calls, the depth of calls, and the outermost statement
pub record Cells : Type 0 where
  pub value : Tree
  pub calls : ℕ
  pub depth : ℕ
  pub at : ℕ

abbrev pub cell : Cells → Tree → Tree
cell s (Leaf zero) = s.value
cell s (Leaf (suc n)) = Leaf s.calls
cell s (Fork a b) = Leaf 0

abbrev pub cells : WorldModel
cells = record {
  State = Cells;
  answer = cell;
  after_put = λ s key value. record s { value = value };
  after_bump = λ s n. record s { calls = s.calls + n };
  after_enter = λ s. record s { depth = s.depth + 1 };
  after_leave = λ s. record s { depth = s.depth - 1 };
  after_at = λ s n. record s { at = n };
}

abbrev pub fresh : Cells
fresh = record { value = Leaf 0; calls = 0; depth = 0; at = 0 }

-- what a point of the rows shows
abbrev pub row : ℕ → ℕ → ℕ → Fault → Shown
row line deep said fault = record { line = line; deep = deep; said = Leaf said; fault = fault }

-- points of the outermost call, and points of a call that such a point made
abbrev pub outer : List Shown → List (Point Shown)
outer rows = map own rows

abbrev pub called_by : Shown → List Shown → List (Point Shown)
called_by call rows = map (λ r. record { calls = call ∷ []; item = r }) rows

abbrev pub ExpandsTo : List (List Line) → (branches fuel depth : ℕ) → Expansion Shown (List ℕ) Cells → Type 0
ExpandsTo lists branches fuel depth e = expansion (example lists branches) cells 0 fresh fuel depth ≡ e

-- A loop of one statement ends at its fourth point where three branches are left: `.L AGO .L`.
abbrev pub loop : List (List Line)
loop = (Labelled 1 ∷ BranchesTo 1 ∷ []) ∷ []

abbrev pub LoopEnds : Type 0
LoopEnds = ExpandsTo loop 2 100 0 (record {
  points = outer (row 0 0 0 NoFault ∷ row 1 0 0 NoFault ∷ row 0 0 0 NoFault ∷ row 1 0 0 NoFault ∷ row 0 0 0 NoFault ∷ row 1 0 0 NoBranchLeft ∷ []);
  world = record fresh { at = 1 };
  cost = 6;
  ended = ByLeave;
  nested = 0;
  unpaid = [];
})

-- The same with fuel for three points.
abbrev pub LoopIsCut : Type 0
LoopIsCut = ExpandsTo loop 2 3 0 (record {
  points = outer (row 0 0 0 NoFault ∷ row 1 0 0 NoFault ∷ row 0 0 0 NoFault ∷ []);
  world = record fresh { at = 0 };
  cost = 3;
  ended = ByBudget;
  nested = 0;
  unpaid = (1 ∷ []) ∷ [];
})

-- A label that is nowhere is found missing before the branches that are left are counted, and takes none.
abbrev pub LabelIsMissing : Type 0
LabelIsMissing = ExpandsTo ((BranchesTo 5 ∷ Says 1 ∷ []) ∷ []) 0 100 0 (record {
  points = outer (row 0 0 0 NoLabel ∷ row 1 0 1 NoFault ∷ []);
  world = record fresh { at = 1 };
  cost = 2;
  ended = ByLeave;
  nested = 0;
  unpaid = [];
})

-- A branch goes to the first statement with its label, in the copied list where it stands in one.
abbrev pub FirstLabel : Type 0
FirstLabel = ExpandsTo
    ((Labelled 1 ∷ CopiesList 1 ∷ FinishesNow ∷ Says 2 ∷ []) ∷ (BranchesTo 1 ∷ Says 3 ∷ Labelled 1 ∷ Labelled 1 ∷ []) ∷ []) 9 100 0
    (record {
      points = outer (row 0 0 0 NoFault ∷ row 1 0 7 NoFault ∷ row 0 1 0 NoFault ∷ row 2 1 0 NoFault ∷ row 3 1 0 NoFault ∷ row 2 0 0 NoFault ∷ []);
      world = record fresh { at = 2 };
      cost = 6;
      ended = ByEnd;
      nested = 1;
      unpaid = [];
    })

-- A call counts before it asks at its entry, puts what its caller reads, and returns from within a copied list.
abbrev pub CallReturns : Type 0
CallReturns = ExpandsTo
    ((Sets 4 ∷ CallsList 1 ∷ SaysValue ∷ CallsList 1 ∷ []) ∷ (SaysCalls ∷ SaysValue ∷ CopiesList 2 ∷ Says 6 ∷ []) ∷
    (Sets 5 ∷ ReturnsNow ∷ Says 6 ∷ []) ∷ []) 9 100 0 (record {
      points = outer (row 0 0 0 NoFault ∷ row 1 0 7 NoFault ∷ [])
          ++ (called_by (row 1 0 7 NoFault) (row 0 0 1 NoFault ∷ row 1 0 4 NoFault ∷ row 2 0 7 NoFault ∷ row 0 1 0 NoFault ∷ row 1 1 0 NoFault ∷ [])
          ++ (outer (row 2 0 5 NoFault ∷ row 3 0 7 NoFault ∷ [])
          ++ called_by (row 3 0 7 NoFault) (row 0 0 2 NoFault ∷ row 1 0 5 NoFault ∷ row 2 0 7 NoFault ∷ row 0 1 0 NoFault ∷ row 1 1 0 NoFault ∷ [])));
      world = record { value = Leaf 5; calls = 2; depth = 0; at = 3 };
      cost = 14;
      ended = ByLeave;
      nested = 2;
      unpaid = [];
    })

-- The end of all within a call, and fuel that is wanting in a copied list of a call: frames from the innermost outwards.
abbrev pub CallFinishes : Type 0
CallFinishes = ExpandsTo ((CallsList 1 ∷ Says 2 ∷ []) ∷ (FinishesNow ∷ []) ∷ []) 9 100 0 (record {
  points = outer (row 0 0 7 NoFault ∷ []) ++ called_by (row 0 0 7 NoFault) (row 0 0 0 NoFault ∷ []);
  world = record fresh { calls = 1 };
  cost = 2;
  ended = ByEnd;
  nested = 1;
  unpaid = [];
})

abbrev pub CallIsCut : Type 0
CallIsCut = ExpandsTo ((Says 2 ∷ CallsList 1 ∷ []) ∷ (Says 1 ∷ CopiesList 2 ∷ []) ∷ (Says 1 ∷ Says 1 ∷ []) ∷ []) 9 5 0 (record {
  points = outer (row 0 0 2 NoFault ∷ row 1 0 7 NoFault ∷ [])
      ++ called_by (row 1 0 7 NoFault) (row 0 0 1 NoFault ∷ row 1 0 7 NoFault ∷ row 0 1 1 NoFault ∷ []);
  world = record fresh { calls = 1; at = 1 };
  cost = 5;
  ended = ByBudget;
  nested = 2;
  unpaid = (1 ∷ 2 ∷ []) ∷ (1 ∷ []) ∷ [];
})

-- At depth 127 there is room for one more frame, and at 128 for none: a call and a list, also one that is not there, are
-- passed over, and no call is counted.
abbrev pub deep_lists : List (List Line)
deep_lists = (CallsList 1 ∷ CopiesList 1 ∷ CopiesNothing ∷ []) ∷ (CopiesNothing ∷ []) ∷ []

abbrev pub LastRoom : Type 0
LastRoom = ExpandsTo deep_lists 9 100 127 (record {
  points = outer (row 0 0 7 NoFault ∷ []) ++ (called_by (row 0 0 7 NoFault) (row 0 0 9 NoRoom ∷ [])
      ++ outer (row 1 0 7 NoFault ∷ row 0 1 9 NoRoom ∷ row 2 0 8 NoFault ∷ []));
  world = record fresh { calls = 1; at = 2 };
  cost = 5;
  ended = ByLeave;
  nested = 1;
  unpaid = [];
})

abbrev pub NoMoreRoom : Type 0
NoMoreRoom = ExpandsTo deep_lists 9 100 128 (record {
  points = outer (row 0 0 9 NoRoom ∷ row 1 0 9 NoRoom ∷ row 2 0 9 NoRoom ∷ []);
  world = record fresh { at = 2 };
  cost = 3;
  ended = ByLeave;
  nested = 0;
  unpaid = [];
})

-- What is passed over is no point; puts are made all the same, also where the list ends before the place.
abbrev pub LinesArePassedOver : Type 0
LinesArePassedOver = ExpandsTo ((SkipsTo 2 ∷ Says 1 ∷ SaysValue ∷ SkipsTo 9 ∷ Says 2 ∷ []) ∷ []) 9 100 0 (record {
  points = outer (row 0 0 0 NoFault ∷ row 2 0 2 NoFault ∷ row 3 0 0 NoFault ∷ []);
  world = record fresh { value = Leaf 9; at = 3 };
  cost = 3;
  ended = ByLeave;
  nested = 0;
  unpaid = [];
})

-- A loop of one statement has as many points as branches, and one more.
abbrev pub LongLoop : Type 0
LongLoop = length (expansion (example ((Sets 1 ∷ Labelled 1 ∷ BranchesIf 1 ∷ []) ∷ []) 64) cells 0 fresh 1000 0).points ≡ 131
