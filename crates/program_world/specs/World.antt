-- The world of a program: what is answered to each key, and what each event makes of it. This project.
use Rattle.std.specs.Prelude.{ℕ, ◌+◌, Bool, false, List, [], Option, Some, None, unwrap_or, if◌then◌else◌}
use Rattle.hl_base.specs.declared.set.Attr.{Attr}
use Rattle.hl_base.specs.declared.set.Key.TheVariants as key
use Rattle.hl_base.specs.declared.set.Answer.{Answer}
use Rattle.hl_base.specs.declared.set.Answer.TheVariants as answer
use Rattle.kept_values.specs.Trees.{Tree, Leaf, Fork, same_tree}
use Rattle.kept_values.specs.Keys.{key_tree}
use Rattle.kept_values.specs.Answers.{answer_tree}
use Rattle.asking_core.specs.Worlds.{WorldModel}
use Rattle.asking_core.specs.Counters.{Round, round}
use Rattle.call_sites.specs.Calls.{text_in}
use Rattle.call_sites.specs.Rules.{is_writable, number_tree}
use Rattle.call_sites.specs.Values.{member_known}
use Rattle.hlasm_statements.specs.Statements.{statements_of}
use Rattle.look_places.specs.Places.{look_behind}
use Rattle.text_pool.specs.Members.{Member, Absent, Unreadable, File}

-- what statements put for each key, how many calls were counted, how deep the call stands, which outermost statement is
-- processed, by its place among those that are, the text of the program, that of SYSPARM, and what is found under the name of
-- each member
pub record ProgramState : Type 0 where
  pub put : Tree → Option Tree
  pub calls : Round
  pub depth : Round
  pub statement : ℕ
  pub text : List ℕ
  pub parm : List ℕ
  pub members : List ℕ → Member

-- what was put for a key, or else this
abbrev pub put_or : ProgramState → Tree → Answer → Tree
put_or s key otherwise = unwrap_or (s.put key) (answer_tree otherwise)

-- Sect is the text that was put, or the empty one; Nest is the depth, Parm is SYSPARM, Counter the number of calls
abbrev pub plain_answer : ProgramState → ℕ → Tree
plain_answer s kind =
    if same_tree (key_tree key.Sect) (Leaf kind) then put_or s (Leaf kind) (answer.Chars [])
    else (if same_tree (key_tree key.Nest) (Leaf kind) then number_tree s.depth.number
    else (if same_tree (key_tree key.Parm) (Leaf kind) then answer_tree (answer.Chars s.parm)
    else (if same_tree (key_tree key.Counter) (Leaf kind) then number_tree s.calls.number
    else answer_tree answer.Nothing)))

-- what is answered of a member: nothing where there is none, that it cannot be read, or its file
abbrev pub member_tree : Member → Tree
member_tree Absent = answer_tree answer.Nothing
member_tree Unreadable = answer_tree answer.Unreadable
member_tree (File path text) = member_known (record { path = record { 0 = path }; text = text })

-- whether a key is that of a member, and what is answered to it: what is found under the member's name
abbrev pub is_member : Tree → Bool
is_member (Leaf kind) = false
is_member (Fork kind named) = same_tree kind (Leaf 2)

abbrev pub member_answer : (List ℕ → Member) → Tree → Tree
member_answer members (Leaf kind) = answer_tree answer.Nothing
member_answer members (Fork kind named) = member_tree (members (text_in named))

-- whether a key is that of lookahead, and what is answered to it: what the symbol means that is found behind the outermost
-- statement, or nothing where none is
abbrev pub is_look : Tree → Bool
is_look (Leaf kind) = false
is_look (Fork kind named) = same_tree kind (Leaf 4)

abbrev pub meaning_tree : Option Attr → Tree
meaning_tree None = answer_tree answer.Nothing
meaning_tree (Some attr) = answer_tree (answer.Meaning attr)

abbrev pub look_tree : ProgramState → (name : List ℕ) → Tree
look_tree s name = meaning_tree (look_behind s.members (statements_of s.text) name s.statement)

abbrev pub look_answer : ProgramState → Tree → Tree
look_answer s (Leaf kind) = answer_tree answer.Nothing
look_answer s (Fork kind named) = look_tree s (text_in named)

-- Global, Op and Sym are what was put, Member is what is found under the name, and Look what is found ahead
abbrev pub named_answer : ProgramState → Tree → Tree
named_answer s named =
    if is_writable named then put_or s named answer.Nothing
    else (if is_member named then member_answer s.members named
    else (if is_look named then look_answer s named else answer_tree answer.Nothing))

abbrev pub program_answer : ProgramState → Tree → Tree
program_answer s (Leaf kind) = plain_answer s kind
program_answer s (Fork kind named) = named_answer s (Fork kind named)

-- what was put once a key has this value
abbrev pub with_put : (Tree → Option Tree) → Tree → Tree → Tree → Option Tree
with_put put key value other = if same_tree key other then Some value else put other

-- the world: counters go round at 2^32
abbrev pub program_world : WorldModel
program_world = record {
  State = ProgramState;
  answer = program_answer;
  after_put = λ s key value. record s { put = with_put s.put key value };
  after_bump = λ s n. record s { calls = round (s.calls.number + n) };
  after_enter = λ s. record s { depth = round (s.depth.number + 1) };
  after_leave = λ s. record s { depth = round (s.depth.number + 4294967295) };
  after_at = λ s n. record s { statement = n };
}

-- nothing is put and counted yet
abbrev pub first_world : (text parm : List ℕ) → (List ℕ → Member) → ProgramState
first_world text parm members =
    record { put = λ key. None; calls = round 0; depth = round 0; statement = 0; text = text; parm = parm; members = members }
