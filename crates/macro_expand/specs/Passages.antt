-- What calls process: lists of statements, each with the frames in which it stands (HLASM Language Reference SC26-4940, "Open
-- code", "Macro definitions", "COPY instruction").
use Rattle.std.specs.Prelude.{ℕ, ◌+◌, Bool, List, [], ◌∷◌, ◌++◌, map, Option, Some, None, slice_get}
use Rattle.std.specs.Option.{option_map_or}
use Rattle.hl_base.specs.declared.place.Frame.{Frame}
use Rattle.hl_base.specs.declared.place.FrameKind.{FrameKind}
use Rattle.hl_base.specs.declared.place.FrameKind.TheVariants as kind
use Rattle.hl_base.specs.declared.place.Origin.{Origin}
use Rattle.hlasm_statements.specs.declared.fault.ColumnFault.{ColumnFault}
use Rattle.hlasm_statements.specs.Statements.{statements_of as statements_in}
use Rattle.statement_listing.specs.Listings.{Element, Listed, elements, has_label, listing_of, plain_lines}
use Rattle.trace_values.specs.CallFrames.{CallFrames, at_statement, frames_of}
use Rattle.macro_library.specs.Contents.{Content, Written, listed_in, written}
use Rattle.macro_library.specs.Files.{File}
use Rattle.macro_entry.specs.Entries.{operation_in}
use Rattle.call_sites.specs.Calls.{Call, open_code, macro_call}

-- a list of statements as they are written, where the prototype of its macro stands, and the frames of its call: the innermost
-- frame is that of the list, its place that of each statement in turn
pub record Passage : Type 0 where
  pub frames : CallFrames
  pub definition : Option Origin
  pub list : List Written

abbrev pub lines_of : Passage → List Listed
lines_of passage = map listed_in passage.list

-- where a list has no statement, which no point and no frame shows
abbrev pub nowhere : Origin
nowhere = record { path = record { 0 = 0 }; line = 0 }

abbrev pub origin_in : Option Element → Origin
origin_in None = nowhere
origin_in (Some element) = element.origin

-- where the statement of a number stands
abbrev pub origin_at : Passage → ℕ → Origin
origin_at passage n = origin_in (slice_get (elements (lines_of passage)) n)

-- the frames of its call at that statement
abbrev pub call_frames : Passage → ℕ → CallFrames
call_frames passage n = at_statement passage.frames (origin_at passage n)

-- ---- what a call processes

-- open code is the one frame of its call, and a macro, by the name of its operation, is
abbrev pub frames_as : FrameKind → Option (List ℕ) → CallFrames
frames_as one name = record { outer = []; innermost = record { kind = one; name = name; origin = nowhere } }

-- where a statement stands
abbrev pub place_in : Written → Origin
place_in one = record { path = record { 0 = one.path }; line = one.line }

abbrev pub passage_of : Call → Passage
passage_of (open_code path text) = record {
  frames = frames_as kind.OpenCode None;
  definition = None;
  list = map written (listing_of (record { 0 = path }) (statements_in text));
}
passage_of (macro_call content name_entry operands) = record {
  frames = frames_as kind.Macro (Some (operation_in content));
  definition = Some (place_in content.prototype);
  list = content.list;
}

-- ---- its statements

-- a statement at a place of a passage
pub record Placed : Type 0 where
  pub passage : Passage
  pub place : ℕ
  pub element : Element

abbrev pub placed_from : Passage → ℕ → List Element → List Placed
placed_from passage n [] = []
placed_from passage n (one ∷ rest) = record { passage = passage; place = n; element = one } ∷ placed_from passage (n + 1) rest

abbrev pub statements_of : Passage → List Placed
statements_of passage = placed_from passage 0 (elements (lines_of passage))

abbrev pub is_labelled : Placed → List ℕ → Bool
is_labelled s name = has_label s.element name

-- the texts of its name entry and of its operand field, and the faults of its columns
abbrev pub label_in : Listed → List ℕ
label_in one = one.statement.label

abbrev pub operands_in : Listed → List ℕ
operands_in one = one.statement.operands

abbrev pub faults_in : Listed → List ColumnFault
faults_in one = one.statement.faults

abbrev pub line_at : Passage → (place : ℕ) → Option Listed
line_at passage place = slice_get (plain_lines (lines_of passage)) place

abbrev pub label_at : Passage → (place : ℕ) → List ℕ
label_at passage place = option_map_or label_in (line_at passage place) []

abbrev pub operands_at : Passage → (place : ℕ) → List ℕ
operands_at passage place = option_map_or operands_in (line_at passage place) []

abbrev pub faults_at : Passage → (place : ℕ) → List ColumnFault
faults_at passage place = option_map_or faults_in (line_at passage place) []

-- ---- copied members

-- a member that a statement copies: its frame stands within those of the statement
abbrev pub copied_passage : Placed → (member : List ℕ) → File → Passage
copied_passage s member file = record {
  frames = record {
    outer = frames_of (call_frames s.passage s.place);
    innermost = record { kind = kind.Copy; name = Some member; origin = nowhere };
  };
  definition = s.passage.definition;
  list = map written (listing_of file.path (statements_in file.text));
}

-- the member that a frame copies
abbrev pub copied_by : FrameKind → Option (List ℕ) → List (List ℕ)
copied_by kind.Copy (Some name) = name ∷ []
copied_by one name = []

-- the members that a call is copying where its frames are these
abbrev pub copied_in : List Frame → List (List ℕ)
copied_in [] = []
copied_in (frame ∷ frames) = copied_by frame.kind frame.name ++ copied_in frames

abbrev pub copying : Passage → List (List ℕ)
copying passage = copied_in (frames_of passage.frames)
