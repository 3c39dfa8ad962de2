-- What is known of a program besides its points (this project): the statements of its texts, those of the definitions of macros,
-- and what is found under the names of members.
use Rattle.std.specs.Prelude.{ℕ, List, Option, Some, None}
use Rattle.std.specs.Option.{option_and_then}
use Rattle.hl_base.specs.declared.place.FrameKind.{FrameKind}
use Rattle.hl_base.specs.declared.place.FrameKind.TheVariants as frame
use Rattle.hl_base.specs.declared.place.PathId.{PathId}
use Rattle.hl_base.specs.declared.set.Answer.{Answer}
use Rattle.hl_base.specs.declared.set.Answer.TheVariants as answer
use Rattle.statement_listing.specs.Listings.{Listed}
use Rattle.text_lists.specs.Definitions as definitions
use Rattle.text_lists.specs.Definitions.{Defined}
use Rattle.text_lists.specs.Lists as lists
use Rattle.text_lists.specs.Lists.{Source}
use Rattle.text_pool.specs.Members as members
use Rattle.text_pool.specs.Members.{Member}
use Rattle.trace_values.specs.declared.item.TraceItem.{TraceItem}

-- the file that an answer tells of
abbrev pub file_in : Answer → Option PathId
file_in (answer.File path text) = Some path
file_in other = None

-- the file of a member, if it can be read
abbrev pub path_in : Member → Option PathId
path_in members.Absent = None
path_in members.Unreadable = None
path_in (members.File path text) = Some (record { 0 = path })

-- the list that is run in a frame: the statements of the definition in a macro, and those of the text in open code and in a member
abbrev pub running_in : FrameKind → List Source → List Defined → TraceItem → Option (List Listed)
running_in frame.Macro texts defined item = option_and_then (definitions.list_of defined) item.definition
running_in frame.OpenCode texts defined item = lists.list_of texts item.frames.innermost.origin.path.0
running_in frame.Copy texts defined item = lists.list_of texts item.frames.innermost.origin.path.0

-- the list that is run at a point
abbrev pub running : List Source → List Defined → TraceItem → Option (List Listed)
running texts defined item = running_in item.frames.innermost.kind texts defined item
