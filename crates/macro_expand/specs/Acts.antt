-- What comes of the act of a statement: what is said of it, what its call knows then, what is put, and what is entered, as trees of
-- questions (HLASM Language Reference SC26-4940, "Conditional assembly instructions", "Model statements", "Macro definitions",
-- "Macro call instructions", "COPY instruction", "MEXIT instruction", "MEND statement", "END instruction").
use Rattle.std.specs.Prelude.{ℕ, ◌==◌, Bool, true, false, List, [], ◌∷◌, ◌++◌, ◌||◌, map, chars, codes, is_some, Option, Some, None, option_map, Result, Ok, Err, unwrap_or, if◌then◌else◌}
use Rattle.std.specs.Str.{bytes_eq}
use Rattle.hl_base.specs.declared.set.Line.{Line}
use Rattle.hl_base.specs.declared.note.Note.{Note}
use Rattle.hl_base.specs.declared.place.Origin.{Origin}
use Rattle.hl_base.specs.declared.set.Answer.TheVariants.{Chars, Meaning}
use Rattle.hl_base.specs.declared.set.Key.TheVariants as key
use Rattle.kept_values.specs.Trees.{Tree, Leaf, Fork, Pair}
use Rattle.kept_values.specs.Keys.{key_tree}
use Rattle.kept_values.specs.Answers.{answer_tree}
use Rattle.note_rows.specs.Table.{noted}
use Rattle.note_rows.specs.declared.row.Row.{Row}
use Rattle.note_rows.specs.declared.row.Row.TheVariants as row
use Rattle.cond_expr.specs.Asking.{Noted}
use Rattle.question_trees.specs.Bridge.{over_trees}
use Rattle.plain_expansion.specs.Questions.{Asking, done, needs, and_then}
use Rattle.plain_expansion.specs.Language.{Vocabulary, Effect, Continues, Skips, Branches, Enters, Returns, Finishes, Nowhere, Calling, Copying}
use Rattle.conditional_asm.specs.declared.act.Act.{Act}
use Rattle.conditional_asm.specs.declared.act.Act.TheVariants as act
use Rattle.conditional_asm.specs.Repeating.{once}
use Rattle.label_attributes.specs.Meanings.{meanings, of_call}
use Rattle.label_attributes.specs.declared.symbols.SymbolMeaning.{SymbolMeaning}
use Rattle.statement_listing.specs.Listings.{line_number, place_at}
use Rattle.macro_binding.specs.Bindings.{binding_notes}
use Rattle.macro_binding.specs.Prototypes.{name_of}
use Rattle.macro_library.specs.Contents.{Content}
use Rattle.macro_library.specs.Definitions.{is_open}
use Rattle.macro_library.specs.Extents.{behind_definition}
use Rattle.macro_library.specs.declared.fault.DefFault.{DefFault}
use Rattle.macro_library.specs.declared.fault.DefFault.TheVariants as fault
use Rattle.macro_library.specs.declared.member.Member.{Member}
use Rattle.macro_library.specs.declared.member.Member.TheVariants as member
use Rattle.call_sites.specs.Calls.{Call, macro_call}
use Rattle.call_sites.specs.Values.{definition_known}
use Rattle.call_knowledge.specs.Knowledge.{Knowledge}
use Rattle.call_knowledge.specs.Changes.{changed}
use Rattle.call_knowledge.specs.Standing.{frame}
use Rattle.call_knowledge.specs.declared.deed.Deed.{Deed}
use Rattle.call_knowledge.specs.declared.deed.Put.{Put}
use Rattle.call_knowledge.specs.Deeds.{setting, declaring, counting, branching}
use Rattle.macro_entry.specs.Entries.{operation_in, parameters_in}
use Rattle.macro_operands.specs.Calling.{Called}
use Rattle.macro_operands.proofs.AskingCalls.{call-asks}
use Rattle.asked_definitions.specs.Asked.{Sought, is_macro, is_refused, is_unreadable, is_unknown, definition_at, member_in, sought}
use Rattle.macro_operands.specs.declared.call.CallValues.{CallValues}
use Rattle.macro_expand.specs.Passages.{Passage, Placed, copied_passage, copying, label_at, lines_of, operands_at, place_in}
use Rattle.macro_expand.specs.declared.said.Said.{Said}

-- What the language speaks of: statements at places of passages, names of sequence symbols, and what a call knows of variable
-- symbols.
abbrev pub words : Vocabulary
words = record {
  Statement = Placed;
  Listing = Passage;
  Label = List ℕ;
  Known = Knowledge;
  Said = Said;
  Call = Call;
}

-- what a statement comes to, once it is asked for
abbrev pub Comes : Type 0
Comes = Asking Tree Tree (Effect words)

-- what is put: a key and its answer
abbrev pub puts_of : Option Put → List Pair
puts_of None = []
puts_of (Some put) = record { key = key_tree put.key; value = answer_tree put.answer } ∷ []

-- nothing is said but these notes
abbrev pub quiet : List Note → Said
quiet notes = record { notes = notes; target = None; called = None; locals = []; declared = []; globals = []; line = None }

-- the next statement follows, and nothing has changed
abbrev pub going_on : Knowledge → Said → Effect words
going_on known said = record { said = said; act = Continues known [] }

-- the same, with a note more
abbrev pub with_row : Row → List Note → List Note
with_row one notes = notes ++ noted one [] ∷ []

abbrev pub refused : Knowledge → Row → List Note → Effect words
refused known one notes = going_on known (quiet (with_row one notes))

-- ---- conditional assembly

-- what is said of a deed, whose notes stand behind these
abbrev pub said_by : Deed → List Note → Said
said_by deed notes = record {
  notes = notes ++ deed.notes;
  target = None;
  called = None;
  locals = deed.locals;
  declared = deed.declared;
  globals = deed.globals;
  line = None;
}

-- a deed is done, and the next statement follows
abbrev pub done_by : Knowledge → Deed → List Note → Effect words
done_by known deed notes = record { said = said_by deed notes; act = Continues (changed deed.change known) (puts_of deed.put) }

-- a branch to a sequence symbol, if one is left
abbrev pub branching_to : Knowledge → (label : List ℕ) → List Note → Effect words
branching_to known label notes = record {
  said = record (quiet notes) { target = Some label };
  act = Branches label (option_map (λ change. changed change known) (branching known));
}

-- ---- generated statements

-- CSECT, DSECT and START begin a section
abbrev pub is_section : (op : List ℕ) → Bool
is_section op = bytes_eq op (codes "CSECT") || (bytes_eq op (codes "DSECT") || bytes_eq op (codes "START"))

-- what is put then: the label, where it is an ordinary symbol, else the empty text
abbrev pub section_named : Option (List ℕ) → List ℕ
section_named None = []
section_named (Some name) = chars name

abbrev pub section_put : (label : List ℕ) → Pair
section_put label = record { key = key_tree key.Sect; value = answer_tree (Chars (section_named (name_of label))) }

abbrev pub section_puts : (op label : List ℕ) → List Pair
section_puts op label = if is_section op then section_put label ∷ [] else []

abbrev pub operation_puts : Option (List ℕ) → (label : List ℕ) → List Pair
operation_puts None label = []
operation_puts (Some op) label = section_puts op label

-- what is put of a symbol from then on: what it means to attribute references
abbrev pub symbol_put : SymbolMeaning → Pair
symbol_put one = record { key = key_tree (key.Sym one.name); value = answer_tree (Meaning one.attr) }

-- a generated statement puts the section that it begins, and what it tells of symbols
abbrev pub line_puts : Line → List Pair
line_puts line = operation_puts (name_of line.op) line.label ++ map symbol_put (meanings line)

abbrev pub generated : Knowledge → Line → List Note → Effect words
generated known line notes = record {
  said = record (quiet notes) { line = Some line };
  act = Continues known (line_puts line);
}

-- ---- macro definitions

-- what is reported of a definition that is refused. No definition comes to the last two.
abbrev pub row_of_fault : DefFault → Row
row_of_fault fault.NoMend = row.MissingMend
row_of_fault fault.BadPrototype = row.BadPrototype
row_of_fault (fault.CopyAbsent name) = row.AbsentMember name
row_of_fault (fault.CopyUnreadable name) = row.UnreadableMember name
row_of_fault (fault.CopyCycle name) = row.RecursiveMember name
row_of_fault (fault.TooLong name) = row.DefinitionTooLong name
row_of_fault (fault.Asks name) = row.AbsentMember name
row_of_fault fault.OutOfMemory = row.MissingMend

-- the place behind the definition whose MACRO has this number among the lines
abbrev pub behind : Passage → (start : ℕ) → ℕ
behind passage start = place_at (lines_of passage) (behind_definition (lines_of passage) start)

-- the operation has a definition from here on, or why not; processing goes on behind it
abbrev pub defined : (next : ℕ) → Knowledge → List Note → Result Content DefFault → Effect words
defined next known notes (Ok content) = record {
  said = quiet notes;
  act = Skips next known (record { key = key_tree (key.Op (operation_in content)); value = definition_known content } ∷ []);
}
defined next known notes (Err why) = record { said = quiet (with_row (row_of_fault why) notes); act = Skips next known [] }

abbrev pub defining : Passage → Knowledge → List Note → Option ℕ → Comes
defining passage known notes None = done (going_on known (quiet notes))
defining passage known notes (Some start) = and_then (definition_at passage.list start) (λ read. done (defined (behind passage start) known notes read))

-- ---- macro calls

-- these notes are said of a call of the macro whose prototype stands here
abbrev pub said_call_at : Origin → List Note → Said
said_call_at origin notes = record (quiet notes) { called = Some origin }

abbrev pub said_call : Content → List Note → Said
said_call content notes = said_call_at (place_in content.prototype) notes

-- The macro begins, with what the entries of the call come to, behind these puts; where an entry cannot be read there is no
-- call. At the limit of depth nothing of the entries is said.
abbrev pub entered_with : Content → (before : List Note) → Called → List Note → List Pair → Effect words
entered_with content before None notes puts = record { said = said_call content notes; act = Enters (said_call content before) Nowhere }
entered_with content before (Some values) notes puts = record {
  said = said_call content (notes ++ binding_notes (parameters_in content) values.operands);
  act = Enters (said_call content before) (Calling (macro_call content values.label values.operands) puts);
}

abbrev pub entered : Content → List Note → Noted Called → List Pair → Effect words
entered content notes entries puts = entered_with content notes entries.value (once (notes ++ entries.notes)) puts

-- the symbol that is the label of a call
abbrev pub call_label : Called → Option (List ℕ)
call_label None = None
call_label (Some values) = name_of values.label

-- whether nothing is known of a key
abbrev pub is_nothing : Tree → Bool
is_nothing (Leaf kind) = kind == 0
is_nothing (Fork left right) = false

-- the label of a call means a macro call until a statement defines it; a symbol that means something already keeps its meaning
abbrev pub label_puts : (name : List ℕ) → (known : Tree) → List Pair
label_puts name known = if is_nothing known then symbol_put (record { name = name; attr = of_call }) ∷ [] else []

-- what its label means is asked before the macro begins
abbrev pub labelling : Content → List Note → Noted Called → Option (List ℕ) → Comes
labelling content notes entries None = done (entered content notes entries [])
labelling content notes entries (Some name) = needs (key_tree (key.Sym name)) (λ known. done (entered content notes entries (label_puts name known)))

abbrev pub calling : (label operands : List ℕ) → Knowledge → List Note → Content → Comes
calling label operands known notes content =
    and_then (over_trees (λ entries. entries) (call-asks (frame known) label operands).tree)
    (λ entries. labelling content notes entries (call_label entries.value))

-- what an operation is that is not built in
abbrev pub called_by : (label operands : List ℕ) → Knowledge → (name : List ℕ) → List Note → Sought → Comes
called_by label operands known name notes (is_macro content) = calling label operands known notes content
called_by label operands known name notes (is_refused why) = done (refused known (row_of_fault why) notes)
called_by label operands known name notes is_unreadable = done (refused known (row.UnreadableMember name) notes)
called_by label operands known name notes is_unknown = done (refused known (row.UndefinedOperation (chars name)) notes)

-- the macro ends; there is none in open code
abbrev pub leaving : Knowledge → (name : List ℕ) → List Note → Effect words
leaving known name notes =
    if is_some known.binding then record { said = quiet notes; act = Returns } else refused known (row.OutsideMacro name) notes

-- all ends, and END is generated where its fields can be read
abbrev pub ended : Option Line → List Note → Effect words
ended line notes = record { said = record (quiet notes) { line = line }; act = Finishes }

-- ---- COPY

-- no list is entered, and this is said where there is room for one
abbrev pub not_copied : Row → List Note → Effect words
not_copied one notes = record { said = quiet (with_row one notes); act = Enters (quiet notes) Nowhere }

abbrev pub copied : Placed → (name : List ℕ) → List Note → Member → Effect words
copied s name notes member.Absent = not_copied (row.AbsentMember name) notes
copied s name notes member.Unreadable = not_copied (row.UnreadableMember name) notes
copied s name notes (member.File file) = record { said = quiet notes; act = Enters (quiet notes) (Copying (copied_passage s name file)) }

abbrev pub copying_member : Placed → (name : List ℕ) → List Note → Comes
copying_member s name notes =
    if is_open (copying s.passage) name then done (not_copied (row.RecursiveMember name) notes)
    else needs (key_tree (key.Member name)) (λ value. done (copied s name notes (member_in value)))

-- ---- all acts

-- What comes of an act of a statement in a call that knows so much, behind these notes. What has come to its act asks nothing.
abbrev pub acted : Placed → Knowledge → Act → List Note → Comes
acted s known act.Next notes = done (going_on known (quiet notes))
acted s known (act.Ask asked) notes = done (going_on known (quiet notes))
acted s known (act.Branch label) notes = done (branching_to known label notes)
acted s known (act.Actr count) notes = done (done_by known (counting count) notes)
acted s known (act.Set name element value) notes = done (done_by known (setting known name element value) notes)
acted s known (act.Declare list) notes = done (done_by known (declaring known list) notes)
acted s known act.Define notes = defining s.passage known notes (line_number (lines_of s.passage) s.place)
acted s known (act.Call name) notes = and_then (sought name) (called_by (label_at s.passage s.place) (operands_at s.passage s.place) known name notes)
acted s known (act.Copy name) notes = copying_member s name notes
acted s known (act.Generate line) notes = done (generated known line notes)
acted s known (act.Leave name) notes = done (leaving known name notes)
acted s known (act.End line) notes = done (ended line notes)
