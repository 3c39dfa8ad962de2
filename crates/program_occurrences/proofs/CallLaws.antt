-- Points of calls that are alike outside the point's own level.
use Rattle.std.proofs.Common.{◌≡◌, ◌∙◌, ◌-◌, ◌<◌, ℕ, zero, suc, Bool, false, cond, List, [], ◌∷◌, ◌++◌, Option, Some, None, refl, sym, ap, arith}
use Rattle.std.specs.Option.{option_map}
use Rattle.hlasm_statements.specs.declared.statement.Statement.{Statement}
use Rattle.running_calls.specs.declared.calls.RunningCall.{RunningCall}
use Rattle.statement_listing.specs.Listings.{Listed}
use Rattle.text_lists.specs.Definitions.{Defined}
use Rattle.text_lists.specs.Lists.{Source, line_at}
use Rattle.text_pool.specs.Members.{Member}
use Rattle.trace_values.specs.declared.item.TraceItem.{TraceItem}
use Rattle.variable_meanings.specs.Meanings.{Call}
use Rattle.program_occurrences.specs.Labels.{has_ampersand, is_call_labelled, label_found, labelled_call, of_calls, place_in}
use Rattle.program_occurrences.specs.Occurrences.{Situation, of_line, of_point, of_taken}
use Rattle.program_occurrences.specs.Operations.{member_taken, used_by}

abbrev Alike : (count : ℕ) (f g : ℕ → Option RunningCall) → Type 0
Alike count f g = (level : ℕ) → level < count → f level ≡ g level

labelled-alike : (texts : List Source) (name : List ℕ) (f g : ℕ → Option RunningCall) (count : ℕ) → Alike count f g → labelled_call texts name f count ≡ labelled_call texts name g count
labelled-alike texts name f g zero alike = refl
labelled-alike texts name f g (suc level) alike =
    ap (λ (call : Option RunningCall). cond (is_call_labelled texts name call) (option_map place_in call) (labelled_call texts name f level)) (alike level (omega arith))
    ∙ ap (λ rest. cond (is_call_labelled texts name (g level)) (option_map place_in (g level)) rest)
    (labelled-alike texts name f g level (λ one below. alike one (omega arith)))

calls-alike : (texts : List Source) (f g : ℕ → Option RunningCall) (count : ℕ) (statement : Statement) (first : Option (List ℕ)) → Alike count f g →
    of_calls texts f count statement first ≡ of_calls texts g count statement first
calls-alike texts f g count statement None alike = refl
calls-alike texts f g count statement (Some name) alike =
    ap (λ found. cond (has_ampersand statement.label) (label_found texts name found) []) (labelled-alike texts name f g count alike)

abbrev pub at_point : (ℕ → Option RunningCall) → ℕ → Call → Option (List ℕ) → Situation
at_point calls level variables first = record { calls = calls; level = level; variables = variables; first = first }

line-alike : (texts : List Source) (definitions : List Defined) (members : List ℕ → Member) (f g : ℕ → Option RunningCall) (level : ℕ) (variables : Call)
    (first : Option (List ℕ)) (item : TraceItem) (line : Option Listed) → Alike level f g →
    of_line texts definitions members (at_point f level variables first) item line ≡ of_line texts definitions members (at_point g level variables first) item line
line-alike texts definitions members f g level variables first item None alike = refl
line-alike texts definitions members f g level variables first item (Some line) alike =
    ap
    (λ found.
    found ++ of_taken texts definitions (at_point f level variables first) item line.statement (member_taken members (used_by item line.statement) item line.statement))
    (calls-alike texts f g level line.statement first alike)

-- the occurrences of a point go by the calls outside its level alone
pub point-alike : (texts : List Source) (definitions : List Defined) (members : List ℕ → Member) (f g : ℕ → Option RunningCall) (level : ℕ) (variables : Call)
    (first : Option (List ℕ)) (item : TraceItem) → Alike level f g →
    of_point texts definitions members (at_point f level variables first) item ≡ of_point texts definitions members (at_point g level variables first) item
point-alike texts definitions members f g level variables first item alike =
    line-alike texts definitions members f g level variables first item (line_at texts item.frames.innermost.origin) alike

-- a call whose label is another one is passed over
pub labelled-lower : (texts : List Source) (name : List ℕ) (calls : ℕ → Option RunningCall) (level : ℕ) → 0 < level → is_call_labelled texts name (calls (level - 1)) ≡ false →
    labelled_call texts name calls (level - 1) ≡ labelled_call texts name calls level
labelled-lower texts name calls zero some is = absurd (omega arith)
labelled-lower texts name calls (suc level) some is =
    let same : suc level - 1 ≡ level = omega arith in
    ap (labelled_call texts name calls) same
    ∙ sym (ap (λ (b : Bool). cond b (option_map place_in (calls level)) (labelled_call texts name calls level))
    (ap (λ (n : ℕ). is_call_labelled texts name (calls n)) (sym same) ∙ is))
