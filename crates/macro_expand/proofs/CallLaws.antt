-- How far the statement of a macro call leads.
use Rattle.std.proofs.Common.{◌≡◌, ◌∙◌, ℕ, List, [], Option, Some, None, refl, ap, sym}
use Rattle.hl_base.specs.declared.note.Note.{Note}
use Rattle.hl_base.specs.declared.set.Key.{Key}
use Rattle.kept_values.specs.Trees.{Tree}
use Rattle.kept_values.specs.Keys.{key_tree}
use Rattle.cond_expr.specs.Asking.{Noted}
use Rattle.cond_expr.specs.Outcome.{Outcome, Gives, Asks}
use Rattle.question_trees.specs.Bridge.{answers_in, led_as, over_trees}
use Rattle.question_trees.proofs.Following.{leads_as_far}
use Rattle.plain_expansion.specs.Language.{Effect}
use Rattle.plain_expansion.specs.Questions.{done, Led, Comes, Wants, led_by}
use Rattle.macro_library.specs.Contents.{Content}
use Rattle.call_knowledge.specs.Knowledge.{Knowledge}
use Rattle.call_knowledge.specs.Standing.{frame, told_by}
use Rattle.macro_operands.specs.Calling.{Called, call_of, shown_call}
use Rattle.macro_operands.specs.declared.call.CallOperands.TheVariants as shown
use Rattle.macro_operands.specs.declared.call.CallValues.{CallValues}
use Rattle.macro_operands.proofs.AskingCalls.{call-asks}
use Rattle.macro_expand.specs.Acts.{Comes as Asked, words, call_label, calling, entered, label_puts, labelling}
use Rattle.macro_expand.proofs.TreeLaws.{led_and_then, led_then}

-- what follows what the entries come to
abbrev pub behind_entries : List Note → Content → Noted Called → Asked
behind_entries notes content entries = labelling content notes entries (call_label entries.value)

-- how far what the entries come to leads
abbrev pub entered_led : (Tree → Option Tree) → Content → List Note → Outcome Called → Led Tree (Effect words)
entered_led told content notes (Gives called more) = led_by told (behind_entries notes content (record { value = called; notes = more }))
entered_led told content notes (Asks key) = Wants (key_tree key)

module _ (told : Tree → Option Tree) (known : Knowledge) (label operands : List ℕ) (notes : List Note) (content : Content) where
  -- what the entries come to under these answers
  abbrev pub entries : Outcome Called
  entries = call_of label operands (told_by known (answers_in told))

  entered-led : (o : Outcome Called) → led_then told (behind_entries notes content) (led_as (λ (noted : Noted Called). noted) o) ≡ entered_led told content notes o
  entered-led (Gives called more) = refl
  entered-led (Asks key) = refl

  pub calling-led : led_by told (calling label operands known notes content) ≡ entered_led told content notes entries
  calling-led =
      led_and_then told (behind_entries notes content) (over_trees (λ (noted : Noted Called). noted) (call-asks (frame known) label operands).tree)
      ∙ ap (led_then told (behind_entries notes content))
      (leads_as_far Called (Noted Called) (λ answers. call_of label operands (told_by known answers)) (call-asks (frame known) label operands) (λ noted. noted) told)
      ∙ entered-led entries

-- by what is shown of it
module _ (told : Tree → Option Tree) (content : Content) (notes : List Note) where
  pub shown-wants : (o : Outcome Called) (key : Key) → shown.Wants key ≡ shown_call o → entered_led told content notes o ≡ Wants (key_tree key)
  shown-wants (Gives (Some call) more) key is = cc
  shown-wants (Gives None more) key is = cc
  shown-wants (Asks asked) key is = let one : asked ≡ key = cc in ap {A = Key} (λ k. Wants (key_tree k)) one

  pub shown-made : (o : Outcome Called) (values : CallValues) (more : List Note) → shown.Made values more ≡ shown_call o →
      entered_led told content notes o ≡ led_by told (behind_entries notes content (record { value = Some values; notes = more }))
  shown-made (Gives (Some call) others) values more is =
      let one : call ≡ values = cc in
      let all : others ≡ more = cc in
      ap {A = CallValues} (λ c. led_by told (behind_entries notes content (record { value = Some c; notes = others }))) one
      ∙ ap {A = List Note} (λ ns. led_by told (behind_entries notes content (record { value = Some values; notes = ns }))) all
  shown-made (Gives None others) values more is = cc
  shown-made (Asks asked) values more is = cc

  pub shown-unreadable : (o : Outcome Called) (more : List Note) → shown.Unreadable more ≡ shown_call o →
      entered_led told content notes o ≡ Comes (entered content notes (record { value = None; notes = more }) [])
  shown-unreadable (Gives (Some call) others) more is = cc
  shown-unreadable (Gives None others) more is =
      let all : others ≡ more = cc in
      ap {A = List Note} (λ ns. Comes (entered content notes (record { value = None; notes = ns }) [])) all
  shown-unreadable (Asks asked) more is = cc
