-- How the sites of a list are kept. No public clause cites this file. This project.
use Rattle.std.specs.Prelude.{◌≡◌, ℕ, ◌==◌, Option, Some, chars, unwrap_or}
use Rattle.std.specs.HashMap.{HashMap, get}
use Rattle.hl_base.specs.declared.place.Frame.{Frame}
use Rattle.lsp_messages.specs.declared.outgoing.Relation.{Relation}
use Rattle.text_sites.specs.Sites.{Site, no_site}
use Rattle.text_sites.specs.Spans.{line_span}
use Rattle.answers_feed.specs.Diagnostics.{frame_text}

-- the site of a number that is not the program's
abbrev pub member_of_shelf : (ℕ → Option Site) → (number : ℕ) → Site
member_of_shelf members number = unwrap_or (members number) no_site

-- a frame that stands in this site
abbrev pub relation_in : Site → Frame → Relation
relation_in site frame = record { uri = site.uri; range = line_span site.text frame.origin.line; message = chars (frame_text frame) }

-- what is kept under a number is its site
abbrev pub AreSites : {S : Type 0} → (ℕ → Option Site) → HashMap ℕ Site S → Type 0
AreSites members sites = (number : ℕ) (site : Site) → get (λ a b. a == b) sites number ≡ Some site → site ≡ member_of_shelf members number
