use Rattle.std.proofs.Common.{◌∙◌, ◌++◌, ◌<◌, ◌≤◌, List, length, map, sym, ap, subst, append-nil, drop_of_length-le}
use Rattle.hlasm_statements.specs.declared.statement.Statement.{Statement}
use Rattle.statement_listing.specs.Listings.{listed, listing_of}
use Rattle.statement_listing.specs.Sources.{listed_at}
use Rattle.statement_listing.proofs.ListingLaws.{line-read}
use Rattle.statement_listing.proofs.source.lines_after.Goals as goal

pub loop-at-preserved : goal.loop-at-preserved
loop-at-preserved c =
    line-read (listing_of c.args.path c.args.statements) c.loop-at.lines.items c.push.new.self.items (record { path = c.args.path; statements = c.args.statements }) c.loop-at.at c.in_ok-line.line
    (subst (λ (ss : List Statement). c.loop-at.at < length ss) c.as_slice-count.ensures c.loop-at-test.true)
    c.loop-at.invariant
    (c.in_ok-line.ensures ∙ ap (λ s. listed_at s c.loop-at.at) c.in_ok-source.ensures.ok)
    c.in_ok-push.ensures.items

pub returns : goal.returns
returns c =
    let past = subst (λ (ss : List Statement). length ss ≤ c.loop-at.at) c.as_slice-count.ensures c.loop-at-test.false in
    sym (
    c.loop-at.invariant
    ∙ ap (λ ss. c.loop-at.lines.items ++ map (listed c.args.path) ss) (drop_of_length-le c.args.statements past)
    ∙ append-nil c.loop-at.lines.items)
