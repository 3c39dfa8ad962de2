use Rattle.std.proofs.Common.{rules}
use Rattle.plain_terms.proofs.Glances.{quoted_seen, star_read, term_found}
use Rattle.plain_terms.proofs.glance.sole_term.Goals as goal

pub returns-then-ends_quoted : goal.returns-then-ends_quoted
returns-then-ends_quoted c = quoted_seen c.args.text.now c.quoted_term.result c.quoted_term.ensures

pub returns-then-eq : goal.returns-then-eq
returns-then-eq c = star_read c.args.text.now (search rules)

pub returns : goal.returns
returns c = term_found c.args.text.now c.term.result c.term.ensures
