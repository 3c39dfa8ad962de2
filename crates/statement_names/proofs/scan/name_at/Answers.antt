use Rattle.std.specs.Str.{chars}
use Rattle.statement_names.proofs.ScanLaws.{named-variables, named-symbols, named-branch}
use Rattle.statement_names.proofs.scan.name_at.Goals as goal

pub returns-in-Variables : goal.returns-in-Variables
returns-in-Variables c = named-variables c.variable.result c.args.sought c.args.marks c.args.c (chars c.args.behind.now) c.in-Variables.is c.variable.ensures

pub returns-in-Symbols : goal.returns-in-Symbols
returns-in-Symbols c =
    named-symbols c.symbol.result c.args.sought c.args.marks c.args.c (chars c.args.text.now) (chars c.args.behind.now) c.is_quoted.result c.in-Symbols.is
    c.requires c.is_quoted.ensures c.symbol.ensures

pub returns-in-Branch : goal.returns-in-Branch
returns-in-Branch c =
    named-branch c.branch_name.result c.args.sought c.args.marks c.args.c (chars c.args.behind.now) c.in-Branch.is c.branch_name.ensures
