use Rattle.file_uri.proofs.PathLaws.{path_of-parsed, path_of-refused}
use Rattle.file_uri.proofs.file_path.Goals as goal

pub returns-in-Ok-clause-path : goal.returns-in-Ok-clause-path
returns-in-Ok-clause-path c = rw (path_of-parsed c.args.uri.now _ c.utf8.uri c.in-Ok.ensures) c.local_path.ensures.path

pub returns-in-Ok-clause-refused : goal.returns-in-Ok-clause-refused
returns-in-Ok-clause-refused c = rw (path_of-parsed c.args.uri.now _ c.utf8.uri c.in-Ok.ensures) c.local_path.ensures.refused

pub returns-in-Err : goal.returns-in-Err
returns-in-Err c = record {
  path = tt;
  refused = λ e. path_of-refused c.args.uri.now c.in-Err.refused c.utf8.uri c.in-Err.ensures (c.fault_of.ensures (cc));
}
