use Rattle.std.proofs.Common.{◌≡◌}
use Rattle.macro_library.specs.Copying.{comes}
use Rattle.macro_library.specs.Members.{member_of}
use Rattle.macro_library.proofs.copying.Copying.finish.Given as goal

-- the same comes of all
abbrev pub invariant-loop : goal.invariant-loop
invariant-loop l = comes (member_of l.members) l.operation l.copying ≡ comes (member_of l.members) l.operation l.fn.self
