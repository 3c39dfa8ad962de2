-- none of the folders so far has the member
use Rattle.std.proofs.Common.{◌≡◌, drop}
use Rattle.group_members.specs.Members.{first_number}
use Rattle.group_members.proofs.members.GroupMembers.number.Given as goal

abbrev pub invariant-loop-folder : goal.invariant-loop-folder
invariant-loop-folder l = first_number l.self.holdings.store (drop l.folder-index l.folder-items) l.name ≡ first_number l.self.holdings.store l.self.folders l.name
