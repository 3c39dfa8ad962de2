use Rattle.std.proofs.Common.{◌≡◌, ◌++◌, length, map, take, drop}
use Rattle.expansion_memo.specs.Kept.{while_live}
use Rattle.expansion_memo.specs.Entries.{kept_of}
use Rattle.expansion_memo.proofs.table.give_up_all.Given as goal

-- the dead are given up as far as this place, and the rest stands
abbrev pub invariant-loop-place : goal.invariant-loop-place
invariant-loop-place g l =
    let all = kept_of g.C.Kept.code l.initial.entries.items in
    record {
      long : length l.entries.items ≡ length l.initial.entries.items;
      so_far : kept_of g.C.Kept.code l.entries.items ≡ map (while_live l.arena.nodes) (take l.place all) ++ drop l.place all;
    }
