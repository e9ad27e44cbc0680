use Rattle.std.proofs.Common.{◌≡◌, ◌≤◌, drop}
use Rattle.table_nodes.specs.Majors.{after, members_show, told_in}
use Rattle.table_nodes.proofs.majors.members_tell.Given as goal

-- those so far said no
abbrev pub invariant-loop-member : goal.invariant-loop-member
invariant-loop-member l = record {
  within : l.asked ≤ 65535;
  shown : members_show (λ n. told_in l.fn.known n l.fn.major) l.fn.members ≡ after l.asked (members_show (λ n. told_in l.fn.known n l.fn.major) (drop l.member-index l.fn.members));
}
