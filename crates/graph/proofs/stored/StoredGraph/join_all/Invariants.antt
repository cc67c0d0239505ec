use Rattle.std.proofs.Common.{◌≡◌, length}
use Rattle.graph.specs.Members.{member}
use Rattle.graph.specs.Stored.{stored}
use Rattle.graph.proofs.Joining.{Joining}
use Rattle.graph.proofs.stored.StoredGraph.join_all.Given as goal

abbrev pub invariant-loop-a : goal.invariant-loop-a
invariant-loop-a l = record {
  long : length l.rows ≡ 256;
  joining : Joining (member l.all) (member l.a-iterator.left) (stored l.initial.rows) (stored l.rows);
}
