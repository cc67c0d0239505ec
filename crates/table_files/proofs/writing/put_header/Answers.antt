use Rattle.std.proofs.Common.{◌≡◌, ◌+◌, ◌-◌, sym, subst, arith}
use Rattle.text.proofs.Writing.{wrote_both}
use Rattle.table_files.proofs.Texts.{Named, columns_length, named_more}
use Rattle.table_files.proofs.writing.put_header.Goals.{else-loop-k-test, then-loop-k-test+else-k-width}
use Rattle.table_files.proofs.writing.put_header.Goals as goal

pub put_name-requires : goal.put_name-requires
put_name-requires c =
    let i = c.loop-k.invariant in
    let l = columns_length (c.loop-k.k - 1) (omega (arith, c.requires.0)) in
    (omega (arith, c.requires.0), omega (arith, c.requires, i.0, i.2.place, i.2.room))

pub loop-k-preserved : goal.loop-k-preserved
loop-k-preserved c =
    let k = c.loop-k.k in
    let i = c.loop-k.invariant in
    let e : k + 1 - 1 ≡ k = omega arith in
    (omega arith, omega arith, subst (Named c.args.writer.now c.put_name.new.writer) (sym e) (named_more k i.0 i.2 c.put_name.ensures (omega (arith, c.requires.1))))

pub put-requires : goal.put-requires
put-requires c =
    let i = c.loop-k.invariant in
    elim c.loop-k-test.branch [
      | else-loop-k-test w ↦
          let l = columns_length (c.loop-k.k - 1) (omega (arith, c.requires.0)) in
          rw w.writer-is (omega (arith, c.requires, i.0, i.2.place, i.2.room))
      | then-loop-k-test+else-k-width w ↦
          let n = named_more c.loop-k.k i.0 i.2 w.put_name.ensures (omega (arith, c.requires.1)) in
          let l = columns_length c.loop-k.k (omega (arith, c.requires.0)) in
          rw w.writer-is (omega (arith, c.requires, n.place, n.room))
    ]

pub returns : goal.returns
returns c =
    let i = c.loop-k.invariant in
    let before = c.args.writer.now in
    let n : Named before c.loop-k-test.writer c.args.width = elim c.loop-k-test.branch [
      | else-loop-k-test w ↦
          let e : c.loop-k.k - 1 ≡ c.args.width = omega arith in
          rw (w.writer-is, ← e) i.2
      | then-loop-k-test+else-k-width w ↦
          let e : c.loop-k.k ≡ c.args.width = omega arith in
          rw (w.writer-is, ← e) (named_more c.loop-k.k i.0 i.2 w.put_name.ensures (omega (arith, c.requires.1)))
    ] in
    record {
      wrote = wrote_both n c.put.ensures (omega (arith, c.requires.1));
      short = omega (arith, c.put.ensures.place, n.place, columns_length c.args.width c.requires.0, c.requires.0);
    }
