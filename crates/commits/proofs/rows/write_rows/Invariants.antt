use Rattle.std.proofs.Common.{◌≡◌, Ok}
use Rattle.traces.specs.Traces.{Trace}
use Rattle.workings.specs.Refreshes.{row_writes, touched_blocks}
use Rattle.commits.proofs.rows.write_rows.Given as goal

abbrev pub invariant-loop-block : goal.invariant-loop-block
invariant-loop-block g l = record {
  calls : Trace g.S.Store.does g.S.Store.meaning g.S.Store.own g.S.Store.source g.S.Store.steady (g.S.Store.state l.initial.store) (row_writes l.sample l.block) (Ok tt) (g.S.Store.state l.store);
  number : l.written ≡ touched_blocks l.sample l.block;
}
