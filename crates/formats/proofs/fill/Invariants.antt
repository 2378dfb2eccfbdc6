use Rattle.std.proofs.Common.{Ok}
use Rattle.stores.specs.Calls.{InOrder}
use Rattle.stores.specs.Meanings.{Steadily}
use Rattle.formats.specs.Fills.{fill_writes}
use Rattle.formats.proofs.Fills.{Unsettled}
use Rattle.formats.proofs.fill.Given as goal

abbrev pub invariant-loop-i : goal.invariant-loop-i
invariant-loop-i g l =
    let s = g.S.Store.state l.initial.store in
    let t = g.S.Store.state l.store in
    let m = g.S.Store.meaning s in
    let k = g.S.Store.meaning t in
    record {
      unsettled : Unsettled l.first l.i l.bytes m k;
      sound : Steadily g.S.Store.steady m k;
      calls : InOrder g.S.Store.does s (fill_writes l.first l.i l.bytes) (Ok tt) t;
    }
