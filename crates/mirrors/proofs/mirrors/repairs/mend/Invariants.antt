use Rattle.std.proofs.Common.{◌≡◌, true, Ok}
use Rattle.stores.specs.Meanings.{Settled}
use Rattle.mirrors.specs.Below.{Mends}
use Rattle.mirrors.specs.Mirrors.{half}
use Rattle.mirrors.specs.Repairs.{Mended}
use Rattle.mirrors.proofs.mirrors.repairs.mend.Given as goal

abbrev pub invariant-loop-block : goal.invariant-loop-block
invariant-loop-block g l =
    let m = g.S.Store.meaning (g.S.Store.state l.initial.below) in
    (l.half ≡ half m)
    × (m.on ≡ true → Settled m → Mended l.block m (g.S.Store.meaning (g.S.Store.state l.below)))
    × Mends g.S.Store.does l.half l.block (g.S.Store.state l.initial.below) (Ok tt) (g.S.Store.state l.below)
