use Rattle.std.proofs.Common.{Some, None, refl, ◌∙◌, arith}
use Rattle.benches.specs.Held.{content}
use Rattle.benches.proofs.Looks.{look_is, settled_shown}
use Rattle.benches.proofs.disk.Disk.look.Goals as goal

pub returns-in-Some-clause-shown : goal.returns-in-Some-clause-shown
returns-in-Some-clause-shown c =
    let disk = c.args.self.now in
    look_is (content disk.bytes.items c.args.block) disk.held.items c.deref.result.now c.args.block (Some c.in-Some.h.now) c.deref.ensures.value c.in-Some.ensures

pub returns-in-None-clause-shown : goal.returns-in-None-clause-shown
returns-in-None-clause-shown c =
    let disk = c.args.self.now in
    settled_shown disk.bytes.items c.deref-in-None.result.now c.args.block c.index.result.now _ c.then_some.result c.then_some.ensures (omega arith) c.index.ensures refl c.deref-in-None.ensures.value
    ∙ look_is (content disk.bytes.items c.args.block) disk.held.items c.deref.result.now c.args.block None c.deref.ensures.value c.in-None.ensures
