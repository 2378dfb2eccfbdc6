use Rattle.std.proofs.Common.{◌≡◌, ◌<◌, arith}
use Rattle.std.proofs.lemmas.Result.{err_from_is_err_and}
use Rattle.stores.proofs.Sameness.{same_trans}
use Rattle.layouts.specs.Heads.{head_fields}
use Rattle.cards.specs.Cards.{filled}
use Rattle.cards.specs.Verdicts.{each, slot_check}
use Rattle.cards.proofs.Checks.{each_stops}
use Rattle.cards.proofs.Rows.{slots_none}
use Rattle.mounts.proofs.Parts.{same_refl, holds_still, refused_later}
use Rattle.mounts.specs.Reads.{slot_reads}
use Rattle.mounts.proofs.ReadCalls.{each_begun, each_onward, each_stopped}
use Rattle.mounts.proofs.slots.read_slots.Goals as goal

pub loop-slot-init : goal.loop-slot-init
loop-slot-init g c = record {
  calls = λ card holds flagged laid. each_begun g.S.Store.does (slot_check g.S.Store.own g.K.RecordKind.wrong (head_fields c.args.head.now) card) slot_reads (g.S.Store.state c.args.store.now);
  outcome = λ card holds flagged laid.
      (same_refl (g.S.Store.meaning (g.S.Store.state c.args.store.now)), slots_none g.S.Store.own g.K.RecordKind.wrong (head_fields c.args.head.now) card c.args.rows.now _ laid);
}

pub loop-slot-preserved : goal.loop-slot-preserved
loop-slot-preserved g c =
    let s = g.S.Store.state c.args.store.now in
    let u = g.S.Store.state c.loop-slot.store in
    let t = g.S.Store.state c.read_slot.new.store in
    let h = head_fields c.args.head.now in
    let within : c.loop-slot.slot < h.size = omega (arith, c.filled-end.ensures, c.loop-slot-test.true) in
    record {
      calls = λ card holds flagged laid.
          let before = c.loop-slot.invariant.outcome card holds flagged laid in
          let checks = slot_check g.S.Store.own g.K.RecordKind.wrong h card in
          let still = holds_still (g.S.Store.meaning s) (g.S.Store.meaning u) before.0 h card holds in
          let here = c.in_ok-read_slot.ensures.calls h card still within flagged before.1 in
          each_onward g.S.Store.does checks slot_reads s u t c.loop-slot.slot before.1.0.right (c.loop-slot.invariant.calls card holds flagged laid) here;
      outcome = λ card holds flagged laid.
          let before = c.loop-slot.invariant.outcome card holds flagged laid in
          let still = holds_still (g.S.Store.meaning s) (g.S.Store.meaning u) before.0 h card holds in
          let here = c.in_ok-read_slot.ensures.outcome h card still within flagged before.1 in
          (same_trans before.0 here.0, here.1);
    }

pub returns-in_err-read_slot-clause-outcome : goal.returns-in_err-read_slot-clause-outcome
returns-in_err-read_slot-clause-outcome g c = λ card holds flagged laid.
    let p = err_from_is_err_and c.from_residual.result c.from_residual.ensures.1 in
    let m = g.S.Store.meaning (g.S.Store.state c.args.store.now) in
    let k = g.S.Store.meaning (g.S.Store.state c.loop-slot.store) in
    let n = g.S.Store.meaning (g.S.Store.state c.read_slot.new.store) in
    let h = head_fields c.args.head.now in
    let i = c.loop-slot.slot in
    let e = c.in_err-read_slot.field-0.0 in
    let checks = slot_check g.S.Store.own g.K.RecordKind.wrong h card in
    let within : i < filled h = omega (arith, c.filled-end.ensures, c.loop-slot-test.true) in
    let sized : i < h.size = omega arith in
    let before = c.loop-slot.invariant.outcome card holds flagged laid in
    let here = c.in_err-read_slot.ensures.outcome h card (holds_still m k before.0 h card holds) sized flagged before.1 in
    rw (p.1, p.2)
    (refused_later m k before.0 g.S.Store.source n (checks i) (each checks (filled h)) e (λ is. each_stops checks i (filled h) e before.1.0.right is within) here)

pub returns-in_err-read_slot-clause-calls : goal.returns-in_err-read_slot-clause-calls
returns-in_err-read_slot-clause-calls g c = λ card holds flagged laid.
    let p = err_from_is_err_and c.from_residual.result c.from_residual.ensures.1 in
    let s = g.S.Store.state c.args.store.now in
    let u = g.S.Store.state c.loop-slot.store in
    let t = g.S.Store.state c.read_slot.new.store in
    let h = head_fields c.args.head.now in
    let i = c.loop-slot.slot in
    let checks = slot_check g.S.Store.own g.K.RecordKind.wrong h card in
    let within : i < filled h = omega (arith, c.filled-end.ensures, c.loop-slot-test.true) in
    let sized : i < h.size = omega arith in
    let before = c.loop-slot.invariant.outcome card holds flagged laid in
    let here = c.in_err-read_slot.ensures.calls h card (holds_still (g.S.Store.meaning s) (g.S.Store.meaning u) before.0 h card holds) sized flagged before.1 in
    rw (p.1, p.2)
    (each_stopped g.S.Store.does checks slot_reads s u t i before.1.0.right (c.loop-slot.invariant.calls card holds flagged laid) (filled h) c.in_err-read_slot.field-0.0 within here)

pub returns-clause-outcome : goal.returns-clause-outcome
returns-clause-outcome g c = λ card holds flagged laid.
    let whole : c.loop-slot.slot ≡ filled (head_fields c.args.head.now) = omega (arith, c.filled-end.ensures, c.loop-slot-test.false, c.loop-slot.auto.slot-end) in
    let read = c.loop-slot.invariant.outcome card holds flagged laid in
    (read.0, rw whole at read.1.0)

pub returns-clause-calls : goal.returns-clause-calls
returns-clause-calls g c = λ card holds flagged laid.
    let h = head_fields c.args.head.now in
    let whole : c.loop-slot.slot ≡ filled h = omega (arith, c.filled-end.ensures, c.loop-slot-test.false, c.loop-slot.auto.slot-end) in
    rw whole at (c.loop-slot.invariant.calls card holds flagged laid)
