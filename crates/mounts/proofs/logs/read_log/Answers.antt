use Rattle.std.proofs.Common.{◌≡◌, arith}
use Rattle.std.proofs.lemmas.Result.{err_from_is_err_and}
use Rattle.stores.proofs.Sameness.{same_trans}
use Rattle.layouts.specs.Heads.{head_fields}
use Rattle.cards.specs.Verdicts.{each, entry_check}
use Rattle.cards.proofs.Checks.{each_stops}
use Rattle.cards.proofs.Entries.{log_none}
use Rattle.mounts.proofs.Parts.{same_refl, holds_still, refused_later}
use Rattle.mounts.specs.Reads.{entry_reads, log_reads}
use Rattle.mounts.proofs.ReadCalls.{each_begun, each_onward, each_stopped, reads_answered}
use Rattle.mounts.proofs.logs.read_log.Goals as goal

pub loop-position-init : goal.loop-position-init
loop-position-init g c = record {
  calls = λ card holds. each_begun g.S.Store.does (entry_check g.S.Store.own g.K.RecordKind.wrong (head_fields c.args.head.now) card) (entry_reads (head_fields c.args.head.now)) (g.S.Store.state c.args.store.now);
  outcome = λ card holds. (same_refl (g.S.Store.meaning (g.S.Store.state c.args.store.now)), log_none g.S.Store.own g.K.RecordKind.wrong (head_fields c.args.head.now) card);
}

pub loop-position-preserved : goal.loop-position-preserved
loop-position-preserved g c =
    let s = g.S.Store.state c.args.store.now in
    let u = g.S.Store.state c.loop-position.store in
    let t = g.S.Store.state c.read_entry.new.store in
    let h = head_fields c.args.head.now in
    record {
      calls = λ card holds.
          let before = c.loop-position.invariant.outcome card holds in
          let checks = entry_check g.S.Store.own g.K.RecordKind.wrong h card in
          let here = c.in_ok-read_entry.ensures.calls card (holds_still (g.S.Store.meaning s) (g.S.Store.meaning u) before.0 h card holds) c.loop-position-test.true before.1 in
          each_onward g.S.Store.does checks (entry_reads h) s u t c.loop-position.position before.1.right (c.loop-position.invariant.calls card holds) here;
      outcome = λ card holds.
          let before = c.loop-position.invariant.outcome card holds in
          let here = c.in_ok-read_entry.ensures.outcome card (holds_still (g.S.Store.meaning s) (g.S.Store.meaning u) before.0 h card holds) c.loop-position-test.true before.1 in
          (same_trans before.0 here.0, here.1);
    }

pub returns-in_err-read_entry-clause-outcome : goal.returns-in_err-read_entry-clause-outcome
returns-in_err-read_entry-clause-outcome g c = λ card holds.
    let p = err_from_is_err_and c.from_residual.result c.from_residual.ensures.1 in
    let m = g.S.Store.meaning (g.S.Store.state c.args.store.now) in
    let k = g.S.Store.meaning (g.S.Store.state c.loop-position.store) in
    let n = g.S.Store.meaning (g.S.Store.state c.read_entry.new.store) in
    let h = head_fields c.args.head.now in
    let i = c.loop-position.position in
    let e = c.in_err-read_entry.field-0.0 in
    let checks = entry_check g.S.Store.own g.K.RecordKind.wrong h card in
    let before = c.loop-position.invariant.outcome card holds in
    let here = c.in_err-read_entry.ensures.outcome card (holds_still m k before.0 h card holds) c.loop-position-test.true before.1 in
    rw (p.1, p.2)
    (refused_later m k before.0 g.S.Store.source n (checks i) (each checks h.entries) e (λ is. each_stops checks i h.entries e before.1.right is c.loop-position-test.true) here)

pub returns-in_err-read_entry-clause-calls : goal.returns-in_err-read_entry-clause-calls
returns-in_err-read_entry-clause-calls g c = λ card holds.
    let p = err_from_is_err_and c.from_residual.result c.from_residual.ensures.1 in
    let s = g.S.Store.state c.args.store.now in
    let u = g.S.Store.state c.loop-position.store in
    let t = g.S.Store.state c.read_entry.new.store in
    let h = head_fields c.args.head.now in
    let checks = entry_check g.S.Store.own g.K.RecordKind.wrong h card in
    let before = c.loop-position.invariant.outcome card holds in
    let here = c.in_err-read_entry.ensures.calls card (holds_still (g.S.Store.meaning s) (g.S.Store.meaning u) before.0 h card holds) c.loop-position-test.true before.1 in
    rw (p.1, p.2)
    (each_stopped g.S.Store.does checks (entry_reads h) s u t c.loop-position.position before.1.right (c.loop-position.invariant.calls card holds) h.entries c.in_err-read_entry.field-0.0 c.loop-position-test.true here)

pub returns-clause-outcome : goal.returns-clause-outcome
returns-clause-outcome g c = λ card holds.
    let whole : c.loop-position.position ≡ c.args.head.now.entries = omega (arith, c.loop-position-test.false, c.loop-position.auto.position-end) in
    rw whole at (c.loop-position.invariant.outcome card holds)

pub returns-clause-calls : goal.returns-clause-calls
returns-clause-calls g c = λ card holds.
    let whole : c.loop-position.position ≡ c.args.head.now.entries = omega (arith, c.loop-position-test.false, c.loop-position.auto.position-end) in
    let h = head_fields c.args.head.now in
    let check = each (entry_check g.S.Store.own g.K.RecordKind.wrong h card) h.entries in
    reads_answered g.S.Store.does _ _ check check (log_reads g.S.Store.own g.K.RecordKind.wrong h card) tt _ (rw whole at (c.loop-position.invariant.calls card holds)) tt
