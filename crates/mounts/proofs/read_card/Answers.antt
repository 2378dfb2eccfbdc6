use Rattle.std.proofs.Common.{rules}
use Rattle.std.proofs.lemmas.Result.{err_from_is_err_and}
use Rattle.stores.proofs.Sameness.{same_trans}
use Rattle.layouts.specs.Heads.{head_fields}
use Rattle.cards.specs.Cards.{Card}
use Rattle.cards.proofs.Mounting.{remembered, lawful, accepted}
use Rattle.mounts.specs.Parts.{ShowsWithRoom}
use Rattle.mounts.proofs.Parts.{shows_still, holds_still}
use Rattle.mounts.proofs.CardCalls.{shown, head_refused, log_refused, slots_refused, slots_accepted}
use Rattle.mounts.proofs.read_card.Goals as goal

pub returns-in_err-head-clause-calls : goal.returns-in_err-head-clause-calls
returns-in_err-head-clause-calls g c =
    let p = err_from_is_err_and c.from_residual.result c.from_residual.ensures.1 in
    let m = g.S.Store.meaning (g.S.Store.state c.args.store.now) in
    let card : Card = λ b. m.reads b in
    let shows = shown m c.requires in
    rw (p.1, p.2) (head_refused g.S.Store.does g.S.Store.own g.K.RecordKind.CODE g.K.RecordKind.wrong m.size card _ _ _ (c.in_err-head.ensures.calls card shows))

pub returns-in_err-log-clause-calls : goal.returns-in_err-log-clause-calls
returns-in_err-log-clause-calls g c =
    let p = err_from_is_err_and c.from_residual-in_err-log.result c.from_residual-in_err-log.ensures.1 in
    let m = g.S.Store.meaning (g.S.Store.state c.args.store.now) in
    let k = g.S.Store.meaning (g.S.Store.state c.read_head.new.store) in
    let h = head_fields c.in_ok-head.head in
    let card : Card = λ b. m.reads b in
    let shows = shown m c.requires in
    let head = c.in_ok-head.ensures.outcome card shows in
    let holds : ShowsWithRoom k h card = record { shows = shows_still m k head.0 card shows; room = c.in_ok-head.ensures.head.1 } in
    rw (p.1, p.2) (log_refused g.S.Store.does g.S.Store.own g.K.RecordKind.CODE g.K.RecordKind.wrong m.size card _ _ h _ head.1 (c.in_ok-head.ensures.calls card shows) _ _ (c.in_err-log.ensures.calls card holds))

pub returns-in_err-read_slots-clause-calls : goal.returns-in_err-read_slots-clause-calls
returns-in_err-read_slots-clause-calls g c =
    let p = err_from_is_err_and c.from_residual-in_err-read_slots.result c.from_residual-in_err-read_slots.ensures.1 in
    let m = g.S.Store.meaning (g.S.Store.state c.args.store.now) in
    let k = g.S.Store.meaning (g.S.Store.state c.read_head.new.store) in
    let l = g.S.Store.meaning (g.S.Store.state c.read_log.new.store) in
    let h = head_fields c.in_ok-head.head in
    let card : Card = λ b. m.reads b in
    let shows = shown m c.requires in
    let head = c.in_ok-head.ensures.outcome card shows in
    let holds : ShowsWithRoom k h card = record { shows = shows_still m k head.0 card shows; room = c.in_ok-head.ensures.head.1 } in
    let log = c.in_ok-log.ensures.outcome card holds in
    let slots = c.in_err-read_slots.ensures.calls card (holds_still k l log.0 h card holds) log.1.flag log.1.row in
    rw (p.1, p.2)
    (slots_refused g.S.Store.does g.S.Store.own g.K.RecordKind.CODE g.K.RecordKind.wrong m.size card _ _ h _ head.1 (c.in_ok-head.ensures.calls card shows) _ log.1.right _ (c.in_ok-log.ensures.calls card holds) _ _ slots)

pub invariant_of-result : goal.invariant_of-result
invariant_of-result g c =
    let m = g.S.Store.meaning (g.S.Store.state c.args.store.now) in
    let k = g.S.Store.meaning (g.S.Store.state c.read_head.new.store) in
    let l = g.S.Store.meaning (g.S.Store.state c.read_log.new.store) in
    let h = head_fields c.in_ok-head.head in
    let card : Card = λ b. m.reads b in
    let shows = shown m c.requires in
    let head = c.in_ok-head.ensures.outcome card shows in
    let holds : ShowsWithRoom k h card = record { shows = shows_still m k head.0 card shows; room = c.in_ok-head.ensures.head.1 } in
    let log = c.in_ok-log.ensures.outcome card holds in
    let rows = c.in_ok-read_slots.ensures.outcome card (holds_still k l log.0 h card holds) log.1.flag log.1.row in
    let most = c.in_ok-head.head.shape.most in
    let read = c.in_ok-log.log in
    (c.in_ok-head.ensures.head.0, search rules, lawful g.S.Store.own g.K.RecordKind.wrong h card c.read_slots.new.rows read.rows read.logged read.work read.last log.1 rows.1 most)

pub returns-clause-outcome : goal.returns-clause-outcome
returns-clause-outcome g c = record {
  each_card = λ card shows.
      let m = g.S.Store.meaning (g.S.Store.state c.args.store.now) in
      let k = g.S.Store.meaning (g.S.Store.state c.read_head.new.store) in
      let l = g.S.Store.meaning (g.S.Store.state c.read_log.new.store) in
      let own = g.S.Store.own in
      let wrong = g.K.RecordKind.wrong in
      let h = head_fields c.in_ok-head.head in
      let head = c.in_ok-head.ensures.outcome card shows in
      let holds : ShowsWithRoom k h card = record { shows = shows_still m k head.0 card shows; room = c.in_ok-head.ensures.head.1 } in
      let log = c.in_ok-log.ensures.outcome card holds in
      let rows = c.in_ok-read_slots.ensures.outcome card (holds_still k l log.0 h card holds) log.1.flag log.1.row in
      let read = c.in_ok-log.log in
      let same = same_trans (same_trans head.0 log.0) rows.0 in
      let mounts = accepted own wrong h card m.size g.K.RecordKind.CODE head.1 log.1.right rows.1.right in
      (same, (mounts, remembered own wrong h card c.read_slots.new.rows read.rows read.logged read.work read.last log.1 rows.1));
}

pub returns-clause-calls : goal.returns-clause-calls
returns-clause-calls g c =
    let m = g.S.Store.meaning (g.S.Store.state c.args.store.now) in
    let k = g.S.Store.meaning (g.S.Store.state c.read_head.new.store) in
    let l = g.S.Store.meaning (g.S.Store.state c.read_log.new.store) in
    let h = head_fields c.in_ok-head.head in
    let card : Card = λ b. m.reads b in
    let shows = shown m c.requires in
    let head = c.in_ok-head.ensures.outcome card shows in
    let holds : ShowsWithRoom k h card = record { shows = shows_still m k head.0 card shows; room = c.in_ok-head.ensures.head.1 } in
    let log = c.in_ok-log.ensures.outcome card holds in
    let slots = c.in_ok-read_slots.ensures.calls card (holds_still k l log.0 h card holds) log.1.flag log.1.row in
    slots_accepted g.S.Store.does g.S.Store.own g.K.RecordKind.CODE g.K.RecordKind.wrong m.size card _ _ h _ head.1 (c.in_ok-head.ensures.calls card shows) _ log.1.right _ (c.in_ok-log.ensures.calls card holds) _ _ slots
