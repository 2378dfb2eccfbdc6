use Rattle.std.proofs.Common.{rules, ◌≡◌, ◌<◌, true, false, length, inl}
use Rattle.std.proofs.lemmas.Result.{err_from_is_err_and}
use Rattle.std.specs.Option.{is_some, is_none}
use Rattle.stores.specs.Meanings.{whole}
use Rattle.cards.specs.Cards.{slot_block, newest_logged}
use Rattle.cards.specs.Verdicts.{slot_check}
use Rattle.cards.proofs.Rows.{flag_is, slot_over, slot_taken, slot_refused}
use Rattle.mounts.specs.Reads.{no_check, slot_reads}
use Rattle.mounts.proofs.ReadCalls.{reads_failed, reads_answered}
use Rattle.mounts.proofs.slots.read_slot.Goals as goal

pub returns-in_err-fetch-clause-calls : goal.returns-in_err-fetch-clause-calls
returns-in_err-fetch-clause-calls g c = λ h card holds within flagged read.
    let p = err_from_is_err_and c.from_residual.result c.from_residual.ensures.1 in
    let check = slot_check g.S.Store.own g.K.RecordKind.wrong h card c.args.slot in
    rw (p.1, p.2) (reads_failed g.S.Store.does _ _ check (slot_reads c.args.slot) _ (rw c.slot_block.ensures at c.in_err-fetch.ensures.calls))

pub returns-then-is_err-clause-outcome : goal.returns-then-is_err-clause-outcome
returns-then-is_err-clause-outcome g c = λ h card holds within flagged read.
    let s = c.args.slot in
    let wrong = g.K.RecordKind.wrong in
    let fetched = c.in_ok-fetch.ensures.outcome card holds.shows (search rules) (search rules) in
    let block : card (slot_block s) ≡ whole c.fetch.new.buffer = search rules in
    let none : is_some (newest_logged h card s h.entries) ≡ false = flag_is h card c.args.logged.now s false flagged c.requires (search rules) in
    let bad : is_none (wrong c.slot_bytes-bytes.result) ≡ false = search rules in
    rw (c.fault.ensures, c.from-then-is_err.ensures) (inl (fetched.0, slot_refused g.S.Store.own wrong h card s c.fetch.new.buffer block c.slot_bytes-bytes.result none c.slot_bytes-bytes.ensures bad))

pub returns-then-is_err-clause-calls : goal.returns-then-is_err-clause-calls
returns-then-is_err-clause-calls g c = λ h card holds within flagged read.
    let own = g.S.Store.own in
    let s = c.args.slot in
    let wrong = g.K.RecordKind.wrong in
    let fetched = c.in_ok-fetch.ensures.outcome card holds.shows (search rules) (search rules) in
    let block : card (slot_block s) ≡ whole c.fetch.new.buffer = search rules in
    let none : is_some (newest_logged h card s h.entries) ≡ false = flag_is h card c.args.logged.now s false flagged c.requires (search rules) in
    let bad : is_none (wrong c.slot_bytes-bytes.result) ≡ false = search rules in
    let refused = slot_refused own wrong h card s c.fetch.new.buffer block c.slot_bytes-bytes.result none c.slot_bytes-bytes.ensures bad in
    rw (c.fault.ensures, c.from-then-is_err.ensures) (reads_answered g.S.Store.does _ _ no_check (slot_check own wrong h card s) (slot_reads s) tt _ (rw c.slot_block.ensures at c.in_ok-fetch.ensures.calls) refused)

pub returns-else-is_err-clause-calls : goal.returns-else-is_err-clause-calls
returns-else-is_err-clause-calls g c = λ h card holds within flagged read.
    let check = slot_check g.S.Store.own g.K.RecordKind.wrong h card c.args.slot in
    reads_answered g.S.Store.does _ _ no_check check (slot_reads c.args.slot) tt no_check (rw c.slot_block.ensures at c.in_ok-fetch.ensures.calls) tt

pub returns-else-not-logged-from-clause-calls : goal.returns-else-not-logged-from-clause-calls
returns-else-not-logged-from-clause-calls g c = λ h card holds within flagged read.
    let check = slot_check g.S.Store.own g.K.RecordKind.wrong h card c.args.slot in
    reads_answered g.S.Store.does _ _ no_check check (slot_reads c.args.slot) tt no_check (rw c.slot_block.ensures at c.in_ok-fetch.ensures.calls) tt

pub returns-else-is_err-clause-outcome : goal.returns-else-is_err-clause-outcome
returns-else-is_err-clause-outcome g c = λ h card holds within flagged read.
    let s = c.args.slot in
    let wrong = g.K.RecordKind.wrong in
    let fetched = c.in_ok-fetch.ensures.outcome card holds.shows (search rules) (search rules) in
    let block : card (slot_block s) ≡ whole c.fetch.new.buffer = search rules in
    let none : is_some (newest_logged h card s h.entries) ≡ false = flag_is h card c.args.logged.now s false flagged c.requires (search rules) in
    let good : is_none (wrong c.slot_bytes-bytes.result) ≡ true = search rules in
    let inside : s < length c.args.rows.now = search rules in
    rw c.from-then-not-logged-from.ensures
    (fetched.0, slot_taken g.S.Store.own wrong h card s c.fetch.new.buffer block c.slot_bytes-bytes.result none c.slot_bytes-bytes.ensures c.args.rows.now c.args.block.now good inside read)

pub returns-else-not-logged-from-clause-outcome : goal.returns-else-not-logged-from-clause-outcome
returns-else-not-logged-from-clause-outcome g c = λ h card holds within flagged read.
    let s = c.args.slot in
    let fetched = c.in_ok-fetch.ensures.outcome card holds.shows (search rules) (search rules) in
    let block : card (slot_block s) ≡ whole c.fetch.new.buffer = search rules in
    let some : is_some (newest_logged h card s h.entries) ≡ true = flag_is h card c.args.logged.now s true flagged c.requires (search rules) in
    (fetched.0, slot_over g.S.Store.own g.K.RecordKind.wrong h card s c.fetch.new.buffer block c.args.rows.now c.args.block.now some read)
