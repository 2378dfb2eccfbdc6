use Rattle.std.proofs.Common.{rules, ◌≡◌, ◌<◌, None, Some, inl, length}
use Rattle.std.proofs.lemmas.Result.{err_from_is_err_and}
use Rattle.faults.specs.declared.faults.Reason.TheVariants.{BadEntry}
use Rattle.stores.specs.Meanings.{whole}
use Rattle.sampling.specs.Answers.{refusal}
use Rattle.layouts.specs.Heads.{head_fields}
use Rattle.cards.specs.Cards.{entry_block}
use Rattle.cards.specs.Verdicts.{previous, right_slot, entry_check}
use Rattle.cards.proofs.Entries.{work_next, entry_refused, entry_taken}
use Rattle.mounts.specs.Reads.{no_check, entry_reads}
use Rattle.mounts.proofs.ReadCalls.{reads_failed, reads_answered}
use Rattle.mounts.proofs.logs.read_entry.Goals as goal

pub returns-in_err-fetch-clause-calls : goal.returns-in_err-fetch-clause-calls
returns-in_err-fetch-clause-calls g c = λ card holds within log.
    let p = err_from_is_err_and c.from_residual.result c.from_residual.ensures.1 in
    let check = entry_check g.S.Store.own g.K.RecordKind.wrong (head_fields c.args.head.now) card c.args.position in
    rw (p.1, p.2) (reads_failed g.S.Store.does _ _ check (entry_reads (head_fields c.args.head.now) c.args.position) _ (rw c.entry_block-block.ensures at c.in_err-fetch.ensures.calls))

pub returns-in_err-slot-clause-outcome : goal.returns-in_err-slot-clause-outcome
returns-in_err-slot-clause-outcome g c = λ card holds within log.
    let own = g.S.Store.own in
    let wrong = g.K.RecordKind.wrong in
    let h = head_fields c.args.head.now in
    let i = c.args.position in
    let p = err_from_is_err_and c.from_residual-in_err-slot.result c.from_residual-in_err-slot.ensures.1 in
    let fetched = c.in_ok-fetch.ensures.outcome card holds.shows (search rules) (λ old. rw c.entry_block-block.ensures (work_next h card i c.args.log.now.work log.block (λ at. absurd (search rules)))) in
    let block : card (entry_block h i) ≡ whole c.fetch.new.buffer = search rules in
    let none : right_slot wrong h (previous h card i) c.decode-entry.result ≡ None = search rules in
    let is : c.in_err-slot.field-0.0 ≡ refusal BadEntry i = search rules in
    rw (p.1, p.2, is) (inl (fetched.0, entry_refused own wrong h card i c.fetch.new.buffer c.decode-entry.result block c.decode-entry.ensures.value none))

pub returns-in_err-slot-clause-calls : goal.returns-in_err-slot-clause-calls
returns-in_err-slot-clause-calls g c = λ card holds within log.
    let own = g.S.Store.own in
    let wrong = g.K.RecordKind.wrong in
    let h = head_fields c.args.head.now in
    let i = c.args.position in
    let p = err_from_is_err_and c.from_residual-in_err-slot.result c.from_residual-in_err-slot.ensures.1 in
    let fetched = c.in_ok-fetch.ensures.outcome card holds.shows (search rules) (λ old. rw c.entry_block-block.ensures (work_next h card i c.args.log.now.work log.block (λ at. absurd (search rules)))) in
    let block : card (entry_block h i) ≡ whole c.fetch.new.buffer = search rules in
    let none : right_slot wrong h (previous h card i) c.decode-entry.result ≡ None = search rules in
    let is : c.in_err-slot.field-0.0 ≡ refusal BadEntry i = search rules in
    let refused = entry_refused own wrong h card i c.fetch.new.buffer c.decode-entry.result block c.decode-entry.ensures.value none in
    rw (p.1, p.2, is) (reads_answered g.S.Store.does _ _ no_check (entry_check own wrong h card i) (entry_reads h i) tt _ (rw c.entry_block-block.ensures at c.in_ok-fetch.ensures.calls) refused)

pub returns-clause-calls : goal.returns-clause-calls
returns-clause-calls g c = λ card holds within log.
    let check = entry_check g.S.Store.own g.K.RecordKind.wrong (head_fields c.args.head.now) card c.args.position in
    reads_answered g.S.Store.does _ _ no_check check (entry_reads (head_fields c.args.head.now) c.args.position) tt no_check (rw c.entry_block-block.ensures at c.in_ok-fetch.ensures.calls) tt

pub returns-clause-outcome : goal.returns-clause-outcome
returns-clause-outcome g c = λ card holds within log.
    let own = g.S.Store.own in
    let wrong = g.K.RecordKind.wrong in
    let h = head_fields c.args.head.now in
    let i = c.args.position in
    let fetched = c.in_ok-fetch.ensures.outcome card holds.shows (search rules) (λ old. rw c.entry_block-block.ensures (work_next h card i c.args.log.now.work log.block (λ at. absurd (search rules)))) in
    let block : card (entry_block h i) ≡ whole c.fetch.new.buffer = search rules in
    let some : right_slot wrong h (previous h card i) c.decode-entry.result ≡ Some c.in_ok-slot.slot = search rules in
    let bound : c.in_ok-slot.slot < 672 = search rules in
    let rows : length c.args.log.now.rows ≡ 672 = search rules in
    let flags : length c.args.log.now.logged ≡ 672 = search rules in
    rw c.lay.ensures
    (fetched.0, entry_taken own wrong h card i c.fetch.new.buffer c.decode-entry.result block c.decode-entry.ensures.value c.in_ok-slot.slot some c.args.log.now.rows c.args.log.now.logged c.args.log.now.work c.args.log.now.last log bound rows flags)
