use Rattle.stores.specs.Meanings.{Same}
use Rattle.layouts.specs.Heads.{head_fields}
use Rattle.cards.specs.Cards.{Card}
use Rattle.cards.specs.Verdicts.{each, slot_check}
use Rattle.cards.specs.Progress.{Flagged, RowsLaid, SlotsRead}
use Rattle.mounts.specs.Parts.{ShowsWithRoom}
use Rattle.mounts.specs.Reads.{each_reads, slot_reads, no_check, ReadsFor}
use Rattle.mounts.proofs.slots.read_slots.Given as goal

abbrev pub invariant-loop-slot : goal.invariant-loop-slot
invariant-loop-slot g l =
    let s = g.S.Store.state l.initial.store in
    let t = g.S.Store.state l.store in
    let h = head_fields l.head in
    let checks = λ (card : Card). slot_check g.S.Store.own g.K.RecordKind.wrong h card in
    record {
      calls : (card : Card) → ShowsWithRoom (g.S.Store.meaning s) h card → Flagged h card l.logged → RowsLaid h card l.initial.rows
          → ReadsFor g.S.Store.does s (each_reads (checks card) slot_reads l.slot) (each (checks card) l.slot) no_check t;
      outcome : (card : Card) → ShowsWithRoom (g.S.Store.meaning s) h card → Flagged h card l.logged → RowsLaid h card l.initial.rows
          → Same (g.S.Store.meaning s) (g.S.Store.meaning t) × SlotsRead g.S.Store.own g.K.RecordKind.wrong h card l.slot l.rows l.block;
    }
