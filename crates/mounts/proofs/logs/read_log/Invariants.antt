use Rattle.stores.specs.Meanings.{Same}
use Rattle.layouts.specs.Heads.{head_fields}
use Rattle.cards.specs.Cards.{Card}
use Rattle.cards.specs.Verdicts.{each, entry_check}
use Rattle.mounts.specs.Parts.{ShowsWithRoom, LogHas}
use Rattle.mounts.specs.Reads.{each_reads, entry_reads, no_check, ReadsFor}
use Rattle.mounts.proofs.logs.read_log.Given as goal

abbrev pub invariant-loop-position : goal.invariant-loop-position
invariant-loop-position g l =
    let s = g.S.Store.state l.initial.store in
    let t = g.S.Store.state l.store in
    let h = head_fields l.head in
    let checks = λ (card : Card). entry_check g.S.Store.own g.K.RecordKind.wrong h card in
    record {
      calls : (card : Card) → ShowsWithRoom (g.S.Store.meaning s) h card
          → ReadsFor g.S.Store.does s (each_reads (checks card) (entry_reads h) l.position) (each (checks card) l.position) no_check t;
      outcome : (card : Card) → ShowsWithRoom (g.S.Store.meaning s) h card → Same (g.S.Store.meaning s) (g.S.Store.meaning t) × LogHas g.S.Store.own g.K.RecordKind.wrong h card l.position l.log;
    }
