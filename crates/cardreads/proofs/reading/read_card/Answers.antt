use Rattle.std.proofs.Common.{◌≡◌, rules, ap, ◌∙◌, vec_items}
use Rattle.images.specs.Images.{view_of}
use Rattle.samplers.specs.Views.{View}
use Rattle.cardreads.specs.Readings.{memory_read, read_of}
use Rattle.cardreads.proofs.Images.{leaves_same, read_accepted, read_refused}
use Rattle.cardreads.proofs.reading.read_card.Goals as goal
use Rattle.cardreads.proofs.reading.read_card.Goals.{in-Ok, in-Err}

pub returns-clause-memory : goal.returns-clause-memory
returns-clause-memory g c =
    let same = leaves_same g.K.RecordKind.CODE g.K.RecordKind.wrong (view_of c.new-asleep.result.store) (view_of c.mount-mounted.new.self.store) c.mount-mounted.result c.mount-mounted.new.self.sample c.mount-mounted.ensures.calls in
    rw (c.into_bytes.ensures, c.into_store.ensures, c.close.ensures, c.wake-awake.ensures) (same ∙ search rules)

pub returns-clause-answer : goal.returns-clause-answer
returns-clause-answer g c =
    let v = view_of c.new-asleep.result.store in
    let t = view_of c.mount-mounted.new.self.store in
    let sample = c.mount-mounted.new.self.sample in
    let same : t.bytes ≡ v.bytes = leaves_same g.K.RecordKind.CODE g.K.RecordKind.wrong v t c.mount-mounted.result sample c.mount-mounted.ensures.calls in
    let given : v.bytes ≡ vec_items c.args.bytes = search rules in
    let read = read_of g.K.RecordKind.CODE g.K.RecordKind.wrong in
    elim c.match-mounted.branch [
      | in-Ok w ↦
          let memory : memory_read c.wake-awake.result.sample ≡ read (vec_items c.args.bytes) =
          ap (λ (x : View _). memory_read x.sample) c.wake-awake.ensures ∙ read_accepted g.K.RecordKind.CODE g.K.RecordKind.wrong v t w.in-Ok._count sample same w.in-Ok.ensures.outcome ∙ ap read given in
          rw (w.read-is, ← memory) w.reading-read.ensures
      | in-Err w ↦
          rw (w.read-is, ← given) (read_refused g.K.RecordKind.CODE g.K.RecordKind.wrong v t w.in-Err.fault sample same w.in-Err.ensures.outcome)
    ]
