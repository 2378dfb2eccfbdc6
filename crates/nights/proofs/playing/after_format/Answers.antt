use Rattle.std.proofs.Common.{List, ◌∙◌, refl, subst}
use Rattle.samples.specs.Memories.{new_head}
use Rattle.ledgers.specs.declared.calls.Call.{Call}
use Rattle.laws.specs.declared.stages.Stage.TheVariants.{Sleeping}
use Rattle.laws.specs.Pasts.{just_formatted}
use Rattle.laws.specs.Laws.{LawfulRun}
use Rattle.runs.specs.Runs.{setup}
use Rattle.nights.proofs.playing.after_format.Goals as goal

pub returns : goal.returns
returns g c = λ v went.
    let night = c.args.night.now in
    let law = c.in-Ok.ensures.law night.size night.log_blocks night.seed v went in
    let x = setup g.S.Store.state g.S.Store.meaning g.S.Store.does g.S.Store.own g.S.Store.source g.S.Store.steady g.K.RecordKind.CODE g.K.RecordKind.bytes g.K.RecordKind.wrong in
    record {
      before = v;
      over = refl;
      blank = c.args.asleep;
      format = went;
      sampled = law.0;
      last = c.in-Ok.field-0.stage;
      run = subst (λ (calls : List (Call g.row.K.Denot)). LawfulRun x (new_head g.K.RecordKind.CODE night.size night.log_blocks night.seed) just_formatted (Sleeping c.args.asleep) calls c.in-Ok.field-0.answers.items c.in-Ok.field-0.stage)
          (c.deref.ensures.value ∙ c.in_ok-calls.ensures) law.1;
      left = c.to_sleep.ensures;
    }
