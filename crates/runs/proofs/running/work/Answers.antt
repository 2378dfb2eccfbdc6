use Rattle.std.proofs.Common.{◌≡◌, ℕ, length, take, rules, ap, subst, ◌∙◌, arith}
use Rattle.std.proofs.lemmas.List.{take_more}
use Rattle.std.proofs.Math.Seq.{take-length}
use Rattle.laws.proofs.Given.{LawfulSetup}
use Rattle.laws.proofs.Formatting.{format_law}
use Rattle.laws.proofs.Runs.{LawSoFar, law_begins, law_more, law_stands}
use Rattle.laws.specs.declared.stages.Stage.TheVariants.{Sleeping}
use Rattle.runs.specs.Runs.{setup, AllWent}
use Rattle.runs.proofs.Going.{none_went, one_more_went}
use Rattle.runs.proofs.running.work.Given as given
use Rattle.runs.proofs.running.work.Goals as goal

-- a steady store and a kind keep what the law asks of them
lawful : (g : given.Over)
    → LawfulSetup {S = g.row.S.Denot} {State = g.S.Store.State} {K = g.row.K.Denot} (setup g.S.Store.state g.S.Store.meaning g.S.Store.does g.S.Store.own g.S.Store.source g.S.Store.steady g.K.RecordKind.CODE g.K.RecordKind.bytes g.K.RecordKind.wrong)
lawful g = record {
  steady = g.met.S.SteadyStore.is_steady;
  stores = g.met.S.Store.lawful;
  coded = g.met.K.RecordKind.coded;
  twelve = g.met.K.RecordKind.twelve;
  right = g.met.K.RecordKind.right;
  own_bytes = g.met.K.RecordKind.own;
}

pub loop-call-init : goal.loop-call-init
loop-call-init g c =
    (rw c.in-Ok.ensures.items (law_begins _ (lawful g) c.args.asleep), search rules, search rules, rw c.in-Ok.ensures.items (none_went _ _))

pub loop-call-preserved : goal.loop-call-preserved
loop-call-preserved g c = (
  rw (take_more _ _ c.call-item.result c.loop-call-test.true, c.push_reserved.ensures.items, ← c.call-item.is)
      (law_more _ (lawful g) c.args.asleep _ _ _ _ _ _ c.loop-call.invariant.0 c.step-next.ensures),
  search rules,
  search rules,
  rw (take_more _ _ c.call-item.result c.loop-call-test.true, c.push_reserved.ensures.items, ← c.call-item.is)
      (one_more_went _ _ _ _ _ _ _ _ c.loop-call.invariant.3 c.step-next.ensures),
)

pub returns-clause-law : goal.returns-clause-law
returns-clause-law g c =
    let calls = c.args.calls.now in
    let below = c.loop-call-test.false in
    let within = c.loop-call.auto.call-index-end in
    let end : c.loop-call.call-index ≡ length calls = omega arith in
    let all : take c.loop-call.call-index calls ≡ calls = ap (λ (k : ℕ). take k calls) end ∙ take-length calls in
    law_stands _ (lawful g) c.args.asleep calls c.loop-call.answers.items c.loop-call.stage
    (subst (λ cs. LawSoFar (setup g.S.Store.state g.S.Store.meaning g.S.Store.does g.S.Store.own g.S.Store.source g.S.Store.steady g.K.RecordKind.CODE g.K.RecordKind.bytes g.K.RecordKind.wrong) c.args.asleep cs c.loop-call.answers.items c.loop-call.stage) all c.loop-call.invariant.0)

pub returns-clause-went : goal.returns-clause-went
returns-clause-went g c =
    let calls = c.args.calls.now in
    let below = c.loop-call-test.false in
    let within = c.loop-call.auto.call-index-end in
    let end : c.loop-call.call-index ≡ length calls = omega arith in
    let all : take c.loop-call.call-index calls ≡ calls = ap (λ (k : ℕ). take k calls) end ∙ take-length calls in
    subst (λ cs. AllWent (setup g.S.Store.state g.S.Store.meaning g.S.Store.does g.S.Store.own g.S.Store.source g.S.Store.steady g.K.RecordKind.CODE g.K.RecordKind.bytes g.K.RecordKind.wrong) (Sleeping c.args.asleep) cs c.loop-call.answers.items c.loop-call.stage) all c.loop-call.invariant.3

pub returns-clause-format : goal.returns-clause-format
returns-clause-format g c = format_law _ (lawful g)

pub returns-in_default-clause-format : goal.returns-in_default-clause-format
returns-in_default-clause-format g c = format_law _ (lawful g)
