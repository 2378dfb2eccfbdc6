use Rattle.std.proofs.Common.{rules, ap, ◌∙◌}
use Rattle.layouts.specs.Heads.{head_fields}
use Rattle.samples.proofs.Counting.{lawful_counted, lawful_placed}
use Rattle.samples.proofs.samples.Sample.insert.Goals as goal

pub invariant_of-self : goal.invariant_of-self
invariant_of-self g c = (
  c.self.invariant.0,
  search rules,
  rw c.from-in-Some.ensures (lawful_placed g.K.RecordKind.wrong (head_fields c.self.inside.head) c.self.inside.rows c.in-Some.slot c.encode-bytes.result (search rules) (search rules) (ap g.K.RecordKind.wrong c.encode-bytes.ensures ∙ g.met.K.RecordKind.right c.args.taken.now) c.self.invariant.2),
)

pub invariant_of-self-2 : goal.invariant_of-self-2
invariant_of-self-2 g c =
    (c.self.invariant.0, c.self.invariant.1, lawful_counted g.K.RecordKind.wrong (head_fields c.self.inside.head) c.self.inside.rows (search rules) c.self.invariant.2)
