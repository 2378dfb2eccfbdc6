use Rattle.std.proofs.Common.{List, ℕ, ◌%◌, ◌∙◌, ap, arith}
use Rattle.layouts.specs.Slots.{slot_at}
use Rattle.layouts.proofs.Spans.{copied_is}
use Rattle.layouts.proofs.SlotLaws.{slot_here, slot_other}
use Rattle.layouts.proofs.slots.put_slot.Goals as goal

pub returns-clause-block : goal.returns-clause-block
returns-clause-block c =
    copied_is 12 c.args.block.now c.args.bytes.now (c.args.slot % 42) _ _ c.copy_from_slice.new.self (omega arith) (omega arith) c.copy_from_slice.ensures.after

pub returns-clause-here : goal.returns-clause-here
returns-clause-here c =
    ap (λ (bs : List ℕ). slot_at bs (c.args.slot % 42)) (returns-clause-block c)
    ∙ slot_here c.args.block.now c.args.bytes.now (c.args.slot % 42) (omega arith) (omega arith)

pub returns-clause-others : goal.returns-clause-others
returns-clause-others c other ne =
    ap (λ (bs : List ℕ). slot_at bs other) (returns-clause-block c)
    ∙ slot_other c.args.block.now c.args.bytes.now (c.args.slot % 42) other (omega arith) (omega arith) ne
