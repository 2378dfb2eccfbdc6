use Rattle.std.proofs.Common.{List, ℕ, ◌%◌, rules, length, sym, ◌∙◌, ap, arith}
use Rattle.layouts.specs.Entries.{entry_bytes, entry_at}
use Rattle.layouts.proofs.Spans.{copied_is}
use Rattle.layouts.proofs.EntryLaws.{entry_here, entry_other}
use Rattle.layouts.proofs.entries.Entry.put.Goals as goal

pub returns-clause-block : goal.returns-clause-block
returns-clause-block c =
    copied_is 16 c.args.block.now (entry_bytes c.args.self.now) (c.args.position % 31) _ _ c.copy_from_slice.new.self (omega arith) (omega arith)
    (c.copy_from_slice.ensures.after ∙ c.encode.ensures.value)

pub returns-clause-here : goal.returns-clause-here
returns-clause-here c =
    ap (λ (bs : List ℕ). entry_at bs (c.args.position % 31)) (returns-clause-block c)
    ∙ entry_here c.args.block.now (c.args.position % 31) c.args.self.now (omega arith)
    (ap length (sym c.encode.ensures.value) ∙ (search rules))
    (ap (λ (bs : List ℕ). entry_at bs 0) (sym c.encode.ensures.value) ∙ c.encode.ensures.read_back)

pub returns-clause-others : goal.returns-clause-others
returns-clause-others c other ne =
    ap (λ (bs : List ℕ). entry_at bs other) (returns-clause-block c)
    ∙ entry_other c.args.block.now (c.args.position % 31) other c.args.self.now (omega arith)
    (ap length (sym c.encode.ensures.value) ∙ (search rules)) ne
