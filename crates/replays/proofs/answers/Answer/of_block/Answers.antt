use Rattle.std.proofs.Common.{◌≡◌, ◌==◌, true, slice_index, ◌∙◌, sym, rules, tests}
use Rattle.std.specs.List.{list_all}
use Rattle.std.proofs.lemmas.Iterator.{YieldsList-from_slice}
use Rattle.std.proofs.lemmas.Iterator.Search.{all_from_yields_List}
use Rattle.replays.proofs.answers.Answer.of_block.Goals as goal

pub returns-then-all : goal.returns-then-all
returns-then-all c =
    let block = c.args.block.now in
    let same : c.all.result ≡ list_all (λ b. b == slice_index block 0) block =
    all_from_yields_List (λ b. b == slice_index block 0) _ _ _ c.all.ensures.ran (YieldsList-from_slice block c.iter.ensures.rest) (λ x r q k. search (rules, tests)) in
    let whole : list_all (λ b. b == slice_index block 0) block ≡ true = sym same ∙ c.if-all.true in
    rw whole
