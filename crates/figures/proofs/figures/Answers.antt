use Rattle.std.proofs.Common.{refl}
use Rattle.sampling.specs.Draws.{draw_of, slot_of}
use Rattle.sampling.specs.Samples.{newest}
use Rattle.layouts.specs.Heads.{fields_bytes, lawful_head}
use Rattle.figures.proofs.figures.Goals as goal

pub returns : goal.returns
unfolding draw_of slot_of newest fields_bytes lawful_head
returns c = record {
  slots = rw (c.slot_of.ensures.value, c.slot_of-2.ensures.value, c.slot_of-3.ensures.value, c.slot_of-4.ensures.value, c.slot_of-5.ensures.value) refl;
  computed = record {
    draw_one = refl;
    draw_two = refl;
    draw_three = refl;
    draw_four = refl;
    draw_five = refl;
    slot_one = refl;
    slot_two = refl;
    slot_three = refl;
    slot_four = refl;
    slot_five = refl;
    sample_zero = refl;
    sample_one = refl;
    sample_two = refl;
    last_made = refl;
    last_written = refl;
    last_read = refl;
    late_second = refl;
    least_offset = refl;
    below_least = refl;
    choice_zero = λ b memory write left. refl;
    choice_one = λ b memory write left. refl;
    choice_two = λ b memory write left. refl;
    choice_three = λ b memory write left. refl;
    choice_past = λ b memory write. refl;
    blocks_of_42 = refl;
    blocks_of_43 = refl;
    blocks_of_672 = refl;
    size_zero = refl;
    size_673 = refl;
    all_blocks = refl;
    head_written = refl;
    head_read = refl;
    head_refused = refl;
  };
}
