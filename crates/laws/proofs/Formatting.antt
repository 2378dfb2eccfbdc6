-- What a format leaves, and when it is refused. Assumes nothing.
use Rattle.std.proofs.Common.{◌≡◌, ℕ, ◌≤◌, Bool, true, false, leb, Ok, Err, Result, sym, refl, ap, ◌∙◌, subst, ⊎_elim}
use Rattle.std.proofs.lemmas.Bool.{false≢true, leb-true}
use Rattle.faults.specs.declared.faults.Fault.{Fault}
use Rattle.faults.specs.declared.faults.Reason.TheVariants.{StoreTooSmall}
use Rattle.sampling.specs.Answers.{refusal}
use Rattle.stores.specs.Outcomes as outcomes
use Rattle.layouts.specs.Shapes.{shape_of, blocks}
use Rattle.cards.specs.Verdicts.{and_then, check}
use Rattle.formats.specs.Formats.{FormatFailed}
use Rattle.samples.specs.Memories.{new_head, blank_memory}
use Rattle.samplers.specs.Views.{View}
use Rattle.samplers.specs.Calls.{format_test, Served, FormatsBy}
use Rattle.samplers.proofs.Formats.{shape_is}
use Rattle.laws.specs.Setups.{Setup, meant}
use Rattle.laws.specs.Pasts.{just_formatted}
use Rattle.laws.specs.Laws.{SupplyFailed, FormatWent, FormatLaw}
use Rattle.ledgers.specs.Ledgers.{opened}
use Rattle.laws.proofs.Given.{Given, LawfulSetup}
use Rattle.laws.proofs.Kept.{Kept, opens}

room_of : (b : Bool) (e : Fault) → check b e ≡ Ok tt → b ≡ true
room_of true e z = refl
room_of false e z = absurd cc

passed_by : (size log_blocks store : ℕ) (q : Result (ℕ × ℕ) Fault) → q ≡ shape_of size log_blocks
    → and_then q (λ shape. check (leb (blocks shape.0 shape.1) store) (refusal StoreTooSmall store)) ≡ Ok tt
    → (shape_of size log_blocks ≡ Ok (size, log_blocks)) × (blocks size log_blocks ≤ store)
passed_by size log_blocks store (Ok y) is z =
    let same = shape_is y size log_blocks is in
    let room = leb-true (blocks y.0 y.1) store (room_of _ _ z) in
    (sym is ∙ ap Ok same, subst (λ (u : ℕ × ℕ). blocks u.0 u.1 ≤ store) same room)
passed_by size log_blocks store (Err e) is z = absurd cc

-- the tests of a format, passed
passed : (size log_blocks store : ℕ) → format_test store size log_blocks ≡ Ok tt → (shape_of size log_blocks ≡ Ok (size, log_blocks)) × (blocks size log_blocks ≤ store)
passed size log_blocks store z = passed_by size log_blocks store (shape_of size log_blocks) refl z

module _ {S State K : Type 0} (x : Setup S State K) (law : LawfulSetup x) where
  served_by : (size log_blocks seed : ℕ) (v w : View S) (r test : outcomes.Answer) → r ≡ Ok tt
      → FormatsBy x.state x.meaning x.does x.source x.code size log_blocks seed v w r test → test ≡ Ok tt
  served_by size log_blocks seed v w r (Ok done) is y = refl
  served_by size log_blocks seed v w r (Err e) is y = let z = y.answer in absurd cc

  -- an accepted format leaves an open sampler of no records
  pub format_kept : Given x → (size log_blocks seed : ℕ) (v w : View S) → FormatWent x size log_blocks seed v w (Ok tt)
      → Kept x (new_head x.code size log_blocks seed) just_formatted w
  format_kept g size log_blocks seed v w went =
      let h = new_head x.code size log_blocks seed in
      let test = served_by size log_blocks seed v w (Ok tt) _ refl went.outcome in
      let ok = passed size log_blocks (meant x v.store).size test in
      let y : Served x.state x.meaning x.does x.source x.code size log_blocks seed v w (Ok tt) =
      subst (λ (t : outcomes.Answer). FormatsBy x.state x.meaning x.does x.source x.code size log_blocks seed v w (Ok tt) t) test went.outcome in
      let sound = went.steadily law.steady went.sound in
      record {
        holds = opens x h g opened w sound refl refl (record {
          memory = blank_memory x.code size log_blocks seed;
          memory_is = y.sample;
          same = record { kind = refl; seed = refl; size = refl; log_blocks = refl };
          opens = g.blank v.store w.store size log_blocks seed ok.0 ok.1 went.seeded y.outcome sound;
        });
        fresh = λ z. refl;
        sure = λ z. absurd (false≢true z);
      }

  failed : (size log_blocks seed : ℕ) (v w : View S) (e : Fault) → FormatFailed x.source (meant x v.store) (meant x w.store) (new_head x.code size log_blocks seed) e
      → SupplyFailed x v w e
  failed size log_blocks seed v w e y =
      ⊎_elim (λ z. (z.is, z.supply, z.left.off)) (λ u. ⊎_elim (λ z. (z.is, z.supply, z.left.off)) (λ z. (z.is, z.supply, z.left.off)) u) y

  -- one that passes its tests is refused only if the supply fails in it
  pub format_law : FormatLaw x
  format_law size log_blocks seed v w e went test =
      let y : Served x.state x.meaning x.does x.source x.code size log_blocks seed v w (Err e) =
      subst (λ (t : outcomes.Answer). FormatsBy x.state x.meaning x.does x.source x.code size log_blocks seed v w (Err e) t) test went.outcome in
      failed size log_blocks seed v w e y.outcome
