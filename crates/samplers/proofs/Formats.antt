-- A format whose numbers are within their limits. Assumes nothing.
use Rattle.std.proofs.Common.{◌≡◌, ℕ, Bool, true, false, cond, leb, Ok, Err, None, Result, refl, sym, ap, subst, ◌∙◌}
use Rattle.std.proofs.lemmas.Bool.{leb-true, leb-false}
use Rattle.faults.specs.declared.faults.Fault.{Fault}
use Rattle.faults.specs.declared.faults.Layer.{Layer}
use Rattle.faults.specs.declared.faults.Reason.TheVariants.{StoreTooSmall}
use Rattle.sampling.specs.Answers.{refusal}
use Rattle.stores.specs.Calls.{Call, Response}
use Rattle.stores.specs.Meanings.{Meaning}
use Rattle.stores.specs.Outcomes.{Answer}
use Rattle.layouts.specs.Shapes.{blocks, shape_of}
use Rattle.layouts.specs.Heads.{Fields}
use Rattle.cards.specs.Memories.{Memory}
use Rattle.formats.specs.Formats.{FormatOutcome, FormatCalls}
use Rattle.samples.specs.Memories.{new_head, blank_memory}
use Rattle.samplers.specs.Views.{View}
use Rattle.samplers.specs.Calls.{formatted, FormatsBy, Formats}

-- a shape has the numbers that it was made of
shape_cases : (a b : Bool) (e f : Fault) (x y : ℕ × ℕ) → ◌≡◌ {A = Result (ℕ × ℕ) Fault} (Ok x) (cond a (cond b (Ok y) (Err e)) (Err f)) → x ≡ y
shape_cases true true e f x y h = cc
shape_cases true false e f x y h = absurd cc
shape_cases false b e f x y h = absurd cc

pub shape_is : (x : ℕ × ℕ) (size log_blocks : ℕ) → Ok x ≡ shape_of size log_blocks → x ≡ (size, log_blocks)
shape_is x size log_blocks h = shape_cases _ _ _ _ x (size, log_blocks) h

module _ {S State : Type 0} (state : S → State) (meaning : State → Meaning) (does : State → Call → Response State → Type 0) (source : Layer) where
  refused_sample : (r : Answer) (e : Fault) (code size log_blocks seed : ℕ) (v w : View S) → r ≡ Err e → w.sample ≡ formatted r (blank_memory code size log_blocks seed)
      → w.sample ≡ None
  refused_sample r e code size log_blocks seed v w p q = q ∙ ap (λ a. formatted a (blank_memory code size log_blocks seed)) p

  -- by whether the store has enough blocks
  by_room : (room : Bool) (code size log_blocks seed : ℕ) (v w : View S) (r : Answer) → leb (blocks size log_blocks) (meaning (state v.store)).size ≡ room
      → FormatOutcome source (meaning (state v.store)) (meaning (state w.store)) (new_head code size log_blocks seed) r
      → FormatCalls does (meaning (state v.store)).size (new_head code size log_blocks seed) (state v.store) r (state w.store)
      → w.sample ≡ formatted r (blank_memory code size log_blocks seed)
      → FormatsBy state meaning does source code size log_blocks seed v w r (cond room (Ok tt) (Err (refusal StoreTooSmall (meaning (state v.store)).size)))
  by_room true code size log_blocks seed v w r e o c s =
      record { outcome = o.served (leb-true _ _ e); calls = c.large (leb-true _ _ e); sample = s }
  by_room false code size log_blocks seed v w r e o c s =
      let small = c.small (leb-false _ _ e) in
      record { answer = small.0; store = small.1; sample = refused_sample r _ code size log_blocks seed v w small.0 s }

  -- the head h that was written is that of the sample t in memory, which was made of the shape x
  pub format_done : (x : ℕ × ℕ) (h : Fields) (t : Memory) (code size log_blocks seed : ℕ) (v w : View S) (r : Answer) → Ok x ≡ shape_of size log_blocks
      → h ≡ t.head → t ≡ blank_memory code x.0 x.1 seed
      → FormatOutcome source (meaning (state v.store)) (meaning (state w.store)) h r
      → FormatCalls does (meaning (state v.store)).size h (state v.store) r (state w.store)
      → w.sample ≡ formatted r t
      → Formats state meaning does source code size log_blocks seed v w r
  format_done x h t code size log_blocks seed v w r shape head blank o c s =
      let same = shape_is x size log_blocks shape in
      let memory : t ≡ blank_memory code size log_blocks seed = blank ∙ ap (λ (y : ℕ × ℕ). blank_memory code y.0 y.1 seed) same in
      let new : h ≡ new_head code size log_blocks seed = head ∙ ap (λ (u : Memory). u.head) memory in
      rw (sym shape, same)
      (by_room _ code size log_blocks seed v w r refl
      (subst (λ (k : Fields). FormatOutcome source (meaning (state v.store)) (meaning (state w.store)) k r) new o)
      (subst (λ (k : Fields). FormatCalls does (meaning (state v.store)).size k (state v.store) r (state w.store)) new c)
      (s ∙ ap (formatted r) memory))
