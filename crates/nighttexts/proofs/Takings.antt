-- Calls that take their answers, and one more. Assumes nothing.
use Rattle.std.proofs.Common.{◌≡◌, ℕ, ◌+◌, List, [], ◌∷◌, ◌++◌, refl, sym, ap, ◌∙◌}
use native.Mathlib.Numerals.{unary_clauses}
use Rattle.ledgers.specs.declared.calls.Call.{Call}
use Rattle.ledgers.specs.declared.calls.Call.TheVariants.{Slot}
use Rattle.script.specs.Calls.{slot_calls}
use Rattle.nighttexts.specs.Nights.{NightSoFar, after_call, after_calls}

module _ {K : Type 0} where
  one_more : (s : NightSoFar K) (calls : List (Call K)) (c : Call K) → after_calls s (calls ++ c ∷ []) ≡ after_call (after_calls s calls) c (after_calls s calls).rest
  one_more s [] c = refl
  one_more s (call ∷ calls) c = one_more (after_call s call s.rest) calls c

  -- the slot call of slot n after those of the slots below it
  pub next_slot : (s t u : NightSoFar K) (n : ℕ) → t ≡ after_calls s (slot_calls n) → u ≡ after_call t (Slot n) t.rest → u ≡ after_calls s (slot_calls (n + 1))
  next_slot s t u n before took =
      simp unary_clauses (took ∙ ap (λ (v : NightSoFar K). after_call v (Slot n) v.rest) before ∙ sym (one_more s (slot_calls n) (Slot n)))
