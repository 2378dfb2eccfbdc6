-- The calls of a format put together, and what a format leaves once its last step is made. Assumes nothing.
use Rattle.std.proofs.Common.{◌≡◌, ℕ, ◌≤◌, List, Ok, Err, rules, arith}
use Rattle.faults.specs.declared.faults.Fault.{Fault}
use Rattle.faults.specs.declared.faults.Layer.{Layer}
use Rattle.stores.specs.Calls.{Call, Response, response, restarts, InOrder}
use Rattle.stores.specs.Meanings.{Meaning, Settled}
use Rattle.stores.specs.Outcomes.{Answer, Restarted}
use Rattle.stores.proofs.Sequences.{call_first, call_last, lists_joined, list_ended}
use Rattle.layouts.specs.Shapes.{sample_blocks}
use Rattle.layouts.specs.Heads.{Fields, fields_bytes, card_blocks}
use Rattle.formats.specs.Fills.{fill_calls, Filled, FillOutcome}
use Rattle.formats.specs.Formats.{zeros, format_calls, FormatCalls, FormatServed, FormatOutcome}

module _ {S : Type 0} (does : S → Call → Response S → Type 0) (size : ℕ) (h : Fields) (room : card_blocks h ≤ size) (s t : S) where
  large_store : (r : Answer) → InOrder does s (format_calls h) r t → FormatCalls does size h s r t
  large_store r calls = record { small = λ l. absurd (omega arith); large = λ l. calls }

  pub refused_restart : (e : Fault) → does s restarts (response (Err e) t) → FormatCalls does size h s (Err e) t
  refused_restart e w = large_store (Err e) (call_last does s t restarts _ e w)

  module _ (u : S) (restart : does s restarts (response (Ok tt) u)) where
    pub refused_zero_head : (e : Fault) → InOrder does u (fill_calls 0 1 zeros) (Err e) t → FormatCalls does size h s (Err e) t
    refused_zero_head e w = large_store (Err e) (call_first does s u t restarts _ (Err e) restart (list_ended does u t (fill_calls 0 1 zeros) _ e w))

    module _ (v : S) (zero_head : InOrder does u (fill_calls 0 1 zeros) (Ok tt) v) (n : ℕ) where
      pub refused_samples : (e : Fault) → InOrder does v (fill_calls 1 n zeros) (Err e) t → n ≡ sample_blocks h.size → FormatCalls does size h s (Err e) t
      refused_samples e w is =
          large_store (Err e) (call_first does s u t restarts _ (Err e) restart (lists_joined does u v t (fill_calls 0 1 zeros) _ (Err e) zero_head (list_ended does v t (fill_calls 1 (sample_blocks h.size) zeros) _ e (rw is at w))))

      pub head_last : (x : S) (bytes : List ℕ) (r : Answer) → InOrder does v (fill_calls 1 n zeros) (Ok tt) x → InOrder does x (fill_calls 0 1 bytes) r t → n ≡ sample_blocks h.size → bytes ≡ fields_bytes h → FormatCalls does size h s r t
      head_last x bytes r samples w is e =
          large_store r (call_first does s u t restarts _ r restart (lists_joined does u v t (fill_calls 0 1 zeros) _ r zero_head (lists_joined does v x t (fill_calls 1 (sample_blocks h.size) zeros) _ r (rw is at samples) (rw e at w))))

-- the head's fill, after all else is settled
module _ (source : Layer) (m u v x n : Meaning) (h : Fields) (bytes : List ℕ) (samples : ℕ) where
  served : (r : Answer) → bytes ≡ fields_bytes h → samples ≡ sample_blocks h.size → Restarted m u → Filled 0 1 zeros u v → Settled v → Filled 1 samples zeros v x → Settled x → FillOutcome source 0 1 bytes x n r → card_blocks h ≤ m.size → FormatServed source m n h r
  served (Ok done) e is restart zero_head z written y head room = search rules
  served (Err e) f is restart zero_head z written y head room = search rules

  pub formatted : (r : Answer) → Restarted m u → Filled 0 1 zeros u v → Settled v → Filled 1 samples zeros v x → Settled x → FillOutcome source 0 1 bytes x n r → card_blocks h ≤ m.size → bytes ≡ fields_bytes h → samples ≡ sample_blocks h.size → FormatOutcome source m n h r
  formatted r restart zero_head z written y head room e is =
      record { small = λ l. absurd (omega arith); served = λ _. served r e is restart zero_head z written y head room }

-- what the check of `format` goes by, beside its answers
pub ruleset formatting = (refused_restart, refused_zero_head, formatted)
