-- What a slot call keeps of the ledger. Assumes nothing.
use Rattle.std.proofs.Common.{◌≡◌, ℕ, ◌<◌, ◌≤◌, Bool, true, false, cond, ◌⊎◌, length, Some, None, Ok, Err, Option, Result, ok_or, sym, refl, ap, ◌∙◌, inl, inr, ⊎_elim, arith}
use Rattle.std.proofs.lemmas.Bool.{true≢false, false≢true, ltb-true, ltb-false, cases_lt}
use Rattle.faults.specs.declared.faults.Fault.{Fault}
use Rattle.faults.specs.declared.faults.Reason.TheVariants.{Off, EmptySlot, NoSuchSlot}
use Rattle.records.specs.Reading.{shown_as}
use Rattle.sampling.specs.Answers.{refusal, slot_answer}
use Rattle.sampling.specs.Samples.{sample_at}
use Rattle.sampling.proofs.SampleLaws.{sample_filled}
use Rattle.layouts.specs.Heads.{Fields}
use Rattle.cards.specs.Memories.{Memory}
use Rattle.samplers.specs.Views.{View}
use Rattle.samplers.specs.Calls.{sampler_slot_answer}
use Rattle.ledgers.specs.Ledgers.{Ledger}
use Rattle.ledgers.specs.declared.calls.Call.TheVariants.{Slot}
use Rattle.ledgers.specs.declared.calls.Answer.TheVariants.{Found, Refused}
use Rattle.laws.specs.Setups.{Setup}
use Rattle.laws.specs.Stages.{answered}
use Rattle.laws.specs.declared.stages.Stage.TheVariants.{Waking}
use Rattle.laws.specs.Pasts.{Past}
use Rattle.laws.specs.Laws.{NoSlot, NotFilled}
use Rattle.laws.proofs.Given.{Given, LawfulSetup}
use Rattle.laws.proofs.Kept.{Kept, Keeps, holds_sample, keeps}
use Rattle.laws.proofs.Inserting.{shut_dark, test_kept}

-- the sample's answers, told apart
found_by : {K : Type 0} (i : ℕ) (k : K) (below : Bool) (o : Option K) → Ok k ≡ cond below (ok_or o (refusal EmptySlot i)) (Err (refusal NoSuchSlot i)) → o ≡ Some k
found_by i k true (Some l) e = cc
found_by i k true None e = absurd cc
found_by i k false o e = absurd cc

refused_by : {K : Type 0} (i : ℕ) (e : Fault) (below : Bool) (o : Option K) → Err e ≡ cond below (ok_or o (refusal EmptySlot i)) (Err (refusal NoSuchSlot i))
    → ((e ≡ refusal NoSuchSlot i) × (below ≡ false)) ⊎ ((e ≡ refusal EmptySlot i) × (below ≡ true) × (o ≡ None))
refused_by i e true (Some l) z = absurd cc
refused_by i e true None z = inr (cc, refl, refl)
refused_by i e false o z = inl (cc, refl)

module _ {S State K : Type 0} (x : Setup S State K) (h : Fields) (g : Given x) (law : LawfulSetup x) where
  -- answers that are shown as the same bytes are the same
  shown_same : (r q : Result K Fault) → shown_as x.bytes r ≡ shown_as x.bytes q → r ≡ q
  shown_same (Ok k) (Ok l) e = let same : x.bytes k ≡ x.bytes l = cc in ap Ok (law.own_bytes k l same)
  shown_same (Err d) (Err f) e = let same : d ≡ f = cc in ap Err same
  shown_same (Ok k) (Err f) e = absurd cc
  shown_same (Err d) (Ok l) e = absurd cc

  not_filled : (b : Ledger K) (i : ℕ) → i < h.size → sample_at h.seed h.size b.counted i ≡ None → length b.counted ≤ i
  not_filled b i l e =
      ⊎_elim
      (λ (c : i < length b.counted). let y = sample_filled h.seed h.size b.counted i (omega arith) in let z = y.1 in absurd cc) (λ (c : length b.counted ≤ i). c)
      (cases_lt i (length b.counted))

  slot_open : (p : Past K) (i : ℕ) (v w : View S) (r : Result K Fault) → Kept x h p v → p.ledger.is_open ≡ true → shown_as x.bytes r ≡ sampler_slot_answer v.sample i → w ≡ v
      → r ≡ slot_answer h.seed h.size p.ledger.counted i → Keeps x h p (Waking v) (Slot i) (answered Found r) (Waking w)
  slot_open p i v w (Ok k) kept op went same is =
      let b = p.ledger in
      keeps x h p (Waking v) (Slot i) (Found k) (Waking w) (Ok k, w, refl, refl, (went, same)) tt (op, found_by i k _ _ is)
      (record { lasting = λ s. tt; empties = tt; always = tt })
      (test_kept x h g law p v w kept (ap (λ (u : View S). x.state u.store) same) (ap (λ (u : View S). u.sample) same))
  slot_open p i v w (Err e) kept op went same is =
      let b = p.ledger in
      let after = test_kept x h g law p v w kept (ap (λ (u : View S). x.state u.store) same) (ap (λ (u : View S). u.sample) same) in
      ⊎_elim
      (λ y. let why : NoSlot h i e = (y.0, ltb-false i h.size y.1) in
      keeps x h p (Waking v) (Slot i) (Refused e) (Waking w) (Err e, w, refl, refl, (went, same)) tt tt
      (record { lasting = λ s. inl why; empties = tt; always = inl (inl why) }) (rw y.0 after))
      (λ y. let below = ltb-true i h.size y.1 in let why : NotFilled h b i e = (y.0, below, not_filled b i below y.2) in
      keeps x h p (Waking v) (Slot i) (Refused e) (Waking w) (Err e, w, refl, refl, (went, same)) tt tt
      (record { lasting = λ s. inr why; empties = tt; always = inl (inr why) }) (rw y.0 after))
      (refused_by i e _ _ is)

  slot_dark : (p : Past K) (i : ℕ) (v w : View S) (r : Result K Fault) → Kept x h p v → p.ledger.is_open ≡ false → shown_as x.bytes r ≡ sampler_slot_answer v.sample i → w ≡ v
      → shown_as x.bytes r ≡ Err (refusal Off 0) → Keeps x h p (Waking v) (Slot i) (answered Found r) (Waking w)
  slot_dark p i v w (Ok k) kept sh went same is = absurd cc
  slot_dark p i v w (Err q) kept sh went same is =
      let off : q ≡ refusal Off 0 = cc in
      keeps x h p (Waking v) (Slot i) (Refused q) (Waking w) (Err q, w, refl, refl, (went, same)) tt tt
      (record { lasting = λ s. absurd (true≢false (sym (kept.sure s).0 ∙ sh)); empties = tt; always = inr (inr (off, sh)) })
      (record {
        holds = rw off (shut_dark x h g law p.ledger v w kept.holds sh (ap (λ (u : View S). x.state u.store) same) (ap (λ (u : View S). u.sample) same ∙ kept.holds.dark sh));
        fresh = λ z. absurd (false≢true z);
        sure = λ s. absurd (true≢false (sym (kept.sure s).0 ∙ sh));
      })

  slot_by_light : (p : Past K) (i : ℕ) (v w : View S) (r : Result K Fault) (lit : Bool) → p.ledger.is_open ≡ lit → Kept x h p v
      → shown_as x.bytes r ≡ sampler_slot_answer v.sample i → w ≡ v → Keeps x h p (Waking v) (Slot i) (answered Found r) (Waking w)
  slot_by_light p i v w r true op kept went same =
      slot_open p i v w r kept op went same (shown_same r _ (went ∙ holds_sample x h p.ledger v kept.holds op i))
  slot_by_light p i v w r false sh kept went same =
      slot_dark p i v w r kept sh went same (went ∙ ap (λ (s : Option Memory). sampler_slot_answer s i) (kept.holds.dark sh))

  pub slot_keeps : (p : Past K) (i : ℕ) (v w : View S) (r : Result K Fault) → Kept x h p v → shown_as x.bytes r ≡ sampler_slot_answer v.sample i → w ≡ v
      → Keeps x h p (Waking v) (Slot i) (answered Found r) (Waking w)
  slot_keeps p i v w r kept went same = slot_by_light p i v w r p.ledger.is_open refl kept went same
