-- What an insert keeps of the ledger. Assumes nothing.
use Rattle.std.proofs.Common.{◌≡◌, ℕ, ◌+◌, ◌*◌, ◌≤◌, Bool, true, false, List, [], ◌∷◌, length, take, Some, None, Ok, Err, Option, Result, sym, refl, ap, ◌∙◌, subst, inl, inr, ⊎_elim, arith}
use Rattle.std.proofs.lemmas.Bool.{true≢false, false≢true}
use Rattle.std.proofs.lemmas.List.{length-map, map-append}
use Rattle.faults.specs.declared.faults.Fault.{Fault}
use Rattle.faults.specs.declared.faults.Reason.TheVariants.{Off, CountAtLimit, LogFull}
use Rattle.faults.specs.Refusals.{fault}
use Rattle.sampling.specs.Answers.{refusal}
use Rattle.sampling.specs.Draws.{slot_of}
use Rattle.stores.specs.Outcomes.{Answer as Below}
use Rattle.layouts.specs.Heads.{Fields}
use Rattle.cards.specs.Memories.{Memory}
use Rattle.workings.specs.Inserts.{next_slot, insert_test, inserted, insert_calls}
use Rattle.workings.specs.Worked.{Ends, Tested, Worked, insert_work}
use Rattle.samplers.specs.Views.{View}
use Rattle.recovery.proofs.Frames.{Frame}
use Rattle.recovery.proofs.Recoveries.{Lost}
use Rattle.ledgers.specs.Ledgers.{Ledger, shut, added}
use Rattle.ledgers.specs.declared.calls.Call.TheVariants.{Insert}
use Rattle.ledgers.specs.declared.calls.Answer.TheVariants.{Inserted, Refused}
use Rattle.laws.specs.Setups.{Setup, meant}
use Rattle.laws.specs.Stages.{answered, WorkWent}
use Rattle.laws.specs.declared.stages.Stage.TheVariants.{Waking}
use Rattle.laws.specs.Pasts.{Past}
use Rattle.laws.specs.Laws.{AtLimit, NoRoom}
use Rattle.laws.proofs.Given.{Given, Made, LawfulSetup}
use Rattle.laws.proofs.Kept.{SameFrame, framed_same, of, Opened, Holds, Kept, Keeps, opens, shuts, still, keeps}
use Rattle.laws.proofs.Filling.{enough, insert_refused}

same_inserted : {h : Fields} (t : Memory) (slot : Option ℕ) (bs : List ℕ) → SameFrame t.head h → SameFrame (inserted t slot bs).head h
same_inserted t None bs s = record { kind = s.kind; seed = s.seed; size = s.size; log_blocks = s.log_blocks }
same_inserted t (Some i) bs s = record { kind = s.kind; seed = s.seed; size = s.size; log_blocks = s.log_blocks }

module _ {S State K : Type 0} (x : Setup S State K) (h : Fields) (g : Given x) (law : LawfulSetup x) where
  -- a dark sampler, whose ledger a refusal 21 leaves shut
  pub shut_dark : (b : Ledger K) (v w : View S) → Holds x h b v → b.is_open ≡ false → x.state w.store ≡ x.state v.store → w.sample ≡ None → Holds x h (shut b) w
  shut_dark b v w k sh e f =
      let z = still x h b v w k e (f ∙ sym (k.dark sh)) in
      record { sound = z.sound; room = z.room; opened = λ o. absurd (false≢true o); dark = λ o. f; none = λ o. absurd (false≢true o); early = z.early; later = z.later; safe = z.safe }

  -- the slot of the record that is counted next, by the ledger
  next_of : (b : Ledger K) (v : View S) → (o : Opened x h b v) → next_slot o.memory ≡ slot_of h.seed h.size (length b.counted + 1)
  next_of b v o = rw (o.opens.count, length-map b.counted x.bytes, o.same.seed, o.same.size) refl

  insert_served : (p : Past K) (k : K) (v w : View S) (r : Result (Option ℕ) Fault) (below : Below) → Kept x h p v → p.ledger.is_open ≡ true → (o : Opened x h p.ledger v)
      → insert_test o.memory ≡ Ok tt → WorkWent x (insert_work (x.bytes k)) v r w → Made x (x.state v.store) (insert_calls o.memory (x.bytes k)) below (x.state w.store)
      → Ends (insert_work (x.bytes k) o.memory) below r w.sample → Keeps x h p (Waking v) (Insert k) (answered Inserted r) (Waking w)
  insert_served p k v w (Ok slot) (Ok done) kept op o test went made ends =
      let b = p.ledger in
      let y = g.added b.since b.settled o.memory (of x h b) (x.state v.store) (x.state w.store) (x.bytes k) o.opens kept.holds.sound (law.twelve k) test made in
      let is : slot ≡ next_slot o.memory = cc in
      keeps x h p (Waking v) (Insert k) (Inserted slot) (Waking w) (Ok slot, w, refl, refl, went) tt (op, is ∙ next_of b v o)
      (record { lasting = λ s. tt; empties = tt; always = tt })
      (record {
        holds = opens x h g (added k b) w (y.1.sound kept.holds.sound) op (kept.holds.none op) (record {
          memory = inserted o.memory (next_slot o.memory) (x.bytes k);
          memory_is = ends.1;
          same = same_inserted o.memory (next_slot o.memory) (x.bytes k) o.same;
          opens = rw (map-append x.bytes b.counted (k ∷ [])) y.0;
        });
        fresh = λ z. absurd (false≢true z);
        sure = λ z. let q = kept.sure z in (q.0, y.1.lasts q.1);
      })
  insert_served p k v w (Err e) (Err f) kept op o test went made ends =
      let b = p.ledger in
      let same : e ≡ f = cc in
      let y = g.insert_lost b.since b.settled o.memory (of x h b) (x.state v.store) (x.state w.store) (x.bytes k) f o.opens kept.holds.sound (law.twelve k) test made in
      let is : e ≡ fault Off x.source 0 = same ∙ y.is in
      let z = subst (λ (u : Frame). Lost u x.source (meant x v.store) (meant x w.store) (take b.settled (of x h b)) (take b.settled (of x h b)) f) (framed_same o.same b.since) y in
      keeps x h p (Waking v) (Insert k) (Refused e) (Waking w) (Err e, w, refl, refl, went) tt tt
      (record { lasting = λ s. absurd (true≢false (sym (kept.sure s).1 ∙ y.supply)); empties = tt; always = inr (inl (is, y.supply, y.off)) })
      (record {
        holds = rw is (shuts x h (shut b) v w f kept.holds.sound kept.holds.room kept.holds.early kept.holds.later refl ends.1 (rw (kept.holds.none op) z));
        fresh = λ z. absurd (false≢true z);
        sure = λ s. absurd (true≢false (sym (kept.sure s).1 ∙ y.supply));
      })
  insert_served p k v w (Ok n) (Err f) kept op o test went made ends = absurd cc
  insert_served p k v w (Err e) (Ok done) kept op o test went made ends = absurd cc

  -- a refusal by the tests, which is not 21, leaves the ledger as it was
  pub test_kept : (p : Past K) (v w : View S) → Kept x h p v → x.state w.store ≡ x.state v.store → w.sample ≡ v.sample
      → Kept x h (record { ledger = p.ledger; fresh = false; sure = p.sure }) w
  test_kept p v w kept e f =
      let q : meant x w.store ≡ meant x v.store = ap x.meaning e in
      record { holds = still x h p.ledger v w kept.holds e f; fresh = λ z. absurd (false≢true z); sure = λ z. rw q (kept.sure z) }

  at_limit : (b : Ledger K) (v : View S) (e : Fault) → (o : Opened x h b v) → 4000000000 ≤ o.memory.head.count → e ≡ refusal CountAtLimit o.memory.head.count → AtLimit b e
  at_limit b v e o least is =
      let count : o.memory.head.count ≡ length b.counted = o.opens.count ∙ length-map b.counted x.bytes in
      let most = o.opens.rest.counts.counted in
      let long = length-map b.counted x.bytes in
      (is ∙ ap (refusal CountAtLimit) count, omega arith)

  no_room : (b : Ledger K) (v : View S) (e : Fault) (slot : ℕ) → (o : Opened x h b v) → 31 * o.memory.head.log_blocks ≤ o.memory.head.entries
      → next_slot o.memory ≡ Some slot → e ≡ refusal LogFull o.memory.head.entries → NoRoom h b v.sample e
  no_room b v e slot o least next is =
      let fits = o.opens.rest.counts.fits in
      let blocks = o.same.log_blocks in
      let entries : o.memory.head.entries ≡ 31 * h.log_blocks = omega arith in
      let many = enough o.opens in
      let long = length-map b.counted x.bytes in
      record {
        memory = o.memory;
        memory_is = o.memory_is;
        is = is;
        slot = slot;
        candidate = sym (next_of b v o) ∙ next;
        full = record { entries_are = entries; enough = rw (← entries, ← o.same.seed, ← o.same.size, ← long) many };
      }

  insert_tested : (p : Past K) (k : K) (v w : View S) (r : Result (Option ℕ) Fault) (test : Below) → Kept x h p v → p.ledger.is_open ≡ true → (o : Opened x h p.ledger v)
      → insert_test o.memory ≡ test → WorkWent x (insert_work (x.bytes k)) v r w
      → Tested x.does x.meaning x.own x.source x.steady o.memory (insert_work (x.bytes k) o.memory) test (x.state v.store) r (x.state w.store) w.sample
      → Keeps x h p (Waking v) (Insert k) (answered Inserted r) (Waking w)
  insert_tested p k v w r (Ok done) kept op o is went y = insert_served p k v w r y.0 kept op o is went y.1 y.2
  insert_tested p k v w (Ok slot) (Err f) kept op o is went y = let z = y.0 in absurd cc
  insert_tested p k v w (Err e) (Err f) kept op o is went y =
      let z = y.0 in
      let same : e ≡ f = cc in
      let after = test_kept p v w kept y.1 (y.2 ∙ sym o.memory_is) in
      ⊎_elim
      (λ u. let fault_is = same ∙ u.1 in let why = at_limit p.ledger v e o u.0 fault_is in
      keeps x h p (Waking v) (Insert k) (Refused e) (Waking w) (Err e, w, refl, refl, went) tt tt
      (record { lasting = λ s. inl why; empties = tt; always = inl (inl why) }) (rw fault_is after))
      (λ u. let fault_is = same ∙ u.2 in let why = no_room p.ledger v e u.1.0 o u.0 u.1.1 fault_is in
      keeps x h p (Waking v) (Insert k) (Refused e) (Waking w) (Err e, w, refl, refl, went) tt tt
      (record { lasting = λ s. inr why; empties = tt; always = inl (inr why) }) (rw fault_is after))
      (insert_refused o.memory f is)

  insert_dark : (p : Past K) (k : K) (v w : View S) (r : Result (Option ℕ) Fault) → Kept x h p v → p.ledger.is_open ≡ false → WorkWent x (insert_work (x.bytes k)) v r w
      → r ≡ Err (refusal Off 0) → x.state w.store ≡ x.state v.store → w.sample ≡ None → Keeps x h p (Waking v) (Insert k) (answered Inserted r) (Waking w)
  insert_dark p k v w (Ok slot) kept sh went is e f = absurd cc
  insert_dark p k v w (Err q) kept sh went is e f =
      let same : q ≡ refusal Off 0 = cc in
      keeps x h p (Waking v) (Insert k) (Refused q) (Waking w) (Err q, w, refl, refl, went) tt tt
      (record { lasting = λ s. absurd (true≢false (sym (kept.sure s).0 ∙ sh)); empties = tt; always = inr (inr (same, sh)) })
      (record {
        holds = rw same (shut_dark p.ledger v w kept.holds sh e f);
        fresh = λ z. absurd (false≢true z);
        sure = λ s. absurd (true≢false (sym (kept.sure s).0 ∙ sh));
      })

  insert_by_light : (p : Past K) (k : K) (v w : View S) (r : Result (Option ℕ) Fault) (lit : Bool) → p.ledger.is_open ≡ lit → Kept x h p v
      → WorkWent x (insert_work (x.bytes k)) v r w → Keeps x h p (Waking v) (Insert k) (answered Inserted r) (Waking w)
  insert_by_light p k v w r true op kept went =
      let o = kept.holds.opened op in
      let y = subst (λ (s : Option Memory). Worked x.does x.meaning x.own x.source x.steady (insert_work (x.bytes k)) (x.state v.store) s r (x.state w.store) w.sample) o.memory_is went in
      insert_tested p k v w r (insert_test o.memory) kept op o refl went y
  insert_by_light p k v w r false sh kept went =
      let y = subst (λ (s : Option Memory). Worked x.does x.meaning x.own x.source x.steady (insert_work (x.bytes k)) (x.state v.store) s r (x.state w.store) w.sample) (kept.holds.dark sh) went in
      insert_dark p k v w r kept sh went y.0 y.1 y.2

  pub insert_keeps : (p : Past K) (k : K) (v w : View S) (r : Result (Option ℕ) Fault) → Kept x h p v → WorkWent x (insert_work (x.bytes k)) v r w
      → Keeps x h p (Waking v) (Insert k) (answered Inserted r) (Waking w)
  insert_keeps p k v w r kept went = insert_by_light p k v w r p.ledger.is_open refl kept went
