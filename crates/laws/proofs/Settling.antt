-- What a commit and a refresh keep of the ledger. Assumes nothing.
use Rattle.std.proofs.Common.{◌≡◌, ℕ, Bool, true, false, length, take, None, Ok, Err, Option, Result, sym, refl, ◌∙◌, subst, inl, inr, arith, take_all}
use Rattle.std.proofs.lemmas.Bool.{true≢false, false≢true}
use Rattle.std.proofs.lemmas.List.{length-map}
use Rattle.faults.specs.declared.faults.Fault.{Fault}
use Rattle.faults.specs.declared.faults.Reason.TheVariants.{Off}
use Rattle.faults.specs.Refusals.{fault}
use Rattle.sampling.specs.Answers.{refusal}
use Rattle.stores.specs.Outcomes.{Answer as Below}
use Rattle.layouts.specs.Heads.{Fields}
use Rattle.cards.specs.Memories.{Memory}
use Rattle.workings.specs.Commits.{commit_calls, all_committed}
use Rattle.workings.specs.Refreshes.{refresh_calls, refreshed}
use Rattle.workings.specs.Worked.{Ends, Worked, commit_work, refresh_work}
use Rattle.samplers.specs.Views.{View}
use Rattle.recovery.proofs.Frames.{Frame, frame}
use Rattle.recovery.proofs.Recoveries.{Lost}
use Rattle.ledgers.specs.Ledgers.{Ledger, shut, all_waiting, all_settled, begun_anew}
use Rattle.ledgers.specs.declared.calls.Call.TheVariants.{Commit, Refresh}
use Rattle.ledgers.specs.declared.calls.Answer.TheVariants.{Committed, Refreshed, Refused}
use Rattle.laws.specs.Setups.{Setup, meant}
use Rattle.laws.specs.Stages.{answered, WorkWent}
use Rattle.laws.specs.declared.stages.Stage.TheVariants.{Waking}
use Rattle.laws.specs.Pasts.{Past}
use Rattle.laws.proofs.Given.{Given, Made}
use Rattle.laws.proofs.Kept.{framed_same, of, Opened, Holds, Kept, Keeps, opens, shuts, still, keeps}

module _ {S State K : Type 0} (x : Setup S State K) (h : Fields) (g : Given x) where
  -- a dark sampler, whose ledger a commit or refresh refused 21 leaves as it was
  waits_dark : (b : Ledger K) (v w : View S) → Holds x h b v → b.is_open ≡ false → x.state w.store ≡ x.state v.store → w.sample ≡ None → Holds x h (shut (all_waiting b)) w
  waits_dark b v w k sh e f =
      let z = still x h b v w k e (f ∙ sym (k.dark sh)) in
      record {
        sound = z.sound;
        room = z.room;
        opened = λ o. absurd (false≢true o);
        dark = λ o. f;
        none = λ o. absurd (false≢true o);
        early = z.early;
        later = rw sh z.later;
        safe = rw sh z.safe;
      }

  -- a commit or a refresh that was cut: all records wait
  waits_cut : (b : Ledger K) (v w : View S) (e : Fault) → Holds x h b v → (op : b.is_open ≡ true) → (o : Opened x h b v) → w.sample ≡ None
      → Lost (frame b.since o.memory) x.source (meant x v.store) (meant x w.store) (take b.settled (of x h b)) (of x h b) e → Holds x h (shut (all_waiting b)) w
  waits_cut b v w e k op o da l =
      let long = length-map b.counted x.bytes in
      let all : take (length b.counted) (of x h b) ≡ of x h b = take_all (length b.counted) (of x h b) (omega arith) in
      let z = subst (λ (f : Frame). Lost f x.source (meant x v.store) (meant x w.store) (take b.settled (of x h b)) (of x h b) e) (framed_same o.same b.since) l in
      shuts x h (shut (all_waiting b)) v w e k.sound k.room k.early (rw op (omega arith)) refl da (rw (op, all) z)

  commit_open : (p : Past K) (v w : View S) (r : Result ℕ Fault) (below : Below) → Kept x h p v → p.ledger.is_open ≡ true → (o : Opened x h p.ledger v)
      → WorkWent x commit_work v r w → Made x (x.state v.store) (commit_calls o.memory) below (x.state w.store) → Ends (commit_work o.memory) below r w.sample
      → Keeps x h p (Waking v) Commit (answered Committed r) (Waking w)
  commit_open p v w (Ok n) (Ok done) k op o went made ends =
      let b = p.ledger in
      let y = g.committed b.since b.settled o.memory (of x h b) (x.state v.store) (x.state w.store) o.opens k.holds.sound made in
      let long = length-map b.counted x.bytes in
      let is : n ≡ o.memory.head.count = cc in
      keeps x h p (Waking v) Commit (Committed n) (Waking w) (Ok n, w, refl, refl, went) tt (op, is ∙ o.opens.count ∙ long)
      (record { lasting = λ s. tt; empties = tt; always = tt })
      (record {
        holds = opens x h g (all_settled b) w (y.1.sound k.holds.sound) op refl (record { memory = all_committed o.memory; memory_is = ends.1; same = o.same; opens = rw (← long) y.0 });
        fresh = λ z. absurd (false≢true z);
        sure = λ z. let q = k.sure z in (q.0, y.1.lasts q.1);
      })
  commit_open p v w (Err e) (Err f) k op o went made ends =
      let b = p.ledger in
      let same : e ≡ f = cc in
      let y = g.commit_lost b.since b.settled o.memory (of x h b) (x.state v.store) (x.state w.store) f o.opens k.holds.sound made in
      let is : e ≡ fault Off x.source 0 = same ∙ y.is in
      keeps x h p (Waking v) Commit (Refused e) (Waking w) (Err e, w, refl, refl, went) tt tt
      (record { lasting = λ s. absurd (true≢false (sym (k.sure s).1 ∙ y.supply)); empties = tt; always = inr (inl (is, y.supply, y.off)) })
      (record {
        holds = rw is (waits_cut b v w f k.holds op o ends.1 y);
        fresh = λ z. absurd (false≢true z);
        sure = λ s. absurd (true≢false (sym (k.sure s).1 ∙ y.supply));
      })
  commit_open p v w (Ok n) (Err f) k op o went made ends = absurd cc
  commit_open p v w (Err e) (Ok done) k op o went made ends = absurd cc

  commit_dark : (p : Past K) (v w : View S) (r : Result ℕ Fault) → Kept x h p v → p.ledger.is_open ≡ false → WorkWent x commit_work v r w
      → r ≡ Err (refusal Off 0) → x.state w.store ≡ x.state v.store → w.sample ≡ None → Keeps x h p (Waking v) Commit (answered Committed r) (Waking w)
  commit_dark p v w (Ok n) k sh went is e f = absurd cc
  commit_dark p v w (Err q) k sh went is e f =
      let same : q ≡ refusal Off 0 = cc in
      keeps x h p (Waking v) Commit (Refused q) (Waking w) (Err q, w, refl, refl, went) tt tt
      (record { lasting = λ s. absurd (true≢false (sym (k.sure s).0 ∙ sh)); empties = tt; always = inr (inr (same, sh)) })
      (record {
        holds = rw same (waits_dark p.ledger v w k.holds sh e f);
        fresh = λ z. absurd (false≢true z);
        sure = λ s. absurd (true≢false (sym (k.sure s).0 ∙ sh));
      })

  commit_by_light : (p : Past K) (v w : View S) (r : Result ℕ Fault) (lit : Bool) → p.ledger.is_open ≡ lit → Kept x h p v → WorkWent x commit_work v r w
      → Keeps x h p (Waking v) Commit (answered Committed r) (Waking w)
  commit_by_light p v w r true op k went =
      let o = k.holds.opened op in
      let y = subst (λ (s : Option Memory). Worked x.does x.meaning x.own x.source x.steady commit_work (x.state v.store) s r (x.state w.store) w.sample) o.memory_is went in
      commit_open p v w r y.0 k op o went y.1 y.2
  commit_by_light p v w r false sh k went =
      let y = subst (λ (s : Option Memory). Worked x.does x.meaning x.own x.source x.steady commit_work (x.state v.store) s r (x.state w.store) w.sample) (k.holds.dark sh) went in
      commit_dark p v w r k sh went y.0 y.1 y.2

  pub commit_keeps : (p : Past K) (v w : View S) (r : Result ℕ Fault) → Kept x h p v → WorkWent x commit_work v r w
      → Keeps x h p (Waking v) Commit (answered Committed r) (Waking w)
  commit_keeps p v w r k went = commit_by_light p v w r p.ledger.is_open refl k went

  refresh_open : (p : Past K) (v w : View S) (r : Result ℕ Fault) (below : Below) → Kept x h p v → p.ledger.is_open ≡ true → (o : Opened x h p.ledger v)
      → WorkWent x refresh_work v r w → Made x (x.state v.store) (refresh_calls o.memory) below (x.state w.store) → Ends (refresh_work o.memory) below r w.sample
      → Keeps x h p (Waking v) Refresh (answered Refreshed r) (Waking w)
  refresh_open p v w (Ok n) (Ok done) k op o went made ends =
      let b = p.ledger in
      let y = g.emptied b.since b.settled o.memory (of x h b) (x.state v.store) (x.state w.store) o.opens k.holds.sound made in
      let long = length-map b.counted x.bytes in
      keeps x h p (Waking v) Refresh (Refreshed n) (Waking w) (Ok n, w, refl, refl, went) tt op
      (record { lasting = λ s. tt; empties = (refreshed o.memory, ends.1, refl); always = tt })
      (record {
        holds = opens x h g (begun_anew (all_settled b)) w (y.1.sound k.holds.sound) op refl (record {
          memory = refreshed o.memory;
          memory_is = ends.1;
          same = record { kind = o.same.kind; seed = o.same.seed; size = o.same.size; log_blocks = o.same.log_blocks };
          opens = rw (← long) y.0;
        });
        fresh = λ z. absurd (false≢true z);
        sure = λ z. let q = k.sure z in (q.0, y.1.lasts q.1);
      })
  refresh_open p v w (Err e) (Err f) k op o went made ends =
      let b = p.ledger in
      let same : e ≡ f = cc in
      let y = g.refresh_lost b.since b.settled o.memory (of x h b) (x.state v.store) (x.state w.store) f o.opens k.holds.sound made in
      let is : e ≡ fault Off x.source 0 = same ∙ y.is in
      keeps x h p (Waking v) Refresh (Refused e) (Waking w) (Err e, w, refl, refl, went) tt tt
      (record { lasting = λ s. absurd (true≢false (sym (k.sure s).1 ∙ y.supply)); empties = tt; always = inr (inl (is, y.supply, y.off)) })
      (record {
        holds = rw is (waits_cut b v w f k.holds op o ends.1 y);
        fresh = λ z. absurd (false≢true z);
        sure = λ s. absurd (true≢false (sym (k.sure s).1 ∙ y.supply));
      })
  refresh_open p v w (Ok n) (Err f) k op o went made ends = absurd cc
  refresh_open p v w (Err e) (Ok done) k op o went made ends = absurd cc

  refresh_dark : (p : Past K) (v w : View S) (r : Result ℕ Fault) → Kept x h p v → p.ledger.is_open ≡ false → WorkWent x refresh_work v r w
      → r ≡ Err (refusal Off 0) → x.state w.store ≡ x.state v.store → w.sample ≡ None → Keeps x h p (Waking v) Refresh (answered Refreshed r) (Waking w)
  refresh_dark p v w (Ok n) k sh went is e f = absurd cc
  refresh_dark p v w (Err q) k sh went is e f =
      let same : q ≡ refusal Off 0 = cc in
      keeps x h p (Waking v) Refresh (Refused q) (Waking w) (Err q, w, refl, refl, went) tt tt
      (record { lasting = λ s. absurd (true≢false (sym (k.sure s).0 ∙ sh)); empties = tt; always = inr (inr (same, sh)) })
      (record {
        holds = rw same (waits_dark p.ledger v w k.holds sh e f);
        fresh = λ z. absurd (false≢true z);
        sure = λ s. absurd (true≢false (sym (k.sure s).0 ∙ sh));
      })

  refresh_by_light : (p : Past K) (v w : View S) (r : Result ℕ Fault) (lit : Bool) → p.ledger.is_open ≡ lit → Kept x h p v → WorkWent x refresh_work v r w
      → Keeps x h p (Waking v) Refresh (answered Refreshed r) (Waking w)
  refresh_by_light p v w r true op k went =
      let o = k.holds.opened op in
      let y = subst (λ (s : Option Memory). Worked x.does x.meaning x.own x.source x.steady refresh_work (x.state v.store) s r (x.state w.store) w.sample) o.memory_is went in
      refresh_open p v w r y.0 k op o went y.1 y.2
  refresh_by_light p v w r false sh k went =
      let y = subst (λ (s : Option Memory). Worked x.does x.meaning x.own x.source x.steady refresh_work (x.state v.store) s r (x.state w.store) w.sample) (k.holds.dark sh) went in
      refresh_dark p v w r k sh went y.0 y.1 y.2

  pub refresh_keeps : (p : Past K) (v w : View S) (r : Result ℕ Fault) → Kept x h p v → WorkWent x refresh_work v r w
      → Keeps x h p (Waking v) Refresh (answered Refreshed r) (Waking w)
  refresh_keeps p v w r k went = refresh_by_light p v w r p.ledger.is_open refl k went
